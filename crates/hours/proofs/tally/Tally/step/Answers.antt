-- `Tally::step` meets its contract. Assumes nothing.
use Prim.Native.Nat.{◌/◌, ◌^◌}
use mathlib.Core.Path.{◌≡◌, refl, ap, ◌∙◌}
use Rattle.std.specs.Option.{option_or}
use Rattle.std.specs.Bool.{then_some}
use lib.Dec.{ltb}
use native.Mathlib.Omega.{arith}
use borrow.Author.Rules.{rules}
use Rattle.hours.proofs.Steps.{full_more}
use Rattle.hours.proofs.Run.{fine_step}
use Rattle.hours.proofs.tally.Tally.step.Goals as goal

pub invariant_of-self : goal.invariant_of-self
invariant_of-self c =
    let t = c.args.self.now in
    record { near = c.slot-here.ensures.near; full = full_more t c.args.moment.minute (omega (arith, c.if-moment-self.false)) (search rules) }

pub returns : goal.returns
returns c rs e f =
    let t = c.args.self.now in
    let noted : c.or-self.result ≡ option_or t.stray (then_some (ltb 0 (c.args.moment.set / 2 ^ c.args.roles)) c.args.i) = c.or-self.ensures ∙ ap (option_or t.stray) (rw c.then_some.ensures (rw c.from.ensures refl)) in
    fine_step rs c.args.roles c.args.i t f c.args.moment e _ (omega (arith, c.if-moment-self.false)) noted refl c.slot-here.ensures.value refl (search rules)
