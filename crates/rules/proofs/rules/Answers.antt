-- `rules::rules` meets its contract: each rule's answer is that of all, where the rules before it are kept. Assumes nothing.
use Rattle.std.proofs.Common.{rules, ◌∙◌, sym}
use native.Mathlib.Omega.{arith}
use Rattle.table.specs.Limits.{base}
use Rattle.table.specs.Check.{accepted}
use Rattle.table.specs.Rules.{kind, field, link, named, twice, unbound, unguarded, breaks}
use Rattle.rules.proofs.Order.{Says, refused, exits, passed, last, rising_past, twice_found, twice_none}
use Rattle.rules.proofs.rules.Goals as goal
use Rattle.rules.proofs.rules.Goals.{In_ok-refuse_lowest, In_ok-refuse_lowest-2, In_ok-refuse_lowest-3, In_ok-refuse_lowest-4, In_ok-refuse_lowest-5}

-- the rules that are kept on the way
kinds : (c : In_ok-refuse_lowest) → Says c.args.words.now c.args.roles kind accepted
unfolding breaks
kinds c = c.in_ok-refuse_lowest.ensures {u = tt} (breaks base c.args.words.now c.args.roles kind) (λ i b l e. search rules)

fields : (c : In_ok-refuse_lowest-2) → Says c.args.words.now c.args.roles field accepted
unfolding breaks
fields c = c.in_ok-refuse_lowest-2.ensures {u = tt} (breaks base c.args.words.now c.args.roles field) (λ i b l e. search rules)

links : (c : In_ok-refuse_lowest-3) → Says c.args.words.now c.args.roles link accepted
unfolding breaks
links c = c.in_ok-refuse_lowest-3.ensures {u = tt} (breaks base c.args.words.now c.args.roles link) (λ i b l e. search rules)

names : (c : In_ok-refuse_lowest-4) → Says c.args.words.now c.args.roles named accepted
unfolding breaks
names c = c.in_ok-refuse_lowest-4.ensures {u = tt} (breaks base c.args.words.now c.args.roles named) (λ i b l e. search rules)

bounds : (c : In_ok-refuse_lowest-5) → Says c.args.words.now c.args.roles unbound accepted
unfolding breaks
bounds c = c.in_ok-refuse_lowest-5.ensures {u = tt} (breaks base c.args.words.now c.args.roles unbound) (λ i b l e. search rules)

pub returns-in_err-refuse_lowest : goal.returns-in_err-refuse_lowest
unfolding breaks
returns-in_err-refuse_lowest c =
    let t = c.args.words.now in
    let roles = c.args.roles in
    exits t roles kind _ _ _ c.from_residual.ensures.1
    (c.in_err-refuse_lowest.ensures {u = tt} (breaks base t roles kind) (λ i b l e. search rules))

pub returns-in_err-refuse_lowest-2 : goal.returns-in_err-refuse_lowest-2
unfolding breaks
returns-in_err-refuse_lowest-2 c =
    let t = c.args.words.now in
    let roles = c.args.roles in
    let at = goal.at.returns-in_err-refuse_lowest-2 c in
    exits t roles field _ _ _ c.from_residual-in_err-refuse_lowest-2.ensures.1
    (c.in_err-refuse_lowest-2.ensures {u = tt} (breaks base t roles field) (λ i b l e. search rules))
    ∙ sym (passed t roles kind _ (kinds at.In_ok-refuse_lowest))

pub returns-in_err-refuse_lowest-3 : goal.returns-in_err-refuse_lowest-3
unfolding breaks
returns-in_err-refuse_lowest-3 c =
    let t = c.args.words.now in
    let roles = c.args.roles in
    let at = goal.at.returns-in_err-refuse_lowest-3 c in
    exits t roles link _ _ _ c.from_residual-in_err-refuse_lowest-3.ensures.1
    (c.in_err-refuse_lowest-3.ensures {u = tt} (breaks base t roles link) (λ i b l e. search rules))
    ∙ sym (passed t roles kind _ (kinds at.In_ok-refuse_lowest)
    ∙ passed t roles field _ (fields at.In_ok-refuse_lowest-2))

pub returns-in_err-refuse_lowest-4 : goal.returns-in_err-refuse_lowest-4
unfolding breaks
returns-in_err-refuse_lowest-4 c =
    let t = c.args.words.now in
    let roles = c.args.roles in
    let at = goal.at.returns-in_err-refuse_lowest-4 c in
    exits t roles named _ _ _ c.from_residual-in_err-refuse_lowest-4.ensures.1
    (c.in_err-refuse_lowest-4.ensures {u = tt} (breaks base t roles named) (λ i b l e. search rules))
    ∙ sym (passed t roles kind _ (kinds at.In_ok-refuse_lowest)
    ∙ (passed t roles field _ (fields at.In_ok-refuse_lowest-2)
    ∙ passed t roles link _ (links at.In_ok-refuse_lowest-3)))

pub returns-in_err-refuse_lowest-5 : goal.returns-in_err-refuse_lowest-5
unfolding breaks
returns-in_err-refuse_lowest-5 c =
    let t = c.args.words.now in
    let roles = c.args.roles in
    let at = goal.at.returns-in_err-refuse_lowest-5 c in
    let twos = twice_none t roles (links at.In_ok-refuse_lowest-3) (names at.In_ok-refuse_lowest-4) (c.in_default.ensures {u = tt}) in
    exits t roles unbound _ _ _ c.from_residual-in_err-refuse_lowest-5.ensures.1
    (c.in_err-refuse_lowest-5.ensures {u = tt} (breaks base t roles unbound) (λ i b l e. search rules))
    ∙ sym (passed t roles kind _ (kinds at.In_ok-refuse_lowest)
    ∙ (passed t roles field _ (fields at.In_ok-refuse_lowest-2)
    ∙ (passed t roles link _ (links at.In_ok-refuse_lowest-3)
    ∙ (passed t roles named _ (names at.In_ok-refuse_lowest-4)
    ∙ passed t roles twice _ twos))))

pub returns-in-Some : goal.returns-in-Some
returns-in-Some c =
    let t = c.args.words.now in
    let roles = c.args.roles in
    let at = goal.at.returns-in-Some c in
    refused t roles twice _ _ (omega arith) (twice_found t roles (links at.In_ok-refuse_lowest-3) (names at.In_ok-refuse_lowest-4) c.in-Some.place (c.in-Some.ensures {u = tt}))
    ∙ sym (passed t roles kind _ (kinds at.In_ok-refuse_lowest)
    ∙ (passed t roles field _ (fields at.In_ok-refuse_lowest-2)
    ∙ (passed t roles link _ (links at.In_ok-refuse_lowest-3)
    ∙ passed t roles named _ (names at.In_ok-refuse_lowest-4))))

pub refuse_lowest-requires-5 : goal.refuse_lowest-requires-5
refuse_lowest-requires-5 c =
    let at = goal.at.refuse_lowest-requires-5 c in
    λ row l _ _ _ _ _. rw (c.of-nests.ensures, c.of-names.ensures) (l, rising_past c.args.words.now c.args.roles (links at.In_ok-refuse_lowest-3) (names at.In_ok-refuse_lowest-4))

pub refuse_lowest-requires-6 : goal.refuse_lowest-requires-6
refuse_lowest-requires-6 c =
    let at = goal.at.refuse_lowest-requires-6 c in
    λ row l _ _ _ _ _. rw (c.of-nests.ensures, c.of-names.ensures) (l, rising_past c.args.words.now c.args.roles (links at.In_ok-refuse_lowest-3) (names at.In_ok-refuse_lowest-4))

pub returns : goal.returns
unfolding breaks
returns c =
    let t = c.args.words.now in
    let roles = c.args.roles in
    let at = goal.at.returns c in
    let twos = twice_none t roles (links at.In_ok-refuse_lowest-3) (names at.In_ok-refuse_lowest-4) (c.in_default.ensures {u = tt}) in
    last t roles unguarded _ (c.refuse_lowest-6.ensures (breaks base t roles unguarded) (λ i b l e. search rules))
    ∙ sym (passed t roles kind _ (kinds at.In_ok-refuse_lowest)
    ∙ (passed t roles field _ (fields at.In_ok-refuse_lowest-2)
    ∙ (passed t roles link _ (links at.In_ok-refuse_lowest-3)
    ∙ (passed t roles named _ (names at.In_ok-refuse_lowest-4)
    ∙ (passed t roles twice _ twos ∙ passed t roles unbound _ (bounds at.In_ok-refuse_lowest-5))))))
