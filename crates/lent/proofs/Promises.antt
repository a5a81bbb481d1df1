-- Any two results that meet the promise of `read_in` are equal. Assumes nothing.
use Prim.Native.Nat.{ℕ, ◌*◌}
use mathlib.Core.Bool.{Bool, true, false, ◌&&◌}
use mathlib.Core.List.{List}
use mathlib.Core.Path.{◌≡◌, refl, sym, ◌∙◌, ap}
use borrow.Author.Tests.{eqb-true, eq-eqb}
use lib.Dec.{eqb}
use lib.ListN.{length, replicate, length-replicate}
use Rattle.std.proofs.lemmas.Bool.{true≢false, false≢true}
use Rattle.std.specs.Prelude.{Some, Result, Ok, Err}
use Rattle.std.specs.Result.{result_ok}
use Rattle.table.specs.Limits.{Limits}
use Rattle.table.proofs.Tests.{both}
use Rattle.session.specs.declared.Session.{Session}
use Rattle.lent.specs.Slices.{is_state, lent, replaced, Given, given_of, given, lent_state}

-- two results that say the same are the same
pub given_same : (r t : Result Session Session) → given r ≡ given t → r ≡ t
given_same (Ok s) (Ok t) e = ap (λ (g : Given). Ok g.state) e
given_same (Ok s) (Err t) e = absurd (true≢false (ap (λ (g : Given). g.whole) e))
given_same (Err s) (Ok t) e = absurd (false≢true (ap (λ (g : Given). g.whole) e))
given_same (Err s) (Err t) e = ap (λ (g : Given). Err g.state) e

-- n words over n zeros
over : (words : List ℕ) (n : ℕ) → eqb (length words) n ≡ true → replaced (length words) words (replicate n 0) ≡ words
over words n e =
    let zeros : List ℕ = replicate n 0 in
    let same : length zeros ≡ length words = length-replicate n 0 ∙ sym (eqb-true (length words) n e) in
    rw (eq-eqb (length zeros) (length words) same)

module _ (lim : Limits) (h c l p : List ℕ) where
  pub one_given : (r t : Result Session Session) → given r ≡ given_of lim h c l p → given t ≡ given_of lim h c l p → r ≡ t
  one_given r t a b = given_same r t (a ∙ sym b)

  -- slices of a state's lengths are read in as they are
  pub read_whole : is_state lim h c l p ≡ true → (given_of lim h c l p).state ≡ lent h c l p
  read_whole e =
      let (hcl, ep) = both (eqb (length h) lim.roles && eqb (length c) (lim.roles * lim.roles) && eqb (length l) (lim.roles * lim.roles * lim.depth)) _ e in
      let (hc, el) = both (eqb (length h) lim.roles && eqb (length c) (lim.roles * lim.roles)) _ hcl in
      let (eh, ec) = both (eqb (length h) lim.roles) _ hc in
      rw (over h lim.roles eh, over c (lim.roles * lim.roles) ec, over l (lim.roles * lim.roles * lim.depth) el, over p (lim.roles * lim.roles * lim.depth) ep)

  state_by : (b : Bool) → is_state lim h c l p ≡ b → (r : Result Session Session) → given r ≡ given_of lim h c l p → result_ok r ≡ lent_state lim h c l p
  state_by true w (Ok s) e = rw w (ap Some (ap (λ (g : Given). g.state) e ∙ read_whole w))
  state_by true w (Err s) e = absurd (false≢true (ap (λ (g : Given). g.whole) e ∙ w))
  state_by false w (Ok s) e = absurd (true≢false (ap (λ (g : Given). g.whole) e ∙ w))
  state_by false w (Err s) e = rw w

  -- the result is Ok where the slices are a state's, and that state
  pub state_read : (r : Result Session Session) → given r ≡ given_of lim h c l p → result_ok r ≡ lent_state lim h c l p
  state_read = state_by (is_state lim h c l p) refl
