-- Which sum a record's minutes go to, and which of the figures' tests hold of it. Assumes nothing.
use Prim.Native.Nat.{ℕ, zero, suc, ◌+◌, ◌^◌, ◌≤◌, ◌<◌}
use mathlib.Core.Bool.{Bool, true, false, not, ◌&&◌, and-false, and-true}
use mathlib.Core.Path.{◌≡◌, refl, sym, ap, ◌∙◌}
use native.Mathlib.Omega.{arith}
use lib.Count.{ones, count_trailing_zeros}
use lib.Dec.{ltb, eqb}
use borrow.Author.Tests.{ne_eqb, lt-ltb}
use Rattle.table.specs.Limits.{Limits}
use Rattle.hours.specs.declared.Record.{Record}
use Rattle.hours.specs.Records.{is_in, roles_in, is_alone, is_several, is_nobody}
use Rattle.hours.specs.mirror.Sums.{WIDTH, ALONE, slot_by, slot_of}
use Rattle.hours.proofs.Sets.{eqb_add, ones_in, only_in}

-- several roles
many_slot : (c z : ℕ) → slot_by true (suc (suc c)) z ≡ 3
many_slot c z = rw (ne_eqb (suc (suc c)) 0 (λ e. absurd (omega arith)), ne_eqb (suc (suc c)) 1 (λ e. absurd (omega arith)))

pub slot_first : (w : Bool) (c z : ℕ) → eqb (slot_by w c z) 0 ≡ false
slot_first false c z = refl
slot_first true zero z = refl
slot_first true (suc zero) z = ne_eqb (ALONE + z) 0 (λ e. absurd (omega arith))
slot_first true (suc (suc c)) z = rw (many_slot c z)

pub slot_asleep : (w : Bool) (c z : ℕ) → eqb (slot_by w c z) 1 ≡ not w
slot_asleep false c z = refl
slot_asleep true zero z = refl
slot_asleep true (suc zero) z = ne_eqb (ALONE + z) 1 (λ e. absurd (omega arith))
slot_asleep true (suc (suc c)) z = rw (many_slot c z)

slot_nobody : (w : Bool) (c z : ℕ) → eqb (slot_by w c z) 2 ≡ (w && eqb c 0)
slot_nobody false c z = refl
slot_nobody true zero z = refl
slot_nobody true (suc zero) z = ne_eqb (ALONE + z) 2 (λ e. absurd (omega arith))
slot_nobody true (suc (suc c)) z = rw (many_slot c z) (sym (ne_eqb (suc (suc c)) 0 (λ e. absurd (omega arith))))

slot_several : (w : Bool) (c z : ℕ) → eqb (slot_by w c z) 3 ≡ (w && ltb 1 c)
slot_several false c z = refl
slot_several true zero z = refl
slot_several true (suc zero) z = ne_eqb (ALONE + z) 3 (λ e. absurd (omega arith))
slot_several true (suc (suc c)) z = rw (many_slot c z) (sym (lt-ltb 1 (suc (suc c)) (omega arith)))

slot_alone : (w : Bool) (c z k : ℕ) → eqb (slot_by w c z) (ALONE + k) ≡ (w && (eqb z k && eqb c 1))
slot_alone false c z k = ne_eqb 1 (ALONE + k) (λ e. absurd (omega arith))
slot_alone true zero z k = ne_eqb 2 (ALONE + k) (λ e. absurd (omega arith)) ∙ sym (and-false (eqb z k))
slot_alone true (suc zero) z k = eqb_add ALONE z k ∙ sym (and-true (eqb z k))
slot_alone true (suc (suc c)) z k =
    rw (many_slot c z, ne_eqb (suc (suc c)) 1 (λ e. absurd (omega arith)))
    (ne_eqb 3 (ALONE + k) (λ e. absurd (omega arith)) ∙ sym (and-false (eqb z k)))

-- of a record whose roles are among those that there may be
module _ (lim : Limits) (wide : lim.roles ≤ WIDTH) (r : Record) (l : r.set < 2 ^ lim.roles) where
  abbrev w : Bool
  w = r.awake

  abbrev s : ℕ
  s = r.set

  abbrev low : ℕ
  low = count_trailing_zeros WIDTH s

  pub is_nobody_lem : eqb (slot_of w s) 2 ≡ is_nobody lim r
  is_nobody_lem = slot_nobody w (ones s) low ∙ ap (λ (c : ℕ). w && eqb c 0) (ones_in lim.roles s l)

  pub is_several_lem : eqb (slot_of w s) 3 ≡ is_several lim r
  is_several_lem = slot_several w (ones s) low ∙ ap (λ (c : ℕ). w && ltb 1 c) (ones_in lim.roles s l)

  one_role : (k c : ℕ) → k < lim.roles → ones s ≡ c → (eqb low k && eqb c 1) ≡ (is_in s k && eqb c 1)
  one_role k zero m e = and-false (eqb low k) ∙ sym (and-false (is_in s k))
  one_role k (suc zero) m e = ap (λ (b : Bool). b && true) (sym (only_in lim.roles WIDTH s k l wide e m))
  one_role k (suc (suc c)) m e =
      rw (ne_eqb (suc (suc c)) 1 (λ g. absurd (omega arith))) (and-false (eqb low k) ∙ sym (and-false (is_in s k)))

  pub is_alone_lem : (k : ℕ) → k < lim.roles → eqb (slot_of w s) (ALONE + k) ≡ is_alone lim k r
  is_alone_lem k m =
      slot_alone w (ones s) low k
      ∙ ap (λ (c : ℕ). w && (eqb low k && eqb c 1)) (ones_in lim.roles s l)
      ∙ ap (λ (b : Bool). w && b) (one_role k (roles_in lim s) m (ones_in lim.roles s l))
