-- One fault more: the one that decides is the new one, or the one of before. Assumes nothing.
use Prim.Native.Nat.{ℕ, zero, suc, ◌<◌}
use mathlib.Core.Bool.{Bool, true, false, true≢false, ◌&&◌, ◌||◌, cond}
use mathlib.Core.List.{List, [], ◌∷◌, ◌++◌, append-nil}
use mathlib.Core.Path.{◌≡◌, refl, sym, ◌∙◌, ap}
use native.Mathlib.Omega.{arith}
use lib.Dec.{ltb, eqb}
use borrow.Author.Tests.{ltb-true, eqb-true, eqb-false}
use Rattle.scribble.specs.Refusals.{Fault, blame, fault_when, Finding, faulty, deciding, soonest}
use Rattle.std.proofs.Common.{Result, Ok, Err}
use native.Mathlib.Bridge.{le_prop}
use mathlib.Core.HLevel.{is_prop→PathP}
use Rattle.std.specs.declared.num.NonZeroU8.{NonZeroU8}
use Rattle.std.specs.Int.NonZero.{non_zero_u8_get}
use Rattle.scribble.specs.declared.faults.Fault.{Fault as Code}
use Rattle.scribble.specs.mirror.Least.{Blamed, finding_of, noted}
use Rattle.scribble.specs.mirror.Blamed.{blamed_of}
use Rattle.scribble.proofs.Meet.{meet, earlier, deciding_append}

-- with a fault more, the finding is the earlier of the two
more : (p m q n : ℕ) (fs : List Fault) (shown : ℕ) → finding_of p m ≡ deciding fs → deciding (fs ++ (blame q n shown ∷ [])) ≡ meet (finding_of p m) (faulty q n)
unfolding deciding soonest
more p m q n fs shown h = deciding_append fs (blame q n shown ∷ []) ∙ ap (λ (x : Finding). meet x (faulty q n)) (sym h)

some : (q n : ℕ) → 0 < n → finding_of q n ≡ faulty q n
some q zero l = let v : ⊥ = omega arith in absurd v
some q (suc n) l = refl

above : (m : ℕ) → eqb m 0 ≡ false → 0 < m
above m e = let f = eqb-false m 0 e in omega (arith, f)

-- of whatever faults p, m was the one that decides: with one more, of number n at q, where the test holds, p', m' is
abbrev pub KeepsSoonest : ℕ → ℕ → Bool → ℕ → ℕ → ℕ → ℕ → Type 0
KeepsSoonest p m test q n p' m' =
    (fs : List Fault) (shown : ℕ) → finding_of p m ≡ deciding fs → finding_of p' m' ≡ deciding (fs ++ fault_when (ltb 0 n && test) (blame q n shown))

-- the test of `noted`
abbrev Takes : ℕ → ℕ → Bool → ℕ → ℕ → Bool
Takes p m test q n = (ltb 0 n && test) && (eqb m 0 || earlier q n p m)

-- the new one
taken : (p m q n : ℕ) (test : Bool) → Takes p m test q n ≡ true → KeepsSoonest p m test q n q n
unfolding meet
taken p m q n test e = by (ltb 0 n) refl test (eqb m 0) refl (earlier q n p m) refl e
  where
    by : (a : Bool) → ltb 0 n ≡ a → (t : Bool) → (b : Bool) → eqb m 0 ≡ b → (c : Bool) → earlier q n p m ≡ c → (a && t) && (b || c) ≡ true
        → (fs : List Fault) (shown : ℕ) → finding_of p m ≡ deciding fs → finding_of q n ≡ deciding (fs ++ fault_when (a && t) (blame q n shown))
    by false x t b y c z e fs shown h = absurd (true≢false (sym e))
    by true x false b y c z e fs shown h = absurd (true≢false (sym e))
    by true x true true y c z e fs shown h =
        let k = eqb-true m 0 y in
        some q n (ltb-true 0 n x) ∙ sym (more p m q n fs shown h ∙ rw k)
    by true x true false y true z e fs shown h = some q n (ltb-true 0 n x) ∙ sym (more p m q n fs shown h ∙ rw (some p m (above m y), z))
    by true x true false y false z e fs shown h = absurd (true≢false (sym e))

-- the one of before
kept : (p m q n : ℕ) (test : Bool) → Takes p m test q n ≡ false → KeepsSoonest p m test q n p m
unfolding meet
kept p m q n test e = by (ltb 0 n) refl test (eqb m 0) refl (earlier q n p m) refl e
  where
    by : (a : Bool) → ltb 0 n ≡ a → (t : Bool) → (b : Bool) → eqb m 0 ≡ b → (c : Bool) → earlier q n p m ≡ c → (a && t) && (b || c) ≡ false
        → (fs : List Fault) (shown : ℕ) → finding_of p m ≡ deciding fs → finding_of p m ≡ deciding (fs ++ fault_when (a && t) (blame q n shown))
    by false x t b y c z e fs shown h = h ∙ ap deciding (sym (append-nil fs))
    by true x false b y c z e fs shown h = h ∙ ap deciding (sym (append-nil fs))
    by true x true true y c z e fs shown h = absurd (true≢false e)
    by true x true false y true z e fs shown h = absurd (true≢false e)
    by true x true false y false z e fs shown h = some p m (above m y) ∙ sym (more p m q n fs shown h ∙ rw (some p m (above m y), z))

-- THEOREM: what `faults::note` keeps is the fault that decides
pub note_decides : (least : Blamed) (test : Bool) (q n : ℕ) → KeepsSoonest least.place least.number test q n (noted least test q n).place (noted least test q n).number
unfolding noted
note_decides least test q n = by (Takes least.place least.number test q n) refl
  where
    by : (t : Bool) → Takes least.place least.number test q n ≡ t
        → KeepsSoonest least.place least.number test q n (cond t (record { place = q; number = n }) least).place (cond t (record { place = q; number = n }) least).number
    by true e = taken least.place least.number q n test e
    by false e = kept least.place least.number q n test e

abbrev pub found : Blamed → Finding
found least = finding_of least.place least.number

-- the place beside number 0 says nothing: whatever it is, the same is found with one fault more
pub noted_none : (p place number : ℕ) (test : Bool) → found (noted (record { place = p; number = 0 }) test place number) ≡ found (noted (record { place = 0; number = 0 }) test place number)
unfolding noted
noted_none p place number test = by (ltb 0 number && test) (record { place = place; number = number }) (record { place = p; number = 0 }) (record { place = 0; number = 0 }) refl
  where
    by : (t : Bool) (met a b : Blamed) → found a ≡ found b → found (cond (t && true) met a) ≡ found (cond (t && true) met b)
    by true met a b e = refl
    by false met a b e = e

same_number : (m n : NonZeroU8) → m.value ≡ n.value → m ≡ n
same_number m n p = λ i. record { value = p i; ok = is_prop→PathP (λ j. 0 < p j) (λ j. le_prop) m.ok n.ok i }

-- THEOREM: no two answers of `faults::note` come to the same place and number, so what it promises says which it answers
pub blamed_of-injective : (a b : Result Code ℕ) → blamed_of a ≡ blamed_of b → a ≡ b
blamed_of-injective (Err p) (Err q) e = ap (λ (b : Blamed). Err b.place) e
blamed_of-injective (Err p) (Ok g) e = let n = ap (λ (b : Blamed). b.number) e in absurd (omega (arith, n, g.number.ok))
blamed_of-injective (Ok f) (Err q) e = let n = ap (λ (b : Blamed). b.number) e in absurd (omega (arith, n, f.number.ok))
blamed_of-injective (Ok f) (Ok g) e =
    let n = same_number f.number g.number (ap (λ (b : Blamed). b.number) e) in
    let p = ap (λ (b : Blamed). b.place) e in
    λ i. Ok (record { place = p i; number = n i })

-- each number in it is below its bound
abbrev pub Within : ℕ → ℕ → Result Code ℕ → Type 0
Within places numbers (Err place) = place < places
Within places numbers (Ok fault) = (fault.place < places) × (non_zero_u8_get fault.number < numbers)

-- THEOREM: each place and number, any place beside number 0 too, are those of a value that `faults::note` takes, with no larger number in it: so what it promises holds of each place that a usize holds beside each number that a u8 holds
pub blamed_of-surjective : (places numbers : ℕ) (b : Blamed) → b.place < places → b.number < numbers → (kept : Result Code ℕ) × Within places numbers kept × (blamed_of kept ≡ b)
blamed_of-surjective places numbers b = by b.place b.number
  where
    by : (p n : ℕ) → p < places → n < numbers → (kept : Result Code ℕ) × Within places numbers kept × (blamed_of kept ≡ record { place = p; number = n })
    by p zero l m = (Err p, l, refl)
    by p (suc n) l m = (Ok (record { place = p; number = record { value = suc n; ok = omega arith } }), (l, m), refl)
