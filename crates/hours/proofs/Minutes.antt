-- The figures add up: awake and asleep are last less first, and the awake parts are awake. Assumes nothing.
use Prim.Native.Nat.{ℕ, zero, suc, ◌+◌, ◌-◌, ◌*◌, ◌≤◌, ◌<◌}
use mathlib.Core.Bool.{Bool, true, false, cond, not, ◌&&◌, and-false, and-true}
use mathlib.Core.List.{List}
use mathlib.Core.Path.{◌≡◌, refl, sym, ap, ◌∙◌}
use native.Mathlib.Nat.{zero-mul, one-mul, add-mul}
use native.Mathlib.Omega.{arith}
use lib.Dec.{ltb, eqb}
use lib.ListN.{length}
use borrow.Author.Tests.{ne_eqb, lt-ltb}
use Rattle.words.specs.Below.{sum, one, how_many}
use Rattle.words.proofs.Below.{sum_ext, sum_add, sum_zero}
use Rattle.table.specs.Limits.{Limits}
use Rattle.hours.specs.declared.Record.{Record}
use Rattle.hours.specs.Records.{at, spans, covers, minutes_of, is_in, roles_in, is_alone, is_several, is_nobody, total, awake, asleep, alone, several, nobody}
use Rattle.hours.proofs.Sums.{sum_swap}

-- no record is earlier than the one before
abbrev pub Rising : List Record → Type 0
Rising rs = (k : ℕ) → suc k < length rs → (at rs k).minute ≤ (at rs (suc k)).minute

telescopes : (rs : List Record) (m : ℕ) → ((k : ℕ) → k < m → (at rs k).minute ≤ (at rs (suc k)).minute)
    → (sum (covers rs) m ≡ (at rs m).minute - (at rs 0).minute) × ((at rs 0).minute ≤ (at rs m).minute)
unfolding sum
telescopes rs zero h = (omega arith, omega arith)
telescopes rs (suc m) h =
    let (a, b) = telescopes rs m (λ k l. h k (omega arith)) in
    let c = h m (omega arith) in
    (omega arith, omega arith)

either : (b : Bool) (d : ℕ) → cond b d 0 + cond (not b) d 0 ≡ d
either true d = omega arith
either false d = omega arith

-- a record is of a kind or it is not
parted : (p : Record → Bool) (rs : List Record) → minutes_of p rs + minutes_of (λ r. not (p r)) rs ≡ sum (covers rs) (spans rs)
parted p rs =
    sym (sum_add (λ i. cond (p (at rs i)) (covers rs i) 0) (λ i. cond (not (p (at rs i))) (covers rs i) 0) (spans rs))
    ∙ sum_ext (λ i. cond (p (at rs i)) (covers rs i) 0 + cond (not (p (at rs i))) (covers rs i) 0) (covers rs) (spans rs) (λ k l. either (p (at rs k)) (covers rs k))

pub awake_asleep : (rs : List Record) → Rising rs → awake rs + asleep rs ≡ total rs
awake_asleep rs h = parted (λ r. r.awake) rs ∙ (telescopes rs (spans rs) (λ k l. h k (omega arith))).0

-- ---- the parts of awake

counted : (q : ℕ → Bool) (d n : ℕ) → sum (λ k. cond (q k) d 0) n ≡ how_many q n * d
unfolding sum
counted q d zero = sym (zero-mul d)
counted q d (suc n) = add (q n) (counted q d n)
  where
    add : (b : Bool) → sum (λ k. cond (q k) d 0) n ≡ how_many q n * d → sum (λ k. cond (q k) d 0) n + cond b d 0 ≡ (how_many q n + one b) * d
    add true e = omega (arith, add-mul (how_many q n) 1 d, one-mul d, e)
    add false e = omega (arith, add-mul (how_many q n) 0 d, zero-mul d, e)

-- of one record: the roles alone, several, nobody
parts_of : (w : Bool) (q : ℕ → Bool) (n d c : ℕ) → how_many q n ≡ c
    → sum (λ k. cond (w && (q k && eqb c 1)) d 0) n + cond (w && ltb 1 c) d 0 + cond (w && eqb c 0) d 0 ≡ cond w d 0
parts_of false q n d c e = let a = sum_zero (λ k. 0) n (λ k l. refl) in omega arith
parts_of true q n d zero e =
    let a = sum_zero (λ k. cond (q k && eqb 0 1) d 0) n (λ k l. rw (and-false (q k))) in
    omega arith
parts_of true q n d (suc zero) e =
    let a = sum_ext (λ k. cond (q k && eqb 1 1) d 0) (λ k. cond (q k) d 0) n (λ k l. rw (and-true (q k))) in
    omega (arith, a, counted q d n, one-mul d, ap (λ (x : ℕ). x * d) e)
parts_of true q n d (suc (suc c)) e =
    let f = ne_eqb (suc (suc c)) 1 (λ g. absurd (omega arith)) in
    let a = sum_zero (λ k. cond (q k && eqb (suc (suc c)) 1) d 0) n (λ k l. rw (f, and-false (q k))) in
    rw (a, lt-ltb 1 (suc (suc c)) (omega arith), ne_eqb (suc (suc c)) 0 (λ g. absurd (omega arith))) (omega arith)

pub awake_parts : (lim : Limits) (rs : List Record) → sum (λ k. alone lim k rs) lim.roles + several lim rs + nobody lim rs ≡ awake rs
awake_parts lim rs =
    let A : ℕ → ℕ → ℕ = λ k i. cond (is_alone lim k (at rs i)) (covers rs i) 0 in
    let S : ℕ → ℕ = λ i. cond (is_several lim (at rs i)) (covers rs i) 0 in
    let Z : ℕ → ℕ = λ i. cond (is_nobody lim (at rs i)) (covers rs i) 0 in
    let P : ℕ → ℕ = λ i. sum (λ k. A k i) lim.roles in
    let a = sum_swap A lim.roles (spans rs) in
    let b = sum_add P S (spans rs) in
    let c = sum_add (λ i. P i + S i) Z (spans rs) in
    let d = sum_ext (λ i. P i + S i + Z i) (λ i. cond (at rs i).awake (covers rs i) 0) (spans rs)
    (λ i l. parts_of (at rs i).awake (is_in (at rs i).set) lim.roles (covers rs i) (roles_in lim (at rs i).set) refl) in
    omega (arith, a, b, c, d)
