-- Laws of the Loops around each row: the two lists that one pass fills, rows taken from the first to the last. Assumes nothing.
use Prim.Native.Nat.{ℕ, suc, ◌+◌, ◌≤◌, ◌<◌}
use mathlib.Core.Bool.{Bool, true, false, cond}
use mathlib.Core.List.{List, ◌∷◌}
use mathlib.Core.Path.{◌≡◌, refl, sym, ◌∙◌, ap}
use lib.LanesLaws.{map-replicate}
use lib.ListN.{length, get_or, get_or-map, set, replicate, length-set, length-replicate}
use lib.Seq.{get_or-set_same, get_or-set_other}
use native.Mathlib.Decide.{ℕ_discrete}
use native.Mathlib.Omega.{arith}
use Rattle.std.proofs.lemmas.List.{map-set}
use Rattle.words.specs.Rows.{rows_of}
use Rattle.words.specs.Below.{one}
use Rattle.table.specs.Rows.{row, is_loop}
use Rattle.table.specs.Above.{namer, above, loops}
use Rattle.table.specs.mirror.Names.{near_loops, Rising}
use Rattle.rules.specs.declared.Nest.{Nest}
use Rattle.rules.specs.mirror.Names.{places, around_of, near_of}
use Rattle.words.proofs.Zeros.{zeros}
use Rattle.table.proofs.Walk.{over_zero, above_more, loops_more, near_more}

-- the places of the first n rows hold what f says of them, where each row is named by a lower one; no place holds more than n
pub record Column (t : List ℕ) (f : ℕ → ℕ) (l : List ℕ) (n : ℕ) : Type 0 where
  pub long : length l ≡ places
  pub few : (i : ℕ) → get_or l i 0 ≤ n
  pub has : Rising t → (i : ℕ) → i < n → i < rows_of t → get_or l i 0 ≡ f i

column_start : (t : List ℕ) (f : ℕ → ℕ) → f 0 ≡ 0 → Column t f (replicate places 0) 1
column_start t f e = record {
  long = length-replicate {A = ℕ} places 0;
  few = λ i. rw (zeros places i) (omega arith);
  has = λ up i h l. let z : i ≡ 0 = omega arith in zeros places i ∙ (sym e ∙ ap f (sym z));
}

column_step : (t : List ℕ) (f : ℕ → ℕ) (l : List ℕ) (n x : ℕ) → n < places → x ≤ n + 1 → (Rising t → x ≡ f n) → Column t f l n
    → Column t f (set l n x) (n + 1)
column_step t f l n x h most e c = record {
  long = length-set l n x ∙ c.long;
  few = λ i. few i (ℕ_discrete i n);
  has = λ up i m k. has up i m k (ℕ_discrete i n);
}
  where
    same : get_or (set l n x) n 0 ≡ x
    same = get_or-set_same l n x 0 (omega (arith, c.long))

    few : (i : ℕ) → Dec (i ≡ n) → get_or (set l n x) i 0 ≤ n + 1
    few i (yes q) = rw (q, same) most
    few i (no q) = rw (get_or-set_other l n i x 0 q) (omega (arith, c.few i))

    has : Rising t → (i : ℕ) → i < n + 1 → i < rows_of t → Dec (i ≡ n) → get_or (set l n x) i 0 ≡ f i
    has up i m k (yes q) = rw (q, same) (e up)
    has up i m k (no q) = get_or-set_other l n i x 0 q ∙ c.has up i (omega arith) k

-- both lists
abbrev pub Columns : List ℕ → List ℕ → List ℕ → ℕ → Type 0
Columns t around near n = Column t (λ i. loops t (above t i)) around n × Column t (λ i. near_loops t (above t i)) near n

pub columns_start : (t : List ℕ) → Columns t (replicate places 0) (replicate places 0) 1
unfolding loops near_loops
columns_start t =
    let z = over_zero (rows_of t) t in
    (column_start t (λ i. loops t (above t i)) (rw z), column_start t (λ i. near_loops t (above t i)) (rw z))

-- the same of the places as the loop has them
pub nests_start : (t : List ℕ) → Columns t (around_of (replicate places (record { around = 0; near = 0 }))) (near_of (replicate places (record { around = 0; near = 0 }))) 1
nests_start t = rw (map-replicate (λ (n : Nest). n.around) places (record { around = 0; near = 0 }), map-replicate (λ (n : Nest). n.near) places (record { around = 0; near = 0 })) (columns_start t)

module _ (t around near : List ℕ) (n p : ℕ) (il : Bool) (inside : n < rows_of t) (small : rows_of t ≤ places) (some : 0 < n) (ep : p ≡ namer t n)
    (ei : il ≡ is_loop (row t p)) (c : Columns t around near n) where
  under : Rising t → above t n ≡ p ∷ above t p
  under up = rw ep (above_more t up n some inside)

  -- the row over this one has its places filled
  over_has : Rising t → (get_or around p 0 ≡ loops t (above t p)) × (get_or near p 0 ≡ near_loops t (above t p))
  over_has up =
      let l = up n some inside in
      let k : p < n = omega arith in
      (c.0.has up p k (omega arith), c.1.has up p k (omega arith))

  stored_most : (b : Bool) (x : ℕ) → x ≤ n → (x + one b ≤ n + 1) × (cond b (x + 1) 0 ≤ n + 1)
  stored_most true x h = (omega arith, omega arith)
  stored_most false x h = (omega arith, omega arith)

  around_is : Rising t → get_or around p 0 + one il ≡ loops t (above t n)
  around_is up = let e = loops_more t p n (row t p) refl (under up) in rw ei (omega (arith, (over_has up).0, e))

  near_is : Rising t → cond il (get_or near p 0 + 1) 0 ≡ near_loops t (above t n)
  near_is up = rw (near_more t p n (row t p) refl (under up), ← ei, (over_has up).1) (more il (near_loops t (above t p)))
    where
      more : (b : Bool) (x : ℕ) → cond b (x + 1) 0 ≡ cond b (suc x) 0
      more true x = omega arith
      more false x = refl

  -- what is stored for row n, as the loop has it
  pub columns_step : (around' near' : List ℕ)
      → (around' ≡ set around n (get_or around p 0 + one il)) × (near' ≡ set near n (cond il (get_or near p 0 + 1) 0))
      → Columns t around' near' (n + 1)
  columns_step around' near' e = rw (e.0, e.1) (
    column_step t (λ i. loops t (above t i)) around n (get_or around p 0 + one il) (omega arith) (stored_most il (get_or around p 0) (c.0.few p)).0 around_is c.0,
    column_step t (λ i. near_loops t (above t i)) near n (cond il (get_or near p 0 + 1) 0) (omega arith) (stored_most il (get_or near p 0) (c.1.few p)).1 near_is c.1,
  )

-- a row that nobody names stands in no table where each row but 0 is named by a lower one
column_left : (t : List ℕ) (f : ℕ → ℕ) (l : List ℕ) (n : ℕ) → n < rows_of t → 0 < n → rows_of t ≡ namer t n → Column t f l n → Column t f l (n + 1)
column_left t f l n h some e c = record {
  long = c.long;
  few = λ i. let k = c.few i in omega arith;
  has = λ up i m k. has up i m k (ℕ_discrete i n);
}
  where
    has : Rising t → (i : ℕ) → i < n + 1 → i < rows_of t → Dec (i ≡ n) → get_or l i 0 ≡ f i
    has up i m k (yes q) = let low = up n some h in absurd (omega arith)
    has up i m k (no q) = c.has up i (omega arith) k

pub nests_left : (t around near : List ℕ) (n : ℕ) → n < rows_of t → 0 < n → rows_of t ≡ namer t n → Columns t around near n → Columns t around near (n + 1)
nests_left t around near n h some e c = (
  column_left t (λ i. loops t (above t i)) around n h some e c.0,
  column_left t (λ i. near_loops t (above t i)) near n h some e c.1,
)

pub nests_step : (t : List ℕ) (nests : List Nest) (n p : ℕ) (il : Bool) (new : Nest) → n < rows_of t → rows_of t ≤ places → 0 < n → p ≡ namer t n
    → il ≡ is_loop (row t p)
    → (new.around ≡ (get_or nests p (record { around = 0; near = 0 })).around + one il) × (new.near ≡ cond il ((get_or nests p (record { around = 0; near = 0 })).near + 1) 0)
    → Columns t (around_of nests) (near_of nests) n → Columns t (around_of (set nests n new)) (near_of (set nests n new)) (n + 1)
nests_step t nests n p il new inside small some ep ei e c =
    columns_step t (around_of nests) (near_of nests) n p il inside small some ep ei c (around_of (set nests n new)) (near_of (set nests n new)) (
      rw (map-set (λ (n : Nest). n.around) nests n new, e.0, get_or-map (λ (n : Nest). n.around) nests p (record { around = 0; near = 0 })) refl,
      rw (map-set (λ (n : Nest). n.near) nests n new, e.1, get_or-map (λ (n : Nest). n.near) nests p (record { around = 0; near = 0 })) refl,
    )
