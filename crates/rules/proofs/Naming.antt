-- Laws of who names each row: the two lists that one pass fills, rows taken from the last to the first. Assumes nothing.
use Prim.Native.Nat.{ℕ, suc, ◌+◌, ◌*◌, ◌-◌, ◌≤◌, ◌<◌}
use mathlib.Core.Bool.{Bool, true, false, cond, ◌||◌}
use mathlib.Core.List.{List}
use mathlib.Core.Logic.{◌≢◌}
use mathlib.Core.Path.{◌≡◌, refl, sym, ◌∙◌, ap}
use lib.Dec.{ltb, eqb}
use lib.LanesLaws.{map-replicate}
use lib.ListN.{length, get_or, set, replicate, length-set, length-replicate, get_or-replicate, get_or-eq_default}
use lib.Seq.{get_or-set_same, get_or-set_other}
use native.Mathlib.Decide.{ℕ_discrete, dec_lt}
use native.Mathlib.Omega.{arith}
use borrow.Author.Tests.{ltb-false, lt-ltb, le-ltb, eq-eqb, ne_eqb}
use Rattle.std.specs.Prelude.{Some, None}
use Rattle.std.specs.Option.{unwrap_or}
use Rattle.std.proofs.lemmas.List.{get_or-map, length-map}
use Rattle.words.specs.Rows.{rows_of}
use Rattle.words.specs.Below.{lowest, sum, one}
use Rattle.words.proofs.Below.{lowest_le}
use Rattle.words.proofs.Zeros.{zeros}
use Rattle.table.specs.Limits.{base}
use Rattle.table.specs.Rows.{row, links}
use Rattle.table.specs.Above.{times, times_named, namer}
use Rattle.table.specs.mirror.Names.{near_link, far_link}
use Rattle.table.proofs.Links.{times_links}
use Rattle.rules.specs.declared.Name.{Name}
use Rattle.rules.specs.mirror.Names.{places, placed, named_by, times_of, Namers, Inside, Counts}

-- ---- one store

pub put_length : (l : List ℕ) (j x : ℕ) → length (placed l j x) ≡ length l
put_length l j x = go (ltb j places)
  where
    go : (b : Bool) → length (cond b (set l j x) l) ≡ length l
    go true = length-set l j x
    go false = refl

put_same : (l : List ℕ) (j x : ℕ) → length l ≡ places → j < places → get_or (placed l j x) j 0 ≡ x
put_same l j x e h = rw (lt-ltb j places h) (get_or-set_same l j x 0 (omega arith))

put_other : (l : List ℕ) (i j x : ℕ) → i ≢ j → get_or (placed l j x) i 0 ≡ get_or l i 0
put_other l i j x h = go (ltb j places)
  where
    go : (b : Bool) → get_or (cond b (set l j x) l) i 0 ≡ get_or l i 0
    go true = get_or-set_other l j i x 0 h
    go false = refl

put_at : (l : List ℕ) (i j x : ℕ) → length l ≡ places → i < places → get_or (placed l j x) i 0 ≡ cond (eqb i j) x (get_or l i 0)
put_at l i j x e h = go (ℕ_discrete i j)
  where
    go : Dec (i ≡ j) → get_or (placed l j x) i 0 ≡ cond (eqb i j) x (get_or l i 0)
    go (yes q) = rw (← q, eq-eqb i i refl) (put_same l i x e h)
    go (no q) = rw (ne_eqb i j q) (put_other l i j x q)

put_more : (l : List ℕ) (i j : ℕ) → length l ≡ places → i < places → get_or (placed l j (get_or l j 0 + 1)) i 0 ≡ get_or l i 0 + one (eqb i j)
put_more l i j e h = go (ℕ_discrete i j)
  where
    go : Dec (i ≡ j) → get_or (placed l j (get_or l j 0 + 1)) i 0 ≡ get_or l i 0 + one (eqb i j)
    go (yes q) = rw (← q, eq-eqb i i refl) (put_same l i (get_or l i 0 + 1) e h)
    go (no q) = rw (ne_eqb i j q, put_other l i j (get_or l j 0 + 1) q) (omega arith)

pub put_bound : (l : List ℕ) (i j : ℕ) → length l ≡ places → get_or (placed l j (get_or l j 0 + 1)) i 0 ≤ get_or l i 0 + 1
put_bound l i j e = go (ℕ_discrete i j) (dec_lt i places)
  where
    go : Dec (i ≡ j) → Dec (i < places) → get_or (placed l j (get_or l j 0 + 1)) i 0 ≤ get_or l i 0 + 1
    go (yes q) (yes h) = rw (← q, put_same l i (get_or l i 0 + 1) e h) (omega arith)
    go (yes q) (no h) =
        rw (get_or-eq_default (placed l j (get_or l j 0 + 1)) 0 {n = i} (rw (put_length l j (get_or l j 0 + 1)) (omega arith))) (omega arith)
    go (no q) h = rw (put_other l i j (get_or l j 0 + 1) q) (omega arith)

-- ---- the pass

-- the lowest of the first p rows that name row i, or b for none
abbrev lowest_or : List ℕ → ℕ → ℕ → ℕ → ℕ
lowest_or t i p b = let k = lowest (λ q. ltb 0 (times i (links (row t q)))) p in cond (ltb k p) k b

abbrev counted : List ℕ → ℕ → ℕ → ℕ
counted t i p = sum (λ q. times i (links (row t q))) p

-- the two lists where the rows from p on are taken: what they say with what the first p rows will add is what they are to say
pub record Filling (t by count : List ℕ) (p : ℕ) : Type 0 where
  pub by_length : length by ≡ places
  pub count_length : length count ≡ places
  pub low : (i : ℕ) → 0 < i → i < rows_of t → lowest_or t i p (get_or by i 0) ≡ namer t i
  pub all : (i : ℕ) → 0 < i → i < rows_of t → get_or count i 0 + counted t i p ≡ times_named t i
  pub few : (i : ℕ) → get_or count i 0 + 2 * p ≤ 2 * rows_of t

at_end : (b : Bool) (k n : ℕ) → ltb k n ≡ b → k ≤ n → cond b k n ≡ k
at_end true k n e h = refl
at_end false k n e h = let l = ltb-false k n e in omega arith

pub filling_start : (t : List ℕ) → rows_of t ≤ base.rows → (n : ℕ) → n ≡ rows_of t → Filling t (replicate places n) (replicate places 0) (rows_of t)
filling_start t h n e = record {
  by_length = length-replicate places n;
  count_length = length-replicate {A = ℕ} places 0;
  low = λ i l m.
      let q : i < places = omega arith in
      let k = lowest (λ q. ltb 0 (times i (links (row t q)))) (rows_of t) in
      rw (get_or-replicate places i n 0 q, e) (at_end (ltb k (rows_of t)) k (rows_of t) refl (lowest_le _ (rows_of t)));
  all = λ i l m. rw (zeros places i) (omega arith);
  few = λ i. rw (zeros places i) (omega arith);
}

-- the places as the loop has them
abbrev pub nobody : Name
nobody = record { by = None; times = 0 }

nobodies : (m i : ℕ) → get_or (named_by 0 (replicate m nobody)) i 0 ≡ 0
nobodies m i = rw (map-replicate (λ (n : Name). unwrap_or n.by 0) m nobody) (zeros m i)

pub names_start : (t : List ℕ) → rows_of t ≤ base.rows
    → Filling t (named_by (rows_of t) (replicate places nobody)) (times_of (replicate places nobody)) (rows_of t) × Inside t (named_by 0 (replicate places nobody))
names_start t h = (
  rw (map-replicate (λ (n : Name). unwrap_or n.by (rows_of t)) places nobody, map-replicate (λ (n : Name). n.times) places nobody)
      (filling_start t h (rows_of t) refl),
  λ i. let e = nobodies places i in omega arith,
)

pub inside_step : (t by' : List ℕ) (names : List Name) (j x : ℕ) → x < rows_of t → length names ≡ places → by' ≡ placed (named_by 0 names) j x
    → Inside t (named_by 0 names) → Inside t by'
inside_step t by' names j x l long f h i = rw f (go (ℕ_discrete i j) (dec_lt i places))
  where
    e : length (named_by 0 names) ≡ places
    e = length-map names (λ (n : Name). unwrap_or n.by 0) ∙ long

    go : Dec (i ≡ j) → Dec (i < places) → get_or (placed (named_by 0 names) j x) i 0 ≤ rows_of t - 1
    go (yes q) (yes m) = rw (← q, put_same (named_by 0 names) i x e m) (omega arith)
    go (yes q) (no m) = rw (get_or-eq_default (placed (named_by 0 names) j x) 0 {n = i} (rw (put_length (named_by 0 names) j x) (omega (arith, e)))) (omega arith)
    go (no q) m = rw (put_other (named_by 0 names) i j x q) (h i)

ones : (a b : Bool) → ltb 0 (one a + one b) ≡ (a || b)
ones true true = refl
ones true false = refl
ones false true = refl
ones false false = refl

-- what a row adds to the test, and what it stores: the last of the first suc p rows is p
low_step : (a b : Bool) (k p x : ℕ) (c : Bool) → ltb k p ≡ c → k ≤ p
    → (let m = cond c k (cond (a || b) p (suc p)) in cond (ltb m (suc p)) m x) ≡ cond c k (cond b p (cond a p x))
low_step a b k p x true q h = rw (lt-ltb k (suc p) (omega arith))
low_step true true k p x false q h = rw (lt-ltb p (suc p) (omega arith))
low_step true false k p x false q h = rw (lt-ltb p (suc p) (omega arith))
low_step false true k p x false q h = rw (lt-ltb p (suc p) (omega arith))
low_step false false k p x false q h = rw (le-ltb (suc p) (suc p) (omega arith))

-- one more link is counted
abbrev more : List ℕ → ℕ → List ℕ
more l j = placed l j (get_or l j 0 + 1)

module _ (t by count : List ℕ) (p near far : ℕ) (small : rows_of t ≤ base.rows) (en : near ≡ near_link (row t p)) (ef : far ≡ far_link (row t p))
    (f : Filling t by count (suc p)) where
  step_low : (i : ℕ) → 0 < i → i < rows_of t → lowest_or t i p (get_or (placed (placed by near p) far p) i 0) ≡ namer t i
  unfolding lowest
  step_low i l m =
      let q : i < places = omega arith in
      let k = lowest (λ q. ltb 0 (times i (links (row t q)))) p in
      rw (put_at (placed by near p) i far p (put_length by near p ∙ f.by_length) q, put_at by i near p f.by_length q)
      (sym (low_step (eqb i near) (eqb i far) k p (get_or by i 0) (ltb k p) refl (lowest_le _ p))
      ∙ (rw (← ones (eqb i near) (eqb i far), en, ef, ← times_links i l (row t p)) (f.low i l m)))

  step_all : (i : ℕ) → 0 < i → i < rows_of t → get_or (more (more count near) far) i 0 + counted t i p ≡ times_named t i
  unfolding sum
  step_all i l m =
      let q : i < places = omega arith in
      let e = times_links i l (row t p) in
      let g = f.all i l m in
      rw (put_more (more count near) i far (put_length count near (get_or count near 0 + 1) ∙ f.count_length) q, put_more count i near f.count_length q, en, ef)
      (omega arith)

  step_few : (i : ℕ) → get_or (more (more count near) far) i 0 + 2 * p ≤ 2 * rows_of t
  step_few i =
      omega (
        arith,
        f.few i,
        put_bound count i near f.count_length,
        put_bound (more count near) i far (put_length count near (get_or count near 0 + 1) ∙ f.count_length),
      )

  pub filling_step : Filling t (placed (placed by near p) far p) (more (more count near) far) p
  filling_step = record {
    by_length = put_length (placed by near p) far p ∙ (put_length by near p ∙ f.by_length);
    count_length = put_length (more count near) far (get_or (more count near) far 0 + 1) ∙ (put_length count near (get_or count near 0 + 1) ∙ f.count_length);
    low = step_low;
    all = step_all;
    few = step_few;
  }

-- the same as the loop has it
pub filling_turn : (t by count by1 count1 by2 count2 : List ℕ) (q near far : ℕ) → rows_of t ≤ base.rows → 0 < q
    → near ≡ near_link (row t (q - 1)) → far ≡ far_link (row t (q - 1))
    → (by1 ≡ placed by near (q - 1)) × (count1 ≡ more count near) → (by2 ≡ placed by1 far (q - 1)) × (count2 ≡ more count1 far)
    → Filling t by count q → Filling t by2 count2 (q - 1)
filling_turn t by count by1 count1 by2 count2 q near far small h en ef e1 e2 f =
    let e : q ≡ suc (q - 1) = omega arith in
    rw (e2.0, e2.1, e1.0, e1.1) (filling_step t by count (q - 1) near far small en ef (rw e at f))

pub filling_end : (t by count : List ℕ) → Filling t by count 0 → (Namers t by) × (Counts t count)
unfolding lowest sum
filling_end t by count f = (f.low, λ i l m. let e = f.all i l m in omega arith)

-- ---- the places read

module _ (t : List ℕ) (names : List Name) (i : ℕ) (long : i < length names) (some : 0 < i) (l : i < rows_of t) (by : Namers t (named_by (rows_of t) names)) where
  pub named_none : (get_or names i nobody).by ≡ None → rows_of t ≡ namer t i
  named_none e =
      sym (ap (λ o. unwrap_or o (rows_of t)) e) ∙ (sym (get_or-map (λ (n : Name). unwrap_or n.by (rows_of t)) names i nobody 0 long) ∙ by i some l)

  pub named_some : (over : ℕ) → (get_or names i nobody).by ≡ Some over → over ≡ namer t i
  named_some over e =
      sym (ap (λ o. unwrap_or o (rows_of t)) e) ∙ (sym (get_or-map (λ (n : Name). unwrap_or n.by (rows_of t)) names i nobody 0 long) ∙ by i some l)

  pub named_inside : Inside t (named_by 0 names) → (over : ℕ) → (get_or names i nobody).by ≡ Some over → over < rows_of t
  named_inside inside over e =
      let same : get_or (named_by 0 names) i 0 ≡ over = get_or-map (λ (n : Name). unwrap_or n.by 0) names i nobody 0 long ∙ ap (λ o. unwrap_or o 0) e in
      let low = inside i in
      omega arith
