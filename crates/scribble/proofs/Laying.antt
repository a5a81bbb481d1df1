-- Rows in the order met: how many words they are, and one arm more behind the last. Assumes nothing.
use Prim.Native.Nat.{ℕ, suc, ◌+◌, ◌*◌, ◌≤◌, ◌<◌}
use mathlib.Core.List.{List, [], ◌∷◌, ◌++◌, append_assoc, append-nil}
use mathlib.Core.Path.{◌≡◌, refl, sym, ◌∙◌, ap}
use native.Mathlib.Omega.{arith}
use lib.ListN.{length, set, length-append}
use lib.Seq.{set_at}
use Rattle.table.specs.Tree.{Global, end, exchange, flight, loop, back, Arms, nil, arm, rows_in, rows_in_arms}
use Rattle.scribble.specs.Laid.{laid, laid_arms}

mutual
  unfolding laid rows_in

  pub laid_length : (G : Global ℕ) (n : ℕ) → length (laid G n) ≡ rows_in G * 4
  laid_length end n = refl
  laid_length (exchange p q cs) n = let h = arms_length cs (suc n) in omega arith
  laid_length (flight p q l v G) n = let h = laid_length G (suc n) in omega arith
  laid_length (loop G) n = let h = laid_length G (suc n) in omega arith
  laid_length (back k) n = refl

  pub arms_length : (cs : Arms ℕ) (n : ℕ) → length (laid_arms cs n) ≡ rows_in_arms cs * 4
  arms_length nil n = refl
  arms_length (arm l G cs) n =
      let h = laid_length G (suc n) in
      let k = arms_length cs (suc n + rows_in G) in
      let e = length-append (laid G (suc n)) (laid_arms cs (suc n + rows_in G)) in
      omega arith

-- the arms with one more behind them, and the row of the last
unfoldable pub snoc : Arms ℕ → ℕ → Global ℕ → Arms ℕ
snoc nil l H = arm l H nil
snoc (arm k G cs) l H = arm k G (snoc cs l H)

unfoldable mutual
  unfolding rows_in

  pub last_row : Arms ℕ → ℕ → ℕ
  last_row nil n = n
  last_row (arm k G cs) n = last_behind cs n (suc n + rows_in G)

  -- the row of an arm, if none stands behind it
  pub last_behind : Arms ℕ → ℕ → ℕ → ℕ
  last_behind nil here n = here
  last_behind (arm k G cs) here n = last_behind cs n (suc n + rows_in G)

abbrev pub row4 : ℕ → ℕ → ℕ → ℕ → List ℕ → List ℕ
row4 a b c d xs = a ∷ b ∷ c ∷ d ∷ xs

-- a word of a row is set, behind `front` in its row
pub set_word : (pre front : List ℕ) (x v here : ℕ) (xs : List ℕ) → length pre ≡ here * 4
    → set (pre ++ (front ++ (x ∷ xs))) (here * 4 + length front) v ≡ pre ++ (front ++ (v ∷ xs))
set_word pre front x v here xs e =
    let l : length (pre ++ front) ≡ here * 4 + length front = length-append pre front ∙ omega arith in
    ap (λ (ys : List ℕ). set ys (here * 4 + length front) v) (sym (append_assoc pre front (x ∷ xs)))
    ∙ (set_at (pre ++ front) x xs v (here * 4 + length front) l ∙ append_assoc pre front (v ∷ xs))

-- one arm more: the last arm leads to it, and its rows stand behind all
pub one_more : (cs : Arms ℕ) (k : ℕ) (G : Global ℕ) (pre : List ℕ) (here m l : ℕ) (H : Global ℕ) → length pre ≡ here * 4 → m ≡ here + rows_in_arms (arm k G cs)
    → set (pre ++ laid_arms (arm k G cs) here) (last_row (arm k G cs) here * 4 + 3) m ++ laid_arms (arm l H nil) m ≡ pre ++ laid_arms (arm k G (snoc cs l H)) here
unfolding laid rows_in last_row snoc
one_more nil k G pre here m l H e f =
    let n = suc here + rows_in G in
    let m' : m ≡ suc here + rows_in G = f ∙ omega arith in
    rw (set_word pre (2 ∷ k ∷ suc here ∷ []) 0 m here (laid G (suc here) ++ []) e, append-nil (laid G (suc here)), append_assoc pre (row4 2 k (suc here) m (laid G (suc here))) (laid_arms (arm l H nil) m), m')
one_more (arm k' G' cs) k G pre here m l H e f =
    let n = suc here + rows_in G in
    let row = row4 2 k (suc here) n (laid G (suc here)) in
    let g = laid_length G (suc here) in
    let len : length (pre ++ row) ≡ n * 4 = length-append pre row ∙ omega arith in
    let m' : m ≡ n + rows_in_arms (arm k' G' cs) = f ∙ omega arith in
    ap (λ (ys : List ℕ). set ys (last_row (arm k' G' cs) n * 4 + 3) m ++ laid_arms (arm l H nil) m) (sym (append_assoc pre row (laid_arms (arm k' G' cs) n)))
    ∙ (one_more cs k' G' (pre ++ row) n m l H len m' ∙ append_assoc pre row (laid_arms (arm k' G' (snoc cs l H)) n))

-- the last arm's row is one of the arms' rows
last_in : (cs : Arms ℕ) (here n : ℕ) → here < n → last_behind cs here n < n + rows_in_arms cs
unfolding rows_in last_row
last_in nil here n l = omega arith
last_in (arm k G cs) here n l = let h = last_in cs n (suc n + rows_in G) (omega arith) in omega arith

last_from : (cs : Arms ℕ) (here n : ℕ) → here < n → here ≤ last_behind cs here n
unfolding rows_in last_row
last_from nil here n l = omega arith
last_from (arm k G cs) here n l = let h = last_from cs n (suc n + rows_in G) (omega arith) in omega arith

pub last_bounds : (k : ℕ) (G : Global ℕ) (cs : Arms ℕ) (here : ℕ) → (here ≤ last_row (arm k G cs) here) × (last_row (arm k G cs) here < here + rows_in_arms (arm k G cs))
unfolding rows_in last_row
last_bounds k G cs here =
    let n = suc here + rows_in G in
    let h = last_in cs here n (omega arith) in
    (last_from cs here n (omega arith), omega arith)

last_behind_snoc : (cs : Arms ℕ) (here n l : ℕ) (H : Global ℕ) → last_behind (snoc cs l H) here n ≡ n + rows_in_arms cs
unfolding rows_in last_row snoc
last_behind_snoc nil here n l H = omega arith
last_behind_snoc (arm k G cs) here n l H = let h = last_behind_snoc cs n (suc n + rows_in G) l H in h ∙ omega arith

pub last_snoc : (k : ℕ) (G : Global ℕ) (cs : Arms ℕ) (here l : ℕ) (H : Global ℕ) → last_row (arm k G (snoc cs l H)) here ≡ here + rows_in_arms (arm k G cs)
unfolding rows_in last_row
last_snoc k G cs here l H = last_behind_snoc cs here (suc here + rows_in G) l H ∙ omega arith

-- arms, and arms behind them
unfoldable pub join_arms : Arms ℕ → Arms ℕ → Arms ℕ
join_arms nil ds = ds
join_arms (arm k G cs) ds = arm k G (join_arms cs ds)

pub join_nil : (cs : Arms ℕ) → join_arms cs nil ≡ cs
unfolding join_arms
join_nil nil = refl
join_nil (arm k G cs) = ap (arm k G) (join_nil cs)

pub join_snoc : (cs : Arms ℕ) (l : ℕ) (H : Global ℕ) (ds : Arms ℕ) → join_arms (snoc cs l H) ds ≡ join_arms cs (arm l H ds)
unfolding join_arms snoc
join_snoc nil l H ds = refl
join_snoc (arm k G cs) l H ds = ap (arm k G) (join_snoc cs l H ds)
