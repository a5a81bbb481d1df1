-- Names in the order first met, with one more behind them; what is past a limit, with one more. Assumes nothing.
use Prim.Native.Nat.{ℕ}
use mathlib.Core.Bool.{Bool, true, false, cond}
use mathlib.Core.List.{List, [], ◌∷◌, ◌++◌, append_assoc, append-nil}
use mathlib.Core.Path.{◌≡◌, refl, sym, ◌∙◌, ap}
use native.Mathlib.Omega.{arith}
use lib.Dec.{leb}
use lib.ListN.{length, drop, length-append, drop_of_length-le}
use lib.Seq.{drop-append-le}
use borrow.Author.Tests.{leb-true, leb-false}
use Rattle.scribble.specs.Grammar.{Name}
use Rattle.scribble.specs.Names.{spelled, stands_at, is_in, firsts, spellings}
use Rattle.scribble.specs.Refusals.{too_many, listed_twice, Fault, blame, fault_when, MANY, NAME}

pub spellings_append : (xs ys : List Name) → spellings (xs ++ ys) ≡ spellings xs ++ spellings ys
spellings_append [] ys = refl
spellings_append (x ∷ xs) ys = ap (λ (l : List (List ℕ)). spelled x ∷ l) (spellings_append xs ys)

pub spellings_length : (xs : List Name) → length (spellings xs) ≡ length xs
spellings_length [] = refl
spellings_length (x ∷ xs) = let h = spellings_length xs in omega arith

-- one name more
pub firsts_more : (before : List (List ℕ)) (ns : List Name) (n : Name)
    → firsts before (ns ++ (n ∷ [])) ≡ firsts before ns ++ cond (is_in (spelled n) (before ++ spellings (firsts before ns))) [] (n ∷ [])
unfolding firsts
firsts_more before [] n = ap (λ (l : List (List ℕ)). cond (is_in (spelled n) l) [] (n ∷ [])) (sym (append-nil before))
firsts_more before (m ∷ ns) n = by (firsts_more before ns n) (firsts_more (before ++ (spelled m ∷ [])) ns n) (is_in (spelled m) before)
  where
    One : List (List ℕ) → Type 0
    One old = firsts old (ns ++ (n ∷ [])) ≡ firsts old ns ++ cond (is_in (spelled n) (old ++ spellings (firsts old ns))) [] (n ∷ [])

    by : One before → One (before ++ (spelled m ∷ [])) → (t : Bool)
        → cond t (firsts before (ns ++ (n ∷ []))) (m ∷ firsts (before ++ (spelled m ∷ [])) (ns ++ (n ∷ [])))
        ≡ cond t (firsts before ns) (m ∷ firsts (before ++ (spelled m ∷ [])) ns)
        ++ cond (is_in (spelled n) (before ++ spellings (cond t (firsts before ns) (m ∷ firsts (before ++ (spelled m ∷ [])) ns)))) [] (n ∷ [])
    by a b true = a
    by a b false =
        let old = before ++ (spelled m ∷ []) in
        ap (λ (l : List Name). m ∷ l)
        (b
        ∙ ap (λ (l : List (List ℕ)). firsts old ns ++ cond (is_in (spelled n) l) [] (n ∷ [])) (append_assoc before (spelled m ∷ []) (spellings (firsts old ns))))

-- one role more
pub listed_twice_more : (before : List (List ℕ)) (ns : List Name) (n : Name)
    → listed_twice before (ns ++ (n ∷ [])) ≡ listed_twice before ns ++ fault_when (is_in (spelled n) (before ++ spellings (firsts before ns))) (blame (stands_at n) NAME (stands_at n))
unfolding firsts listed_twice
listed_twice_more before [] n = ap (λ (l : List (List ℕ)). fault_when (is_in (spelled n) l) (blame (stands_at n) NAME (stands_at n))) (sym (append-nil before))
listed_twice_more before (m ∷ ns) n = by (listed_twice_more before ns n) (listed_twice_more (before ++ (spelled m ∷ [])) ns n) (is_in (spelled m) before)
  where
    One : List (List ℕ) → Type 0
    One old = listed_twice old (ns ++ (n ∷ [])) ≡ listed_twice old ns ++ fault_when (is_in (spelled n) (old ++ spellings (firsts old ns))) (blame (stands_at n) NAME (stands_at n))

    by : One before → One (before ++ (spelled m ∷ [])) → (t : Bool)
        → cond t (blame (stands_at m) NAME (stands_at m) ∷ listed_twice before (ns ++ (n ∷ []))) (listed_twice (before ++ (spelled m ∷ [])) (ns ++ (n ∷ [])))
        ≡ cond t (blame (stands_at m) NAME (stands_at m) ∷ listed_twice before ns) (listed_twice (before ++ (spelled m ∷ [])) ns)
        ++ fault_when (is_in (spelled n) (before ++ spellings (cond t (firsts before ns) (m ∷ firsts (before ++ (spelled m ∷ [])) ns)))) (blame (stands_at n) NAME (stands_at n))
    by a b true = ap (λ (l : List Fault). blame (stands_at m) NAME (stands_at m) ∷ l) a
    by a b false =
        let old = before ++ (spelled m ∷ []) in
        b
        ∙ ap (λ (l : List (List ℕ)). listed_twice old ns ++ fault_when (is_in (spelled n) l) (blame (stands_at n) NAME (stands_at n))) (append_assoc before (spelled m ∷ []) (spellings (firsts old ns)))

-- one more, of which so many are dropped
pub drop_more : {A : Type 0} (k : ℕ) (xs : List A) (y : A) → drop k (xs ++ (y ∷ [])) ≡ drop k xs ++ cond (leb k (length xs)) (y ∷ []) []
drop_more {A} k xs y = by (leb k (length xs)) refl
  where
    by : (t : Bool) → leb k (length xs) ≡ t → drop k (xs ++ (y ∷ [])) ≡ drop k xs ++ cond t (y ∷ []) []
    by true e = drop-append-le k xs (y ∷ []) (leb-true k (length xs) e)
    by false e =
        let l = leb-false k (length xs) e in
        let m = length-append xs (y ∷ []) in
        let no_more = drop_of_length-le xs {i = k} (omega arith) in
        let all = drop_of_length-le (xs ++ (y ∷ [])) {i = k} (omega arith) in
        all ∙ sym (append-nil (drop k xs) ∙ no_more)

pub too_many_append : (xs ys : List Name) → too_many (xs ++ ys) ≡ too_many xs ++ too_many ys
unfolding too_many
too_many_append [] ys = refl
too_many_append (x ∷ xs) ys = ap (λ (l : List Fault). blame (stands_at x) MANY (stands_at x) ∷ l) (too_many_append xs ys)

pub too_many_more : (k : ℕ) (xs : List Name) (n : Name) → too_many (drop k (xs ++ (n ∷ []))) ≡ too_many (drop k xs) ++ fault_when (leb k (length xs)) (blame (stands_at n) MANY (stands_at n))
unfolding too_many
too_many_more k xs n =
    ap too_many (drop_more k xs n)
    ∙ (too_many_append (drop k xs) (cond (leb k (length xs)) (n ∷ []) []) ∙ ap (λ (l : List Fault). too_many (drop k xs) ++ l) (by (leb k (length xs))))
  where
    by : (t : Bool) → too_many (cond t (n ∷ []) []) ≡ fault_when t (blame (stands_at n) MANY (stands_at n))
    by true = refl
    by false = refl
