-- A label's number among those met so far is its number among all. Assumes nothing.
use Prim.Native.Nat.{ℕ, suc}
use mathlib.Core.Bool.{Bool, true, false, cond}
use mathlib.Core.List.{List, [], ◌∷◌, ◌++◌, append_assoc, append-nil}
use mathlib.Core.Path.{◌≡◌, refl, sym, ◌∙◌, ap}
use lib.Dec.{ltb, leb-suc-suc}
use lib.ListN.{length}
use Rattle.scribble.specs.Tokens.{spelled_alike}
use Rattle.scribble.specs.Grammar.{Name}
use Rattle.scribble.specs.Names.{spelled, is_in, index_of, firsts, spellings}
use Rattle.scribble.proofs.Firsts.{spellings_append, firsts_more}
use Rattle.scribble.proofs.Same.{same_self}

-- the names first met in two lists
firsts_append : (before : List (List ℕ)) (xs ys : List Name) → firsts before (xs ++ ys) ≡ firsts before xs ++ firsts (before ++ spellings (firsts before xs)) ys
unfolding firsts
firsts_append before [] ys = ap (λ (l : List (List ℕ)). firsts l ys) (sym (append-nil before))
firsts_append before (m ∷ xs) ys = by (firsts_append before xs ys) (firsts_append (before ++ (spelled m ∷ [])) xs ys) (is_in (spelled m) before)
  where
    All : List (List ℕ) → Type 0
    All old = firsts old (xs ++ ys) ≡ firsts old xs ++ firsts (old ++ spellings (firsts old xs)) ys

    by : All before → All (before ++ (spelled m ∷ [])) → (t : Bool)
        → cond t (firsts before (xs ++ ys)) (m ∷ firsts (before ++ (spelled m ∷ [])) (xs ++ ys))
        ≡ cond t (firsts before xs) (m ∷ firsts (before ++ (spelled m ∷ [])) xs)
        ++ firsts (before ++ spellings (cond t (firsts before xs) (m ∷ firsts (before ++ (spelled m ∷ [])) xs))) ys
    by a b true = a
    by a b false =
        let old = before ++ (spelled m ∷ []) in
        ap (λ (l : List Name). m ∷ l) (b ∙ ap (λ (l : List (List ℕ)). firsts old xs ++ firsts l ys) (append_assoc before (spelled m ∷ []) (spellings (firsts old xs))))

-- a name that is added where it is new, and others behind it
index_settled : (x : List ℕ) (ls more : List (List ℕ)) → index_of x ((ls ++ cond (is_in x ls) [] (x ∷ [])) ++ more) ≡ index_of x ls
unfolding index_of is_in
index_settled x [] more = rw (same_self x)
index_settled x (n ∷ ls) more = by (index_settled x ls more) (spelled_alike n x)
  where
    by : index_of x ((ls ++ cond (is_in x ls) [] (x ∷ [])) ++ more) ≡ index_of x ls → (t : Bool)
        → cond t 0 (suc (index_of x ((ls ++ cond (ltb (cond t 0 (suc (index_of x ls))) (suc (length ls))) [] (x ∷ [])) ++ more))) ≡ cond t 0 (suc (index_of x ls))
    by h true = refl
    by h false = rw (leb-suc-suc (suc (index_of x ls)) (length ls)) (ap suc h)

-- the labels of which these are the first that are read
abbrev pub Later : List (List ℕ) → List Name → Type 0
Later labels ns = (rest : List Name) × (labels ≡ spellings (firsts [] (ns ++ rest)))

pub later_first : (labels : List (List ℕ)) (xs ys : List Name) → Later labels (xs ++ ys) → Later labels xs
later_first labels xs ys (rest, e) = (ys ++ rest, e ∙ ap (λ (l : List Name). spellings (firsts [] l)) (append_assoc xs ys rest))

pub later_as : (labels : List (List ℕ)) (xs ys : List Name) → xs ≡ ys → Later labels xs → Later labels ys
later_as labels xs ys p (rest, e) = (rest, e ∙ ap (λ (l : List Name). spellings (firsts [] (l ++ rest))) p)

pub label_number : (labels : List (List ℕ)) (ns : List Name) (l : Name) → Later labels (ns ++ (l ∷ [])) → index_of (spelled l) (spellings (firsts [] ns)) ≡ index_of (spelled l) labels
label_number labels ns l (rest, e) =
    let fs = firsts [] ns in
    let x = spelled l in
    let t = is_in x (spellings fs) in
    let more = firsts (spellings (firsts [] (ns ++ (l ∷ [])))) rest in
    let all : labels ≡ (spellings fs ++ cond t [] (x ∷ [])) ++ spellings more
    = e ∙ (ap (λ (z : List Name). spellings z) (firsts_append [] (ns ++ (l ∷ [])) rest)
    ∙ (ap (λ (z : List Name). spellings (z ++ more)) (firsts_more [] ns l)
    ∙ (spellings_append (fs ++ cond t [] (l ∷ [])) more ∙ ap (λ (z : List (List ℕ)). z ++ spellings more) (spellings_append fs (cond t [] (l ∷ [])) ∙ ap (λ (z : List (List ℕ)). spellings fs ++ z) (one t))))) in
    sym (ap (index_of x) all ∙ index_settled x (spellings fs) (spellings more))
  where
    one : (t : Bool) → spellings (cond t [] (l ∷ [])) ≡ cond t [] (spelled l ∷ [])
    one true = refl
    one false = refl
