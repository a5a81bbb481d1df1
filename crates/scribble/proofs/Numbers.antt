-- The numbers that a text can come to: 0, 3, and 20 to 24. Assumes nothing.
use Prim.Native.Nat.{ℕ, zero, suc, ◌≤◌}
use mathlib.Core.Bool.{Bool, true, false, cond, ◌&&◌}
use mathlib.Core.List.{List, [], ◌∷◌, ◌++◌}
use mathlib.Core.Path.{◌≡◌, refl}
use native.Mathlib.Omega.{arith}
use borrow.Author.Tests.{leb-true}
use lib.Dec.{leb}
use lib.ListN.{drop}
use Rattle.table.specs.Limits.{Limits}
use Rattle.scribble.specs.Tokens.{Token}
use Rattle.scribble.specs.Grammar.{Name, Stmt, message, choice, recursion, continue, Block, ends, then, Blocks, no_more, or, SyntaxTree, protocol}
use Rattle.scribble.specs.Names.{firsts, spelled}
use Rattle.scribble.specs.Meaning.{roles_of, labels_in}
use Rattle.scribble.specs.Refusals.{Fault, blame, fault_when, sooner, soonest, deciding, Finding, faultless, faulty, shown_before, faults_of, too_long_among, listed_twice, too_many, unknown_role, name_faults, name_faults_in, name_faults_among, last_faults, last_faults_in, last_faults_among, Beginning, other_start, message_start, beginning_in, wrong_start, choice_faults, choice_faults_in, choice_faults_among, rows_met, rows_met_in, rows_met_among, start_of, TEXT, LAST, MANY, too_long, faults21, faults22, faults23, faults24}
use Rattle.scribble.specs.Outcome.{ReadAs, whole, cut}
use Rattle.std.proofs.lemmas.Bool.{and_parts}

-- 20 to 24
abbrev pub InRange : ℕ → Type 0
InRange n = leb TEXT n && leb n MANY ≡ true

pub in_range : (n : ℕ) → InRange n → (TEXT ≤ n) × (n ≤ MANY)
in_range n r = let k = and_parts (leb TEXT n) (leb n MANY) r in (leb-true TEXT n k.0, leb-true n MANY k.1)

-- faults with such numbers; which faults a text has, and where, plays no part here
data Ranged : List Fault → Type 0 where
  none_ranged : Ranged []
  one_ranged : {f : Fault} {fs : List Fault} → InRange f.number → Ranged fs → Ranged (f ∷ fs)

infixr 60 ◌&◌
◌&◌ : {xs ys : List Fault} → Ranged xs → Ranged ys → Ranged (xs ++ ys)
none_ranged & b = b
one_ranged p a & b = one_ranged p (a & b)

ranged_cond : (t : Bool) (xs ys : List Fault) → Ranged xs → Ranged ys → Ranged (cond t xs ys)
ranged_cond true xs ys a b = a
ranged_cond false xs ys a b = b

ranged_drop : (n : ℕ) {fs : List Fault} → Ranged fs → Ranged (drop n fs)
ranged_drop zero a = a
ranged_drop (suc n) none_ranged = none_ranged
ranged_drop (suc n) (one_ranged p a) = ranged_drop n a

ruleset ranges = (ranged_cond, one_ranged, none_ranged)

-- 21 NAME
ranged_long : (n : Name) → Ranged (too_long n)
ranged_long n = search ranges

ranged_long_among : (ns : List Name) → Ranged (too_long_among ns)
unfolding too_long_among
ranged_long_among [] = none_ranged
ranged_long_among (n ∷ ns) = ranged_long n & ranged_long_among ns

ranged_twice : (before : List (List ℕ)) (ns : List Name) → Ranged (listed_twice before ns)
unfolding listed_twice
ranged_twice before [] = none_ranged
ranged_twice before (n ∷ ns) = let a = ranged_twice before ns in let b = ranged_twice (before ++ (spelled n ∷ [])) ns in search ranges

module _ (roles : List (List ℕ)) where
  ranged_unknown : (n : Name) → Ranged (unknown_role roles n)
  unfolding unknown_role
  ranged_unknown n = search ranges

  mutual
    unfolding name_faults

    ranged_name_of : (t : Stmt) (recs : List (List ℕ)) → Ranged (name_faults roles t recs)
    ranged_name_of (message l xs p q e) recs = ((((ranged_long l & ranged_long_among xs) & ranged_long p) & ranged_unknown p) & ranged_long q) & ranged_unknown q
    ranged_name_of (choice c p first others) recs = ((ranged_long p & ranged_unknown p) & ranged_name first recs) & ranged_name_among others recs
    ranged_name_of (recursion c x b) recs = (ranged_long x & search ranges) & ranged_name b (spelled x ∷ recs)
    ranged_name_of (continue c x) recs = ranged_long x & search ranges

    ranged_name : (b : Block) (recs : List (List ℕ)) → Ranged (name_faults_in roles b recs)
    ranged_name (ends c) recs = none_ranged
    ranged_name (then t b) recs = ranged_name_of t recs & ranged_name b recs

    ranged_name_among : (bs : Blocks) (recs : List (List ℕ)) → Ranged (name_faults_among roles bs recs)
    ranged_name_among no_more recs = none_ranged
    ranged_name_among (or b bs) recs = ranged_name b recs & ranged_name_among bs recs

-- 22 CHOICE
ranged_start : (p q : List ℕ) (o : Beginning) → Ranged (wrong_start p q o)
unfolding wrong_start
ranged_start p q (other_start c) = one_ranged refl none_ranged
ranged_start p q (message_start l p' q' e) = search ranges

mutual
  unfolding choice_faults

  ranged_choice_of : (t : Stmt) → Ranged (choice_faults t)
  ranged_choice_of (message l xs p q e) = none_ranged
  ranged_choice_of (choice c p first others) = (ranged_start _ _ (beginning_in first) & ranged_choice first) & ranged_choice_among _ _ others
  ranged_choice_of (recursion c x b) = ranged_choice b
  ranged_choice_of (continue c x) = none_ranged

  ranged_choice : (b : Block) → Ranged (choice_faults_in b)
  ranged_choice (ends c) = none_ranged
  ranged_choice (then t b) = ranged_choice_of t & ranged_choice b

  ranged_choice_among : (p q : List ℕ) (bs : Blocks) → Ranged (choice_faults_among p q bs)
  ranged_choice_among p q no_more = none_ranged
  ranged_choice_among p q (or b bs) = (ranged_start p q (beginning_in b) & ranged_choice b) & ranged_choice_among p q bs

-- 23 LAST
ranged_late : (done : Bool) (at : ℕ) → Ranged (fault_when done (blame at LAST at))
ranged_late done at = search ranges

mutual
  unfolding last_faults

  ranged_last_of : (t : Stmt) → Ranged (last_faults t)
  ranged_last_of (message l xs p q e) = none_ranged
  ranged_last_of (choice c p first others) = ranged_last first _ & ranged_last_among others
  ranged_last_of (recursion c x b) = ranged_last b _
  ranged_last_of (continue c x) = none_ranged

  ranged_last : (b : Block) (done : Bool) → Ranged (last_faults_in b done)
  ranged_last (ends c) done = none_ranged
  ranged_last (then t b) done = (ranged_late done (start_of t) & ranged_last_of t) & ranged_last b _

  ranged_last_among : (bs : Blocks) → Ranged (last_faults_among bs)
  ranged_last_among no_more = none_ranged
  ranged_last_among (or b bs) = ranged_last b _ & ranged_last_among bs

-- 24 MANY
ranged_many : (ns : List Name) → Ranged (too_many ns)
unfolding too_many
ranged_many [] = none_ranged
ranged_many (n ∷ ns) = one_ranged refl (ranged_many ns)

mutual
  unfolding rows_met

  ranged_rows_of : (t : Stmt) (chosen : Bool) → Ranged (rows_met t chosen)
  ranged_rows_of (message l xs p q e) chosen = search ranges
  ranged_rows_of (choice c p first others) chosen = one_ranged refl (ranged_rows first _ _ & ranged_rows_among others)
  ranged_rows_of (recursion c x b) chosen = one_ranged refl (ranged_rows b _ _)
  ranged_rows_of (continue c x) chosen = one_ranged refl none_ranged

  ranged_rows : (b : Block) (chosen done : Bool) → Ranged (rows_met_in b chosen done)
  ranged_rows (ends c) chosen done = search ranges
  ranged_rows (then t b) chosen done = ranged_rows_of t _ & ranged_rows b _ _

  ranged_rows_among : (bs : Blocks) → Ranged (rows_met_among bs)
  ranged_rows_among no_more = none_ranged
  ranged_rows_among (or b bs) = ranged_rows b _ _ & ranged_rows_among bs

ranged_faults : (lim : Limits) (t : SyntaxTree) → Ranged (faults_of lim t)
unfolding faults_of faults21 faults22 faults23 faults24
ranged_faults lim (protocol m n rs b) =
    ((((((ranged_long_among m & ranged_long n) & ranged_long_among rs) & ranged_twice [] rs) & ranged_name (roles_of (protocol m n rs b)) b []) & ranged_choice b) & ranged_last b false)
    & ((ranged_many (drop lim.roles (firsts [] rs)) & ranged_many (drop lim.labels (firsts [] (labels_in b)))) & ranged_drop lim.rows (ranged_rows b false false))

-- the one that decides
ranged_soonest : (f : Fault) {fs : List Fault} → InRange f.number → Ranged fs → InRange (soonest f fs).number
unfolding soonest
ranged_soonest f p none_ranged = p
ranged_soonest f p (one_ranged {f = g} q a) = ranged_soonest (cond (sooner g f) g f) (by (sooner g f)) a
  where
    by : (t : Bool) → InRange (cond t g f).number
    by true = q
    by false = p

ranged_deciding : {fs : List Fault} (b n : ℕ) → Ranged fs → deciding fs ≡ faulty b n → InRange n
unfolding deciding
ranged_deciding b n none_ranged e = let y : ◌≡◌ {A = ℕ} 0 1 = cc in let v : ⊥ = omega arith in absurd v
ranged_deciding b n (one_ranged {f = f} {fs = fs} p a) e = let k : (soonest f fs).number ≡ n = cc in rw k at (ranged_soonest f p a)

ranged_shown : (e : ℕ) {fs : List Fault} → Ranged fs → Ranged (shown_before e fs)
unfolding shown_before
ranged_shown e none_ranged = none_ranged
ranged_shown e (one_ranged p a) = let b = ranged_shown e a in search ranges

-- the number found for a text
pub found_number : {lim : Limits} {ws : List Token} {t : SyntaxTree} {at n : ℕ} → ReadAs lim ws t (faulty at n) → InRange n
found_number r = by r refl
  where
    by : {lim : Limits} {ws : List Token} {t : SyntaxTree} {j : Finding} {at n : ℕ} → ReadAs lim ws t j → j ≡ faulty at n → InRange n
    by {lim} {at = at} {n = n} (whole {t = t} h) e = ranged_deciding at n (ranged_faults lim t) e
    by {lim} {at = at} {n = n} (cut {t = t} before rest more w q h a dead) e = ranged_deciding at n (one_ranged refl (ranged_shown _ (ranged_faults lim t))) e

-- where there is a fault, something is found
pub some_fault : (f : Fault) (fs : List Fault) → deciding (f ∷ fs) ≡ faultless → ⊥
unfolding deciding
some_fault f fs e = let y : ◌≡◌ {A = ℕ} 0 1 = cc in omega arith
