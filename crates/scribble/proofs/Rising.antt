-- The tokens of a text: each starts behind the one before it, and the last is the end of the text. Assumes nothing.
use Prim.Native.Nat.{ℕ, zero, suc, ◌+◌, ◌≤◌, ◌<◌}
use mathlib.Core.Bool.{Bool, true, false, cond}
use mathlib.Core.List.{List, [], ◌∷◌, ◌++◌}
use mathlib.Core.Path.{◌≡◌, refl, ap, sym, subst}
use native.Mathlib.Omega.{arith}
use lib.Dec.{eqb}
use lib.ListN.{length, take, drop, length-drop}
use borrow.Author.Tests.{eqb-true, eqb-false}
use Rattle.scribble.specs.Tokens.{Sort, Token, token, start, end_of_text, gap, extent, sort_of, tokens_from, tokens_of}
use Rattle.scribble.proofs.Cut.{TokensBelow, no_token, one_token}

pub data Rising : ℕ → List Token → Type 0 where
  none_rises : {at : ℕ} → Rising at []
  one_rises : {at : ℕ} {w : Token} {ws : List Token} → at ≤ start w → Rising (suc (start w)) ws → Rising at (w ∷ ws)

-- the last token is the end of the text
pub data Ended : List Token → Type 0 where
  last_token : {b : ℕ} {x : List ℕ} → Ended (token end_of_text b x ∷ [])
  later_token : {w : Token} {ws : List Token} → Ended ws → Ended (w ∷ ws)

lower : {at at' : ℕ} {ws : List Token} → at ≤ at' → Rising at' ws → Rising at ws
lower l none_rises = none_rises
lower {at} l (one_rises {w = w} m r) = one_rises {at = at} {w = w} (omega arith) r

no_extent : (bs : List ℕ) → length bs ≡ 0 → extent bs ≡ 0
unfolding extent
no_extent [] e = refl
no_extent (b ∷ bs) e = let v : ⊥ = omega arith in absurd v

no_sort : (k : ℕ) (bs : List ℕ) → k ≡ 0 → sort_of (take k bs) ≡ end_of_text
unfolding sort_of
no_sort k bs e = ap (λ (n : ℕ). sort_of (take n bs)) e

-- a token of k bytes, and the tokens behind it
one_more : (n at here k : ℕ) (rest : List ℕ) → at ≤ here → length rest ≤ n → (length rest ≡ 0 → k ≡ 0)
    → (length (drop k rest) < n → Rising (here + k) (tokens_from n (here + k) (drop k rest)) × Ended (tokens_from n (here + k) (drop k rest)))
    → (t : Bool) → eqb k 0 ≡ t
    → let w = token (sort_of (take k rest)) here (take k rest) in let ws = cond t (w ∷ []) (w ∷ tokens_from n (here + k) (drop k rest)) in Rising at ws × Ended ws
one_more n at here k rest l m z h true e =
    let w = token (sort_of (take k rest)) here (take k rest) in
    (one_rises {w = w} l none_rises, subst (λ (x : Sort). Ended (token x here (take k rest) ∷ [])) (sym (no_sort k rest (eqb-true k 0 e))) last_token)
one_more n at here k rest l m z h false e =
    let w = token (sort_of (take k rest)) here (take k rest) in
    let some = eqb-false k 0 e in
    let d = length-drop k rest in
    let long : length rest ≡ 0 → ⊥ = λ x. some (z x) in
    let r = h (omega (arith, long, some)) in
    (one_rises {w = w} l (lower (omega (arith, some)) r.0), later_token r.1)

tokens_rise : (n at : ℕ) (bs : List ℕ) → length bs < n → Rising at (tokens_from n at bs) × Ended (tokens_from n at bs)
unfolding tokens_from
tokens_rise zero at bs l = let v : ⊥ = omega arith in absurd v
tokens_rise (suc n) at bs l =
    let rest = drop (gap bs) bs in
    let k = extent rest in
    let d = length-drop (gap bs) bs in
    one_more n at (at + gap bs) k rest (omega arith) (omega arith) (no_extent rest) (λ m. tokens_rise n (at + gap bs + k) (drop k rest) m) (eqb k 0) refl

pub text_rises : (text : List ℕ) → Rising 0 (tokens_of text) × Ended (tokens_of text)
unfolding tokens_of
text_rises text = tokens_rise (suc (length text)) 0 text (omega arith)

-- the tokens before a token start before it
starts_from : (at : ℕ) (before : List Token) (w : Token) (rest : List Token) → Rising at (before ++ (w ∷ rest)) → at ≤ start w
starts_from at [] w rest (one_rises l r) = l
starts_from at (v ∷ before) w rest (one_rises l r) = let h = starts_from (suc (start v)) before w rest r in omega arith

pub before_below : {at : ℕ} (before : List Token) (w : Token) (rest : List Token) → Rising at (before ++ (w ∷ rest)) → TokensBelow (start w) before
before_below [] w rest r = no_token
before_below (v ∷ before) w rest (one_rises l r) = one_token (starts_from (suc (start v)) before w rest r) (before_below before w rest r)

-- the tokens from one on rise from its start
pub from_here : {at : ℕ} (before : List Token) (w : Token) (rest : List Token) → Rising at (before ++ (w ∷ rest)) → Rising (start w) (w ∷ rest)
from_here [] w rest (one_rises l r) = one_rises {at = start w} {w = w} (omega arith) r
from_here (v ∷ before) w rest (one_rises l r) = from_here before w rest r

-- the tokens do not depend on the bound, once it is enough
same_tokens : (n m here k : ℕ) (rest : List ℕ) (w : Token) → length rest ≤ n → length rest ≤ m → (length rest ≡ 0 → k ≡ 0)
    → (length (drop k rest) < n → length (drop k rest) < m → tokens_from n (here + k) (drop k rest) ≡ tokens_from m (here + k) (drop k rest))
    → (t : Bool) → eqb k 0 ≡ t → cond t (w ∷ []) (w ∷ tokens_from n (here + k) (drop k rest)) ≡ cond t (w ∷ []) (w ∷ tokens_from m (here + k) (drop k rest))
same_tokens n m here k rest w l l' z h true e = refl
same_tokens n m here k rest w l l' z h false e =
    let some = eqb-false k 0 e in
    let d = length-drop k rest in
    let long : length rest ≡ 0 → ⊥ = λ x. some (z x) in
    ap (λ (ws : List Token). w ∷ ws) (h (omega (arith, long, some)) (omega (arith, long, some)))

pub tokens_bound : (n m at : ℕ) (bs : List ℕ) → length bs < n → length bs < m → tokens_from n at bs ≡ tokens_from m at bs
unfolding tokens_from
tokens_bound zero m at bs l l' = let v : ⊥ = omega arith in absurd v
tokens_bound (suc n) zero at bs l l' = let v : ⊥ = omega arith in absurd v
tokens_bound (suc n) (suc m) at bs l l' =
    let rest = drop (gap bs) bs in
    let k = extent rest in
    let d = length-drop (gap bs) bs in
    same_tokens n m (at + gap bs) k rest (token (sort_of (take k rest)) (at + gap bs) (take k rest)) (omega arith) (omega arith) (no_extent rest)
    (λ a b. tokens_bound n m (at + gap bs + k) (drop k rest) a b) (eqb k 0) refl
