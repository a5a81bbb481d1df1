-- What a token is, by its first byte: a name or keyword where that is a byte of a name, else a mark or another byte. Assumes nothing.
use Prim.Native.Nat.{ℕ}
use mathlib.Core.Bool.{Bool, true, false, true≢false, cond, ◌&&◌, and-false, and-true}
use mathlib.Core.List.{List, [], ◌∷◌}
use mathlib.Core.Path.{◌≡◌, refl, sym, ◌∙◌, ap}
use lib.Dec.{eqb}
use borrow.Author.Tests.{ne_eqb}
use Rattle.std.proofs.Common.{Option, None, Some, Bor, map}
use Rattle.std.specs.List.{find}
use Rattle.std.specs.Str.{bytes_eq}
use Rattle.scribble.specs.declared.token.Sort.{Sort as Code}
use Rattle.scribble.specs.Tokens.{Sort, a_name, spelled_alike, in_name, Reserved, reserved_sort, sort_of}
use Rattle.scribble.specs.mirror.Scan.{mark_of, keyword_of}
use Rattle.scribble.specs.mirror.Sorts.{sort_meant, reserved_as}

-- a byte that no name has is none of a name's
no_mark : (m b : ℕ) → in_name m ≡ false → in_name b ≡ true → eqb m b ≡ false
no_mark m b p q = ne_eqb m b (λ e. true≢false (sym q ∙ (ap in_name (sym e) ∙ p)))

-- a name is no mark
pub sort_name : (b : ℕ) (bs : List ℕ) → in_name b ≡ true → sort_of (b ∷ bs) ≡ keyword_of (b ∷ bs)
unfolding sort_of keyword_of reserved_sort spelled_alike
sort_name b bs e =
    rw (
      e,
      no_mark 123 b refl e,
      no_mark 125 b refl e,
      no_mark 40 b refl e,
      no_mark 41 b refl e,
      no_mark 44 b refl e,
      no_mark 59 b refl e,
      no_mark 46 b refl e,
    )

-- a byte that no name has is no keyword
pub sort_mark : (b : ℕ) → in_name b ≡ false → sort_of (b ∷ []) ≡ mark_of b
unfolding sort_of mark_of reserved_sort spelled_alike
sort_mark b e = simp (and-false, and-true, e)

-- names are compared as bytes are
pub spelled_alike_bytes : (xs ys : List ℕ) → spelled_alike xs ys ≡ bytes_eq xs ys
unfolding spelled_alike
spelled_alike_bytes [] [] = refl
spelled_alike_bytes [] (y ∷ ys) = refl
spelled_alike_bytes (x ∷ xs) [] = refl
spelled_alike_bytes (x ∷ xs) (y ∷ ys) = ap (λ b. eqb x y && b) (spelled_alike_bytes xs ys)

-- the entries of a table of the code, as reserved words
abbrev pub entries : List (Bor (List ℕ) × Code) → List Reserved
entries table = map (λ k. reserved_as k.0.now k.1) table

-- what a search for the entry of a word answers
abbrev pub entry_sort : Option (Bor (List ℕ) × Code) → Sort
entry_sort None = a_name
entry_sort (Some k) = sort_meant k.1

pub reserved_sort_find : (table : List (Bor (List ℕ) × Code)) (s : List ℕ) → reserved_sort (entries table) a_name s ≡ entry_sort (find (λ k. bytes_eq k.0.now s) table)
unfolding reserved_sort
reserved_sort_find [] s = refl
reserved_sort_find (k ∷ ks) s = rw (spelled_alike_bytes k.0.now s) (by (reserved_sort_find ks s) (bytes_eq k.0.now s))
  where
    by : reserved_sort (entries ks) a_name s ≡ entry_sort (find (λ k'. bytes_eq k'.0.now s) ks)
        → (t : Bool) → cond t (sort_meant k.1) (reserved_sort (entries ks) a_name s) ≡ entry_sort (cond t (Some k) (find (λ k'. bytes_eq k'.0.now s) ks))
    by e true = refl
    by e false = e
