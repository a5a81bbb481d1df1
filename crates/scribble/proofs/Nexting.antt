-- The token at a place: the end of the text, a name or keyword, a mark or another byte. Assumes nothing.
use Prim.Native.Nat.{ℕ, ◌+◌, ◌≤◌, ◌<◌}
use mathlib.Core.Bool.{true, false}
use mathlib.Core.List.{List, [], ◌∷◌}
use mathlib.Core.Path.{◌≡◌, sym, ◌∙◌, ap}
use native.Mathlib.Omega.{arith}
use lib.ListN.{length, take, drop, get_or, drop_of_length-le}
use lib.Seq.{drop-cons}
use Rattle.scribble.specs.Tokens.{Sort, sort_number, in_name, gap, name_length, extent, sort_of}
use Rattle.scribble.specs.mirror.Scan.{mark_of, keyword_of, IsNext}
use Rattle.scribble.specs.mirror.Starts.{name_from}
use Rattle.scribble.proofs.Naming.{name_cons}
use Rattle.scribble.proofs.Counting.{name_length_lem}
use Rattle.scribble.proofs.Sorting.{sort_name, sort_mark}

module _ (text : List ℕ) (at start : ℕ) (s : start ≡ at + gap (drop at text)) where
  pub next_end : length text ≤ start → IsNext text at 20 start start
  unfolding extent sort_of
  next_end l =
      let e = drop_of_length-le text l in
      record { starts = s; ends = rw e (omega arith); sorted = rw e }

  name_sort : in_name (get_or text start 0) ≡ true → sort_of (name_from text start) ≡ keyword_of (name_from text start)
  name_sort i = rw (name_cons text start i) (sort_name (get_or text start 0) (name_from text (start + 1)) i)

  spelled_name : extent (drop start text) ≡ name_length (drop start text) → take (extent (drop start text)) (drop start text) ≡ name_from text start
  unfolding name_from
  spelled_name x = ap (λ (k : ℕ). take k (drop start text)) x

  module _ (l : start < length text) where
    pub next_name : (k : Sort) (end : ℕ) → in_name (get_or text start 0) ≡ true → k ≡ keyword_of (name_from text start) → end ≡ start + length (name_from text start)
        → IsNext text at (sort_number k) start end
    unfolding extent
    next_name k end i e f =
        let x : extent (drop start text) ≡ name_length (drop start text) = rw (drop-cons text start 0 l, i) in
        record {
          starts = s;
          ends = f ∙ ap (λ (n : ℕ). start + n) (name_length_lem text start ∙ sym x);
          sorted = ap sort_number (e ∙ (sym (name_sort i) ∙ ap sort_of (sym (spelled_name x))));
        }

    pub next_mark : (k : Sort) → in_name (get_or text start 0) ≡ false → k ≡ mark_of (get_or text start 0) → IsNext text at (sort_number k) start (start + 1)
    unfolding extent
    next_mark k i e =
        let d = drop-cons text start 0 l in
        let x : extent (drop start text) ≡ 1 = rw (d, i) in
        let t : take (extent (drop start text)) (drop start text) ≡ get_or text start 0 ∷ [] = ap (λ (n : ℕ). take n (drop start text)) x ∙ ap (take 1) d in
        record {
          starts = s;
          ends = ap (λ (n : ℕ). start + n) (sym x);
          sorted = ap sort_number (e ∙ (sym (sort_mark (get_or text start 0) i) ∙ ap sort_of (sym t)));
        }
