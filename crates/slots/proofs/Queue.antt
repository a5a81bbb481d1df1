-- Laws of one pair's slots in a column. Assumes nothing.
use Prim.Native.Nat.{ℕ, ◌+◌, ◌<◌, ◌≤◌}
use mathlib.Core.List.{List, ◌++◌, append_assoc}
use mathlib.Core.Path.{◌≡◌, sym, ◌∙◌, ap}
use lib.ListN.{length, set, take, drop, length-set, length-drop, take-append-drop}
use lib.Seq.{sets, sets-eq, set-append_left, take-set-le, drop-set-add, drop-drop, length-take-le}
use native.Mathlib.Omega.{arith}

module _ {A : Type 0} (ws : List A) (i : ℕ) where
  -- four words written from a place on, and what stands before and behind them
  pub sets-four : (held : List A) → i + 4 ≤ length ws → length held ≡ 4 → sets ws i held ≡ take i ws ++ (held ++ drop 4 (drop i ws))
  sets-four held long four =
      sets-eq held ws i (omega (arith, long, four))
      ∙ append_assoc (take i ws) held _
      ∙ rw four (ap (λ r. take i ws ++ (held ++ r)) (sym (drop-drop 4 i ws)))

  -- a queue's slots, read with one of them changed and written back
  pub sets-slot : (k : ℕ) (x : A) → i + 4 ≤ length ws → k < 4 → sets ws i (set (take 4 (drop i ws)) k x) ≡ set ws (i + k) x
  sets-slot k x long low =
      let rest = drop i ws in
      let many : length (take 4 rest) ≡ 4 = length-take-le 4 rest (omega (arith, length-drop i ws, long)) in
      sets-four (set (take 4 rest) k x) long (length-set (take 4 rest) k x ∙ many)
      ∙ ap (λ r. take i ws ++ r)
      (sym (set-append_left (take 4 rest) (drop 4 rest) k x (omega (arith, many, low)))
      ∙ ap (λ r. set r k x) (take-append-drop 4 rest)
      ∙ sym (drop-set-add i ws k x))
      ∙ ap (λ r. r ++ drop i (set ws (i + k) x)) (sym (take-set-le i ws (i + k) x (omega arith)))
      ∙ take-append-drop i (set ws (i + k) x)
