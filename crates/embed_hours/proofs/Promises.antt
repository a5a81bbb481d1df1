-- Any two answers that meet the promise of the C call are equal: what is returned, what stands behind the pointers, every place of the lent
-- slice. Assumes nothing.
use Prim.Native.Nat.{ℕ}
use mathlib.Core.List.{List}
use mathlib.Core.Path.{◌≡◌, sym, ◌∙◌}
use Rattle.hours.specs.Figures.{Figures}
use Rattle.embed_hours.specs.Lent.{Reported}

-- gaugetwinkle_report
pub one_reported : (f : Figures) (places : List ℕ) (n m i j t u a b s r : ℕ) (k l : List ℕ) (v w x y : ℕ)
    → Reported f places n i t a s k v x → Reported f places m j u b r l w y
    → (n ≡ m) × (i ≡ j) × (t ≡ u) × (a ≡ b) × (s ≡ r) × (k ≡ l) × (v ≡ w) × (x ≡ y)
one_reported f places n m i j t u a b s r k l v w x y c d = (
  c.number_is ∙ sym d.number_is,
  c.place_is ∙ sym d.place_is,
  c.total_is ∙ sym d.total_is,
  c.awake_is ∙ sym d.awake_is,
  c.asleep_is ∙ sym d.asleep_is,
  c.alone_is ∙ sym d.alone_is,
  c.several_is ∙ sym d.several_is,
  c.nobody_is ∙ sym d.nobody_is,
)
