-- Any two answers that meet the promise of a C call are equal: what is returned, what stands behind the pointers, every word of the
-- lent slices. Assumes nothing.
use Prim.Native.Nat.{ℕ}
use mathlib.Core.List.{List}
use mathlib.Core.Path.{◌≡◌, sym, ◌∙◌, ap}
use Rattle.table.specs.Limits.{Limits}
use Rattle.table.specs.Check.{says}
use Rattle.table.specs.Check.{Verdict}
use Rattle.opening.specs.Opening.{Opens}
use Rattle.opening.proofs.Promises.{one_open, one_room}
use Rattle.session.specs.Answers.{Answer, Awaiting}
use Rattle.embed.specs.Lent.{Handed, Answered, Delivered, Told}

-- gaugetwinkle_open
pub one_opened : (lim : Limits) (t : List ℕ) (roles : ℕ) (room : List ℕ) (n m at by : ℕ) (r s : List ℕ)
    → Opens lim t roles room (says n at) r → Opens lim t roles room (says m by) s → (n ≡ m) × (at ≡ by) × (r ≡ s)
one_opened lim t roles room n m at by r s a b =
    let e = one_open lim t roles room (says n at) (says m by) r s a b in
    (ap (λ (v : Verdict). v.number) e, ap (λ (v : Verdict). v.place) e, one_room lim t roles room (says n at) (says m by) r s a b)

-- gaugetwinkle_fresh
pub one_handed : (a : Answer) (n m : ℕ) (h i c d l k p q : List ℕ) → Handed a n h c l p → Handed a m i d k q
    → (n ≡ m) × (h ≡ i) × (c ≡ d) × (l ≡ k) × (p ≡ q)
one_handed a n m h i c d l k p q x y = (
  x.number_is ∙ sym y.number_is,
  x.heads_are ∙ sym y.heads_are,
  x.counts_are ∙ sym y.counts_are,
  x.labels_are ∙ sym y.labels_are,
  x.payloads_are ∙ sym y.payloads_are,
)

-- gaugetwinkle_send
pub one_answered : (a : Answer) (n m f g : ℕ) (h i c d l k p q : List ℕ) → Answered a n f h c l p → Answered a m g i d k q
    → (f ≡ g) × (n ≡ m) × (h ≡ i) × (c ≡ d) × (l ≡ k) × (p ≡ q)
one_answered a n m f g h i c d l k p q x y =
    let rest = one_handed a n m h i c d l k p q x.handed y.handed in
    (x.offered_is ∙ sym y.offered_is, rest.0, rest.1, rest.2, rest.3, rest.4)

-- gaugetwinkle_receive
pub one_delivered : (a : Answer) (n m j o v w f g : ℕ) (h i c d l k p q : List ℕ) → Delivered a n j v f h c l p → Delivered a m o w g i d k q
    → (j ≡ o) × (v ≡ w) × (f ≡ g) × (n ≡ m) × (h ≡ i) × (c ≡ d) × (l ≡ k) × (p ≡ q)
one_delivered a n m j o v w f g h i c d l k p q x y =
    let rest = one_answered a n m f g h i c d l k p q x.answered y.answered in
    (x.label_is ∙ sym y.label_is, x.payload_is ∙ sym y.payload_is, rest.0, rest.1, rest.2, rest.3, rest.4, rest.5)

-- gaugetwinkle_awaited
pub one_told : (a : Awaiting) (n m s t c d l k : ℕ) → Told a n s c l → Told a m t d k → (n ≡ m) × (s ≡ t) × (c ≡ d) × (l ≡ k)
one_told a n m s t c d l k x y = (
  x.number_is ∙ sym y.number_is,
  x.set_is ∙ sym y.set_is,
  x.count_is ∙ sym y.count_is,
  x.lowest_is ∙ sym y.lowest_is,
)
