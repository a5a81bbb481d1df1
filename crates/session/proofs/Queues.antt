-- Laws of one pair's four slots, as an accepted receive leaves them. Assumes nothing.
use Prim.Native.Nat.{ℕ, suc, ◌+◌, ◌*◌, ◌-◌, ◌<◌, ◌≤◌}
use mathlib.Core.List.{List, [], ◌∷◌}
use mathlib.Core.Path.{◌≡◌, refl, ◌∙◌}
use lib.ListN.{length, get_or, set, take, drop}
use lib.Seq.{sets, drop-cons}
use native.Mathlib.Nat.{add-zero}
use native.Mathlib.Numerals.{sub-one}
use native.Mathlib.Omega.{arith}
use borrow.Author.Tests.{lt-ltb}
use Rattle.table.specs.Limits.{base}
use Rattle.slots.specs.mirror.Slots as slots
use Rattle.slots.specs.mirror.Slots.{pushed_at, oldest, came_forward}
use Rattle.session.specs.State.{forward, held, moved, pushed, taken}
use Rattle.session.specs.declared.Session.{Session}
use Rattle.session.specs.declared.answers.Message.{Message}
use Rattle.session.specs.mirror.Taken.{first_message}

-- four words written one by one
pub four_sets : (ws : List ℕ) (i a b c d : ℕ) → set (set (set (set ws i a) (i + 1) b) (i + 2) c) (i + 3) d ≡ sets ws (i + 0) (a ∷ b ∷ c ∷ d ∷ [])
four_sets ws i a b c d =
    let e1 : i + 1 ≡ suc i = omega arith in
    let e2 : i + 2 ≡ suc (suc i) = omega arith in
    let e3 : i + 3 ≡ suc (suc (suc i)) = omega arith in
    rw (e1, e2, e3, add-zero i)

-- without the first: the rest come forward
pub four_forward : (ws : List ℕ) (i : ℕ) → i + 4 ≤ length ws
    → forward (take 4 (drop (i + 0) ws)) ≡ get_or ws (i + 1) 0 ∷ get_or ws (i + 2) 0 ∷ get_or ws (i + 3) 0 ∷ 0 ∷ []
four_forward ws i h =
    let e1 : i + 1 ≡ suc i = omega arith in
    let e2 : i + 2 ≡ suc (suc i) = omega arith in
    let e3 : i + 3 ≡ suc (suc (suc i)) = omega arith in
    rw (
      add-zero i,
      drop-cons ws i 0 (omega arith),
      drop-cons ws (suc i) 0 (omega arith),
      drop-cons ws (suc (suc i)) 0 (omega arith),
      drop-cons ws (suc (suc (suc i))) 0 (omega arith),
      e1,
      e2,
      e3,
    )

-- the slots of one pair without the first
same_forward : (ws : List ℕ) → slots.forward 0 ws ≡ forward ws
same_forward [] = refl
same_forward (w ∷ ws) = refl

came_forward_lem : (ws : List ℕ) (pair : ℕ) → pair < 64 → came_forward base 0 ws pair ≡ sets ws (pair * 4 + 0) (forward (take 4 (drop (pair * 4 + 0) ws)))
came_forward_lem ws pair l = rw (lt-ltb pair 64 l, add-zero (pair * 4), same_forward (take 4 (drop (pair * 4) ws)))

first_held : (ws : List ℕ) (pair : ℕ) → pair < 64 → oldest base 0 ws pair ≡ get_or ws (pair * 4 + 0) 0
first_held ws pair l = rw (lt-ltb pair 64 l)

-- what an accepted send leaves: labels and payloads are what there was with the message in the first free slot
pub push_read : (s : Session) (p q l v h : ℕ) {free : ℕ} {labels payloads : List ℕ} → p < 8 → q < 8 → held base s p q < 4
    → free ≡ held base s p q → labels ≡ pushed_at base s.labels (p * 8 + q) free l → payloads ≡ pushed_at base s.payloads (p * 8 + q) free v
    → ◌≡◌ {A = Session} (record {
      heads = set s.heads p h;
      counts = set s.counts (p * 8 + q) (held base s p q + 1);
      labels = labels;
      payloads = payloads;
    }) (moved (pushed base s p q l v) p h)
push_read s p q l v h lp lq room is fl fp =
    let low : p * 8 + q < 64 = omega arith in
    rw (fl, fp, is, lt-ltb (p * 8 + q) 64 low, lt-ltb (held base s p q) 4 room)

-- what an accepted receive leaves: l and v were handed out of the queue's slots, and labels and payloads are what is left
pub taken_read : (s : Session) (p q h : ℕ) {l v : ℕ} {labels payloads : List ℕ} → p < 8 → q < 8
    → l ≡ oldest base 0 s.labels (p * 8 + q) → v ≡ oldest base 0 s.payloads (p * 8 + q)
    → labels ≡ came_forward base 0 s.labels (p * 8 + q) → payloads ≡ came_forward base 0 s.payloads (p * 8 + q)
    → ◌≡◌ {A = Message} (record { label = l; payload = v }) (first_message base s p q)
    × ◌≡◌ {A = Session} (record { heads = set s.heads q h; counts = set s.counts (p * 8 + q) (get_or s.counts (p * 8 + q) 0 - 1); labels = labels; payloads = payloads })
    (moved (taken base s p q) q h)
taken_read s p q h lp lq el ev fl fp =
    let low : p * 8 + q < 64 = omega arith in (
      rw (el ∙ first_held s.labels (p * 8 + q) low, ev ∙ first_held s.payloads (p * 8 + q) low),
      rw (fl ∙ came_forward_lem s.labels (p * 8 + q) low, fp ∙ came_forward_lem s.payloads (p * 8 + q) low, sub-one (get_or s.counts (p * 8 + q) 0)),
    )
