-- Machinery of the proof of demand 3, which nobody need read: where the roles stand and what the queues hold, how an action moves that, and
-- when it agrees with a running tree. Assumes nothing.
use Prim.Native.Nat.{ℕ}
use mathlib.Core.List.{List, [], ◌∷◌, ◌++◌}
use mathlib.Core.Logic.{◌≢◌}
use mathlib.Core.Path.{◌≡◌}
use native.Mathlib.Decide.{ℕ_discrete}
use Rattle.table.specs.Tree.{Global}
use Rattle.protocol.specs.Steps.{Action, send, receive}
use Rattle.protocol.proofs.Invariant.View.{View, Does}
use Rattle.protocol.proofs.Invariant.Covers.{Covers}
use Rattle.protocol.proofs.Invariant.Holds.{Holds}

-- the pair whose queue an action touches, and its message
abbrev pub sender : {A : Type 0} → Action A → ℕ
sender (send p q l v) = p
sender (receive p q l v) = p

abbrev pub receiver : {A : Type 0} → Action A → ℕ
receiver (send p q l v) = q
receiver (receive p q l v) = q

abbrev pub message : {A : Type 0} → Action A → ℕ × A
message (send p q l v) = (l, v)
message (receive p q l v) = (l, v)

pub data IsSend {A : Type 0} : Action A → Type 0 where
  is_send_lem : {p q l : ℕ} {v : A} → IsSend (send p q l v)

pub data IsReceive {A : Type 0} : Action A → Type 0 where
  is_receive_lem : {p q l : ℕ} {v : A} → IsReceive (receive p q l v)

-- ---- a function changed at one place

unfoldable pub choose : {B : Type 0} {r p : ℕ} → Dec (r ≡ p) → B → B → B
choose (yes e) x y = x
choose (no n) x y = y

unfoldable pub put : {B : Type 0} → (ℕ → B) → ℕ → B → ℕ → B
unfolding choose
put f p x r = choose (ℕ_discrete r p) x (f r)

pub put_all : {B : Type 0} (P : ℕ → B → Type 0) (f : ℕ → B) (p : ℕ) (x : B)
    → P p x → ((r : ℕ) → r ≢ p → P r (f r)) → (r : ℕ) → P r (put f p x r)
unfolding put
put_all P f p x h k r = go (ℕ_discrete r p)
  where
    go : (d : Dec (r ≡ p)) → P r (choose d x (f r))
    go (yes e) = rw e h
    go (no n) = k r n

unfoldable pub put_pair : {B : Type 0} → (ℕ → ℕ → B) → ℕ → ℕ → B → ℕ → ℕ → B
unfolding choose
put_pair f p q x r s = choose (ℕ_discrete r p) (choose (ℕ_discrete s q) x (f r s)) (f r s)

pub put_pair_all : {B : Type 0} (P : ℕ → ℕ → B → Type 0) (f : ℕ → ℕ → B) (p q : ℕ) (x : B)
    → P p q x → ((r s : ℕ) → ¬ ((r ≡ p) × (s ≡ q)) → P r s (f r s)) → (r s : ℕ) → P r s (put_pair f p q x r s)
unfolding put_pair
put_pair_all P f p q x h k r s = go (ℕ_discrete r p) (ℕ_discrete s q)
  where
    go : (d : Dec (r ≡ p)) (e : Dec (s ≡ q)) → P r s (choose d (choose e x (f r s)) (f r s))
    go (yes e) (yes e') = rw (e, e') h
    go (yes e) (no n) = k r s (λ t. n t.1)
    go (no n) e = k r s (λ t. n t.0)

-- ---- configurations

pub record Config (A : Type 0) : Type 0 where
  -- the head row of each role
  pub rows : ℕ → ℕ
  -- the labels and payloads of each pair, the oldest first
  pub queue : ℕ → ℕ → List (ℕ × A)

-- role r moved to row x, and the queue from p to q replaced
abbrev pub changed : {A : Type 0} → Config A → ℕ → ℕ → ℕ → ℕ → List (ℕ × A) → Config A
changed c r x p q w = record { rows = put c.rows r x; queue = put_pair c.queue p q w }

module _ {A : Type 0} (view : ℕ → ℕ → View) (head : ℕ → ℕ → ℕ) where
  -- role by role and queue by queue; whether a queue has room is asked elsewhere
  pub data Moves (c : Config A) : Action A → Config A → Type 0 where
    m_send : {p q l x : ℕ} {v : A} → Does (send p q l v) (view p (c.rows p)) x
        → Moves c (send p q l v) (changed c p (head p x) p q (c.queue p q ++ ((l, v) ∷ [])))
    m_receive : {p q l x : ℕ} {v : A} {w : List (ℕ × A)} → Does (receive p q l v) (view q (c.rows q)) x
        → c.queue p q ≡ ((l, v) ∷ w) → Moves c (receive p q l v) (changed c q (head q x) p q w)

  pub record Agree (G : Global A) (c : Config A) : Type 0 where
    pub covered : (r n : ℕ) → Covers (view r) (head r) r n G (c.rows r)
    pub held : (p q : ℕ) → Holds p q G (c.queue p q)

  -- only what stands at each place counts
  pub agree_same : {G : Global A} {c d : Config A} → Agree G c
      → ((r : ℕ) → c.rows r ≡ d.rows r) → ((p q : ℕ) → c.queue p q ≡ d.queue p q) → Agree G d
  agree_same g e f = record { covered = λ r n. rw (e r) at (g.covered r n); held = λ p q. rw (f p q) at (g.held p q) }
