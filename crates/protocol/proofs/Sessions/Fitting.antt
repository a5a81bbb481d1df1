-- Calls that fit keep a session's columns within the code's types; and the blocks that an opening writes are words. Assumes nothing.
use Prim.Native.Nat.{ℕ, ◌*◌, zero, suc, ◌+◌, ◌-◌, ◌^◌, ◌≤◌, ◌<◌}
use mathlib.Core.Bool.{Bool, true, ◌&&◌}
use mathlib.Core.List.{List, [], ◌∷◌, ◌++◌}
use mathlib.Core.Path.{◌≡◌}
use native.Mathlib.Decide.{dec_lt}
use native.Mathlib.Nat.{mul-le-mul_right}
use native.Mathlib.Omega.{arith}
use lib.Dec.{ltb}
use lib.ListN.{get_or, length, set, take, drop, replicate}
use lib.Seq.{sets}
use borrow.Author.Tests.{ltb-true}
use Rattle.table.specs.Limits.{base}
use Rattle.table.specs.Tree.{Global}
use Rattle.table.proofs.Tests.{both}
use Rattle.parts.specs.Part.{Part, PartArms, p_nil, p_arm}
use Rattle.parts.specs.Layout.{size, size_arms, next_arm, layout, layout_arms, block, block_of}
use Rattle.opening.specs.Opening.{blocks}
use Rattle.blocks.specs.Block.{block_rows}
use Rattle.blocks.specs.Head.{head}
use Rattle.state.specs.State.{slot}
use Rattle.session.specs.State.{held, forward, moved, pushed, taken, nothing}
use Rattle.session.specs.Answers.{Answer}
use Rattle.session.specs.declared.Session.{Session}
use Rattle.protocol.specs.Each.{Each, each_nil, each_cons}
use Rattle.protocol.specs.Engine.{Call, sends, receives, answer_to}
use Rattle.protocol.specs.Fits.{Bits, Words, Fits, fits_send, FitsSession}
use Rattle.protocol.proofs.Parts.Sound.{Sound, s_end, s_send, s_receive, s_loop, s_back, SoundArms, s_nil, s_arm}
use Rattle.protocol.proofs.Blocks.Opening.{Opened}
use Rattle.protocol.proofs.Blocks.Tables.{TreeKept, part_fits, part_sound, length_tables, block_rows_lem}
use Rattle.protocol.proofs.Sessions.Calls.{SendCase, send_refused, send_unknown, send_accepted, ReceiveCase, receive_refused, receive_accepted}
use Rattle.protocol.proofs.Sessions.Runs.{Ground, Inv, send_target, the_send, the_receive}

-- ---- lists

module _ {X : Type 0} {P : X → Type 0} where
  pub each_append : {xs ys : List X} → Each P xs → Each P ys → Each P (xs ++ ys)
  each_append each_nil g = g
  each_append (each_cons h f) g = each_cons h (each_append f g)

  pub each_take : (n : ℕ) {xs : List X} → Each P xs → Each P (take n xs)
  each_take zero f = each_nil
  each_take (suc n) each_nil = each_nil
  each_take (suc n) (each_cons h f) = each_cons h (each_take n f)

  pub each_drop : (n : ℕ) {xs : List X} → Each P xs → Each P (drop n xs)
  each_drop zero f = f
  each_drop (suc n) each_nil = each_nil
  each_drop (suc n) (each_cons h f) = each_drop n f

  each_set : {xs : List X} (i : ℕ) (x : X) → P x → Each P xs → Each P (set xs i x)
  each_set i x h each_nil = each_nil
  each_set zero x h (each_cons k f) = each_cons h f
  each_set (suc i) x h (each_cons k f) = each_cons k (each_set i x h f)

  each_sets : (i : ℕ) {xs : List X} (ys : List X) → Each P ys → Each P xs → Each P (sets xs i ys)
  each_sets i [] each_nil f = f
  each_sets i (y ∷ ys) (each_cons h g) f = each_sets (suc i) ys g (each_set i y h f)

  pub each_replicate : (n : ℕ) (x : X) → P x → Each P (replicate n x)
  each_replicate zero x h = each_nil
  each_replicate (suc n) x h = each_cons h (each_replicate n x h)

  each_at : {xs : List X} (i : ℕ) (x : X) → P x → Each P xs → P (get_or xs i x)
  each_at i x h each_nil = h
  each_at zero x h (each_cons k f) = k
  each_at (suc i) x h (each_cons k f) = each_at i x h f

  at_each : (xs : List X) (x : X) → ((i : ℕ) → i < length xs → P (get_or xs i x)) → Each P xs
  at_each [] x f = each_nil
  at_each (y ∷ ys) x f = each_cons (f 0 (omega arith)) (at_each ys x (λ i h. f (suc i) (omega arith)))

zero_fits : (b : ℕ) → 0 < 2 ^ b → {ws : List ℕ} → Bits b ws → Bits b (forward ws)
zero_fits b h each_nil = each_nil
zero_fits b h (each_cons k f) = each_append f (each_cons h each_nil)

-- by computation
abbrev pub all_below : ℕ → List ℕ → Bool
all_below n [] = true
all_below n (w ∷ ws) = ltb w n && all_below n ws

pub bits : (b : ℕ) (ws : List ℕ) → all_below (2 ^ b) ws ≡ true → Bits b ws
bits b [] e = each_nil
bits b (w ∷ ws) e = let (h, t) = both (ltb w (2 ^ b)) (all_below (2 ^ b) ws) e in each_cons (ltb-true w (2 ^ b) h) (bits b ws t)

-- ---- the queues

-- the heads of a good state fit, and so do the lengths
pub record Small (s : Session) : Type 0 where
  pub counts : Bits 8 s.counts
  pub labels : Bits 8 s.labels
  pub payloads : Bits 32 s.payloads

sent_small : {s : Session} (p q l v x : ℕ) → held base s p q < base.depth → l < base.labels → v < 2 ^ 32 → Small s → Small (moved (pushed base s p q l v) p x)
sent_small p q l v x room low fits k = record {
  counts = each_set _ _ (omega arith) k.counts;
  labels = each_set _ _ (omega arith) k.labels;
  payloads = each_set _ _ fits k.payloads;
}

taken_small : {s : Session} (p q x : ℕ) → Small s → Small (moved (taken base s p q) q x)
taken_small {s} p q x k =
    let small : held base s p q < 2 ^ 8 = each_at _ 0 (omega arith) k.counts in
    record {
      counts = each_set _ _ (omega arith) k.counts;
      labels = each_sets (slot base p q 0) _ (zero_fits 8 (omega arith) (each_take base.depth (each_drop (slot base p q 0) k.labels))) k.labels;
      payloads = each_sets (slot base p q 0) _ (zero_fits 32 (omega arith) (each_take base.depth (each_drop (slot base p q 0) k.payloads))) k.payloads;
    }

module _ (ts : List ℕ) (roles : ℕ) (ground : Ground base ts roles) (s : Session) (G : Global ℕ) (inv : Inv base ts roles s G) where
  sent_fits : {p q l v : ℕ} {a : Answer} → v < 2 ^ 32 → Small s → SendCase base ts roles s p q l v a → Small a.state
  sent_fits h k (send_refused n cannot) = k
  sent_fits h k (send_unknown arms f e) = k
  sent_fits {p} {q} {l} {v} h k (send_accepted c two d room) =
      sent_small p q l v (head ts roles p c) room (send_target base ts roles ground s G inv p q l v c d).low h k

  received_fits : {p q : ℕ} {a : Answer} → Small s → ReceiveCase base ts roles s p q a → Small a.state
  received_fits k (receive_refused n cannot) = k
  received_fits {p} {q} k (receive_accepted c two d some_held) = taken_small p q (head ts roles q c) k

  pub small_after : (c : Call) → Fits c → Small s → Small (answer_to base ts roles c s).state
  unfolding answer_to
  small_after (sends p q l v) (fits_send _ _ _ h) k = sent_fits h k (the_send base ts roles ground s G inv p q l v)
  small_after (receives p q) _ k = received_fits k (the_receive base ts roles ground s G inv p q)

  pub session_fits : block_rows ts roles ≤ base.rows → Small s → FitsSession s
  session_fits few k = record {
    heads = (inv.kept.heads_sized, at_each s.heads 0 (λ i h. head_fits i h (dec_lt i roles)));
    counts = (inv.kept.counts_sized, k.counts);
    labels = (inv.kept.labels_sized, k.labels);
    payloads = (inv.kept.payloads_sized, k.payloads);
  }
    where
      head_fits : (i : ℕ) → i < length s.heads → Dec (i < roles) → get_or s.heads i 0 < 2 ^ 16
      head_fits i h (yes t) = omega (arith, inv.kept.heads_in i t)
      head_fits i h (no t) = omega (arith, inv.kept.heads_none i (omega arith) (omega (arith, inv.kept.heads_sized)))

pub small_nothing : Small (nothing base)
small_nothing = record {
  counts = each_replicate (base.roles * base.roles) 0 (omega arith);
  labels = each_replicate (base.roles * base.roles * base.depth) 0 (omega arith);
  payloads = each_replicate (base.roles * base.roles * base.depth) 0 (omega arith);
}

-- ---- the words of a part's rows

four_fit : (a b c d : ℕ) → a < 2 ^ 16 → b < 2 ^ 16 → c < 2 ^ 16 → d < 2 ^ 16 → Bits 16 (a ∷ b ∷ c ∷ d ∷ [])
four_fit a b c d h i j k = each_cons h (each_cons i (each_cons j (each_cons k each_nil)))

mutual
  unfolding layout size next_arm

  layout_fits : {roles labels r d : ℕ} {P : Part} (i : ℕ) (around : List ℕ) → roles ≤ base.roles → labels ≤ base.labels → Sound roles labels r d P
      → Bits 16 around → i + size P ≤ base.rows → Bits 16 (layout i around P)
  layout_fits i around few low s_end f h = four_fit 0 0 0 0 (omega arith) (omega arith) (omega arith) (omega arith)
  layout_fits i around few low (s_send {ps = ps} q n sm t) f h =
      each_append (four_fit 5 _ (suc i) 0 (omega arith) (omega arith) (omega arith) (omega arith)) (layout_arms_fits (suc i) around few low t f (omega arith))
  layout_fits i around few low (s_receive q n sm t) f h =
      each_append (four_fit 6 _ (suc i) 0 (omega arith) (omega arith) (omega arith) (omega arith)) (layout_arms_fits (suc i) around few low t f (omega arith))
  layout_fits i around few low (s_loop n t) f h =
      each_append (four_fit 3 (suc i) 0 0 (omega arith) (omega arith) (omega arith) (omega arith))
      (layout_fits (suc i) (i ∷ around) few low t (each_cons (omega arith) f) (omega arith))
  layout_fits i around few low (s_back {k = k} b) f h =
      four_fit 4 (get_or around k 0) 0 0 (omega arith) (each_at k 0 (omega arith) f) (omega arith) (omega arith)

  layout_arms_fits : {roles labels r d : ℕ} {ps : PartArms} (i : ℕ) (around : List ℕ) → roles ≤ base.roles → labels ≤ base.labels → SoundArms roles labels r d ps
      → Bits 16 around → i + size_arms ps ≤ base.rows → Bits 16 (layout_arms i around ps)
  layout_arms_fits i around few low s_nil f h = each_nil
  layout_arms_fits i around few low (s_arm {l = l} {P = P} {ps = ps} k a t ts) f h =
      each_append (each_append (four_fit 2 l (suc i) (next_arm (suc i + size P) ps) (omega arith) (omega arith) (omega arith) (next ps h))
      (layout_fits (suc i) around few low t f (omega arith))) (layout_arms_fits (suc i + size P) around few low ts f (omega arith))
    where
      next : (qs : PartArms) → i + suc (size P + size_arms qs) ≤ base.rows → next_arm (suc i + size P) qs < 2 ^ 16
      next p_nil h = omega arith
      next (p_arm l P' qs) h = omega arith

block_fits : {roles labels r d : ℕ} (n : ℕ) {P : Part} → roles ≤ base.roles → labels ≤ base.labels → Sound roles labels r d P → size P ≤ base.rows → Bits 16 (block n P)
unfolding block
block_fits n {P} few low t h =
    each_append (layout_fits 0 [] few low t each_nil (omega arith)) (each_replicate (n - length (layout 0 [] P)) 0 (omega arith))

module _ (t : List ℕ) (roles : ℕ) (o : Opened base t roles) (kept : TreeKept base t roles) where
  first_blocks : (n : ℕ) → n ≤ roles → Bits 16 (blocks t n)
  unfolding blocks block_of
  first_blocks zero h = each_nil
  first_blocks (suc n) h =
      let (P, e) = o.parts n h in
      let size_is : size P ≤ base.rows = omega (arith, part_fits base t roles o kept n P e, o.few_rows) in
      each_append (first_blocks n (omega arith)) (rw e (
      block_fits (length t) o.few_roles (omega arith) (part_sound base t roles o kept n P e) size_is))

  -- the blocks fit, and each has few rows
  pub blocks_words : Words (blocks t roles)
  blocks_words = record {
    sized = omega (arith, length_tables base t roles o kept, mul-le-mul_right {m = roles} {n = base.roles} (length t) o.few_roles, o.whole, o.few_rows);
    small = first_blocks roles (omega arith);
  }

  pub few_block_rows : block_rows (blocks t roles) roles ≤ base.rows
  few_block_rows = omega (arith, block_rows_lem base t roles o kept, o.few_rows)
