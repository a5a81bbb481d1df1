-- An accepted call leaves a well-formed state. Assumes nothing.
use Prim.Native.Nat.{ℕ, zero, suc, pred, ◌+◌, ◌*◌, ◌<◌, ◌≤◌}
use mathlib.Core.Bool.{Bool, true, false, cond, ◌&&◌, ◌||◌, not, true≢false, or-true}
use mathlib.Core.List.{List, []}
use mathlib.Core.Logic.{◌⊎◌, inl, inr, ⊎_elim}
use mathlib.Core.Path.{◌≡◌, refl, sym, ◌∙◌, ap}
use lib.Dec.{eqb, ltb, leb}
use lib.ListN.{length, get_or, set, take, drop, length-set, get_or-append}
use lib.Seq.{sets, length-sets, get_or-set_same, get_or-set_other, get_or_at}
use native.Mathlib.Omega.{arith}
use borrow.Author.Tests.{lt-ltb, le-ltb, ltb-true, ltb-false, leb-true, le-leb, eqb-true, eqb-false}
use Rattle.words.specs.Below.{every}
use Rattle.words.proofs.Below.{every_all, every_at}
use Rattle.words.proofs.Zeros.{zeros}
use Rattle.table.specs.Limits.{base}
use Rattle.blocks.specs.Block.{part_row, block_rows, is_head, PartRow, End, Arm, Loop, Back, Send, Receive, Other, is_arm}
use Rattle.blocks.specs.Head.{head}
use Rattle.blocks.specs.Tables.{tables_good, row_holds}
use Rattle.state.specs.State.{are_pair, head_good, slot_good, queue_good}
use Rattle.std.specs.Prelude.{Result, Ok, Err}
use Rattle.state.specs.declared.Refusal.{Refusal}
use Rattle.state.specs.mirror.Judged.{send_judged, receive_judged}
use Rattle.session.specs.State.{listed, held, label_at, payload_at, nothing, state_good, moved, pushed, taken, forward}
use Rattle.session.specs.declared.Session.{Session}
use Rattle.session.specs.Calls.{answers, refused_if, first_heads, fresh_of, send_of, receive_of}
use Rattle.blocks.proofs.Good.{both, sized_bounds}
use Rattle.blocks.proofs.Sound.{good_sized, row_holds_lem, row_headed, head_in}
use Rattle.state.proofs.Sound.{pair_in, queue_good_lem, head_good_lem, state_from}
use Rattle.session.proofs.Accepted.{send_accepted, receive_accepted}
use Rattle.session.proofs.First.{length_first}
use Rattle.session.proofs.Queues.{four_forward, four_sets}
use Rattle.session.proofs.Calling.{after_send, after_send_lem, after_receive, after_receive_lem}

-- the lengths that the state's type gives its arrays
pub record Shaped (s : Session) : Type 0 where
  pub heads_are : length s.heads ≡ 8
  pub counts_are : length s.counts ≡ 64
  pub labels_are : length s.labels ≡ 256
  pub payloads_are : length s.payloads ≡ 256

lt_or_le : (a b : ℕ) → (a < b) ⊎ (b ≤ a)
lt_or_le a b = decide (ltb a b) refl
  where
    decide : (t : Bool) → ltb a b ≡ t → (a < b) ⊎ (b ≤ a)
    decide true e = inl (ltb-true a b e)
    decide false e = inr (ltb-false a b e)

same_or_not : (a b : ℕ) → (a ≡ b) ⊎ (a ≡ b → ⊥)
same_or_not a b = decide (eqb a b) refl
  where
    decide : (t : Bool) → eqb a b ≡ t → (a ≡ b) ⊎ (a ≡ b → ⊥)
    decide true e = inl (eqb-true a b e)
    decide false e = inr (eqb-false a b e)

-- ---- what a good queue says
record Queue (roles : ℕ) (s : Session) (p q : ℕ) : Type 0 where
  few : held base s p q ≤ 4
  there : (are_pair roles p q || eqb (held base s p q) 0) ≡ true
  used : (k : ℕ) → k < 4 → k < held base s p q → label_at base s p q k < 64
  free : (k : ℕ) → k < 4 → held base s p q ≤ k → (label_at base s p q k ≡ 0) × (payload_at base s p q k ≡ 0)

module _ (roles : ℕ) (s : Session) (p q : ℕ) where
  queue_says : queue_good base roles (listed s) p q ≡ true → Queue roles s p q
  queue_says e =
      let (ab, c) = both (leb (held base s p q) 4 && (are_pair roles p q || eqb (held base s p q) 0)) (every (slot_good base (listed s) p q) 4) e in
      let (a, b) = both (leb (held base s p q) 4) (are_pair roles p q || eqb (held base s p q) 0) ab in
      record {
        few = leb-true _ _ a;
        there = b;
        used = λ k l m. let t : slot_good base (listed s) p q k ≡ true = every_at (slot_good base (listed s) p q) 4 k c l in ltb-true _ _ (rw (lt-ltb k (held base s p q) m) at t);
        free = λ k l m.
            let t : slot_good base (listed s) p q k ≡ true = every_at (slot_good base (listed s) p q) 4 k c l in
            let u : (eqb (label_at base s p q k) 0 && eqb (payload_at base s p q k) 0) ≡ true = rw (le-ltb k (held base s p q) m) at t in
            let (x, y) = both (eqb (label_at base s p q k) 0) (eqb (payload_at base s p q k) 0) u in
            (eqb-true _ _ x, eqb-true _ _ y);
      }

  slot_from : Queue roles s p q → (k : ℕ) → k < 4 → slot_good base (listed s) p q k ≡ true
  slot_from g k l =
      ⊎_elim
      (λ m. rw (lt-ltb k (held base s p q) m, lt-ltb (label_at base s p q k) 64 (g.used k l m)))
      (λ m. let f = g.free k l m in rw (le-ltb k (held base s p q) m, f.0, f.1))
      (lt_or_le k (held base s p q))

  queue_from : Queue roles s p q → queue_good base roles (listed s) p q ≡ true
  queue_from g = rw (le-leb (held base s p q) 4 g.few, g.there, every_all (slot_good base (listed s) p q) 4 (λ k l. slot_from g k l))

-- ---- heads

module _ (ts : List ℕ) (roles : ℕ) (s : Session) (shaped : Shaped s) (good : state_good base ts roles s ≡ true) (r h : ℕ) (present : r < roles) (low : r < 8)
    (inside : h < block_rows ts roles) (stands : is_head (part_row ts roles r h) ≡ true) where
  -- a role that moved to a head of its block, and the others where they stood
  moved_heads : (t : ℕ) → t < 8 → (m : Session) → m.heads ≡ set s.heads r h → head_good ts roles (listed m) t ≡ true
  moved_heads t l m e =
      ⊎_elim
      (λ (z : t ≡ r). let here : get_or m.heads t 0 ≡ h = rw (e, z) (get_or-set_same s.heads r h 0 (omega (arith, shaped.heads_are))) in
      rw (here, z, lt-ltb r roles present, lt-ltb h (block_rows ts roles) inside, stands))
      (λ z. let same : get_or m.heads t 0 ≡ get_or s.heads t 0 = rw e (get_or-set_other s.heads r t h 0 z) in
      rw same (head_good_lem ts roles (listed s) good t l))
      (same_or_not t r)

-- ---- queues

-- two pairs with one number are one pair
one_pair : (p q x y : ℕ) → q < 8 → y < 8 → x * 8 + y ≡ p * 8 + q → (x ≡ p) × (y ≡ q)
one_pair p q x y a b e = (omega arith, omega arith)

other_pair : (p q x y : ℕ) → ((x ≡ p) × (y ≡ q)) ⊎ (q < 8 → y < 8 → x * 8 + y ≡ p * 8 + q → ⊥)
other_pair p q x y =
    ⊎_elim
    (λ a. ⊎_elim (λ b. inl (a, b)) (λ b. inr (λ l m e. b (one_pair p q x y l m e).1)) (same_or_not y q))
    (λ a. inr (λ l m e. a (one_pair p q x y l m e).0))
    (same_or_not x p)

-- a queue that kept what it held
same_queue : (roles : ℕ) (s m : Session) (x y : ℕ) → held base m x y ≡ held base s x y
    → ((k : ℕ) → k < 4 → (label_at base m x y k ≡ label_at base s x y k) × (payload_at base m x y k ≡ payload_at base s x y k)) → Queue roles s x y → Queue roles m x y
same_queue roles s m x y e f g = record {
  few = rw e g.few;
  there = rw e g.there;
  used = λ k l u. let v : k < held base s x y = rw e at u in rw (f k l).0 (g.used k l v);
  free = λ k l u. let v : held base s x y ≤ k = rw e at u in let w = g.free k l v in ((f k l).0 ∙ w.0, (f k l).1 ∙ w.1);
}

-- a send's queue
module _ (roles : ℕ) (s : Session) (shaped : Shaped s) (p q l v h : ℕ) (lp : p < 8) (lq : q < 8) (room : held base s p q < 4) where
  pushed_other : (x y : ℕ) → x < 8 → y < 8 → (x * 8 + y ≡ p * 8 + q → ⊥) → Queue roles s x y → Queue roles (moved (pushed base s p q l v) p h) x y
  pushed_other x y lx ly n g =
      same_queue roles s (moved (pushed base s p q l v) p h) x y
      (get_or-set_other s.counts (p * 8 + q) (x * 8 + y) (held base s p q + 1) 0 n)
      (λ k m. (
        get_or-set_other s.labels ((p * 8 + q) * 4 + held base s p q) ((x * 8 + y) * 4 + k) l 0 (λ e. n (omega arith)),
        get_or-set_other s.payloads ((p * 8 + q) * 4 + held base s p q) ((x * 8 + y) * 4 + k) v 0 (λ e. n (omega arith)),
      )) g

  pushed_held : held base (moved (pushed base s p q l v) p h) p q ≡ held base s p q + 1
  pushed_held = get_or-set_same s.counts (p * 8 + q) (held base s p q + 1) 0 (omega (arith, shaped.counts_are))

  pushed_label : (k : ℕ) → (k ≡ held base s p q → ⊥) → label_at base (moved (pushed base s p q l v) p h) p q k ≡ label_at base s p q k
  pushed_label k n = get_or-set_other s.labels ((p * 8 + q) * 4 + held base s p q) ((p * 8 + q) * 4 + k) l 0 (λ e. n (omega arith))

  pushed_payload : (k : ℕ) → (k ≡ held base s p q → ⊥) → payload_at base (moved (pushed base s p q l v) p h) p q k ≡ payload_at base s p q k
  pushed_payload k n = get_or-set_other s.payloads ((p * 8 + q) * 4 + held base s p q) ((p * 8 + q) * 4 + k) v 0 (λ e. n (omega arith))

  pushed_here : are_pair roles p q ≡ true → l < 64 → Queue roles s p q → Queue roles (moved (pushed base s p q l v) p h) p q
  pushed_here two small g = record {
    few = rw pushed_held (omega (arith, room));
    there = rw two;
    used = λ k m u.
        let w : k < held base s p q + 1 = rw pushed_held at u in
        ⊎_elim
        (λ (z : k ≡ held base s p q).
        let same : label_at base (moved (pushed base s p q l v) p h) p q k ≡ l =
        rw z (get_or-set_same s.labels ((p * 8 + q) * 4 + held base s p q) l 0 (omega (arith, shaped.labels_are, room))) in
        rw same small)
        (λ z. rw (pushed_label k z) (g.used k m (omega arith)))
        (same_or_not k (held base s p q));
    free = λ k m u.
        let w : held base s p q + 1 ≤ k = rw pushed_held at u in
        let n : k ≡ held base s p q → ⊥ = λ e. omega arith in
        let f = g.free k m (omega arith) in
        (pushed_label k n ∙ f.0, pushed_payload k n ∙ f.1);
  }

-- four words of which the rest came forward
module _ (ws : List ℕ) (i : ℕ) (fits : i + 4 ≤ length ws) where
  abbrev came : List ℕ
  came = sets ws (i + 0) (forward (take 4 (drop (i + 0) ws)))

  abbrev one : List ℕ
  one = set ws i (get_or ws (i + 1) 0)

  abbrev two : List ℕ
  two = set one (i + 1) (get_or ws (i + 2) 0)

  abbrev three : List ℕ
  three = set two (i + 2) (get_or ws (i + 3) 0)

  stores : came ≡ set three (i + 3) 0
  stores = ap (sets ws (i + 0)) (four_forward ws i fits) ∙ sym (four_sets ws i (get_or ws (i + 1) 0) (get_or ws (i + 2) 0) (get_or ws (i + 3) 0) 0)

  stored : (j : ℕ) → get_or came j 0 ≡ get_or (set three (i + 3) 0) j 0
  stored j = ap (λ (us : List ℕ). get_or us j 0) stores

  came_other : (j : ℕ) → (j ≡ i → ⊥) → (j ≡ i + 1 → ⊥) → (j ≡ i + 2 → ⊥) → (j ≡ i + 3 → ⊥) → get_or came j 0 ≡ get_or ws j 0
  came_other j a b c d =
      stored j ∙ get_or-set_other three (i + 3) j 0 0 d ∙ get_or-set_other two (i + 2) j (get_or ws (i + 3) 0) 0 c
      ∙ get_or-set_other one (i + 1) j (get_or ws (i + 2) 0) 0 b ∙ get_or-set_other ws i j (get_or ws (i + 1) 0) 0 a

  came_last : get_or came (i + 3) 0 ≡ 0
  came_last =
      let l : i + 3 < length three = simp length-set (omega arith) in
      stored (i + 3) ∙ get_or-set_same three (i + 3) 0 0 l

  came_next : (k : ℕ) → k < 3 → get_or came (i + k) 0 ≡ get_or ws (i + suc k) 0
  came_next zero l =
      let z : i + 0 ≡ i = omega arith in
      ap (λ (j : ℕ). get_or came j 0) z ∙ stored i
      ∙ get_or-set_other three (i + 3) i 0 0 (λ e. omega arith) ∙ get_or-set_other two (i + 2) i (get_or ws (i + 3) 0) 0 (λ e. omega arith)
      ∙ get_or-set_other one (i + 1) i (get_or ws (i + 2) 0) 0 (λ e. omega arith) ∙ get_or-set_same ws i (get_or ws (i + 1) 0) 0 (omega arith)
  came_next (suc zero) l =
      let m : i + 1 < length one = simp length-set (omega arith) in
      stored (i + 1) ∙ get_or-set_other three (i + 3) (i + 1) 0 0 (λ e. omega arith)
      ∙ get_or-set_other two (i + 2) (i + 1) (get_or ws (i + 3) 0) 0 (λ e. omega arith) ∙ get_or-set_same one (i + 1) (get_or ws (i + 2) 0) 0 m
  came_next (suc (suc zero)) l =
      let m : i + 2 < length two = simp length-set (omega arith) in
      stored (i + 2) ∙ get_or-set_other three (i + 3) (i + 2) 0 0 (λ e. omega arith) ∙ get_or-set_same two (i + 2) (get_or ws (i + 3) 0) 0 m
  came_next (suc (suc (suc k))) l = absurd (omega arith)

-- a receive's queue
module _ (roles : ℕ) (s : Session) (shaped : Shaped s) (p q h : ℕ) (lp : p < 8) (lq : q < 8) (some_held : 0 < held base s p q) where
  abbrev after : Session
  after = moved (taken base s p q) q h

  fits_labels : (p * 8 + q) * 4 + 4 ≤ length s.labels
  fits_labels = omega (arith, shaped.labels_are)

  fits_payloads : (p * 8 + q) * 4 + 4 ≤ length s.payloads
  fits_payloads = omega (arith, shaped.payloads_are)

  taken_other : (x y : ℕ) → x < 8 → y < 8 → (x * 8 + y ≡ p * 8 + q → ⊥) → Queue roles s x y → Queue roles after x y
  taken_other x y lx ly n g =
      same_queue roles s after x y
      (get_or-set_other s.counts (p * 8 + q) (x * 8 + y) (pred (held base s p q)) 0 n)
      (λ k m. (
        came_other s.labels ((p * 8 + q) * 4) fits_labels ((x * 8 + y) * 4 + k) (λ e. n (omega arith)) (λ e. n (omega arith)) (λ e. n (omega arith)) (λ e. n (omega arith)),
        came_other s.payloads ((p * 8 + q) * 4) fits_payloads ((x * 8 + y) * 4 + k) (λ e. n (omega arith)) (λ e. n (omega arith)) (λ e. n (omega arith)) (λ e. n (omega arith)),
      )) g

  taken_held : held base after p q ≡ pred (held base s p q)
  taken_held = get_or-set_same s.counts (p * 8 + q) (pred (held base s p q)) 0 (omega (arith, shaped.counts_are))

  one_less : held base s p q ≡ suc (pred (held base s p q))
  one_less = pred_of (held base s p q) some_held
    where
      pred_of : (n : ℕ) → 0 < n → n ≡ suc (pred n)
      pred_of zero l = absurd (omega arith)
      pred_of (suc n) l = refl

  taken_label : (k : ℕ) → k < 3 → label_at base after p q k ≡ label_at base s p q (suc k)
  taken_label k l = came_next s.labels ((p * 8 + q) * 4) fits_labels k l

  taken_payload : (k : ℕ) → k < 3 → payload_at base after p q k ≡ payload_at base s p q (suc k)
  taken_payload k l = came_next s.payloads ((p * 8 + q) * 4) fits_payloads k l

  taken_here : are_pair roles p q ≡ true → Queue roles s p q → Queue roles after p q
  taken_here two g = record {
    few = rw taken_held (omega (arith, g.few, one_less));
    there = rw two;
    used = λ k m u.
        let w : k < pred (held base s p q) = rw taken_held at u in
        let l : k < 3 = omega (arith, g.few, one_less) in
        rw (taken_label k l) (g.used (suc k) (omega arith) (omega (arith, one_less)));
    free = λ k m u.
        let w : pred (held base s p q) ≤ k = rw taken_held at u in
        ⊎_elim
        (λ l. let f = g.free (suc k) (omega arith) (omega (arith, one_less)) in (taken_label k l ∙ f.0, taken_payload k l ∙ f.1))
        (λ l. let z : k ≡ 3 = omega arith in rw z (came_last s.labels ((p * 8 + q) * 4) fits_labels, came_last s.payloads ((p * 8 + q) * 4) fits_payloads))
        (lt_or_le k 3);
  }

-- ---- the calls

module _ (ts : List ℕ) (roles p q : ℕ) (s : Session) (shaped : Shaped s) where
  -- an accepted send leaves a well-formed state
  pub send_keeps : (l v : ℕ) → (send_of base ts roles p q l v s).number ≡ 0 → state_good base ts roles (send_of base ts roles p q l v s).state ≡ true
  send_keeps l v e =
      let (h, t, is) = send_accepted ts roles p q s l v e in
      let good = t.stood.state_holds in
      let (ip, iq, ne) = pair_in roles p q t.two in
      let holds = row_holds_lem ts roles t.stood.tables_hold p ip in
      let lands : h ≡ head ts roles p t.sent.continuation = t.sent.lands in
      let inside : h < block_rows ts roles = rw lands (head_in base ts roles p holds t.sent.continuation t.reached.inside) in
      let stands : is_head (part_row ts roles p h) ≡ true = rw lands (row_headed ts roles t.stood.tables_hold p ip t.sent.continuation t.reached.inside t.reached.no_arm) in
      rw is
      (state_from ts roles (listed (moved (pushed base s p q l v) p h))
      (λ r lr. moved_heads ts roles s shaped good p h ip t.p_low inside stands r lr (moved (pushed base s p q l v) p h) refl)
      (λ x y lx ly. queue_from roles (moved (pushed base s p q l v) p h) x y
      (let g = queue_says roles s x y (queue_good_lem ts roles (listed s) good x y lx ly) in
      ⊎_elim
      (λ z. rw (z.0, z.1)
      (pushed_here roles s shaped p q l v h t.p_low t.q_low t.sent.room t.two t.reached.low (queue_says roles s p q (queue_good_lem ts roles (listed s) good p q t.p_low t.q_low))))
      (λ n. pushed_other roles s shaped p q l v h t.p_low t.q_low t.sent.room x y lx ly (n t.q_low ly) g)
      (other_pair p q x y))))

  -- and so does an accepted receive
  pub receive_keeps : (receive_of base ts roles p q s).number ≡ 0 → state_good base ts roles (receive_of base ts roles p q s).state ≡ true
  receive_keeps e =
      let (h, t, is) = receive_accepted ts roles p q s e in
      let good = t.stood.state_holds in
      let (ip, iq, ne) = pair_in roles p q t.two in
      let holds = row_holds_lem ts roles t.stood.tables_hold q iq in
      let lands : h ≡ head ts roles q t.received.continuation = t.received.lands in
      let inside : h < block_rows ts roles = rw lands (head_in base ts roles q holds t.received.continuation t.reached.inside) in
      let stands : is_head (part_row ts roles q h) ≡ true = rw lands (row_headed ts roles t.stood.tables_hold q iq t.received.continuation t.reached.inside t.reached.no_arm) in
      rw is
      (state_from ts roles (listed (moved (taken base s p q) q h))
      (λ r lr. moved_heads ts roles s shaped good q h iq t.q_low inside stands r lr (moved (taken base s p q) q h) refl)
      (λ x y lx ly. queue_from roles (moved (taken base s p q) q h) x y
      (let g = queue_says roles s x y (queue_good_lem ts roles (listed s) good x y lx ly) in
      ⊎_elim
      (λ z. rw (z.0, z.1)
      (taken_here roles s shaped p q h t.p_low t.q_low t.received.some_held t.two (queue_says roles s p q (queue_good_lem ts roles (listed s) good p q t.p_low t.q_low))))
      (λ n. taken_other roles s shaped p q h t.p_low t.q_low t.received.some_held x y lx ly (n t.q_low ly) g)
      (other_pair p q x y))))

-- ---- fresh

pub first_at : (ts : List ℕ) (roles n r : ℕ) → r < n → get_or (first_heads ts roles n) r 0 ≡ cond (ltb r roles) (head ts roles r 0) 0
unfolding first_heads
first_at ts roles zero r l = absurd (omega arith)
first_at ts roles (suc n) r l =
    ⊎_elim
    (λ m. get_or-append (first_heads ts roles n) _ 0 r (omega (arith, length_first ts roles n)) ∙ first_at ts roles n r m)
    (λ m. let z : r ≡ n = omega arith in rw z (get_or_at (first_heads ts roles n) (cond (ltb n roles) (head ts roles n 0) 0) [] 0 n (length_first ts roles n)))
    (lt_or_le r n)

-- row 0 is no Arm
row_zero : (ts : List ℕ) (roles r : ℕ) (row : PartRow) → row_holds base ts roles r 0 row ≡ true → is_arm row ≡ false
unfolding row_holds
row_zero ts roles r (End a b c) h = refl
row_zero ts roles r (Arm l c n) h = absurd (true≢false (sym h))
row_zero ts roles r (Loop b x y) h = refl
row_zero ts roles r (Back j x y) h = refl
row_zero ts roles r (Send q f x) h = refl
row_zero ts roles r (Receive q f x) h = refl
row_zero ts roles r Other h = refl

-- a fresh session is well formed
pub fresh_keeps : (ts : List ℕ) (roles : ℕ) → (fresh_of base ts roles).number ≡ 0 → state_good base ts roles (fresh_of base ts roles).state ≡ true
unfolding fresh_of
fresh_keeps ts roles e = decide (tables_good base ts roles) refl e
  where
    heads_good : tables_good base ts roles ≡ true → (r : ℕ) → r < 8
        → cond (ltb r roles) (ltb (get_or (first_heads ts roles 8) r 0) (block_rows ts roles) && is_head (part_row ts roles r (get_or (first_heads ts roles 8) r 0))) (eqb (get_or (first_heads ts roles 8) r 0) 0) ≡ true
    heads_good good r l =
        ⊎_elim
        (λ m. let at : get_or (first_heads ts roles 8) r 0 ≡ head ts roles r 0 = first_at ts roles 8 r l ∙ rw (lt-ltb r roles m) in
        let b = sized_bounds ts roles (block_rows ts roles) (good_sized ts roles good) in
        let holds = row_holds_lem ts roles good r m in
        let no_arm = row_zero ts roles r (part_row ts roles r 0) (holds 0 b.2) in
        rw (lt-ltb r roles m, at, lt-ltb (head ts roles r 0) (block_rows ts roles) (head_in base ts roles r holds 0 b.2), row_headed ts roles good r m 0 b.2 no_arm))
        (λ m. let at : get_or (first_heads ts roles 8) r 0 ≡ 0 = first_at ts roles 8 r l ∙ rw (le-ltb r roles m) in rw (le-ltb r roles m, at))
        (lt_or_le r roles)

    decide : (t : Bool) → tables_good base ts roles ≡ t → (refused_if base 12 (not t) (nothing base) (answers base 0 (record { heads = first_heads ts roles 8; counts = (nothing base).counts; labels = (nothing base).labels; payloads = (nothing base).payloads }))).number ≡ 0
        → state_good base ts roles (refused_if base 12 (not t) (nothing base) (answers base 0 (record { heads = first_heads ts roles 8; counts = (nothing base).counts; labels = (nothing base).labels; payloads = (nothing base).payloads }))).state ≡ true
    decide true good z =
        state_from ts roles (record { heads = first_heads ts roles 8; counts = (nothing base).counts; labels = (nothing base).labels; payloads = (nothing base).payloads })
        (λ r l. heads_good good r l)
        (λ p q lp lq. queue_from roles (record { heads = first_heads ts roles 8; counts = (nothing base).counts; labels = (nothing base).labels; payloads = (nothing base).payloads }) p q
        (record {
          few = rw (zeros 64 (p * 8 + q)) (omega arith);
          there = rw (zeros 64 (p * 8 + q)) (or-true (are_pair roles p q));
          used = λ k l m. rw (zeros 256 ((p * 8 + q) * 4 + k)) (omega arith);
          free = λ k l m. (zeros 256 ((p * 8 + q) * 4 + k), zeros 256 ((p * 8 + q) * 4 + k));
        }))
    decide false bad z = absurd (let n : 12 ≡ 0 = z in omega arith)

-- ---- the lengths stay

module _ (ts : List ℕ) (roles p q : ℕ) (s : Session) (shaped : Shaped s) where
  shaped_send : (l v : ℕ) (t : Result ℕ Refusal) → Shaped (after_send ts roles p q s l v t).state
  shaped_send l v (Err e) = shaped
  shaped_send l v (Ok h) = record {
    heads_are = simp length-set shaped.heads_are;
    counts_are = simp length-set shaped.counts_are;
    labels_are = simp length-set shaped.labels_are;
    payloads_are = simp length-set shaped.payloads_are;
  }

  pub send_shaped : (l v : ℕ) → Shaped (send_of base ts roles p q l v s).state
  send_shaped l v = rw (← (after_send_lem ts roles p q s l v)) (shaped_send l v (send_judged base ts roles p q l (listed s)))

  shaped_receive : (t : Result ℕ Refusal) → Shaped (after_receive ts roles p q s t).state
  shaped_receive (Err e) = shaped
  shaped_receive (Ok h) = record {
    heads_are = simp length-set shaped.heads_are;
    counts_are = simp length-set shaped.counts_are;
    labels_are = simp length-sets shaped.labels_are;
    payloads_are = simp length-sets shaped.payloads_are;
  }

  pub receive_shaped : Shaped (receive_of base ts roles p q s).state
  receive_shaped = rw (← (after_receive_lem ts roles p q s)) (shaped_receive (receive_judged base ts roles p q (listed s)))

pub fresh_shaped : (ts : List ℕ) (roles : ℕ) → Shaped (fresh_of base ts roles).state
unfolding fresh_of
fresh_shaped ts roles = decide (tables_good base ts roles)
  where
    decide : (t : Bool) → Shaped (refused_if base 12 (not t) (nothing base) (answers base 0 (record { heads = first_heads ts roles 8; counts = (nothing base).counts; labels = (nothing base).labels; payloads = (nothing base).payloads }))).state
    decide true = record { heads_are = length_first ts roles 8; counts_are = refl; labels_are = refl; payloads_are = refl }
    decide false = record { heads_are = refl; counts_are = refl; labels_are = refl; payloads_are = refl }
