-- A session's state that is well formed stays so when a message is put in or taken out and its role moves to a head. Assumes nothing.
use Prim.Native.Nat.{ℕ, suc, pred, ◌+◌, ◌*◌, ◌≤◌, ◌<◌}
use mathlib.Core.Bool.{Bool, true, false, cond, ◌&&◌, ◌||◌, not, true≢false}
use mathlib.Core.List.{List}
use mathlib.Core.Logic.{◌≢◌}
use mathlib.Core.Path.{◌≡◌, refl, sym, ◌∙◌, ap}
use native.Mathlib.Decide.{ℕ_discrete, dec_lt}
use native.Mathlib.Omega.{arith}
use lib.Dec.{ltb, eqb}
use lib.ListN.{get_or, length, set, length-set, length-replicate}
use lib.Seq.{get_or-set_same, get_or-set_other, length-sets}
use borrow.Author.Tests.{lt-ltb, le-ltb, le-leb, eq-eqb, ne_eqb, ltb-true}
use Rattle.words.proofs.Below.{every_all}
use Rattle.table.specs.Limits.{Limits}
use Rattle.table.proofs.Tests.{both}
use Rattle.blocks.specs.Block.{part_row, block_rows, is_head}
use Rattle.blocks.specs.Head.{head}
use Rattle.state.specs.State as lists
use Rattle.state.specs.State.{pair, slot, head_good, slot_good, are_pair, queue_good}
use Rattle.session.specs.State.{listed, slots, forward, head_of, held, label_at, payload_at, nothing, state_good, moved, pushed, taken}
use Rattle.session.specs.Calls.{first_heads}
use Rattle.session.specs.declared.Session.{Session}
use Rattle.session.proofs.First.{length_first}
use Rattle.session.proofs.Kept.{first_at}
use Rattle.words.proofs.Zeros.{zeros}
use Rattle.protocol.proofs.Sessions.Cells.{Slots, pair_in, pair_other, set_slot, set_slot_other, set_other, first_taken, last_freed, others_kept}

-- p' and q' are p and q
pub same_pair : (p q p' q' : ℕ) → Dec ((p' ≡ p) × (q' ≡ q))
same_pair p q p' q' = go (ℕ_discrete p' p) (ℕ_discrete q' q)
  where
    go : Dec (p' ≡ p) → Dec (q' ≡ q) → Dec ((p' ≡ p) × (q' ≡ q))
    go (yes e) (yes f) = yes (e, f)
    go (yes e) (no n) = no (λ t. n t.1)
    go (no n) d = no (λ t. n t.0)

-- ---- two roles that have a queue

pub pair_true : (roles p q : ℕ) → p < roles → q < roles → p ≢ q → are_pair roles p q ≡ true
pair_true roles p q h k n = rw (lt-ltb p roles h, lt-ltb q roles k, ne_eqb p q n)

pub record Pair (roles p q : ℕ) : Type 0 where
  pub sender_in : p < roles
  pub receiver_in : q < roles
  pub different : p ≢ q

pub pair_facts : (roles p q : ℕ) → are_pair roles p q ≡ true → Pair roles p q
pair_facts roles p q e =
    let (e₁, f₁) = both (ltb p roles && ltb q roles) (not (eqb p q)) e in
    let (e₂, f₂) = both (ltb p roles) (ltb q roles) e₁ in
    record {
      sender_in = ltb-true p roles e₂;
      receiver_in = ltb-true q roles f₂;
      different = λ h. true≢false (sym f₁ ∙ ap not (eq-eqb p q h));
    }

-- ---- well formed states, test by test

pub record StateKept (lim : Limits) (ts : List ℕ) (roles : ℕ) (s : Session) : Type 0 where
  pub heads_sized : length s.heads ≡ lim.roles
  pub counts_sized : length s.counts ≡ lim.roles * lim.roles
  pub labels_sized : Slots lim s.labels
  pub payloads_sized : Slots lim s.payloads
  pub heads_in : (r : ℕ) → r < roles → head_of s r < block_rows ts roles
  pub heads_act : (r : ℕ) → r < roles → is_head (part_row ts roles r (head_of s r)) ≡ true
  pub heads_none : (r : ℕ) → roles ≤ r → r < lim.roles → head_of s r ≡ 0
  pub few : (p q : ℕ) → p < lim.roles → q < lim.roles → held lim s p q ≤ lim.depth
  pub no_pair : (p q : ℕ) → p < lim.roles → q < lim.roles → are_pair roles p q ≡ false → held lim s p q ≡ 0
  pub used : (p q k : ℕ) → p < lim.roles → q < lim.roles → k < held lim s p q → label_at lim s p q k < lim.labels
  pub unused_label : (p q k : ℕ) → p < lim.roles → q < lim.roles → held lim s p q ≤ k → k < lim.depth → label_at lim s p q k ≡ 0
  pub unused_payload : (p q k : ℕ) → p < lim.roles → q < lim.roles → held lim s p q ≤ k → k < lim.depth → payload_at lim s p q k ≡ 0

head_test : (ts : List ℕ) (roles : ℕ) (s : Session) (r : ℕ) → Dec (r < roles)
    → (r < roles → (head_of s r < block_rows ts roles) × (is_head (part_row ts roles r (head_of s r)) ≡ true)) → (roles ≤ r → head_of s r ≡ 0)
    → head_good ts roles (listed s) r ≡ true
head_test ts roles s r (yes h) f g = let (a, b) = f h in rw (lt-ltb r roles h, lt-ltb (head_of s r) (block_rows ts roles) a, b)
head_test ts roles s r (no h) f g = rw (le-ltb r roles (omega arith), eq-eqb (head_of s r) 0 (g (omega arith)))

slot_test : (lim : Limits) (s : Session) (p q k : ℕ) → Dec (k < held lim s p q) → (k < held lim s p q → label_at lim s p q k < lim.labels)
    → (held lim s p q ≤ k → (label_at lim s p q k ≡ 0) × (payload_at lim s p q k ≡ 0)) → slot_good lim (listed s) p q k ≡ true
slot_test lim s p q k (yes h) f g = rw (lt-ltb k (held lim s p q) h, lt-ltb (label_at lim s p q k) lim.labels (f h))
slot_test lim s p q k (no h) f g =
    let (a, b) = g (omega arith) in
    rw (le-ltb k (held lim s p q) (omega arith), eq-eqb (label_at lim s p q k) 0 a, eq-eqb (payload_at lim s p q k) 0 b)

pair_test : (b : Bool) (n : ℕ) → (b ≡ false → n ≡ 0) → (b || eqb n 0) ≡ true
pair_test true n f = refl
pair_test false n f = eq-eqb n 0 (f refl)

pub state_good_lem : (lim : Limits) (ts : List ℕ) (roles : ℕ) (s : Session) → StateKept lim ts roles s → state_good lim ts roles s ≡ true
unfolding lists.state_good
state_good_lem lim ts roles s k =
    rw (every_all (head_good ts roles (listed s)) lim.roles (λ r h.
    head_test ts roles s r (dec_lt r roles) (λ i. (k.heads_in r i, k.heads_act r i)) (λ i. k.heads_none r i h)))
    (every_all _ lim.roles (λ p h. every_all _ lim.roles (λ q i. queue_test p q h i)))
  where
    queue_test : (p q : ℕ) → p < lim.roles → q < lim.roles → queue_good lim roles (listed s) p q ≡ true
    queue_test p q h i =
        rw (
          le-leb (held lim s p q) lim.depth (k.few p q h i),
          pair_test (are_pair roles p q) (held lim s p q) (λ e. k.no_pair p q h i e),
        )
        (every_all (slot_good lim (listed s) p q) lim.depth (λ j t.
        slot_test lim s p q j (dec_lt j (held lim s p q)) (λ u. k.used p q j h i u)
        (λ u. (k.unused_label p q j h i u t, k.unused_payload p q j h i u t))))

-- ---- a message put in or taken out

module _ (lim : Limits) (ts : List ℕ) (roles : ℕ) (s : Session) (k : StateKept lim ts roles s) (few_roles : roles ≤ lim.roles)
    (p q : ℕ) (two : Pair roles p q) where
  p_in : p < lim.roles
  p_in = omega (arith, two.sender_in, few_roles)

  q_in : q < lim.roles
  q_in = omega (arith, two.receiver_in, few_roles)

  counted : (n : ℕ) → get_or (set s.counts (pair lim p q) n) (pair lim p q) 0 ≡ n
  counted n = get_or-set_same s.counts (pair lim p q) n 0 (rw k.counts_sized (pair_in lim p q p_in q_in))

  counted_other : (p' q' n : ℕ) → q' < lim.roles → ¬ ((p' ≡ p) × (q' ≡ q))
      → get_or (set s.counts (pair lim p q) n) (pair lim p' q') 0 ≡ held lim s p' q'
  counted_other p' q' n h other =
      get_or-set_other s.counts (pair lim p q) (pair lim p' q') n 0 (pair_other lim p q p_in q_in p' q' h other)

  pub head_moved : (r x : ℕ) → r < roles → get_or (set s.heads r x) r 0 ≡ x
  head_moved r x h = get_or-set_same s.heads r x 0 (rw k.heads_sized (omega arith))

  pub head_kept : (r x j : ℕ) → j ≢ r → get_or (set s.heads r x) j 0 ≡ head_of s j
  head_kept r x j n = get_or-set_other s.heads r j x 0 n

  -- the heads after role r went to a head x
  heads_moved : (r x j : ℕ) → r < roles → j < roles → x < block_rows ts roles → is_head (part_row ts roles r x) ≡ true
      → (get_or (set s.heads r x) j 0 < block_rows ts roles) × (is_head (part_row ts roles j (get_or (set s.heads r x) j 0)) ≡ true)
  heads_moved r x j h i within acts = go (ℕ_discrete j r)
    where
      go : Dec (j ≡ r) → (get_or (set s.heads r x) j 0 < block_rows ts roles) × (is_head (part_row ts roles j (get_or (set s.heads r x) j 0)) ≡ true)
      go (yes e) = rw (e, head_moved r x h) (within, acts)
      go (no n) = rw (head_kept r x j n) (k.heads_in j i, k.heads_act j i)

  heads_absent : (r x j : ℕ) → r < roles → roles ≤ j → j < lim.roles → get_or (set s.heads r x) j 0 ≡ 0
  heads_absent r x j h i l = let n : j ≢ r = omega arith in head_kept r x j n ∙ k.heads_none j i l

  module _ (l v x : ℕ) (room : held lim s p q < lim.depth) where
    pub sent_held : held lim (moved (pushed lim s p q l v) p x) p q ≡ held lim s p q + 1
    sent_held = counted (held lim s p q + 1)

    pub sent_held_other : (p' q' : ℕ) → q' < lim.roles → ¬ ((p' ≡ p) × (q' ≡ q))
        → held lim (moved (pushed lim s p q l v) p x) p' q' ≡ held lim s p' q'
    sent_held_other p' q' h other = counted_other p' q' (held lim s p q + 1) h other

    pub sent_label : label_at lim (moved (pushed lim s p q l v) p x) p q (held lim s p q) ≡ l
    sent_label = set_slot lim p q p_in q_in s.labels (held lim s p q) l k.labels_sized room

    pub sent_payload : payload_at lim (moved (pushed lim s p q l v) p x) p q (held lim s p q) ≡ v
    sent_payload = set_slot lim p q p_in q_in s.payloads (held lim s p q) v k.payloads_sized room

    -- any other slot
    pub sent_label_kept : (p' q' j : ℕ) → q' < lim.roles → j < lim.depth → ¬ ((p' ≡ p) × (q' ≡ q) × (j ≡ held lim s p q))
        → label_at lim (moved (pushed lim s p q l v) p x) p' q' j ≡ label_at lim s p' q' j
    sent_label_kept p' q' j h i other = go (same_pair p q p' q')
      where
        go : Dec ((p' ≡ p) × (q' ≡ q)) → label_at lim (moved (pushed lim s p q l v) p x) p' q' j ≡ label_at lim s p' q' j
        go (yes e) =
            rw (e.0, e.1) (
            set_slot_other lim p q p_in q_in s.labels j (held lim s p q) l i room (λ f. other (e.0, e.1, f)))
        go (no n) = set_other lim p q p_in q_in p' q' h n s.labels j (held lim s p q) l i room

    pub sent_payload_kept : (p' q' j : ℕ) → q' < lim.roles → j < lim.depth → ¬ ((p' ≡ p) × (q' ≡ q) × (j ≡ held lim s p q))
        → payload_at lim (moved (pushed lim s p q l v) p x) p' q' j ≡ payload_at lim s p' q' j
    sent_payload_kept p' q' j h i other = go (same_pair p q p' q')
      where
        go : Dec ((p' ≡ p) × (q' ≡ q)) → payload_at lim (moved (pushed lim s p q l v) p x) p' q' j ≡ payload_at lim s p' q' j
        go (yes e) =
            rw (e.0, e.1) (
            set_slot_other lim p q p_in q_in s.payloads j (held lim s p q) v i room (λ f. other (e.0, e.1, f)))
        go (no n) = set_other lim p q p_in q_in p' q' h n s.payloads j (held lim s p q) v i room

    pub sent_kept : l < lim.labels → x < block_rows ts roles → is_head (part_row ts roles p x) ≡ true
        → StateKept lim ts roles (moved (pushed lim s p q l v) p x)
    sent_kept small within acts = record {
      heads_sized = length-set s.heads p x ∙ k.heads_sized;
      counts_sized = length-set s.counts (pair lim p q) (held lim s p q + 1) ∙ k.counts_sized;
      labels_sized = length-set s.labels (slot lim p q (held lim s p q)) l ∙ k.labels_sized;
      payloads_sized = length-set s.payloads (slot lim p q (held lim s p q)) v ∙ k.payloads_sized;
      heads_in = λ r h. (heads_moved p x r two.sender_in h within acts).0;
      heads_act = λ r h. (heads_moved p x r two.sender_in h within acts).1;
      heads_none = λ r h i. heads_absent p x r two.sender_in h i;
      few = λ p' q' h i. few_sent p' q' h i (same_pair p q p' q');
      no_pair = λ p' q' h i e. no_pair_sent p' q' h i e (same_pair p q p' q');
      used = λ p' q' j h i u. used_sent p' q' j h i u (same_pair p q p' q') (ℕ_discrete j (held lim s p q));
      unused_label = λ p' q' j h i u t.
          let (old, other) = unused_sent p' q' j h i u (same_pair p q p' q') in
          sent_label_kept p' q' j i t other ∙ k.unused_label p' q' j h i old t;
      unused_payload = λ p' q' j h i u t.
          let (old, other) = unused_sent p' q' j h i u (same_pair p q p' q') in
          sent_payload_kept p' q' j i t other ∙ k.unused_payload p' q' j h i old t;
    }
      where
        few_sent : (p' q' : ℕ) → p' < lim.roles → q' < lim.roles → Dec ((p' ≡ p) × (q' ≡ q))
            → held lim (moved (pushed lim s p q l v) p x) p' q' ≤ lim.depth
        few_sent p' q' h i (yes e) = rw (e.0, e.1, sent_held) (omega arith)
        few_sent p' q' h i (no n) = rw (sent_held_other p' q' i n) (k.few p' q' h i)

        no_pair_sent : (p' q' : ℕ) → p' < lim.roles → q' < lim.roles → are_pair roles p' q' ≡ false → Dec ((p' ≡ p) × (q' ≡ q))
            → held lim (moved (pushed lim s p q l v) p x) p' q' ≡ 0
        no_pair_sent p' q' h i e (yes f) =
            absurd (true≢false (sym (pair_true roles p q two.sender_in two.receiver_in two.different) ∙ (rw (f.0, f.1) at e)))
        no_pair_sent p' q' h i e (no n) = sent_held_other p' q' i n ∙ k.no_pair p' q' h i e

        used_sent : (p' q' j : ℕ) → p' < lim.roles → q' < lim.roles → j < held lim (moved (pushed lim s p q l v) p x) p' q'
            → Dec ((p' ≡ p) × (q' ≡ q)) → Dec (j ≡ held lim s p q) → label_at lim (moved (pushed lim s p q l v) p x) p' q' j < lim.labels
        used_sent p' q' j h i u (yes e) (yes f) = rw (e.0, e.1, f, sent_label) small
        used_sent p' q' j h i u (yes e) (no n) =
            let u' : j < held lim s p q + 1 = rw (e.0, e.1, sent_held) at u in
            let less : j < held lim s p q = omega arith in
            rw (sent_label_kept p' q' j i (omega arith) (λ t. n t.2), e.0, e.1) (k.used p q j p_in q_in less)
        used_sent p' q' j h i u (no n) d =
            let u' : j < held lim s p' q' = rw (sent_held_other p' q' i n) at u in
            let small_slot : j < lim.depth = omega (arith, k.few p' q' h i) in
            rw (sent_label_kept p' q' j i small_slot (λ t. n (t.0, t.1))) (k.used p' q' j h i u')

        unused_sent : (p' q' j : ℕ) → p' < lim.roles → q' < lim.roles → held lim (moved (pushed lim s p q l v) p x) p' q' ≤ j
            → Dec ((p' ≡ p) × (q' ≡ q)) → (held lim s p' q' ≤ j) × (¬ ((p' ≡ p) × (q' ≡ q) × (j ≡ held lim s p q)))
        unused_sent p' q' j h i u (yes e) =
            let u' : held lim s p q + 1 ≤ j = rw (e.0, e.1, sent_held) at u in
            let n : j ≢ held lim s p q = omega arith in
            let old : held lim s p q ≤ j = omega arith in
            (rw (e.0, e.1) old, λ t. n t.2)
        unused_sent p' q' j h i u (no n) = (rw (sent_held_other p' q' i n) at u, λ t. n (t.0, t.1))

  module _ (x : ℕ) (some : 0 < held lim s p q) where
    deep : 0 < lim.depth
    deep = omega (arith, k.few p q p_in q_in)

    pub taken_held : held lim (moved (taken lim s p q) q x) p q ≡ pred (held lim s p q)
    taken_held = counted (pred (held lim s p q))

    pub taken_held_other : (p' q' : ℕ) → q' < lim.roles → ¬ ((p' ≡ p) × (q' ≡ q))
        → held lim (moved (taken lim s p q) q x) p' q' ≡ held lim s p' q'
    taken_held_other p' q' h other = counted_other p' q' (pred (held lim s p q)) h other

    pub taken_label : (j : ℕ) → suc j < lim.depth → label_at lim (moved (taken lim s p q) q x) p q j ≡ label_at lim s p q (suc j)
    taken_label j h = first_taken lim p q p_in q_in s.labels k.labels_sized deep j h

    pub taken_payload : (j : ℕ) → suc j < lim.depth → payload_at lim (moved (taken lim s p q) q x) p q j ≡ payload_at lim s p q (suc j)
    taken_payload j h = first_taken lim p q p_in q_in s.payloads k.payloads_sized deep j h

    pub taken_label_other : (p' q' j : ℕ) → q' < lim.roles → ¬ ((p' ≡ p) × (q' ≡ q)) → j < lim.depth
        → label_at lim (moved (taken lim s p q) q x) p' q' j ≡ label_at lim s p' q' j
    taken_label_other p' q' j h n i = others_kept lim p q p_in q_in s.labels k.labels_sized deep p' q' j h n i

    pub taken_payload_other : (p' q' j : ℕ) → q' < lim.roles → ¬ ((p' ≡ p) × (q' ≡ q)) → j < lim.depth
        → payload_at lim (moved (taken lim s p q) q x) p' q' j ≡ payload_at lim s p' q' j
    taken_payload_other p' q' j h n i = others_kept lim p q p_in q_in s.payloads k.payloads_sized deep p' q' j h n i

    pub taken_kept : x < block_rows ts roles → is_head (part_row ts roles q x) ≡ true → StateKept lim ts roles (moved (taken lim s p q) q x)
    taken_kept within acts = record {
      heads_sized = length-set s.heads q x ∙ k.heads_sized;
      counts_sized = length-set s.counts (pair lim p q) (pred (held lim s p q)) ∙ k.counts_sized;
      labels_sized = length-sets s.labels (slot lim p q 0) (forward (slots lim s.labels p q)) ∙ k.labels_sized;
      payloads_sized = length-sets s.payloads (slot lim p q 0) (forward (slots lim s.payloads p q)) ∙ k.payloads_sized;
      heads_in = λ r h. (heads_moved q x r two.receiver_in h within acts).0;
      heads_act = λ r h. (heads_moved q x r two.receiver_in h within acts).1;
      heads_none = λ r h i. heads_absent q x r two.receiver_in h i;
      few = λ p' q' h i. few_taken p' q' h i (same_pair p q p' q');
      no_pair = λ p' q' h i e. no_pair_taken p' q' h i e (same_pair p q p' q');
      used = λ p' q' j h i u. used_taken p' q' j h i u (same_pair p q p' q');
      unused_label = λ p' q' j h i u t. unused_label_taken p' q' j h i u t (same_pair p q p' q') (dec_lt (suc j) lim.depth);
      unused_payload = λ p' q' j h i u t. unused_payload_taken p' q' j h i u t (same_pair p q p' q') (dec_lt (suc j) lim.depth);
    }
      where
        few_taken : (p' q' : ℕ) → p' < lim.roles → q' < lim.roles → Dec ((p' ≡ p) × (q' ≡ q))
            → held lim (moved (taken lim s p q) q x) p' q' ≤ lim.depth
        few_taken p' q' h i (yes e) = rw (e.0, e.1, taken_held) (omega (arith, k.few p q p_in q_in))
        few_taken p' q' h i (no n) = rw (taken_held_other p' q' i n) (k.few p' q' h i)

        no_pair_taken : (p' q' : ℕ) → p' < lim.roles → q' < lim.roles → are_pair roles p' q' ≡ false → Dec ((p' ≡ p) × (q' ≡ q))
            → held lim (moved (taken lim s p q) q x) p' q' ≡ 0
        no_pair_taken p' q' h i e (yes f) =
            absurd (true≢false (sym (pair_true roles p q two.sender_in two.receiver_in two.different) ∙ (rw (f.0, f.1) at e)))
        no_pair_taken p' q' h i e (no n) = taken_held_other p' q' i n ∙ k.no_pair p' q' h i e

        used_taken : (p' q' j : ℕ) → p' < lim.roles → q' < lim.roles → j < held lim (moved (taken lim s p q) q x) p' q'
            → Dec ((p' ≡ p) × (q' ≡ q)) → label_at lim (moved (taken lim s p q) q x) p' q' j < lim.labels
        used_taken p' q' j h i u (yes e) =
            let u' : j < pred (held lim s p q) = rw (e.0, e.1, taken_held) at u in
            let next : suc j < held lim s p q = omega arith in
            rw (e.0, e.1, taken_label j (omega (arith, k.few p q p_in q_in))) (k.used p q (suc j) p_in q_in next)
        used_taken p' q' j h i u (no n) =
            let u' : j < held lim s p' q' = rw (taken_held_other p' q' i n) at u in
            let small_slot : j < lim.depth = omega (arith, k.few p' q' h i) in
            rw (taken_label_other p' q' j i n small_slot) (k.used p' q' j h i u')

        unused_label_taken : (p' q' j : ℕ) → p' < lim.roles → q' < lim.roles → held lim (moved (taken lim s p q) q x) p' q' ≤ j → j < lim.depth
            → Dec ((p' ≡ p) × (q' ≡ q)) → Dec (suc j < lim.depth) → label_at lim (moved (taken lim s p q) q x) p' q' j ≡ 0
        unused_label_taken p' q' j h i u t (yes e) (yes f) =
            let u' : pred (held lim s p q) ≤ j = rw (e.0, e.1, taken_held) at u in
            let old : held lim s p q ≤ suc j = omega arith in
            rw (e.0, e.1) (taken_label j f ∙ k.unused_label p q (suc j) p_in q_in old f)
        unused_label_taken p' q' j h i u t (yes e) (no f) =
            let last : suc j ≡ lim.depth = omega arith in
            rw (e.0, e.1) (last_freed lim p q p_in q_in s.labels k.labels_sized deep j last)
        unused_label_taken p' q' j h i u t (no n) d =
            let u' : held lim s p' q' ≤ j = rw (taken_held_other p' q' i n) at u in
            taken_label_other p' q' j i n t ∙ k.unused_label p' q' j h i u' t

        unused_payload_taken : (p' q' j : ℕ) → p' < lim.roles → q' < lim.roles → held lim (moved (taken lim s p q) q x) p' q' ≤ j → j < lim.depth
            → Dec ((p' ≡ p) × (q' ≡ q)) → Dec (suc j < lim.depth) → payload_at lim (moved (taken lim s p q) q x) p' q' j ≡ 0
        unused_payload_taken p' q' j h i u t (yes e) (yes f) =
            let u' : pred (held lim s p q) ≤ j = rw (e.0, e.1, taken_held) at u in
            let old : held lim s p q ≤ suc j = omega arith in
            rw (e.0, e.1) (taken_payload j f ∙ k.unused_payload p q (suc j) p_in q_in old f)
        unused_payload_taken p' q' j h i u t (yes e) (no f) =
            let last : suc j ≡ lim.depth = omega arith in
            rw (e.0, e.1) (last_freed lim p q p_in q_in s.payloads k.payloads_sized deep j last)
        unused_payload_taken p' q' j h i u t (no n) d =
            let u' : held lim s p' q' ≤ j = rw (taken_held_other p' q' i n) at u in
            taken_payload_other p' q' j i n t ∙ k.unused_payload p' q' j h i u' t

-- ---- the fresh state

abbrev pub fresh_state : Limits → List ℕ → ℕ → Session
fresh_state lim ts roles = record {
  heads = first_heads ts roles lim.roles;
  counts = (nothing lim).counts;
  labels = (nothing lim).labels;
  payloads = (nothing lim).payloads;
}

module _ (lim : Limits) (ts : List ℕ) (roles : ℕ) (few_roles : roles ≤ lim.roles) where
  pub fresh_head : (r : ℕ) → r < roles → head_of (fresh_state lim ts roles) r ≡ head ts roles r 0
  fresh_head r h =
      let first : get_or (first_heads ts roles lim.roles) r 0 ≡ cond (ltb r roles) (head ts roles r 0) 0 =
      first_at ts roles lim.roles r (omega arith) in
      first ∙ rw (lt-ltb r roles h)

  pub fresh_held : (p q : ℕ) → held lim (fresh_state lim ts roles) p q ≡ 0
  fresh_held p q = zeros (lim.roles * lim.roles) (pair lim p q)

  pub fresh_kept : ((r : ℕ) → r < roles → (head ts roles r 0 < block_rows ts roles) × (is_head (part_row ts roles r (head ts roles r 0)) ≡ true))
      → StateKept lim ts roles (fresh_state lim ts roles)
  fresh_kept first = record {
    heads_sized = length_first ts roles lim.roles;
    counts_sized = length-replicate (lim.roles * lim.roles) 0;
    labels_sized = length-replicate (lim.roles * lim.roles * lim.depth) 0;
    payloads_sized = length-replicate (lim.roles * lim.roles * lim.depth) 0;
    heads_in = λ r h. rw (fresh_head r h) (first r h).0;
    heads_act = λ r h. rw (fresh_head r h) (first r h).1;
    heads_none = λ r h i. first_at ts roles lim.roles r i ∙ rw (le-ltb r roles h);
    few = λ p q h i. rw (fresh_held p q) (omega arith);
    no_pair = λ p q h i e. fresh_held p q;
    used = λ p q j h i u. let none : held lim (fresh_state lim ts roles) p q ≡ 0 = fresh_held p q in absurd (omega arith);
    unused_label = λ p q j h i u t. zeros (lim.roles * lim.roles * lim.depth) (slot lim p q j);
    unused_payload = λ p q j h i u t. zeros (lim.roles * lim.roles * lim.depth) (slot lim p q j);
  }
