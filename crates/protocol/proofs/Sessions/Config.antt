-- A session as the proof of demand 3 sees it: where each role stands, and what each queue holds; and what a send and a receive do to that.
-- Assumes nothing.
use Prim.Native.Nat.{ℕ, zero, suc, pred, ◌≤◌, ◌<◌}
use mathlib.Core.Bool.{Bool, true, false, cond}
use mathlib.Core.List.{List, [], ◌∷◌, ◌++◌}
use mathlib.Core.Path.{◌≡◌, refl, sym, ◌∙◌, ap, ap₂}
use native.Mathlib.Omega.{arith}
use Rattle.table.specs.Limits.{Limits}
use Rattle.state.specs.State.{are_pair}
use Rattle.session.specs.State.{head_of, held, label_at, payload_at, moved, pushed, taken}
use Rattle.session.specs.declared.Session.{Session}
use Rattle.protocol.proofs.Invariant.Agree.{put, put_all, put_pair, put_pair_all, Config}
use Rattle.protocol.proofs.Sessions.States.{
  Pair,
  pair_true,
  pair_facts,
  StateKept,
  head_moved,
  head_kept,
  sent_held,
  sent_held_other,
  sent_label,
  sent_payload,
  sent_label_kept,
  sent_payload_kept,
  taken_held,
  taken_held_other,
  taken_label,
  taken_payload,
  taken_label_other,
  taken_payload_other,
}

-- f's values at the first n numbers
unfoldable pub listed : {X : Type 0} → (ℕ → X) → ℕ → List X
listed f zero = []
listed f (suc n) = f 0 ∷ listed (λ k. f (suc k)) n

listed_ext : {X : Type 0} (f g : ℕ → X) (n : ℕ) → ((k : ℕ) → k < n → f k ≡ g k) → listed f n ≡ listed g n
unfolding listed
listed_ext f g zero h = refl
listed_ext f g (suc n) h = ap₂ ◌∷◌ (h 0 (omega arith)) (listed_ext (λ k. f (suc k)) (λ k. g (suc k)) n (λ k i. h (suc k) (omega arith)))

listed_last : {X : Type 0} (f : ℕ → X) (n : ℕ) → listed f (suc n) ≡ listed f n ++ (f n ∷ [])
unfolding listed
listed_last f zero = refl
listed_last f (suc n) = ap (λ xs. f 0 ∷ xs) (listed_last (λ k. f (suc k)) n)

listed_first : {X : Type 0} (f : ℕ → X) (n : ℕ) → 0 < n → listed f n ≡ f 0 ∷ listed (λ k. f (suc k)) (pred n)
unfolding listed
listed_first f zero h = absurd (omega arith)
listed_first f (suc n) h = refl

abbrev pub message_at : Limits → Session → ℕ → ℕ → ℕ → ℕ × ℕ
message_at lim s p q k = (label_at lim s p q k, payload_at lim s p q k)

abbrev pub contents : Limits → Session → ℕ → ℕ → List (ℕ × ℕ)
contents lim s p q = listed (message_at lim s p q) (held lim s p q)

abbrev pub config_of : Limits → ℕ → Session → Config ℕ
config_of lim roles s = record { rows = λ r. head_of s r; queue = λ p q. cond (are_pair roles p q) (contents lim s p q) [] }

only_pairs : {X : Type 0} (b : Bool) (xs ys : List X) → (b ≡ true → xs ≡ ys) → cond b xs [] ≡ cond b ys []
only_pairs true xs ys f = f refl
only_pairs false xs ys f = refl

pub queue_of : (lim : Limits) (roles p q : ℕ) (s : Session) → Pair roles p q → (config_of lim roles s).queue p q ≡ contents lim s p q
queue_of lim roles p q s two = rw (pair_true roles p q two.sender_in two.receiver_in two.different)

module _ (lim : Limits) (ts : List ℕ) (roles : ℕ) (s : Session) (k : StateKept lim ts roles s) (few_roles : roles ≤ lim.roles)
    (p q : ℕ) (two : Pair roles p q) where
  p_in : p < lim.roles
  p_in = omega (arith, two.sender_in, few_roles)

  q_in : q < lim.roles
  q_in = omega (arith, two.receiver_in, few_roles)

  inside : (p' q' : ℕ) → are_pair roles p' q' ≡ true → (p' < lim.roles) × (q' < lim.roles)
  inside p' q' e =
      let pair = pair_facts roles p' q' e in (omega (arith, pair.sender_in, few_roles), omega (arith, pair.receiver_in, few_roles))

  module _ (l v x : ℕ) (room : held lim s p q < lim.depth) where
    abbrev sent : Session
    sent = moved (pushed lim s p q l v) p x

    pub sent_rows : (r : ℕ) → put (config_of lim roles s).rows p x r ≡ (config_of lim roles sent).rows r
    sent_rows r =
        put_all (λ r y. y ≡ head_of sent r) (config_of lim roles s).rows p x (sym (head_moved lim ts roles s k few_roles p q two p x two.sender_in))
        (λ r n. sym (head_kept lim ts roles s k few_roles p q two p x r n)) r

    contents_sent : contents lim s p q ++ ((l, v) ∷ []) ≡ contents lim sent p q
    contents_sent =
        let n : ℕ = held lim s p q in
        let more : held lim sent p q ≡ suc n = sent_held lim ts roles s k few_roles p q two l v x room ∙ omega arith in
        let last : message_at lim sent p q n ≡ (l, v) =
        ap₂ (λ a b. (a, b)) (sent_label lim ts roles s k few_roles p q two l v x room) (sent_payload lim ts roles s k few_roles p q two l v x room) in
        let same : listed (message_at lim sent p q) n ≡ contents lim s p q =
        listed_ext (message_at lim sent p q) (message_at lim s p q) n (λ j h. old j h) in
        sym (ap (listed (message_at lim sent p q)) more ∙ (listed_last (message_at lim sent p q) n ∙ ap₂ (λ xs y. xs ++ (y ∷ [])) same last))
      where
        old : (j : ℕ) → j < held lim s p q → message_at lim sent p q j ≡ message_at lim s p q j
        old j h =
            let other : ¬ ((p ≡ p) × (q ≡ q) × (j ≡ held lim s p q)) = λ t. let e : j ≡ held lim s p q = t.2 in absurd (omega arith) in
            let small : j < lim.depth = omega arith in
            ap₂ (λ a b. (a, b)) (sent_label_kept lim ts roles s k few_roles p q two l v x room p q j q_in small other)
            (sent_payload_kept lim ts roles s k few_roles p q two l v x room p q j q_in small other)

    contents_sent_other : (p' q' : ℕ) → are_pair roles p' q' ≡ true → ¬ ((p' ≡ p) × (q' ≡ q)) → contents lim s p' q' ≡ contents lim sent p' q'
    contents_sent_other p' q' e n =
        let (h, i) = inside p' q' e in
        let same : held lim sent p' q' ≡ held lim s p' q' = sent_held_other lim ts roles s k few_roles p q two l v x room p' q' i n in
        sym (
        ap (listed (message_at lim sent p' q')) same
        ∙ listed_ext (message_at lim sent p' q') (message_at lim s p' q') (held lim s p' q') (λ j u. old h i j u))
      where
        old : p' < lim.roles → q' < lim.roles → (j : ℕ) → j < held lim s p' q' → message_at lim sent p' q' j ≡ message_at lim s p' q' j
        old h i j u =
            let other : ¬ ((p' ≡ p) × (q' ≡ q) × (j ≡ held lim s p q)) = λ t. n (t.0, t.1) in
            let small : j < lim.depth = omega (arith, k.few p' q' h i) in
            ap₂ (λ a b. (a, b)) (sent_label_kept lim ts roles s k few_roles p q two l v x room p' q' j i small other)
            (sent_payload_kept lim ts roles s k few_roles p q two l v x room p' q' j i small other)

    pub sent_queues : (p' q' : ℕ)
        → put_pair (config_of lim roles s).queue p q ((config_of lim roles s).queue p q ++ ((l, v) ∷ [])) p' q' ≡ (config_of lim roles sent).queue p' q'
    sent_queues p' q' =
        put_pair_all (λ p' q' w. w ≡ (config_of lim roles sent).queue p' q') (config_of lim roles s).queue p q
        ((config_of lim roles s).queue p q ++ ((l, v) ∷ []))
        (rw (pair_true roles p q two.sender_in two.receiver_in two.different) contents_sent)
        (λ a b n. only_pairs (are_pair roles a b) (contents lim s a b) (contents lim sent a b) (λ e. contents_sent_other a b e n)) p' q'

  module _ (x : ℕ) (some : 0 < held lim s p q) where
    abbrev received : Session
    received = moved (taken lim s p q) q x

    pub received_rows : (r : ℕ) → put (config_of lim roles s).rows q x r ≡ (config_of lim roles received).rows r
    received_rows r =
        put_all (λ r y. y ≡ head_of received r) (config_of lim roles s).rows q x
        (sym (head_moved lim ts roles s k few_roles p q two q x two.receiver_in))
        (λ r n. sym (head_kept lim ts roles s k few_roles p q two q x r n)) r

    pub contents_received : contents lim s p q ≡ message_at lim s p q 0 ∷ contents lim received p q
    contents_received =
        let less : held lim received p q ≡ pred (held lim s p q) = taken_held lim ts roles s k few_roles p q two x some in
        let same : listed (λ j. message_at lim s p q (suc j)) (pred (held lim s p q)) ≡ contents lim received p q =
        sym (ap (listed (message_at lim received p q)) less
        ∙ listed_ext (message_at lim received p q) (λ j. message_at lim s p q (suc j)) (pred (held lim s p q)) (λ j h. next j h)) in
        listed_first (message_at lim s p q) (held lim s p q) some ∙ ap (λ xs. message_at lim s p q 0 ∷ xs) same
      where
        next : (j : ℕ) → j < pred (held lim s p q) → message_at lim received p q j ≡ message_at lim s p q (suc j)
        next j h =
            let small : suc j < lim.depth = omega (arith, k.few p q p_in q_in) in
            ap₂ (λ a b. (a, b)) (taken_label lim ts roles s k few_roles p q two x some j small)
            (taken_payload lim ts roles s k few_roles p q two x some j small)

    contents_received_other : (p' q' : ℕ) → are_pair roles p' q' ≡ true → ¬ ((p' ≡ p) × (q' ≡ q)) → contents lim s p' q' ≡ contents lim received p' q'
    contents_received_other p' q' e n =
        let (h, i) = inside p' q' e in
        let same : held lim received p' q' ≡ held lim s p' q' = taken_held_other lim ts roles s k few_roles p q two x some p' q' i n in
        sym (
        ap (listed (message_at lim received p' q')) same
        ∙ listed_ext (message_at lim received p' q') (message_at lim s p' q') (held lim s p' q') (λ j u. old h i j u))
      where
        old : p' < lim.roles → q' < lim.roles → (j : ℕ) → j < held lim s p' q' → message_at lim received p' q' j ≡ message_at lim s p' q' j
        old h i j u =
            let small : j < lim.depth = omega (arith, k.few p' q' h i) in
            ap₂ (λ a b. (a, b)) (taken_label_other lim ts roles s k few_roles p q two x some p' q' j i n small)
            (taken_payload_other lim ts roles s k few_roles p q two x some p' q' j i n small)

    pub received_queues : (p' q' : ℕ)
        → put_pair (config_of lim roles s).queue p q (contents lim received p q) p' q' ≡ (config_of lim roles received).queue p' q'
    received_queues p' q' =
        put_pair_all (λ p' q' w. w ≡ (config_of lim roles received).queue p' q') (config_of lim roles s).queue p q (contents lim received p q)
        (sym (queue_of lim roles p q received two))
        (λ a b n. only_pairs (are_pair roles a b) (contents lim s a b) (contents lim received a b) (λ e. contents_received_other a b e n)) p' q'

pub fresh_queue : (lim : Limits) (roles : ℕ) (s : Session) (p q : ℕ) → held lim s p q ≡ 0 → (config_of lim roles s).queue p q ≡ []
unfolding listed
fresh_queue lim roles s p q e = only_empty (are_pair roles p q) (contents lim s p q) (rw e)
  where
    only_empty : (b : Bool) (xs : List (ℕ × ℕ)) → xs ≡ [] → cond b xs [] ≡ []
    only_empty true xs f = f
    only_empty false xs f = refl
