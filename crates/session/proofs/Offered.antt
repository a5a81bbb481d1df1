-- What a refusal for a label offers would be taken; every other answer offers nothing. Assumes nothing.
use Prim.Native.Nat.{ℕ, ◌<◌}
use mathlib.Core.Bool.{Bool, true, false, ◌&&◌, not}
use mathlib.Core.List.{List}
use mathlib.Core.Logic.{◌⊎◌, inl, inr, ◌≢◌}
use mathlib.Core.Option.{Option, none, some}
use mathlib.Core.Path.{◌≡◌, refl, ◌∙◌}
use lib.Dec.{eqb, leb, ltb}
use native.Mathlib.Omega.{arith}
use borrow.Author.Tests.{eqb-true, eq-eqb, ltb-true, not-false}
use Rattle.table.specs.Limits.{Limits, base}
use Rattle.blocks.specs.Block.{PartRow, End, Arm, Loop, Back, Send, Receive, Other, part_row, block_rows, is_arm}
use Rattle.blocks.specs.Head.{arms_of, find, lowest_label}
use Rattle.blocks.specs.Tables.{tables_good, row_holds, to_arm, is_peer}
use Rattle.state.specs.State.{are_pair}
use Rattle.session.specs.State.{listed, head_of, held, label_at, state_good}
use Rattle.session.specs.Calls.{offering, answers, refused_if, judged, fresh_of, send_arm, send_at, send_of, receive_arm, receive_at, receive_of}
use Rattle.session.specs.Offered.{Least, WouldBeSent, WouldBeReceived, SaysWhatIsTaken}
use Rattle.session.specs.declared.Session.{Session}
use Rattle.session.specs.Answers.{Answer}
use Rattle.blocks.proofs.Good.{both, sized_bounds}
use Rattle.blocks.proofs.Lowest.{lowest_least, lowest_found}
use Rattle.blocks.proofs.Sound.{Reached, good_sized, row_holds_lem, to_arm_in, chain_found}
use Rattle.state.proofs.Sound.{pair_in, head_stands}
use Rattle.session.proofs.Accepted.{arm_first, found_first, is_found_lem}

-- ---- the least label of a head

-- a link from row i of a good block to the first arm f
module _ (lim : Limits) (ts : List ℕ) (roles r : ℕ) (holds : (i : ℕ) → i < block_rows ts roles → row_holds lim ts roles r i (part_row ts roles r i) ≡ true)
    (i f : ℕ) (inside : i < block_rows ts roles) (link : to_arm ts roles r i f ≡ true) where
  reached : (k c : ℕ) → find k (arms_of ts roles r f) ≡ some c → Reached lim ts roles r k c
  reached k c e = chain_found lim ts roles r holds k c (block_rows ts roles) f (to_arm_in ts roles r i f link) e

  pub least_arm : Least lim (arms_of ts roles r f) (lowest_label lim.labels (arms_of ts roles r f))
  least_arm =
      let (ab, arm) = both (ltb i f && ltb f (block_rows ts roles)) (is_arm (part_row ts roles r f)) link in
      let up : i < f = ltb-true _ _ (both (ltb i f) (ltb f (block_rows ts roles)) ab).0 in
      let (l, c, n, is) = arm_first (part_row ts roles r f) arm in
      let found = found_first ts roles r l c n (block_rows ts roles) f (omega arith) (omega arith) is in
      let (d, lowest) = lowest_found lim.labels l c (arms_of ts roles r f) found (reached l c found).low in
      record {
        low = (reached (lowest_label lim.labels (arms_of ts roles r f)) d lowest).low;
        among = rw lowest;
        none_lower = λ m e. let (c', g) = is_found_lem (find m (arms_of ts roles r f)) e in lowest_least lim.labels m c' (arms_of ts roles r f) g;
      }

-- ---- which test refused

-- not the one whose number is another
passes : (n m : ℕ) (b : Bool) (s : Session) (rest : Answer) → n ≢ m → (refused_if base n b s rest).number ≡ m → (b ≡ false) × (rest.number ≡ m)
passes n m true s rest ne e = absurd (ne e)
passes n m false s rest ne e = (refl, e)

full_or_not : (s t : Session) (b : Bool) → let n = (refused_if base 17 b s (answers base 0 t)).number in n ≡ 0 ⊎ n ≡ 17
full_or_not s t true = inr refl
full_or_not s t false = inl refl

module _ (ts : List ℕ) (roles p q : ℕ) (s : Session) where
  -- none of rules 12 to 14
  stood : (m : ℕ) (rest : Answer) → 14 < m → (judged base ts roles p q s rest).number ≡ m
      → (tables_good base ts roles ≡ true) × (state_good base ts roles s ≡ true) × (are_pair roles p q ≡ true) × (rest.number ≡ m)
  stood m rest past e =
      let (a, e1) = passes 12 m (not (tables_good base ts roles)) s _ (λ z. omega arith) e in
      let (b, e2) = passes 13 m (not (state_good base ts roles s)) s _ (λ z. omega arith) e1 in
      let (c, e3) = passes 14 m (not (are_pair roles p q)) s rest (λ z. omega arith) e2 in
      (not-false _ a, not-false _ b, not-false _ c, e3)

  -- the head's row, and that the label is not among its arms
  record Unsent (l : ℕ) (row : PartRow) : Type 0 where
    first : ℕ
    spare : ℕ
    is : row ≡ Send q first spare
    unknown : find l (arms_of ts roles p first) ≡ none

  unsent_arm : (l v k : ℕ) (o : Option ℕ) → (send_arm base ts roles p q l v s k o).number ≡ 16 → o ≡ none
  unfolding send_arm
  unsent_arm l v k none e = refl
  unsent_arm l v k (some c) e =
      absurd (let (b, z) = passes 17 16 (leb 4 (held base s p q)) s _ (λ y. omega arith) e in let y : 0 ≡ 16 = z in omega arith)

  unsent : (l v : ℕ) (row : PartRow) → (send_at base ts roles p q l v s row).number ≡ 16 → Unsent l row
  unfolding send_at
  unsent l v (End a b c) e = absurd (let z : 15 ≡ 16 = e in omega arith)
  unsent l v (Arm k c n) e = absurd (let z : 15 ≡ 16 = e in omega arith)
  unsent l v (Loop b x y) e = absurd (let z : 15 ≡ 16 = e in omega arith)
  unsent l v (Back j x y) e = absurd (let z : 15 ≡ 16 = e in omega arith)
  unsent l v (Send peer f x) e =
      let (a, rest) = passes 15 16 (not (eqb peer q)) s _ (λ y. omega arith) e in
      rw (eqb-true peer q (not-false _ a)) record { first = f; spare = x; is = refl; unknown = unsent_arm l v _ (find l (arms_of ts roles p f)) rest }
  unsent l v (Receive peer f x) e = absurd (let z : 15 ≡ 16 = e in omega arith)
  unsent l v Other e = absurd (let z : 15 ≡ 16 = e in omega arith)

  record Stray (row : PartRow) : Type 0 where
    first : ℕ
    spare : ℕ
    is : row ≡ Receive p first spare
    some_held : eqb (held base s p q) 0 ≡ false
    unknown : find (label_at base s p q 0) (arms_of ts roles q first) ≡ none

  stray_arm : (k : ℕ) (o : Option ℕ) → (receive_arm base ts roles p q s k o).number ≡ 19 → o ≡ none
  unfolding receive_arm
  stray_arm k none e = refl
  stray_arm k (some c) e = absurd (let z : 0 ≡ 19 = e in omega arith)

  stray : (row : PartRow) → (receive_at base ts roles p q s row).number ≡ 19 → Stray row
  unfolding receive_at
  stray (End a b c) e = absurd (let z : 15 ≡ 19 = e in omega arith)
  stray (Arm k c n) e = absurd (let z : 15 ≡ 19 = e in omega arith)
  stray (Loop b x y) e = absurd (let z : 15 ≡ 19 = e in omega arith)
  stray (Back j x y) e = absurd (let z : 15 ≡ 19 = e in omega arith)
  stray (Send peer f x) e = absurd (let z : 15 ≡ 19 = e in omega arith)
  stray (Receive peer f x) e =
      let (a, e1) = passes 15 19 (not (eqb peer p)) s _ (λ y. omega arith) e in
      let (b, rest) = passes 18 19 (eqb (held base s p q) 0) s _ (λ y. omega arith) e1 in
      rw (eqb-true peer p (not-false _ a)) record { first = f; spare = x; is = refl; some_held = b; unknown = stray_arm _ (find (label_at base s p q 0) (arms_of ts roles q f)) rest }
  stray Other e = absurd (let z : 15 ≡ 19 = e in omega arith)

-- ---- what it offers

module _ (ts : List ℕ) (roles p q : ℕ) (s : Session) (good : tables_good base ts roles ≡ true) (whole : state_good base ts roles s ≡ true)
    (two : are_pair roles p q ≡ true) (f x : ℕ) where
  -- a present role's head is a row of its block
  head_inside : (r : ℕ) → r < roles → head_of s r < block_rows ts roles
  head_inside r present =
      let b = sized_bounds ts roles (block_rows ts roles) (good_sized ts roles good) in
      (head_stands ts roles (listed s) whole r present (omega (arith, b.1))).0

  module _ (is : part_row ts roles p (head_of s p) ≡ Send q f x) where
    -- a label among the arms
    sent_or_full : (l v c : ℕ) → find l (arms_of ts roles p f) ≡ some c → let n = (send_of base ts roles p q l v s).number in n ≡ 0 ⊎ n ≡ 17
    unfolding send_of send_at send_arm
    sent_or_full l v c found = rw (good, whole, two, is, eq-eqb q q refl, found) (full_or_not s _ (leb 4 (held base s p q)))

    -- and one that is not
    not_sent : (l v : ℕ) → find l (arms_of ts roles p f) ≡ none → send_of base ts roles p q l v s ≡ offering 16 (lowest_label 64 (arms_of ts roles p f)) s
    unfolding send_of send_at send_arm
    not_sent l v unknown = rw (good, whole, two, is, eq-eqb q q refl, unknown)

    lower_refused : (l v : ℕ) (o : Option ℕ) → find l (arms_of ts roles p f) ≡ o → l < lowest_label 64 (arms_of ts roles p f) → (send_of base ts roles p q l v s).number ≡ 16
    lower_refused l v none e low = rw (not_sent l v e)
    lower_refused l v (some c) e low = absurd (let least = lowest_least 64 l c (arms_of ts roles p f) e in omega arith)

    would_be_sent : WouldBeSent base ts roles p q s (lowest_label 64 (arms_of ts roles p f))
    unfolding row_holds
    would_be_sent =
        let (ip, iq, ne) = pair_in roles p q two in
        let row : row_holds base ts roles p (head_of s p) (Send q f x) ≡ true = rw is at (row_holds_lem ts roles good p ip (head_of s p) (head_inside p ip)) in
        let (ab, zero) = both (is_peer roles p q && to_arm ts roles p (head_of s p) f) (eqb x 0) row in
        let least = least_arm base ts roles p (row_holds_lem ts roles good p ip) (head_of s p) f (head_inside p ip) (both (is_peer roles p q) (to_arm ts roles p (head_of s p) f) ab).1 in
        let (c, found) = is_found_lem (find (lowest_label 64 (arms_of ts roles p f)) (arms_of ts roles p f)) least.among in
        record {
          first = f;
          is = is ∙ rw (eqb-true x 0 zero);
          least = least;
          taken = λ v. sent_or_full (lowest_label 64 (arms_of ts roles p f)) v c found;
          lower = λ m v low. lower_refused m v (find m (arms_of ts roles p f)) refl low;
        }

  module _ (is : part_row ts roles q (head_of s q) ≡ Receive p f x) where
    not_received : eqb (held base s p q) 0 ≡ false → find (label_at base s p q 0) (arms_of ts roles q f) ≡ none
        → receive_of base ts roles p q s ≡ offering 19 (lowest_label 64 (arms_of ts roles q f)) s
    unfolding receive_of receive_at receive_arm
    not_received some_held unknown = rw (good, whole, two, is, eq-eqb p p refl, some_held, unknown)

    would_be_received : WouldBeReceived base ts roles p q s (lowest_label 64 (arms_of ts roles q f))
    unfolding row_holds
    would_be_received =
        let (ip, iq, ne) = pair_in roles p q two in
        let row : row_holds base ts roles q (head_of s q) (Receive p f x) ≡ true = rw is at (row_holds_lem ts roles good q iq (head_of s q) (head_inside q iq)) in
        let (ab, zero) = both (is_peer roles q p && to_arm ts roles q (head_of s q) f) (eqb x 0) row in
        record {
          first = f;
          is = is ∙ rw (eqb-true x 0 zero);
          least = least_arm base ts roles q (row_holds_lem ts roles good q iq) (head_of s q) f (head_inside q iq) (both (is_peer roles q p) (to_arm ts roles q (head_of s q) f) ab).1;
        }

-- ---- every other answer offers nothing

-- an answer that is not refused with m
abbrev OffersElse : Limits → ℕ → Answer → Type 0
OffersElse lim m a = a.number ≢ m → a.offered ≡ lim.labels

else_refused_if : (lim : Limits) (m n : ℕ) (b : Bool) (s : Session) (rest : Answer) → OffersElse lim m rest → OffersElse lim m (refused_if lim n b s rest)
else_refused_if lim m n true s rest h = λ ne. refl
else_refused_if lim m n false s rest h = h

module _ (lim : Limits) (ts : List ℕ) (roles p q : ℕ) (s : Session) where
  else_standing : (m : ℕ) (rest : Answer) → OffersElse lim m rest → OffersElse lim m (judged lim ts roles p q s rest)
  else_standing m rest h =
      else_refused_if lim m 12 (not (tables_good lim ts roles)) s _ (
      else_refused_if lim m 13 (not (state_good lim ts roles s)) s _ (else_refused_if lim m 14 (not (are_pair roles p q)) s rest h))

  else_sent : (l v k : ℕ) (o : Option ℕ) → OffersElse lim 16 (send_arm lim ts roles p q l v s k o)
  unfolding send_arm
  else_sent l v k none = λ ne. absurd (ne refl)
  else_sent l v k (some c) = else_refused_if lim 16 17 (leb lim.depth (held lim s p q)) s _ (λ ne. refl)

  else_send : (l v : ℕ) (row : PartRow) → OffersElse lim 16 (send_at lim ts roles p q l v s row)
  unfolding send_at
  else_send l v (End a b c) = λ ne. refl
  else_send l v (Arm k c n) = λ ne. refl
  else_send l v (Loop b x y) = λ ne. refl
  else_send l v (Back j x y) = λ ne. refl
  else_send l v (Send peer f x) = else_refused_if lim 16 15 (not (eqb peer q)) s _ (else_sent l v _ (find l (arms_of ts roles p f)))
  else_send l v (Receive peer f x) = λ ne. refl
  else_send l v Other = λ ne. refl

  else_received : (k : ℕ) (o : Option ℕ) → OffersElse lim 19 (receive_arm lim ts roles p q s k o)
  unfolding receive_arm
  else_received k none = λ ne. absurd (ne refl)
  else_received k (some c) = λ ne. refl

  else_receive : (row : PartRow) → OffersElse lim 19 (receive_at lim ts roles p q s row)
  unfolding receive_at
  else_receive (End a b c) = λ ne. refl
  else_receive (Arm k c n) = λ ne. refl
  else_receive (Loop b x y) = λ ne. refl
  else_receive (Back j x y) = λ ne. refl
  else_receive (Send peer f x) = λ ne. refl
  else_receive (Receive peer f x) =
      else_refused_if lim 19 15 (not (eqb peer p)) s _ (
      else_refused_if lim 19 18 (eqb (held lim s p q) 0) s _ (else_received _ (find (label_at lim s p q 0) (arms_of ts roles q f))))
  else_receive Other = λ ne. refl

fresh_none : (lim : Limits) (b : Bool) (s t : Session) → (refused_if lim 12 b s (answers lim 0 t)).offered ≡ lim.labels
fresh_none lim true s t = refl
fresh_none lim false s t = refl

pub says_what_is_taken : SaysWhatIsTaken base
unfolding fresh_of send_of receive_of
says_what_is_taken = record {
  send = λ s ts roles p q l v e.
      let (good, whole, two, rest) = stood ts roles p q s 16 _ (omega arith) e in
      let t = unsent ts roles p q s l v (part_row ts roles p (head_of s p)) rest in
      rw (not_sent ts roles p q s good whole two t.first t.spare t.is l v t.unknown)
      (would_be_sent ts roles p q s good whole two t.first t.spare t.is);
  receive = λ s ts roles p q e.
      let (good, whole, two, rest) = stood ts roles p q s 19 _ (omega arith) e in
      let t = stray ts roles p q s (part_row ts roles q (head_of s q)) rest in
      rw (not_received ts roles p q s good whole two t.first t.spare t.is t.some_held t.unknown)
      (would_be_received ts roles p q s good whole two t.first t.spare t.is);
  fresh_else = λ ts roles. fresh_none base (not (tables_good base ts roles)) _ _;
  send_else = λ s ts roles p q l v. else_standing base ts roles p q s 16 _ (else_send base ts roles p q s l v (part_row ts roles p (head_of s p)));
  receive_else = λ s ts roles p q. else_standing base ts roles p q s 19 _ (else_receive base ts roles p q s (part_row ts roles q (head_of s q)));
}
