-- When a send or a receive is accepted, and that the awaited roles are exactly those with such a call. Assumes nothing.
use Prim.Native.Nat.{ℕ, zero, suc, ◌<◌}
use mathlib.Core.Bool.{true, ◌&&◌, true≢false}
use mathlib.Core.List.{List}
use mathlib.Core.Option.{Option, none, some}
use mathlib.Core.Path.{◌≡◌, refl, sym, ◌∙◌, ap}
use lib.Dec.{eqb, ltb}
use native.Mathlib.Omega.{arith}
use borrow.Author.Tests.{lt-ltb, ltb-true, eq-eqb, ne_eqb, lt-leb}
use Rattle.table.specs.Limits.{base}
use Rattle.blocks.specs.Block.{PartRow, End, Arm, Loop, Back, Send, Receive, Other, part_row, block_rows, is_arm}
use Rattle.blocks.specs.Head.{find, chain, arm_then, arms_of}
use Rattle.blocks.specs.Tables.{tables_good, row_holds, to_arm, is_peer}
use Rattle.state.specs.State.{are_pair}
use Rattle.state.specs.Awaited.{is_found, can_act}
use Rattle.std.specs.Prelude.{Result, Ok, Err}
use Rattle.state.specs.declared.Refusal.{Refusal}
use Rattle.state.specs.mirror.Judged.{send_judged, receive_judged}
use Rattle.session.specs.State.{listed, head_of, held, label_at, state_good}
use Rattle.session.specs.Calls.{send_arm, send_at, send_of, receive_arm, receive_at, receive_of}
use Rattle.session.specs.Awaited.{is_awaited, role_set, awaited_of}
use Rattle.session.specs.declared.Session.{Session}
use Rattle.session.specs.Answers.{Answer}
use Rattle.blocks.proofs.Good.{both, sized_bounds}
use Rattle.blocks.proofs.Sound.{good_sized, row_holds_lem, send_peer, receive_peer}
use Rattle.state.proofs.Sound.{head_stands}
use Rattle.state.proofs.Passed.{SendTo, send_to, ReceiveTo, receive_to}
use Rattle.session.proofs.Calling.{after_send, after_send_lem, after_receive, after_receive_lem, refused_number}

-- ---- accepted means that no test refused

module _ (ts : List ℕ) (roles p q : ℕ) (s : Session) where
  -- a send that was accepted: where its sender went, and all that was tested
  pub send_accepted : (l v : ℕ) → (send_of base ts roles p q l v s).number ≡ 0
      → (h : ℕ) × SendTo ts roles p q l h (listed s) × (send_of base ts roles p q l v s ≡ after_send ts roles p q s l v (Ok h))
  send_accepted l v e = which (send_judged base ts roles p q l (listed s)) refl
    where
      which : (t : Result ℕ Refusal) → send_judged base ts roles p q l (listed s) ≡ t
          → (h : ℕ) × SendTo ts roles p q l h (listed s) × (send_of base ts roles p q l v s ≡ after_send ts roles p q s l v (Ok h))
      which (Err r) f =
          absurd (refused_number s r (ap (λ (a : Answer). a.number) (ap (after_send ts roles p q s l v) (sym f) ∙ after_send_lem ts roles p q s l v) ∙ e))
      which (Ok h) f = (h, send_to ts roles p q (listed s) h l f, sym (after_send_lem ts roles p q s l v) ∙ ap (after_send ts roles p q s l v) f)

  pub receive_accepted : (receive_of base ts roles p q s).number ≡ 0
      → (h : ℕ) × ReceiveTo ts roles p q h (listed s) × (receive_of base ts roles p q s ≡ after_receive ts roles p q s (Ok h))
  receive_accepted e = which (receive_judged base ts roles p q (listed s)) refl
    where
      which : (t : Result ℕ Refusal) → receive_judged base ts roles p q (listed s) ≡ t
          → (h : ℕ) × ReceiveTo ts roles p q h (listed s) × (receive_of base ts roles p q s ≡ after_receive ts roles p q s (Ok h))
      which (Err r) f =
          absurd (refused_number s r (ap (λ (a : Answer). a.number) (ap (after_receive ts roles p q s) (sym f) ∙ after_receive_lem ts roles p q s) ∙ e))
      which (Ok h) f = (h, receive_to ts roles p q (listed s) h f, sym (after_receive_lem ts roles p q s) ∙ ap (after_receive ts roles p q s) f)

-- ---- awaited

-- role r has a call that is accepted: it sends, or it receives
pub data HasCall (ts : List ℕ) (roles : ℕ) (s : Session) (r : ℕ) : Type 0 where
  sends : (q l v : ℕ) → (send_of base ts roles r q l v s).number ≡ 0 → HasCall ts roles s r
  receives : (p : ℕ) → (receive_of base ts roles p r s).number ≡ 0 → HasCall ts roles s r

pub arm_first : (row : PartRow) → is_arm row ≡ true → (l : ℕ) × (c : ℕ) × (n : ℕ) × (row ≡ Arm l c n)
arm_first (End a b c) e = absurd (true≢false (sym e))
arm_first (Arm l c n) e = (l, c, n, refl)
arm_first (Loop b x y) e = absurd (true≢false (sym e))
arm_first (Back j x y) e = absurd (true≢false (sym e))
arm_first (Send q f x) e = absurd (true≢false (sym e))
arm_first (Receive q f x) e = absurd (true≢false (sym e))
arm_first Other e = absurd (true≢false (sym e))

-- the first arm's label is found
pub found_first : (ts : List ℕ) (roles r l c m n f : ℕ) → 0 < n → 0 < f → part_row ts roles r f ≡ Arm l c m → find l (chain n ts roles r f) ≡ some c
unfolding find chain arm_then
found_first ts roles r l c m zero f p q e = absurd (omega arith)
found_first ts roles r l c m (suc n) zero p q e = absurd (omega arith)
found_first ts roles r l c m (suc n) (suc f) p q e = rw (e, eq-eqb l l refl)

pub is_found_lem : (o : Option ℕ) → is_found o ≡ true → (c : ℕ) × (o ≡ some c)
is_found_lem none e = absurd (true≢false (sym e))
is_found_lem (some c) e = (c, refl)

pair_of : (roles p q : ℕ) → p < roles → q < roles → (p ≡ q → ⊥) → are_pair roles p q ≡ true
pair_of roles p q a b n = rw (lt-ltb p roles a, lt-ltb q roles b, ne_eqb p q n)

module _ (ts : List ℕ) (roles : ℕ) (s : Session) (good : tables_good base ts roles ≡ true) (standing : state_good base ts roles s ≡ true) where
  send_goes : (p q l v f x c : ℕ) → are_pair roles p q ≡ true → part_row ts roles p (head_of s p) ≡ Send q f x → find l (arms_of ts roles p f) ≡ some c
      → held base s p q < 4 → (send_of base ts roles p q l v s).number ≡ 0
  unfolding send_of send_at send_arm
  send_goes p q l v f x c two row found room = rw (good, standing, two, row, eq-eqb q q refl, found, lt-leb 4 (held base s p q) room)

  receive_goes : (p q f x c : ℕ) → are_pair roles p q ≡ true → part_row ts roles q (head_of s q) ≡ Receive p f x → find (label_at base s p q 0) (arms_of ts roles q f) ≡ some c
      → 0 < held base s p q → (receive_of base ts roles p q s).number ≡ 0
  unfolding receive_of receive_at receive_arm
  receive_goes p q f x c two row found some_held =
      rw (good, standing, two, row, eq-eqb p p refl, ne_eqb (held base s p q) 0 (omega arith), found)

  module _ (r : ℕ) (present : r < roles) where
    -- by the head's row
    row_acts : (row : PartRow) → part_row ts roles r (head_of s r) ≡ row → row_holds base ts roles r (head_of s r) row ≡ true → can_act base ts roles (listed s) r row ≡ true
        → HasCall ts roles s r
    unfolding can_act row_holds
    row_acts (End a b c) e h t = absurd (true≢false (sym t))
    row_acts (Arm l c n) e h t = absurd (true≢false (sym t))
    row_acts (Loop b x y) e h t = absurd (true≢false (sym t))
    row_acts (Back j x y) e h t = absurd (true≢false (sym t))
    row_acts (Send q f x) e h t =
        let (iq, ne) = send_peer ts roles r (head_of s r) q f x h in
        let link = (both (is_peer roles r q) (to_arm ts roles r (head_of s r) f) (both (is_peer roles r q && to_arm ts roles r (head_of s r) f) (eqb x 0) h).0).1 in
        let (ab, arm) = both (ltb (head_of s r) f && ltb f (block_rows ts roles)) (is_arm (part_row ts roles r f)) link in
        let up : head_of s r < f = ltb-true _ _ (both (ltb (head_of s r) f) (ltb f (block_rows ts roles)) ab).0 in
        let (l, c, n, is) = arm_first (part_row ts roles r f) arm in
        let b = sized_bounds ts roles (block_rows ts roles) (good_sized ts roles good) in
        sends q l 0
        (send_goes r q l 0 f x c (pair_of roles r q present iq (λ z. ne (sym z))) e
        (found_first ts roles r l c n (block_rows ts roles) f b.2 (omega arith) is) (ltb-true _ _ t))
    row_acts (Receive p f x) e h t =
        let (ip, ne) = receive_peer ts roles r (head_of s r) p f x h in
        let (some_held, arm) = both (ltb 0 (held base s p r)) (is_found (find (label_at base s p r 0) (arms_of ts roles r f))) t in
        let (c, found) = is_found_lem (find (label_at base s p r 0) (arms_of ts roles r f)) arm in
        receives p (receive_goes p r f x c (pair_of roles p r ip present ne) e found (ltb-true _ _ some_held))
    row_acts Other e h t = absurd (true≢false (sym t))

    -- an awaited role has a call that is accepted
    pub awaited_acts : is_awaited base ts roles s r ≡ true → HasCall ts roles s r
    awaited_acts t =
        let b = sized_bounds ts roles (block_rows ts roles) (good_sized ts roles good) in
        let hs = head_stands ts roles (listed s) standing r present (omega (arith, b.1)) in
        row_acts (part_row ts roles r (head_of s r)) refl (row_holds_lem ts roles good r present (head_of s r) hs.0) t

-- and a role that has one is awaited
pub acts_awaited : (ts : List ℕ) (roles : ℕ) (s : Session) (r : ℕ) → HasCall ts roles s r → is_awaited base ts roles s r ≡ true
unfolding can_act
acts_awaited ts roles s r (sends q l v e) =
    let (h, t, is) = send_accepted ts roles r q s l v e in
    rw (t.sent.is, lt-ltb (held base s r q) 4 t.sent.room)
acts_awaited ts roles s r (receives p e) =
    let (h, t, is) = receive_accepted ts roles p r s e in
    rw (t.received.is, lt-ltb 0 (held base s p r) t.received.some_held, t.received.found)

-- over good tables and a good state the answer is the set of the awaited roles, how many they are, and the least of them, or 8
pub awaited_is : (ts : List ℕ) (roles : ℕ) (s : Session) → tables_good base ts roles ≡ true → state_good base ts roles s ≡ true
    → awaited_of base ts roles s ≡ role_set 0 (is_awaited base ts roles s) roles 8 s
unfolding awaited_of
awaited_is ts roles s good standing = rw (good, standing)
