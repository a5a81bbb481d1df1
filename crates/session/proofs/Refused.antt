-- A refused call hands back what it was given. Assumes nothing.
use Prim.Native.Nat.{ℕ}
use mathlib.Core.Bool.{Bool, true, false, cond, not}
use mathlib.Core.List.{List}
use mathlib.Core.Option.{Option, none, some}
use mathlib.Core.Path.{◌≡◌, refl}
use lib.Dec.{leb, eqb}
use Rattle.table.specs.Limits.{Limits}
use Rattle.blocks.specs.Block.{PartRow, End, Arm, Loop, Back, Send, Receive, Other, part_row}
use Rattle.blocks.specs.Head.{arms_of, find}
use Rattle.blocks.specs.Tables.{tables_good}
use Rattle.state.specs.State.{are_pair}
use Rattle.session.specs.State.{head_of, held, label_at, state_good}
use Rattle.session.specs.Calls.{answers, refused_if, judged, fresh_of, send_arm, send_at, send_of, receive_arm, receive_at, receive_of}
use Rattle.session.specs.Awaited.{awaited_of}
use Rattle.session.specs.Refused.{HandsBack, NamesNobody, RefusedKeeps}
use Rattle.session.specs.declared.Session.{Session}
use Rattle.session.specs.Answers.{Answer, Awaiting}

-- an answer without a message
back : (lim : Limits) (n : ℕ) (s : Session) → HandsBack lim s (answers lim n s)
back lim n s = λ r. (refl, refl, refl, λ l t. refl)

-- a test that refuses hands back, and so does the rest
back_refused : (lim : Limits) (n : ℕ) (b : Bool) (s : Session) (rest : Answer) → HandsBack lim s rest → HandsBack lim s (refused_if lim n b s rest)
back_refused lim n true s rest h = back lim n s
back_refused lim n false s rest h = h

-- what holds of two answers holds of either
either : (P : Awaiting → Type 0) (b : Bool) (x y : Awaiting) → P x → P y → P (cond b x y)
either P true x y h i = h
either P false x y h i = i

module _ (lim : Limits) (ts : List ℕ) (roles p q : ℕ) (s : Session) where
  judged_back : (rest : Answer) → HandsBack lim s rest
      → HandsBack lim s (judged lim ts roles p q s rest)
  judged_back rest h =
      back_refused lim 12 (not (tables_good lim ts roles)) s _ (
      back_refused lim 13 (not (state_good lim ts roles s)) s _ (back_refused lim 14 (not (are_pair roles p q)) s rest h))

  module _ (l v : ℕ) where
    arm_back : (k : ℕ) (o : Option ℕ) → HandsBack lim s (send_arm lim ts roles p q l v s k o)
    unfolding send_arm
    arm_back k none = λ r. (refl, refl, refl, λ l t. absurd (l refl))
    arm_back k (some c) = back_refused lim 17 (leb lim.depth (held lim s p q)) s _ (λ r. absurd (r refl))

    at_back : (w : PartRow) → HandsBack lim s (send_at lim ts roles p q l v s w)
    unfolding send_at
    at_back (End a b c) = back lim 15 s
    at_back (Arm k c n) = back lim 15 s
    at_back (Loop b x y) = back lim 15 s
    at_back (Back j x y) = back lim 15 s
    at_back (Send peer f x) = back_refused lim 15 (not (eqb peer q)) s _ (arm_back _ (find l (arms_of ts roles p f)))
    at_back (Receive peer f x) = back lim 15 s
    at_back Other = back lim 15 s

    pub send_back : HandsBack lim s (send_of lim ts roles p q l v s)
    unfolding send_of
    send_back = judged_back (send_at lim ts roles p q l v s (part_row ts roles p (head_of s p))) (at_back (part_row ts roles p (head_of s p)))

  get_back : (k : ℕ) (o : Option ℕ) → HandsBack lim s (receive_arm lim ts roles p q s k o)
  unfolding receive_arm
  get_back k none = λ r. (refl, refl, refl, λ l t. absurd (t refl))
  get_back k (some c) = λ r. absurd (r refl)

  row_back : (w : PartRow) → HandsBack lim s (receive_at lim ts roles p q s w)
  unfolding receive_at
  row_back (End a b c) = back lim 15 s
  row_back (Arm k c n) = back lim 15 s
  row_back (Loop b x y) = back lim 15 s
  row_back (Back j x y) = back lim 15 s
  row_back (Send peer f x) = back lim 15 s
  row_back (Receive peer f x) =
      back_refused lim 15 (not (eqb peer p)) s _ (
      back_refused lim 18 (eqb (held lim s p q) 0) s _ (get_back _ (find (label_at lim s p q 0) (arms_of ts roles q f))))
  row_back Other = back lim 15 s

  pub receive_back : HandsBack lim s (receive_of lim ts roles p q s)
  unfolding receive_of
  receive_back = judged_back (receive_at lim ts roles p q s (part_row ts roles q (head_of s q))) (row_back (part_row ts roles q (head_of s q)))

pub refused_keeps : (lim : Limits) → RefusedKeeps lim
unfolding fresh_of awaited_of
refused_keeps lim = record {
  fresh = λ ts roles. back_refused lim 12 (not (tables_good lim ts roles)) _ _ (λ r. absurd (r refl));
  send = λ s ts roles p q l v. send_back lim ts roles p q s l v;
  receive = λ s ts roles p q. receive_back lim ts roles p q s;
  awaited_state = λ s ts roles.
      either (λ a. a.state ≡ s) (not (tables_good lim ts roles)) _ _ refl (
      either (λ a. a.state ≡ s) (not (state_good lim ts roles s)) _ _ refl refl);
  awaited = λ s ts roles.
      either (NamesNobody lim) (not (tables_good lim ts roles)) _ _ (λ r. (refl, refl, refl)) (
      either (NamesNobody lim) (not (state_good lim ts roles s)) _ _ (λ r. (refl, refl, refl)) (λ r. absurd (r refl)));
}
