-- Without what they offer, the answers are those of before any was offered. Assumes nothing.
use Prim.Native.Nat.{ℕ}
use mathlib.Core.Bool.{Bool, true, false, not}
use mathlib.Core.List.{List}
use mathlib.Core.Option.{Option, none, some}
use mathlib.Core.Path.{◌≡◌, refl}
use lib.Dec.{leb, eqb}
use Rattle.table.specs.Limits.{Limits}
use Rattle.blocks.specs.Block.{PartRow, End, Arm, Loop, Back, Send, Receive, Other, part_row}
use Rattle.blocks.specs.Head.{arms_of, find}
use Rattle.blocks.specs.Tables.{tables_good}
use Rattle.state.specs.State.{are_pair}
use Rattle.session.specs.State.{head_of, held, label_at, nothing, state_good}
use Rattle.session.specs.Calls.{refused_if, judged, fresh_of, send_arm, send_at, send_of, receive_arm, receive_at, receive_of}
use Rattle.session.specs.Before.{AnswerBefore, without, refused_if_before, judged_before, send_arm_before, send_at_before, receive_arm_before, receive_at_before, AnswersStay}
use Rattle.session.specs.declared.Session.{Session}
use Rattle.session.specs.Answers.{Answer}

-- a test stays, where the rest does
same_refused_if : (lim : Limits) (n : ℕ) (b : Bool) (s : Session) (rest : Answer) (before : AnswerBefore) → without rest ≡ before
    → without (refused_if lim n b s rest) ≡ refused_if_before n b s before
same_refused_if lim n true s rest before e = refl
same_refused_if lim n false s rest before e = e

module _ (lim : Limits) (ts : List ℕ) (roles p q : ℕ) (s : Session) where
  same_standing : (rest : Answer) (before : AnswerBefore) → without rest ≡ before
      → without (judged lim ts roles p q s rest) ≡ judged_before lim ts roles p q s before
  same_standing rest before e =
      same_refused_if lim 12 (not (tables_good lim ts roles)) s _ _ (
      same_refused_if lim 13 (not (state_good lim ts roles s)) s _ _ (same_refused_if lim 14 (not (are_pair roles p q)) s rest before e))

  module _ (l v : ℕ) where
    same_send_arm : (k : ℕ) (o : Option ℕ) → without (send_arm lim ts roles p q l v s k o) ≡ send_arm_before lim ts roles p q l v s o
    unfolding send_arm
    same_send_arm k none = refl
    same_send_arm k (some c) = same_refused_if lim 17 (leb lim.depth (held lim s p q)) s _ _ refl

    same_send_at : (row : PartRow) → without (send_at lim ts roles p q l v s row) ≡ send_at_before lim ts roles p q l v s row
    unfolding send_at
    same_send_at (End a b c) = refl
    same_send_at (Arm k c n) = refl
    same_send_at (Loop b x y) = refl
    same_send_at (Back j x y) = refl
    same_send_at (Send peer f x) = same_refused_if lim 15 (not (eqb peer q)) s _ _ (same_send_arm _ (find l (arms_of ts roles p f)))
    same_send_at (Receive peer f x) = refl
    same_send_at Other = refl

  same_receive_arm : (k : ℕ) (o : Option ℕ) → without (receive_arm lim ts roles p q s k o) ≡ receive_arm_before lim ts roles p q s o
  unfolding receive_arm
  same_receive_arm k none = refl
  same_receive_arm k (some c) = refl

  same_receive_at : (row : PartRow) → without (receive_at lim ts roles p q s row) ≡ receive_at_before lim ts roles p q s row
  unfolding receive_at
  same_receive_at (End a b c) = refl
  same_receive_at (Arm k c n) = refl
  same_receive_at (Loop b x y) = refl
  same_receive_at (Back j x y) = refl
  same_receive_at (Send peer f x) = refl
  same_receive_at (Receive peer f x) =
      same_refused_if lim 15 (not (eqb peer p)) s _ _ (
      same_refused_if lim 18 (eqb (held lim s p q) 0) s _ _ (same_receive_arm _ (find (label_at lim s p q 0) (arms_of ts roles q f))))
  same_receive_at Other = refl

pub answers_stay : (lim : Limits) → AnswersStay lim
unfolding fresh_of send_of receive_of
answers_stay lim = record {
  fresh = λ ts roles. same_refused_if lim 12 (not (tables_good lim ts roles)) (nothing lim) _ _ refl;
  send = λ s ts roles p q l v. same_standing lim ts roles p q s _ _ (same_send_at lim ts roles p q s l v (part_row ts roles p (head_of s p)));
  receive = λ s ts roles p q. same_standing lim ts roles p q s _ _ (same_receive_at lim ts roles p q s (part_row ts roles q (head_of s q)));
}
