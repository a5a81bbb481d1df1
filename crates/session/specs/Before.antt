-- Fresh, send and receive as they were before a refusal said what would have been taken, where a failed lookup gives nothing. Kept for the
-- theorem that acceptances do not move. Assumes nothing.
use Rattle.std.specs.Prelude.{ℕ, Bool, cond, not, List, ◌≡◌, leb, eqb}
use Rattle.std.proofs.Math.Option.{Option, none, some}
use Rattle.table.specs.Limits.{Limits}
use Rattle.table.specs.Numbers.{ACCEPTED}
use Rattle.blocks.specs.Block.{PartRow, End, Arm, Loop, Back, Send, Receive, Other, part_row}
use Rattle.blocks.specs.Head.{head, arms_of, find}
use Rattle.blocks.specs.Tables.{tables_good}
use Rattle.state.specs.Numbers.{TABLES, STATE, PARTY, TURN, LABEL, FULL, EMPTY, STRAY}
use Rattle.state.specs.State.{are_pair}
use Rattle.session.specs.State.{head_of, held, label_at, payload_at, nothing, state_good, moved, pushed, taken}
use Rattle.session.specs.Calls.{first_heads, fresh_of, send_of, receive_of}
use Rattle.session.specs.declared.Session.{Session}
use Rattle.session.specs.Answers.{Answer}

pub record AnswerBefore : Type 0 where
  pub number : ℕ
  pub label : ℕ
  pub payload : ℕ
  pub state : Session

-- an answer without what it offers
abbrev pub without : Answer → AnswerBefore
without a = record { number = a.number; label = a.label; payload = a.payload; state = a.state }

abbrev pub answers_before : ℕ → Session → AnswerBefore
answers_before n s = record { number = n; label = 0; payload = 0; state = s }

abbrev pub refused_if_before : ℕ → Bool → Session → AnswerBefore → AnswerBefore
refused_if_before n broken s rest = cond broken (answers_before n s) rest

abbrev pub judged_before : Limits → List ℕ → ℕ → ℕ → ℕ → Session → AnswerBefore → AnswerBefore
judged_before lim ts roles p q s rest =
    refused_if_before TABLES (not (tables_good lim ts roles)) s (
    refused_if_before STATE (not (state_good lim ts roles s)) s (
    refused_if_before PARTY (not (are_pair roles p q)) s rest))

abbrev pub fresh_before : Limits → List ℕ → ℕ → AnswerBefore
fresh_before lim ts roles =
    refused_if_before TABLES (not (tables_good lim ts roles)) (nothing lim) (
    answers_before ACCEPTED (record {
      heads = first_heads ts roles lim.roles;
      counts = (nothing lim).counts;
      labels = (nothing lim).labels;
      payloads = (nothing lim).payloads;
    }))

abbrev pub send_arm_before : Limits → List ℕ → ℕ → ℕ → ℕ → ℕ → ℕ → Session → Option ℕ → AnswerBefore
send_arm_before lim ts roles p q l v s none = answers_before LABEL s
send_arm_before lim ts roles p q l v s (some c) =
    refused_if_before FULL (leb lim.depth (held lim s p q)) s (
    answers_before ACCEPTED (moved (pushed lim s p q l v) p (head ts roles p c)))

abbrev pub send_at_before : Limits → List ℕ → ℕ → ℕ → ℕ → ℕ → ℕ → Session → PartRow → AnswerBefore
send_at_before lim ts roles p q l v s (End a b c) = answers_before TURN s
send_at_before lim ts roles p q l v s (Arm k c n) = answers_before TURN s
send_at_before lim ts roles p q l v s (Loop b x y) = answers_before TURN s
send_at_before lim ts roles p q l v s (Back j x y) = answers_before TURN s
send_at_before lim ts roles p q l v s (Send peer f x) =
    refused_if_before TURN (not (eqb peer q)) s (send_arm_before lim ts roles p q l v s (find l (arms_of ts roles p f)))
send_at_before lim ts roles p q l v s (Receive peer f x) = answers_before TURN s
send_at_before lim ts roles p q l v s Other = answers_before TURN s

abbrev pub send_before : Limits → List ℕ → ℕ → ℕ → ℕ → ℕ → ℕ → Session → AnswerBefore
send_before lim ts roles p q l v s =
    judged_before lim ts roles p q s (send_at_before lim ts roles p q l v s (part_row ts roles p (head_of s p)))

abbrev pub receive_arm_before : Limits → List ℕ → ℕ → ℕ → ℕ → Session → Option ℕ → AnswerBefore
receive_arm_before lim ts roles p q s none = answers_before STRAY s
receive_arm_before lim ts roles p q s (some c) = record {
  number = ACCEPTED;
  label = label_at lim s p q 0;
  payload = payload_at lim s p q 0;
  state = moved (taken lim s p q) q (head ts roles q c);
}

abbrev pub receive_at_before : Limits → List ℕ → ℕ → ℕ → ℕ → Session → PartRow → AnswerBefore
receive_at_before lim ts roles p q s (End a b c) = answers_before TURN s
receive_at_before lim ts roles p q s (Arm k c n) = answers_before TURN s
receive_at_before lim ts roles p q s (Loop b x y) = answers_before TURN s
receive_at_before lim ts roles p q s (Back j x y) = answers_before TURN s
receive_at_before lim ts roles p q s (Send peer f x) = answers_before TURN s
receive_at_before lim ts roles p q s (Receive peer f x) =
    refused_if_before TURN (not (eqb peer p)) s (
    refused_if_before EMPTY (eqb (held lim s p q) 0) s (
    receive_arm_before lim ts roles p q s (find (label_at lim s p q 0) (arms_of ts roles q f))))
receive_at_before lim ts roles p q s Other = answers_before TURN s

abbrev pub receive_before : Limits → List ℕ → ℕ → ℕ → ℕ → Session → AnswerBefore
receive_before lim ts roles p q s =
    judged_before lim ts roles p q s (receive_at_before lim ts roles p q s (part_row ts roles q (head_of s q)))

-- 'Acceptances do not move', nor any refusal, value or state: for every input, good or not. The awaited answer has no other definition now
-- (Awaited.antt) than before
pub record AnswersStay (lim : Limits) : Type 0 where
  pub fresh : (tables : List ℕ) (roles : ℕ) → without (fresh_of lim tables roles) ≡ fresh_before lim tables roles
  pub send : (state : Session) (tables : List ℕ) (roles sender receiver label payload : ℕ)
      → without (send_of lim tables roles sender receiver label payload state) ≡ send_before lim tables roles sender receiver label payload state
  pub receive : (state : Session) (tables : List ℕ) (roles sender receiver : ℕ)
      → without (receive_of lim tables roles sender receiver state) ≡ receive_before lim tables roles sender receiver state
