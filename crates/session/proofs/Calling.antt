-- A call is its tests, and then its change of the state. Assumes nothing.
use Prim.Native.Nat.{ℕ}
use mathlib.Core.Bool.{Bool, true, false, cond, not}
use mathlib.Core.List.{List}
use mathlib.Core.Option.{Option, none, some}
use mathlib.Core.Path.{◌≡◌, refl, ◌∙◌, ap}
use lib.Dec.{eqb, leb}
use native.Mathlib.Omega.{arith}
use Rattle.blocks.specs.Block.{PartRow, End, Arm, Loop, Back, Send, Receive, Other, part_row}
use Rattle.blocks.specs.Head.{head, arms_of, find, lowest_label}
use Rattle.blocks.specs.Tables.{tables_good}
use Rattle.state.specs.State.{are_pair}
use Rattle.std.specs.Prelude.{Result, Ok, Err}
use Rattle.table.specs.Limits.{base}
use Rattle.state.specs.declared.Refusal.{Refusal}
use Rattle.state.specs.declared.Refusal.TheVariants.{Tables, State, Party, Turn, Label, Full, Empty, Stray}
use Rattle.state.specs.Refusals.{number_of, offered_of}
use Rattle.state.specs.mirror.Turns.{send_turn, send_found, receive_turn, receive_found}
use Rattle.state.specs.mirror.Judged.{send_judged, receive_judged}
use Rattle.session.specs.State.{listed, head_of, held, label_at, state_good, moved, pushed, taken}
use Rattle.session.specs.Results.{label_or_none, answered, delivered}
use Rattle.session.specs.declared.answers.Message.{Message}
use Rattle.session.specs.mirror.Taken.{first_message}
use Rattle.session.specs.Calls.{offering, answers, received, refused_if, send_arm, send_at, send_of, receive_arm, receive_at, receive_of}
use Rattle.session.specs.declared.Session.{Session}
use Rattle.session.specs.Answers.{Answer}

-- a refused call hands back the state
abbrev pub refused : Session → Refusal → Answer
refused s e = offering (number_of e) (label_or_none base (offered_of e)) s

module _ (ts : List ℕ) (roles p q : ℕ) (s : Session) where
  abbrev pub after_send : ℕ → ℕ → Result ℕ Refusal → Answer
  after_send l v (Err e) = refused s e
  after_send l v (Ok h) = answers base 0 (moved (pushed base s p q l v) p h)

  send_refused : (l v : ℕ) (e : Refusal) (n : ℕ) (b : Bool) (rest : Result ℕ Refusal) → refused s e ≡ answers base n s
      → after_send l v (cond b (Err e) rest) ≡ refused_if base n b s (after_send l v rest)
  send_refused l v e n true rest h = h
  send_refused l v e n false rest h = refl

  send_arm_lem : (l v k : ℕ) (o : Option ℕ)
      → after_send l v (send_found base ts roles p (held base s p q) k o) ≡ send_arm base ts roles p q l v s k o
  unfolding send_found send_arm
  send_arm_lem l v k none = refl
  send_arm_lem l v k (some c) =
      send_refused l v Full 17 (leb 4 (held base s p q)) (Ok (head ts roles p c)) refl

  send_row : (l v : ℕ) (row : PartRow)
      → after_send l v (send_turn base ts roles p q l (held base s p q) row) ≡ send_at base ts roles p q l v s row
  unfolding send_turn send_at
  send_row l v (End a b c) = refl
  send_row l v (Arm k c n) = refl
  send_row l v (Loop b x y) = refl
  send_row l v (Back j x y) = refl
  send_row l v (Send peer f x) =
      let arms = arms_of ts roles p f in
      (send_refused l v Turn 15 (not (eqb peer q)) _ refl ∙ ap (refused_if base 15 (not (eqb peer q)) s) (send_arm_lem l v (lowest_label 64 arms) (find l arms)))
  send_row l v (Receive peer f x) = refl
  send_row l v Other = refl

  pub after_send_lem : (l v : ℕ) → after_send l v (send_judged base ts roles p q l (listed s)) ≡ send_of base ts roles p q l v s
  unfolding send_judged send_of
  after_send_lem l v =
      let rest = send_turn base ts roles p q l (held base s p q) (part_row ts roles p (head_of s p)) in
      send_refused l v Tables 12 (not (tables_good base ts roles)) _ refl
      ∙ ap (refused_if base 12 (not (tables_good base ts roles)) s)
      (send_refused l v State 13 (not (state_good base ts roles s)) _ refl
      ∙ ap (refused_if base 13 (not (state_good base ts roles s)) s)
      (send_refused l v Party 14 (not (are_pair roles p q)) rest refl
      ∙ ap (refused_if base 14 (not (are_pair roles p q)) s) (send_row l v (part_row ts roles p (head_of s p)))))

  -- what the tests answered, as the send answers it
  pub send_refused_is : (l v : ℕ) {e : Refusal} → Err e ≡ send_judged base ts roles p q l (listed s) → answered base (record { result = Err e; state = s }) ≡ send_of base ts roles p q l v s
  send_refused_is l v judged = ap (after_send l v) judged ∙ after_send_lem l v

  pub send_done_is : (l v : ℕ) {h : ℕ} {t : Session} → Ok h ≡ send_judged base ts roles p q l (listed s) → t ≡ moved (pushed base s p q l v) p h
      → answered base (record { result = Ok tt; state = t }) ≡ send_of base ts roles p q l v s
  send_done_is l v judged done = rw done (ap (after_send l v) judged ∙ after_send_lem l v)

  abbrev pub after_receive : Result ℕ Refusal → Answer
  after_receive (Err e) = refused s e
  after_receive (Ok h) = received base s p q h

  receive_refused : (e : Refusal) (n : ℕ) (b : Bool) (rest : Result ℕ Refusal) → refused s e ≡ answers base n s
      → after_receive (cond b (Err e) rest) ≡ refused_if base n b s (after_receive rest)
  receive_refused e n true rest h = h
  receive_refused e n false rest h = refl

  receive_arm_lem : (k : ℕ) (o : Option ℕ)
      → after_receive (receive_found ts roles q k o) ≡ receive_arm base ts roles p q s k o
  unfolding receive_found receive_arm
  receive_arm_lem k none = refl
  receive_arm_lem k (some c) = refl

  receive_row : (row : PartRow)
      → after_receive (receive_turn base ts roles p q (held base s p q) (label_at base s p q 0) row) ≡ receive_at base ts roles p q s row
  unfolding receive_turn receive_at
  receive_row (End a b c) = refl
  receive_row (Arm k c n) = refl
  receive_row (Loop b x y) = refl
  receive_row (Back j x y) = refl
  receive_row (Send peer f x) = refl
  receive_row (Receive peer f x) =
      let arms = arms_of ts roles q f in
      (receive_refused Turn 15 (not (eqb peer p)) _ refl
      ∙ ap (refused_if base 15 (not (eqb peer p)) s)
      (receive_refused Empty 18 (eqb (held base s p q) 0) _ refl ∙ ap (refused_if base 18 (eqb (held base s p q) 0) s) (receive_arm_lem (lowest_label 64 arms) (find (label_at base s p q 0) arms))))
  receive_row Other = refl

  pub after_receive_lem : after_receive (receive_judged base ts roles p q (listed s)) ≡ receive_of base ts roles p q s
  unfolding receive_judged receive_of
  after_receive_lem =
      let rest = receive_turn base ts roles p q (held base s p q) (label_at base s p q 0) (part_row ts roles q (head_of s q)) in
      receive_refused Tables 12 (not (tables_good base ts roles)) _ refl
      ∙ ap (refused_if base 12 (not (tables_good base ts roles)) s)
      (receive_refused State 13 (not (state_good base ts roles s)) _ refl
      ∙ ap (refused_if base 13 (not (state_good base ts roles s)) s)
      (receive_refused Party 14 (not (are_pair roles p q)) rest refl
      ∙ ap (refused_if base 14 (not (are_pair roles p q)) s) (receive_row (part_row ts roles q (head_of s q)))))

  pub receive_refused_is : {e : Refusal} → Err e ≡ receive_judged base ts roles p q (listed s) → delivered base (record { result = Err e; state = s }) ≡ receive_of base ts roles p q s
  receive_refused_is judged = ap after_receive judged ∙ after_receive_lem

  pub receive_done_is : {h : ℕ} {m : Message} {t : Session} → Ok h ≡ receive_judged base ts roles p q (listed s) → m ≡ first_message base s p q → t ≡ moved (taken base s p q) q h
      → delivered base (record { result = Ok m; state = t }) ≡ receive_of base ts roles p q s
  receive_done_is judged got done = rw (got, done) (ap after_receive judged ∙ after_receive_lem)

-- a refusal's number is not 0
pub refused_number : (s : Session) (e : Refusal) → (refused s e).number ≡ 0 → ⊥
refused_number s Tables z = omega arith
refused_number s State z = omega arith
refused_number s Party z = omega arith
refused_number s Turn z = omega arith
refused_number s (Label k) z = omega arith
refused_number s Full z = omega arith
refused_number s Empty z = omega arith
refused_number s (Stray k) z = omega arith
