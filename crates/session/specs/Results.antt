-- What the results of the code say, in the customer's numbers and values. Assumes nothing.
use Rattle.std.specs.Prelude.{ℕ, Option, Some, None, Result, Ok, Err, ⊤, count_ones}
use lib.Count.{count_trailing_zeros}
use Rattle.table.specs.Limits.{Limits}
use Rattle.table.specs.Numbers.{ACCEPTED}
use Rattle.state.specs.declared.Refusal.{Refusal}
use Rattle.state.specs.Refusals.{number_of, offered_of}
use Rattle.session.specs.declared.answers.Answer as code
use Rattle.session.specs.declared.answers.Message.{Message}
use Rattle.session.specs.declared.answers.Awaited.{Awaited}
use Rattle.session.specs.Answers.{Answer, Awaiting}

-- the number: why the call was refused, or 0
abbrev pub number_in : {T : Type 0} → Result T Refusal → ℕ
number_in (Ok x) = ACCEPTED
number_in (Err e) = number_of e

-- the label of an offer, or the limit's labels where nothing is offered
abbrev pub label_or_none : Limits → Option ℕ → ℕ
label_or_none lim None = lim.labels
label_or_none lim (Some k) = k

abbrev pub offered_in : {T : Type 0} → Limits → Result T Refusal → ℕ
offered_in lim (Ok x) = lim.labels
offered_in lim (Err e) = label_or_none lim (offered_of e)

-- the message of an accepted receive, else 0
abbrev pub label_in : Result Message Refusal → ℕ
label_in (Ok m) = m.label
label_in (Err e) = 0

abbrev pub payload_in : Result Message Refusal → ℕ
payload_in (Ok m) = m.payload
payload_in (Err e) = 0

-- the awaited roles as a set: refused it is empty
abbrev pub set_in : Result Awaited Refusal → ℕ
set_in (Ok w) = w.set
set_in (Err e) = 0

-- the lowest role of a set, or the limit's roles for none
abbrev pub lowest_in : Limits → ℕ → ℕ
lowest_in lim set = count_trailing_zeros lim.roles set

-- an answer of fresh or send, of receive, and of awaited
abbrev pub answered : Limits → code.Answer ⊤ → Answer
answered lim a = record { number = number_in a.result; label = 0; payload = 0; offered = offered_in lim a.result; state = a.state }

abbrev pub delivered : Limits → code.Answer Message → Answer
delivered lim a = record {
  number = number_in a.result;
  label = label_in a.result;
  payload = payload_in a.result;
  offered = offered_in lim a.result;
  state = a.state;
}

abbrev pub told : Limits → code.Answer Awaited → Awaiting
told lim a = record {
  number = number_in a.result;
  set = set_in a.result;
  count = count_ones (set_in a.result);
  lowest = lowest_in lim (set_in a.result);
  state = a.state;
}
