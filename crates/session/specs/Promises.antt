-- What each call of a session promises of its answer, for every input: number, values and state. Assumes nothing.
use Rattle.std.specs.Prelude.{ℕ, List, ◌≡◌}
use Rattle.table.specs.Limits.{Limits}
use Rattle.session.specs.Calls.{fresh_of, send_of, receive_of}
use Rattle.session.specs.Awaited.{awaited_of}
use Rattle.session.specs.declared.Session.{Session}
use Rattle.session.specs.Answers.{Answer, Awaiting}

abbrev pub Freshens : Limits → List ℕ → ℕ → Answer → Type 0
Freshens lim ts roles a = a ≡ fresh_of lim ts roles

abbrev pub Sends : Limits → List ℕ → ℕ → ℕ → ℕ → ℕ → ℕ → Session → Answer → Type 0
Sends lim ts roles p q l v s a = a ≡ send_of lim ts roles p q l v s

abbrev pub Receives : Limits → List ℕ → ℕ → ℕ → ℕ → Session → Answer → Type 0
Receives lim ts roles p q s a = a ≡ receive_of lim ts roles p q s

abbrev pub Awaits : Limits → List ℕ → ℕ → Session → Awaiting → Type 0
Awaits lim ts roles s a = a ≡ awaited_of lim ts roles s
