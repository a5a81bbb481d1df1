-- The message that an accepted receive takes. Assumes nothing.
use Rattle.std.specs.Prelude.{ℕ}
use Rattle.table.specs.Limits.{Limits}
use Rattle.session.specs.State.{label_at, payload_at}
use Rattle.session.specs.declared.Session.{Session}
use Rattle.session.specs.declared.answers.Message.{Message}

abbrev pub first_message : Limits → Session → ℕ → ℕ → Message
first_message lim s p q = record { label = label_at lim s p q 0; payload = payload_at lim s p q 0 }
