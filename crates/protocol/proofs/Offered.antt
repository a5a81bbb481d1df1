-- The code's own answers say what would be taken. Assumes nothing.
use Rattle.session.proofs.Offered.{says_what_is_taken}
use Rattle.protocol.specs.Promised.{Code, Promises}
use Rattle.protocol.specs.Offered.{CodeSaysWhatIsTaken}

pub code_says_what_is_taken : (code : Code) → Promises code → CodeSaysWhatIsTaken code
code_says_what_is_taken code keeps = record {
  fresh = λ ts roles i j. rw (keeps.fresh ts roles i j) (says_what_is_taken.fresh_else ts roles);
  send = λ s ts roles p q l v i j k m.
      rw (keeps.send s ts roles p q l v i j k m) (says_what_is_taken.send s ts roles p q l v, says_what_is_taken.send_else s ts roles p q l v);
  receive = λ s ts roles p q i j k m.
      rw (keeps.receive s ts roles p q i j k m) (says_what_is_taken.receive s ts roles p q, says_what_is_taken.receive_else s ts roles p q);
}
