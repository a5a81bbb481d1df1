-- Code that keeps its promises keeps what it was given where it refuses. Assumes nothing.
use Rattle.table.specs.Limits.{base}
use Rattle.opening.proofs.Promises.{refused_room}
use Rattle.session.proofs.Refused.{refused_keeps}
use Rattle.protocol.specs.Promised.{Code, Promises}
use Rattle.protocol.specs.Refused.{CodeRefusedKeeps}

pub code_refused_keeps : (code : Code) → Promises code → CodeRefusedKeeps code
code_refused_keeps code keeps = record {
  opening = λ t roles room i j k. rw ((keeps.opening t roles room i j k).0, (keeps.opening t roles room i j k).1) (refused_room base t roles room);
  fresh = λ ts roles i j. rw (keeps.fresh ts roles i j) ((refused_keeps base).fresh ts roles);
  send = λ s ts roles p q l v i j k m. rw (keeps.send s ts roles p q l v i j k m) ((refused_keeps base).send s ts roles p q l v);
  receive = λ s ts roles p q i j k m. rw (keeps.receive s ts roles p q i j k m) ((refused_keeps base).receive s ts roles p q);
  awaited_state = λ s ts roles i j k. rw (keeps.awaited s ts roles i j k) ((refused_keeps base).awaited_state s ts roles);
  awaited = λ s ts roles i j k. rw (keeps.awaited s ts roles i j k) ((refused_keeps base).awaited s ts roles);
}
