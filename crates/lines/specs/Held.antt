-- What a line holds: the bytes of its front, and all of its bytes. Assumes nothing.
use Rattle.std.specs.Prelude.{ℕ, List, take}
use Rattle.lines.specs.declared.line.Line.{Line}

abbrev pub front_of : {room : ℕ} → Line room → List ℕ
front_of l = take l.front l.bytes

abbrev pub held : {room : ℕ} → Line room → List ℕ
held l = take l.length l.bytes
