-- All that specs/Stated says of reading. Assumes nothing.
use Rattle.table.specs.Limits.{Limits}
use Rattle.scribble.specs.mirror.Reader.{read_of}
use Rattle.scribble.specs.Stated.{ReadingHolds}
use Rattle.scribble.proofs.Unique.{one_text}
use Rattle.scribble.proofs.Answering.{read_means}
use Rattle.scribble.proofs.Single.{one_answer}
use Rattle.scribble.proofs.Accepted.{accepted, accepts, numbers, writes_nothing}

-- THEOREM
pub reading_holds : (lim : Limits) → ReadingHolds lim
reading_holds lim = record {
  one_tree = one_text;
  some_outcome = λ text room. (read_of lim text room, read_means lim text room);
  one_outcome = λ text room r r'. one_answer lim text room r r';
  numbers = λ text room r. numbers lim text room r;
  accepted = λ text room r z. accepted lim text room r z;
  accepts = λ text room t s h f l. accepts lim text room t s h f l;
  writes_nothing = λ text room r z. writes_nothing lim text room r z;
}
