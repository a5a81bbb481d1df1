-- A refusal in words, for a person. Assumes nothing.
use Rattle.std.specs.Prelude.{ℕ, List, ◌++◌, codes}
use Rattle.std.specs.Fmt.{decimal}
use Rattle.hours.specs.declared.refusal.Refusal.{Refusal}
use Rattle.hours.specs.declared.refusal.Refusal.TheVariants.{Roles, Records, Minute, Set}

abbrev pub reason_of : Refusal → List ℕ
reason_of Roles = codes "the role count"
reason_of Records = codes "too many records"
reason_of (Minute i) = codes "record " ++ decimal i ++ codes " is earlier than the one before"
reason_of (Set i) = codes "record " ++ decimal i ++ codes " awaits a role that is not in the session"
