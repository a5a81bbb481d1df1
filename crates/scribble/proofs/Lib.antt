-- The laws of reading the suppliers' texts. The theorems, and where they stand:
--   Stated.reading_holds        all that specs/Stated says of reading, for any limits; made of the next five
--   Unique.one_text             the tokens of a text have one syntax tree
--   Answering.read_means        what the reader of specs/mirror/Reader answers is what specs/Outcome says comes back
--   Single.one_answer           any two answers for a text are equal
--   Accepted.accepted, accepts  accepted exactly when of the grammar, without fault, and the table fits; the table stands for what the text says
--   Accepted.numbers, writes_nothing    the number is 0, 3 or 20 to 24; a refusal writes nothing
--   Standing.laid_stands        the rows of a protocol's tree, read as a table, are that tree
--   Examples.examples_hold      the texts of specs/Examples come to what is said there
-- What the code's reader will cite beside these:
--   Agree.run_text              the reader does with the tokens of a tree what the tree says
--   Sound.has_tree              what the reader takes to its end has a tree
--   Viable.completed, refused   a token is refused exactly where no text of the grammar goes on with it
--   Cut.shown_before_lem            of a completed text's log, what is shown before a place is the log of the tokens before it
--   Earliest.found, all_found   the reader's log and the tree's faults have the same deciding fault, whatever place they are shown before
--   Tabled.tabled               the reader's rows for a tree without fault are its table
--   Settled.settled, early      with a fault known and no statement begun, the tokens to come change nothing: the code stops there
--   Same.numbers_compare        a name is written as a known one exactly when it has its number
--   Rising.tokens_bound         the tokens of a text do not depend on the bound of their number
-- What the answers of the code say:
--   Sorts.sort_meant-injective  no two sorts of the code stand for one sort
--   Noting.note_decides         what `faults::note` keeps is the fault that decides; of it blamed_of-injective, blamed_of-surjective, noted_none
--   Same.number_of_index        what `names::find` answers, as the number of a name among names
-- Assumes nothing.
pub mod Scanning
pub mod Naming
pub mod Sorting
pub mod Nexting
pub mod Sorts
pub mod Same
pub mod Firsts
pub mod Meet
pub mod Noting
pub mod Counting
pub mod Unique
pub mod Acting
pub mod Agree
pub mod Wanting
pub mod Sound
pub mod Viable
pub mod Seen
pub mod Cut
pub mod Tally
pub mod Blames
pub mod Found
pub mod Earliest
pub mod Fine
pub mod Numbered
pub mod Laying
pub mod Rows
pub mod Tabled
pub mod Standing
pub mod Stopped
pub mod Rising
pub mod Answering
pub mod Single
pub mod Settled
pub mod Numbers
pub mod Accepted
pub mod Stated
pub mod Examples
