-- Small texts: what comes back for each, with its reason. That it does is proofs/Examples.examples_hold, one computation. Assumes nothing.
use Rattle.std.specs.Prelude.{ℕ, List, [], ◌∷◌}
use Prim.Native.String.{String}
use Rattle.table.specs.Limits.{Limits, base}
use Rattle.table.specs.Numbers.{ROOM}
use Rattle.scribble.specs.Ascii.{ascii_lines}
use Rattle.scribble.specs.Refusals.{TEXT, NAME, CHOICE, LAST, MANY}
use Rattle.scribble.specs.Outcome.{TextOutcome, refused_text, accepted_text, ReadsTo}

pub record Example : Type 0 where
  pub limits : Limits
  -- how many words the room has
  pub room : ℕ
  pub lines : List String
  pub outcome : TextOutcome

-- with the limits of the customer's paper and room for the longest table
abbrev reads : List String → TextOutcome → Example
reads ls a = record { limits = base; room = 1024; lines = ls; outcome = a }

-- with limits that a short text goes past: two roles, five rows, two labels
abbrev reads_few : List String → TextOutcome → Example
reads_few ls a = record { limits = record { roles = 2; rows = 5; labels = 2; depth = 4 }; room = 1024; lines = ls; outcome = a }

-- with a room of so many words
abbrev reads_into : ℕ → List String → TextOutcome → Example
reads_into n ls a = record { limits = base; room = n; lines = ls; outcome = a }

-- a payload list is read and dropped, and may be left out; a comment is skipped; a label that stands again has its number; a digit begins a name
abbrev messages : Example
messages =
    reads
    ("module trip.log; // two guests"
    ∷ "global protocol Log(role A, role B) {"
    ∷ "  200(Int, Text) from A to B;"
    ∷ "  Ok from B to A;"
    ∷ "  200() from A to B;"
    ∷ "}"
    ∷ [])
    (accepted_text 2
    (1 ∷ 0 ∷ 1 ∷ 1 ∷
    2 ∷ 0 ∷ 2 ∷ 0 ∷
    1 ∷ 1 ∷ 0 ∷ 3 ∷
    2 ∷ 1 ∷ 4 ∷ 0 ∷
    1 ∷ 0 ∷ 1 ∷ 5 ∷
    2 ∷ 0 ∷ 6 ∷ 0 ∷
    0 ∷ 0 ∷ 0 ∷ 0 ∷ []))

-- choice, rec and continue: the rows of the first block, then the second arm, linked from the first
abbrev sums : Example
sums =
    reads
    ("module calc;"
    ∷ "global protocol Sums(role Guest, role Server) {"
    ∷ "  rec Again {"
    ∷ "    choice at Guest {"
    ∷ "      Add(Int) from Guest to Server;"
    ∷ "      Sum(Int) from Server to Guest;"
    ∷ "      continue Again;"
    ∷ "    } or {"
    ∷ "      Bye() from Guest to Server;"
    ∷ "    }"
    ∷ "  }"
    ∷ "}"
    ∷ [])
    (accepted_text 2
    (3 ∷ 1 ∷ 0 ∷ 0 ∷
    1 ∷ 0 ∷ 1 ∷ 2 ∷
    2 ∷ 0 ∷ 3 ∷ 6 ∷
    1 ∷ 1 ∷ 0 ∷ 4 ∷
    2 ∷ 1 ∷ 5 ∷ 0 ∷
    4 ∷ 0 ∷ 0 ∷ 0 ∷
    2 ∷ 2 ∷ 7 ∷ 0 ∷
    0 ∷ 0 ∷ 0 ∷ 0 ∷ []))

-- depth counts the recs between: a continue of the outer one is 1
abbrev outer : Example
outer =
    reads
    ("module m;"
    ∷ "global protocol P(role A, role B) {"
    ∷ "  rec X { L from A to B; rec Y { choice at B { M from B to A; continue X; } or { L from B to A; continue Y; } } }"
    ∷ "}"
    ∷ [])
    (accepted_text 2
    (3 ∷ 1 ∷ 0 ∷ 0 ∷
    1 ∷ 0 ∷ 1 ∷ 2 ∷
    2 ∷ 0 ∷ 3 ∷ 0 ∷
    3 ∷ 4 ∷ 0 ∷ 0 ∷
    1 ∷ 1 ∷ 0 ∷ 5 ∷
    2 ∷ 1 ∷ 6 ∷ 7 ∷
    4 ∷ 1 ∷ 0 ∷ 0 ∷
    2 ∷ 0 ∷ 8 ∷ 0 ∷
    4 ∷ 0 ∷ 0 ∷ 0 ∷ []))

-- an empty body is an End row
abbrev nothing : Example
nothing =
    reads
    ("module m; global protocol P(role A, role B) { }"
    ∷ [])
    (accepted_text 2
    (0 ∷ 0 ∷ 0 ∷ 0 ∷ []))

-- a message to oneself reads, and so does a single role: rules 5 and 2 then refuse the table
abbrev oneself : Example
oneself =
    reads
    ("module m; global protocol P(role A) { L from A to A; }"
    ∷ [])
    (accepted_text 1
    (1 ∷ 0 ∷ 0 ∷ 1 ∷
    2 ∷ 0 ∷ 2 ∷ 0 ∷
    0 ∷ 0 ∷ 0 ∷ 0 ∷ []))

-- 20: the module line is required
abbrev no_module : Example
no_module =
    reads
    ("// no module"
    ∷ "global protocol P(role A, role B) { }"
    ∷ [])
    (refused_text TEXT 2)

-- 20: no other comment than `//`
abbrev other_comment : Example
other_comment =
    reads
    ("module m;"
    ∷ "/* two guests */"
    ∷ "global protocol P(role A, role B) { }"
    ∷ [])
    (refused_text TEXT 2)

-- 20 at the end of the text, which stands behind the last newline
abbrev broken_off : Example
broken_off =
    reads
    ("module m;"
    ∷ "global protocol P(role A, role B) {"
    ∷ "  L from A to B;"
    ∷ [])
    (refused_text TEXT 4)

-- 20: one protocol a text
abbrev another : Example
another =
    reads
    ("module m;"
    ∷ "global protocol P(role A, role B) { }"
    ∷ "global protocol Q(role A, role B) { }"
    ∷ [])
    (refused_text TEXT 3)

-- 20: a type line, which the suppliers' notation has, stands where the protocol is wanted; so do `sig`, `import` and `aux`
abbrev type_line : Example
type_line =
    reads
    ("module m;"
    ∷ "type <java> \"java.lang.Integer\" from \"rt.jar\" as Int;"
    ∷ "global protocol P(role A, role B) { }"
    ∷ [])
    (refused_text TEXT 2)

-- 20: `do` is read as a label, and no name stands behind a label
abbrev do_statement : Example
do_statement =
    reads
    ("module m;"
    ∷ "global protocol P(role A, role B) {"
    ∷ "  do Q(A, B);"
    ∷ "}"
    ∷ [])
    (refused_text TEXT 3)

-- 20: a keyword is no name
abbrev keyword : Example
keyword =
    reads
    ("module m;"
    ∷ "global protocol P(role A, role at) { }"
    ∷ [])
    (refused_text TEXT 2)

-- 21: an unknown role
abbrev unknown : Example
unknown =
    reads
    ("module m;"
    ∷ "global protocol P(role A, role B) {"
    ∷ "  L from A"
    ∷ "    to C;"
    ∷ "}"
    ∷ [])
    (refused_text NAME 4)

-- 21: a role listed twice
abbrev twice : Example
twice =
    reads
    ("module m;"
    ∷ "global protocol P(role A,"
    ∷ "  role A) { }"
    ∷ [])
    (refused_text NAME 3)

-- 21: a name of 33 bytes, here a payload type; one of 32 is read
abbrev long33 : Example
long33 =
    reads
    ("module m;"
    ∷ "global protocol P(role A, role B) {"
    ∷ "  L(a2345678901234567890123456789012) from A to B;"
    ∷ "  L(a23456789012345678901234567890123) from A to B;"
    ∷ "}"
    ∷ [])
    (refused_text NAME 4)

-- 21: a rec within one of its name
abbrev within : Example
within =
    reads
    ("module m;"
    ∷ "global protocol P(role A, role B) {"
    ∷ "  rec X { L from A to B;"
    ∷ "    rec X { M from A to B; continue X; } }"
    ∷ "}"
    ∷ [])
    (refused_text NAME 4)

-- 21: a continue of no rec around it
abbrev continues : Example
continues =
    reads
    ("module m;"
    ∷ "global protocol P(role A, role B) {"
    ∷ "  rec X { L from A to B; continue Y; }"
    ∷ "}"
    ∷ [])
    (refused_text NAME 3)

-- 22: a block starts with a message from another role
abbrev other_sender : Example
other_sender =
    reads
    ("module m;"
    ∷ "global protocol P(role A, role B) {"
    ∷ "  choice at A { L from A to B; }"
    ∷ "  or { M from B to A; }"
    ∷ "}"
    ∷ [])
    (refused_text CHOICE 4)

-- 22: a block starts with a message to another receiver than the first block
abbrev other_receiver : Example
other_receiver =
    reads
    ("module m;"
    ∷ "global protocol P(role A, role B, role C) {"
    ∷ "  choice at A { L from A to B; }"
    ∷ "  or { M from A to C; }"
    ∷ "}"
    ∷ [])
    (refused_text CHOICE 4)

-- 22 at the `}` of an empty block
abbrev empty_block : Example
empty_block =
    reads
    ("module m;"
    ∷ "global protocol P(role A, role B) {"
    ∷ "  choice at A { L from A to B; } or {"
    ∷ "  }"
    ∷ "}"
    ∷ [])
    (refused_text CHOICE 4)

-- 22 at the first statement of a block that is no message
abbrev starts_with_rec : Example
starts_with_rec =
    reads
    ("module m;"
    ∷ "global protocol P(role A, role B) {"
    ∷ "  choice at A {"
    ∷ "    rec X { L from A to B; continue X; }"
    ∷ "  }"
    ∷ "}"
    ∷ [])
    (refused_text CHOICE 4)

-- 23 at the statement that follows a continue
abbrev follows : Example
follows =
    reads
    ("module m;"
    ∷ "global protocol P(role A, role B) {"
    ∷ "  rec X { L from A to B; continue X;"
    ∷ "    M from A to B; }"
    ∷ "}"
    ∷ [])
    (refused_text LAST 4)

-- 24: the first role too many
abbrev third_role : Example
third_role =
    reads_few
    ("module m;"
    ∷ "global protocol P(role A, role B,"
    ∷ "  role C) { }"
    ∷ [])
    (refused_text MANY 3)

-- 24: the first label too many
abbrev third_label : Example
third_label =
    reads_few
    ("module m;"
    ∷ "global protocol P(role A, role B) {"
    ∷ "  choice at A { L from A to B; }"
    ∷ "  or { M from A to B; }"
    ∷ "  or { N from A to B; }"
    ∷ "}"
    ∷ [])
    (refused_text MANY 5)

-- 24: the statement that makes the first row too many, here a message its Arm
abbrev sixth_row : Example
sixth_row =
    reads_few
    ("module m;"
    ∷ "global protocol P(role A, role B) {"
    ∷ "  rec X {"
    ∷ "    L from A to B;"
    ∷ "    L from A to B;"
    ∷ "    L"
    ∷ "      from A to B;"
    ∷ "    continue X;"
    ∷ "  }"
    ∷ "}"
    ∷ [])
    (refused_text MANY 6)

-- 24 at the `}` whose End row is one too many
abbrev end_row : Example
end_row =
    reads_few
    ("module m;"
    ∷ "global protocol P(role A, role B) {"
    ∷ "  rec X {"
    ∷ "    L from A to B;"
    ∷ "    M from A to B;"
    ∷ "  }"
    ∷ "}"
    ∷ [])
    (refused_text MANY 6)

-- 3, line 0, where the room is shorter than the table by one word
abbrev no_room : Example
no_room =
    reads_into 11
    ("module m; global protocol P(role A, role B) { L from A to B; }"
    ∷ [])
    (refused_text ROOM 0)

-- and a room as long as the table will do
abbrev room_enough : Example
room_enough =
    reads_into 12
    ("module m; global protocol P(role A, role B) { L from A to B; }"
    ∷ [])
    (accepted_text 2
    (1 ∷ 0 ∷ 1 ∷ 1 ∷
    2 ∷ 0 ∷ 2 ∷ 0 ∷
    0 ∷ 0 ∷ 0 ∷ 0 ∷ []))

-- two faults: the earlier byte wins, and after it the text may be broken
abbrev name_then_text : Example
name_then_text =
    reads
    ("module m;"
    ∷ "global protocol P(role A, role B) {"
    ∷ "  L from A to C;"
    ∷ "  M from A, B;"
    ∷ "}"
    ∷ [])
    (refused_text NAME 3)

-- two faults: after a TEXT fault nothing is judged
abbrev text_then_name : Example
text_then_name =
    reads
    ("module m;"
    ∷ "global protocol P(role A, role B) {"
    ∷ "  M from A, B;"
    ∷ "  L from A to C;"
    ∷ "}"
    ∷ [])
    (refused_text TEXT 3)

-- a statement is judged when its last word is there: this one would be 22 at its label, and its `;` is missing
abbrev half_message : Example
half_message =
    reads
    ("module m;"
    ∷ "global protocol P(role A, role B) {"
    ∷ "  choice at A { L from A to B; } or {"
    ∷ "    M"
    ∷ "      from B to A"
    ∷ "  }"
    ∷ "}"
    ∷ [])
    (refused_text TEXT 6)

-- a first message from an unknown role is 22 at the statement, whose byte comes before the name
abbrev unknown_sender : Example
unknown_sender =
    reads
    ("module m;"
    ∷ "global protocol P(role A, role B) {"
    ∷ "  choice at A {"
    ∷ "    L"
    ∷ "      from C to B; }"
    ∷ "}"
    ∷ [])
    (refused_text CHOICE 4)

-- names are compared as they are written: of a choice of an unknown role, with messages from it, the name is the fault
abbrev unknown_chooser : Example
unknown_chooser =
    reads
    ("module m;"
    ∷ "global protocol P(role A, role B) {"
    ∷ "  choice at C {"
    ∷ "    L from C to B; }"
    ∷ "}"
    ∷ [])
    (refused_text NAME 3)

-- at one byte the lowest number: the third role of two, with 33 bytes, is 21
abbrev one_byte : Example
one_byte =
    reads_few
    ("module m;"
    ∷ "global protocol P(role A, role B,"
    ∷ "  role a23456789012345678901234567890123) { }"
    ∷ [])
    (refused_text NAME 3)

-- at one byte the lowest number: a message behind a continue that makes one row too many is 23
abbrev late_then_row : Example
late_then_row =
    reads_few
    ("module m;"
    ∷ "global protocol P(role A, role B) {"
    ∷ "  rec X { L from A to B; continue X;"
    ∷ "    M from A to B; }"
    ∷ "}"
    ∷ [])
    (refused_text LAST 4)

unfoldable pub examples : List Example
examples =
    messages ∷
    sums ∷
    outer ∷
    nothing ∷
    oneself ∷
    no_module ∷
    other_comment ∷
    broken_off ∷
    another ∷
    type_line ∷
    do_statement ∷
    keyword ∷
    unknown ∷
    twice ∷
    long33 ∷
    within ∷
    continues ∷
    other_sender ∷
    other_receiver ∷
    empty_block ∷
    starts_with_rec ∷
    follows ∷
    third_role ∷
    third_label ∷
    sixth_row ∷
    end_row ∷
    no_room ∷
    room_enough ∷
    name_then_text ∷
    text_then_name ∷
    half_message ∷
    unknown_sender ∷
    unknown_chooser ∷
    one_byte ∷
    late_then_row ∷ []

-- each comes to what it says
abbrev pub Hold : List Example → Type 0
Hold [] = Unit {0}
Hold (e ∷ es) = ReadsTo e.limits (ascii_lines e.lines) e.room e.outcome × Hold es
