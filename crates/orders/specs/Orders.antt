-- The orders of second/README.md, 'The line protocol, details', points 4 to 14: which numbers an order has, which numbers answer it, and
-- what is kept from line to line. Assumes nothing.
use Rattle.std.specs.Prelude.{ℕ, ◌+◌, ◌*◌, Bool, false, cond, ◌&&◌, List, [], ◌∷◌, leb, eqb, length, get_or, take, drop}
use Rattle.table.specs.Limits.{Limits}
use Rattle.table.specs.Numbers.{ACCEPTED}
use Rattle.opening.specs.Opening.{open_of, blocks}
use Rattle.session.specs.State.{nothing}
use Rattle.session.specs.Calls.{fresh_of, send_of, receive_of}
use Rattle.session.specs.Awaited.{awaited_of}
use Rattle.session.specs.declared.Session.{Session}
use Rattle.session.specs.Answers.{Answer, Awaiting}
use Rattle.lines.specs.Over.{all_below}

-- what is kept from line to line
pub record Kept : Type 0 where
  pub roles : ℕ
  pub tables : List ℕ
  pub state : Session

-- the numbers that answer an order, and what is kept after it
pub record Reply : Type 0 where
  pub numbers : List ℕ
  pub kept : Kept

-- point 9: at the start there are no tables, and the state is all zeros
abbrev pub at_first : Limits → Kept
at_first lim = record { roles = 0; tables = []; state = nothing lim }

-- point 8: a malformed order is answered with no number, and changes nothing
abbrev pub malformed : Kept → Reply
malformed k = record { numbers = []; kept = k }

-- point 10: an order that sets the tables does not touch the state
abbrev pub sets : Kept → ℕ → List ℕ → Kept
sets k roles ts = record { roles = roles; tables = ts; state = k.state }

-- and a call does not touch the tables
abbrev pub calls : Kept → Session → Kept
calls k s = record { roles = k.roles; tables = k.tables; state = s }

-- the number at a place
abbrev pub number : List ℕ → ℕ → ℕ
number ns at = get_or ns at 0

-- ---- the tables

-- points 7, 10 and 11: an opening is answered with its number and place, and accepted with the blocks, which are then the tables; refused
-- there are none
unfoldable pub opened : Limits → Kept → ℕ → ℕ → List ℕ → Reply
opened lim k roles room ws =
    let v = open_of lim ws roles room in
    let ts = cond (eqb v.number ACCEPTED) (blocks ws roles) [] in
    record { numbers = v.number ∷ v.place ∷ ts; kept = sets k roles ts }

-- points 7 and 10: tables are set also where they are not well formed; the number is that of a fresh session
unfoldable pub tabled : Limits → Kept → ℕ → List ℕ → Reply
tabled lim k roles ws = record { numbers = (fresh_of lim ws roles).number ∷ []; kept = sets k roles ws }

-- `o ROLES ROOM WORD...`; points 4 and 6: a word is below 65536
unfoldable pub open_order : Limits → Kept → List ℕ → Reply
open_order lim k ns =
    cond (leb 2 (length ns) && all_below 65536 (drop 2 ns)) (opened lim k (number ns 0) (number ns 1) (drop 2 ns)) (malformed k)

-- `t ROLES WORD...`
unfoldable pub table_order : Limits → Kept → List ℕ → Reply
table_order lim k ns = cond (leb 1 (length ns) && all_below 65536 (drop 1 ns)) (tabled lim k (number ns 0) (drop 1 ns)) (malformed k)

-- ---- the calls

-- the numbers of a state: heads, counts, labels, payloads
abbrev pub pairs : Limits → ℕ
pairs lim = lim.roles * lim.roles

abbrev pub slots : Limits → ℕ
slots lim = pairs lim * lim.depth

abbrev pub state_of : Limits → List ℕ → Session
state_of lim ns = record {
  heads = take lim.roles ns;
  counts = take (pairs lim) (drop lim.roles ns);
  labels = take (slots lim) (drop (lim.roles + pairs lim) ns);
  payloads = take (slots lim) (drop (lim.roles + pairs lim + slots lim) ns);
}

-- point 4: heads are below 65536, counts and labels below 256
unfoldable pub is_state : Limits → List ℕ → Bool
is_state lim ns =
    eqb (length ns) (lim.roles + pairs lim + slots lim + slots lim)
    && (all_below 65536 (take lim.roles ns) && all_below 256 (take (pairs lim + slots lim) (drop lim.roles ns)))

-- the awaited answer without its own number
abbrev pub awaited : Awaiting → List ℕ
awaited a = a.set ∷ a.count ∷ a.lowest ∷ []

-- who is awaited in that state
abbrev pub awaited_in : Limits → Kept → Session → Awaiting
awaited_in lim k s = awaited_of lim k.tables k.roles s

-- point 12: `f` is answered with a fresh session's number and heads, and sets the state also where it is refused
unfoldable pub freshened : Limits → Kept → Reply
freshened lim k =
    let a = fresh_of lim k.tables k.roles in
    record { numbers = a.number ∷ a.state.heads; kept = calls k a.state }

-- point 13: `h` is answered with the awaited answer, and sets the state also where that is refused
unfoldable pub handed : Limits → Kept → Session → Reply
handed lim k s = record { numbers = (awaited_in lim k s).number ∷ awaited (awaited_in lim k s); kept = calls k s }

-- point 14: a send is answered with its number, what it offers and the awaited roles after it
unfoldable pub sent : Limits → Kept → Answer → Reply
sent lim k a = record { numbers = a.number ∷ a.offered ∷ awaited (awaited_in lim k a.state); kept = calls k a.state }

-- point 14: and a receive with its label and payload behind its number
unfoldable pub received : Limits → Kept → Answer → Reply
received lim k a =
    record { numbers = a.number ∷ a.label ∷ a.payload ∷ a.offered ∷ awaited (awaited_in lim k a.state); kept = calls k a.state }

-- point 6: how many numbers a call has; `f`, `h`, `s` and `r` are the bytes 102, 104, 115 and 114
unfoldable pub is_call : Limits → ℕ → List ℕ → Bool
is_call lim letter ns =
    cond (eqb letter 102) (eqb (length ns) 0) (
    cond (eqb letter 104) (is_state lim ns) (
    cond (eqb letter 115) (eqb (length ns) 4) (
    cond (eqb letter 114) (eqb (length ns) 2) false)))

-- `s SENDER RECEIVER LABEL PAYLOAD`
abbrev pub sending : Limits → Kept → List ℕ → Answer
sending lim k ns = send_of lim k.tables k.roles (number ns 0) (number ns 1) (number ns 2) (number ns 3) k.state

-- `r SENDER RECEIVER`
abbrev pub receiving : Limits → Kept → List ℕ → Answer
receiving lim k ns = receive_of lim k.tables k.roles (number ns 0) (number ns 1) k.state

unfoldable pub call_order : Limits → Kept → ℕ → List ℕ → Reply
call_order lim k letter ns =
    cond (is_call lim letter ns) (
    cond (eqb letter 102) (freshened lim k) (
    cond (eqb letter 104) (handed lim k (state_of lim ns)) (
    cond (eqb letter 115) (sent lim k (sending lim k ns)) (received lim k (receiving lim k ns)))))
    (malformed k)

-- ---- all of them

-- `o` and `t` are the bytes 111 and 116; no other letter than these six is an order's
unfoldable pub order_of : Limits → Kept → ℕ → List ℕ → Reply
order_of lim k letter ns =
    cond (eqb letter 111) (open_order lim k ns) (
    cond (eqb letter 116) (table_order lim k ns) (call_order lim k letter ns))
