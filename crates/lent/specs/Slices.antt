-- A state that the caller lends as four slices of any lengths. Assumes nothing.
use Rattle.std.specs.Prelude.{ℕ, ◌*◌, Bool, cond, ◌&&◌, List, eqb, length, true, false, Option, Some, None, Result, Ok, Err}
use Rattle.table.specs.Limits.{Limits}
use Rattle.session.specs.State.{nothing}
use Rattle.session.specs.declared.Session.{Session}

-- the four slices have the lengths of a state
abbrev pub is_state : Limits → List ℕ → List ℕ → List ℕ → List ℕ → Bool
is_state lim heads counts labels payloads =
    eqb (length heads) lim.roles && eqb (length counts) (lim.roles * lim.roles)
    && eqb (length labels) (lim.roles * lim.roles * lim.depth) && eqb (length payloads) (lim.roles * lim.roles * lim.depth)

abbrev pub lent : List ℕ → List ℕ → List ℕ → List ℕ → Session
lent heads counts labels payloads = record { heads = heads; counts = counts; labels = labels; payloads = payloads }

-- n words written over others, which stay where they are not n
abbrev pub replaced : {A : Type 0} → ℕ → List A → List A → List A
replaced n words old = cond (eqb (length old) n) words old

-- what the slices give: a state, and whether all four have the lengths of a state
pub record Given : Type 0 where
  pub whole : Bool
  pub state : Session

-- what is read in: each slice over the zeros of no state, and whether all four are a state's
abbrev pub given_of : Limits → List ℕ → List ℕ → List ℕ → List ℕ → Given
given_of lim heads counts labels payloads = record {
  whole = is_state lim heads counts labels payloads;
  state = record {
    heads = replaced (length heads) heads (nothing lim).heads;
    counts = replaced (length counts) counts (nothing lim).counts;
    labels = replaced (length labels) labels (nothing lim).labels;
    payloads = replaced (length payloads) payloads (nothing lim).payloads;
  };
}

-- the code's result as that: Ok where the slices are a state's
abbrev pub given : Result Session Session → Given
given (Ok s) = record { whole = true; state = s }
given (Err s) = record { whole = false; state = s }

-- the state that the slices hold, where all four have the lengths of a state's
abbrev pub lent_state : Limits → List ℕ → List ℕ → List ℕ → List ℕ → Option Session
lent_state lim heads counts labels payloads = cond (is_state lim heads counts labels payloads) (Some (lent heads counts labels payloads)) None
