-- The calls over a state that the caller lends as four slices of any lengths. Assumes nothing.
use Rattle.std.specs.Prelude.{ℕ, cond, List, ◌≡◌}
use Rattle.table.specs.Limits.{Limits}
use Rattle.blocks.specs.Tables.{tables_good}
use Rattle.state.specs.Numbers.{TABLES, STATE}
use Rattle.session.specs.Calls.{answers, fresh_of, send_of, receive_of}
use Rattle.session.specs.Awaited.{awaited_of, nobody_awaited}
use Rattle.session.specs.declared.Session.{Session}
use Rattle.session.specs.Answers.{Answer, Awaiting}
use Rattle.lent.specs.Slices.{is_state, lent}

-- slices of other lengths are no well-formed state: 13, behind 12
abbrev pub wrong_number : Limits → List ℕ → ℕ → ℕ
wrong_number lim ts roles = cond (tables_good lim ts roles) STATE TABLES

-- a call over lent slices: slices of other lengths stay as they are
abbrev pub lent_call : Limits → List ℕ → ℕ → (Session → Answer) → List ℕ → List ℕ → List ℕ → List ℕ → Answer
lent_call lim ts roles call heads counts labels payloads =
    let s = lent heads counts labels payloads in
    cond (is_state lim heads counts labels payloads) (call s)
    (answers lim (wrong_number lim ts roles) s)

-- a fresh state in lent slices
abbrev pub fresh_lent : Limits → List ℕ → ℕ → List ℕ → List ℕ → List ℕ → List ℕ → Answer
fresh_lent lim ts roles = lent_call lim ts roles (λ s. fresh_of lim ts roles)

-- the awaited roles of a state in lent slices: of slices of other lengths nobody
abbrev pub awaited_lent : Limits → List ℕ → ℕ → List ℕ → List ℕ → List ℕ → List ℕ → Awaiting
awaited_lent lim ts roles heads counts labels payloads =
    let s = lent heads counts labels payloads in
    cond (is_state lim heads counts labels payloads) (awaited_of lim ts roles s) (nobody_awaited lim (wrong_number lim ts roles) s)

-- an answer handed over: its number is returned, its state is what the slices hold at the end
pub record Handed (a : Answer) (number : ℕ) (heads counts labels payloads : List ℕ) : Type 0 where
  pub number_is : number ≡ a.number
  pub heads_are : heads ≡ a.state.heads
  pub counts_are : counts ≡ a.state.counts
  pub labels_are : labels ≡ a.state.labels
  pub payloads_are : payloads ≡ a.state.payloads

-- an answer of a send handed over: what it offers besides
pub record Answered (a : Answer) (number offered : ℕ) (heads counts labels payloads : List ℕ) : Type 0 where
  pub handed : Handed a number heads counts labels payloads
  pub offered_is : offered ≡ a.offered

-- an answer of a receive handed over: label and payload too
pub record Delivered (a : Answer) (number label payload offered : ℕ) (heads counts labels payloads : List ℕ) : Type 0 where
  pub answered : Answered a number offered heads counts labels payloads
  pub label_is : label ≡ a.label
  pub payload_is : payload ≡ a.payload

-- a send and a receive over lent slices
abbrev pub send_lent : Limits → List ℕ → ℕ → ℕ → ℕ → ℕ → ℕ → List ℕ → List ℕ → List ℕ → List ℕ → Answer
send_lent lim ts roles p q l v = lent_call lim ts roles (send_of lim ts roles p q l v)

abbrev pub receive_lent : Limits → List ℕ → ℕ → ℕ → ℕ → List ℕ → List ℕ → List ℕ → List ℕ → Answer
receive_lent lim ts roles p q = lent_call lim ts roles (receive_of lim ts roles p q)

-- an awaited answer handed over
pub record Told (a : Awaiting) (number set count lowest : ℕ) : Type 0 where
  pub number_is : number ≡ a.number
  pub set_is : set ≡ a.set
  pub count_is : count ≡ a.count
  pub lowest_is : lowest ≡ a.lowest
