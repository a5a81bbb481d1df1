-- All the tests of a call, before the state is changed; and the awaited roles. Assumes nothing.
use Rattle.std.specs.Prelude.{ℕ, cond, not, List, ◌≡◌, Result, Ok, Err, MatchResult, ⊤}
use Rattle.words.specs.Below.{set_of}
use Rattle.table.specs.Limits.{Limits}
use Rattle.blocks.specs.Tables.{tables_good}
use Rattle.blocks.specs.declared.tables.Blocks.{Blocks}
use Rattle.state.specs.State as lists
use Rattle.state.specs.State.{are_pair, state_good}
use Rattle.state.specs.declared.Refusal.{Refusal}
use Rattle.state.specs.declared.Refusal.TheVariants.{Tables, State, Party}
use Rattle.state.specs.Awaited.{is_awaited}
use Rattle.state.specs.mirror.Turns.{send_from, receive_from}

-- rules 12 and 13, then the rest
abbrev pub grounded : {A : Type 0} → Limits → List ℕ → ℕ → lists.State → Result A Refusal → Result A Refusal
grounded lim ts roles s rest =
    cond (not (tables_good lim ts roles)) (Err Tables) (
    cond (not (state_good lim ts roles s)) (Err State) rest)

-- rules 12 to 14, then the rest
abbrev pub judged : {A : Type 0} → Limits → List ℕ → ℕ → ℕ → ℕ → lists.State → Result A Refusal → Result A Refusal
judged lim ts roles p q s rest = grounded lim ts roles s (cond (not (are_pair roles p q)) (Err Party) rest)

-- rules 12 and 13, and 12 to 14, alone
abbrev pub ground_of : Limits → List ℕ → ℕ → lists.State → Result ⊤ Refusal
ground_of lim ts roles s = grounded lim ts roles s (Ok tt)

abbrev pub paired_of : Limits → List ℕ → ℕ → ℕ → ℕ → lists.State → Result ⊤ Refusal
paired_of lim ts roles p q s = judged lim ts roles p q s (Ok tt)

-- the blocks of the tables where those rules hold, else the refusal
abbrev pub Stands : List ℕ → ℕ → Result ⊤ Refusal → Result Blocks Refusal → Type 0
Stands ts roles rules r =
    MatchResult r (λ blocks. (Ok tt ≡ rules) × (blocks.tables.now ≡ ts) × (blocks.roles ≡ roles)) (λ e. Err e ≡ rules)

unfoldable pub send_judged : Limits → List ℕ → ℕ → ℕ → ℕ → ℕ → lists.State → Result ℕ Refusal
send_judged lim ts roles p q l s = judged lim ts roles p q s (send_from lim ts roles p q l s)

unfoldable pub receive_judged : Limits → List ℕ → ℕ → ℕ → ℕ → lists.State → Result ℕ Refusal
receive_judged lim ts roles p q s = judged lim ts roles p q s (receive_from lim ts roles q p s)

unfoldable pub waiting_of : Limits → List ℕ → ℕ → lists.State → Result ℕ Refusal
waiting_of lim ts roles s = grounded lim ts roles s (Ok (set_of (is_awaited lim ts roles s) roles))
