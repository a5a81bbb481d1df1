-- What the code's inner functions hand on, read as a reply. Assumes nothing.
use Rattle.std.specs.Prelude.{ℕ, ◌+◌, ◌*◌, ◌≤◌, ◌<◌, List, ◌++◌, ◌≡◌, length, take, Option, MatchOption}
use Rattle.arrayvec.specs.ArrayVec.{ArrayVec}
use Rattle.table.specs.Limits.{Limits, base}
use Rattle.session.specs.declared.Session.{Session}
use Rattle.orders.specs.Orders.{Reply, malformed}
use Rattle.orders.specs.Lines.{keeps}
use Rattle.orders.specs.declared.run.Run.{Run}
use Rattle.orders.specs.declared.run.Said.{Said}

-- the most numbers that an order tells, the most words of the tables that follow, the most numbers of an answer, the most bytes of its text
abbrev pub most_told : Limits → ℕ
most_told lim = 1 + lim.roles

abbrev pub most_shown : Limits → ℕ
most_shown lim = lim.roles * lim.rows * 4

abbrev pub most_numbers : Limits → ℕ
most_numbers lim = most_told lim + most_shown lim

abbrev pub most_bytes : Limits → ℕ
most_bytes lim = most_numbers lim * 11

abbrev pub says : Said → List ℕ → Reply
says s ws = record { numbers = s.told.items ++ take s.shown ws; kept = keeps s.run ws }

-- it says that reply, which has a number, and there is room for its text
pub record Says (s : Said) (ws : List ℕ) (r : Reply) : Type 0 where
  pub some : 0 < length s.told.items
  pub short : s.shown ≤ most_shown base
  pub reply : says s ws ≡ r

-- what an order leaves of a run and of the words: it says the reply, or it is malformed, and then the words are as they were
abbrev pub Replies : Option Said → Run → List ℕ → List ℕ → Reply → Type 0
Replies o run before after r = MatchOption o ((r ≡ malformed (keeps run before)) × (after ≡ before)) (λ s. Says s after r)

-- the numbers told by a call, which leaves that state
abbrev pub said_of : Run → ArrayVec ℕ → Session → Said
said_of run told s = record { told = told; shown = 0; run = record run { state = s } }

-- the numbers told by an order that sets tables of so many words, the first `shown` of which follow
abbrev pub said_over : Run → ArrayVec ℕ → ℕ → ℕ → ℕ → Said
said_over run told shown roles words = record { told = told; shown = shown; run = record { roles = roles; words = words; state = run.state } }
