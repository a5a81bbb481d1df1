-- what every report keeps, whatever the log. Assumes nothing.
use Rattle.std.specs.Prelude.{ℕ, ◌+◌, ◌^◌, ◌<◌, List, ◌≢◌, ◌≡◌, length, get_or}
use Rattle.words.specs.Below.{sum}
use Rattle.table.specs.Limits.{Limits}
use Rattle.table.specs.Numbers.{ACCEPTED}
use Rattle.hours.specs.Records.{at, total}
use Rattle.hours.specs.Report.{refusal}
use Rattle.hours.specs.declared.Record.{Record}
use Rattle.hours.specs.Figures.{Figures}

-- the minutes awaiting each role alone, several roles, nobody, together
abbrev pub parts : Limits → Figures → ℕ
parts lim f = sum (λ k. get_or f.alone k 0) lim.roles + f.several + f.nobody

-- every minute of the log is below 2 ^ b
abbrev pub Minutes : ℕ → List Record → Type 0
Minutes b rs = (i : ℕ) → i < length rs → (at rs i).minute < 2 ^ b

-- no figure needs more binary digits than a minute has
pub record Fits (b : ℕ) (f : Figures) : Type 0 where
  pub total : f.total < 2 ^ b
  pub awake : f.awake < 2 ^ b
  pub asleep : f.asleep < 2 ^ b
  pub alone : (k : ℕ) → get_or f.alone k 0 < 2 ^ b
  pub several : f.several < 2 ^ b
  pub nobody : f.nobody < 2 ^ b

pub record Accounts (lim : Limits) (rs : List Record) (f : Figures) : Type 0 where
  -- accepted, awake plus asleep is last less first
  pub first_to_last : f.number ≡ ACCEPTED → f.total ≡ total rs
  pub awake_asleep : f.awake + f.asleep ≡ f.total
  -- the awake parts add up to awake
  pub awake_parts : parts lim f ≡ f.awake
  -- refused, all figures are 0
  pub refused : f.number ≢ ACCEPTED → f ≡ refusal lim f.number f.place
  -- no sum can wrap
  pub fits : (b : ℕ) → Minutes b rs → Fits b f
