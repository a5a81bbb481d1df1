-- Any two answers that meet a promise are equal: the figures; what is kept; how many bytes answer the lines, and these. Assumes nothing.
use Prim.Native.Nat.{ℕ}
use mathlib.Core.List.{List}
use mathlib.Core.Path.{◌≡◌, sym, ◌∙◌}
use lib.ListN.{take}
use Rattle.table.specs.Limits.{Limits}
use Rattle.hours.specs.Figures.{Figures}
use Rattle.logs.specs.Lines.{Kept, fresh}
use Rattle.logs.specs.Logs.{keeps, Starts, Takes, Figured, FiguredFor, Answers}
use Rattle.logs.specs.declared.Log.{Log}

pub one_start : (log other : Log) → Starts log → Starts other → keeps log ≡ keeps other
one_start log other d e = kept_fresh log d ∙ sym (kept_fresh other e)
  where
    kept_fresh : (log : Log) → Starts log → keeps log ≡ fresh
    kept_fresh log s = rw s.0

pub one_taken : (log : Log) (line : List ℕ) (after other : Log) → Takes log line after → Takes log line other → keeps after ≡ keeps other
one_taken log line after other d e = d ∙ sym e

pub one_report : (lim : Limits) (log : Log) (f g : Figures) → Figured lim log f → Figured lim log g → f ≡ g
one_report lim log f g d e = d ∙ sym e

pub one_report_for : (lim : Limits) (log : Log) (roles : ℕ) (f g : Figures) → FiguredFor lim log roles f → FiguredFor lim log roles g → f ≡ g
one_report_for lim log roles f g d e = d ∙ sym e

pub one_answer : (lim : Limits) (k : Kept) (n m : ℕ) (text other : List ℕ) → Answers lim k n text → Answers lim k m other → (n ≡ m) × (take n text ≡ take m other)
one_answer lim k n m text other d e = (d.1 ∙ sym e.1, d.0 ∙ sym e.0)
