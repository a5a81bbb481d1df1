-- A report that is handed over: its number is returned, its figures stand behind the pointers and in the lent slice. Assumes nothing.
use Rattle.std.specs.Prelude.{ℕ, List, ◌++◌, ◌≡◌, length, take, drop}
use Rattle.hours.specs.Figures.{Figures}

-- as many of the figures as there are places; the places behind the last figure stay
abbrev pub laid : List ℕ → List ℕ → List ℕ
laid figures places = take (length places) figures ++ drop (length figures) places

pub record Reported (f : Figures) (places : List ℕ) (number place total awake asleep : ℕ) (alone : List ℕ) (several nobody : ℕ) : Type 0 where
  pub number_is : number ≡ f.number
  pub place_is : place ≡ f.place
  pub total_is : total ≡ f.total
  pub awake_is : awake ≡ f.awake
  pub asleep_is : asleep ≡ f.asleep
  pub alone_is : alone ≡ laid f.alone places
  pub several_is : several ≡ f.several
  pub nobody_is : nobody ≡ f.nobody
