-- What a rule answers over all rows, and the least of what is found at each. Assumes nothing.
use Rattle.std.specs.Prelude.{ℕ, Bool, ◌<◌, ◌≤◌, ◌≡◌, Option, Some, None}
use Rattle.table.specs.Check.{Verdict, accepted, refused_at}

-- the rule of that number is refused at the lowest of the first m rows that breaks it, where answers says what the test of a row may answer
abbrev pub Refuses : ℕ → ℕ → (ℕ → Bool → Type 0) → Verdict → Type 0
Refuses n m answers v = (p : ℕ → Bool) → ((i : ℕ) → (b : Bool) → i < m → answers i b → b ≡ p i) → v ≡ refused_at n p m accepted

-- the least that g gives of the first n numbers, or none where it gives none
abbrev pub IsLeast : (ℕ → Option ℕ) → ℕ → Option ℕ → Type 0
IsLeast g n None = (e : ℕ) → e < n → g e ≡ None
IsLeast g n (Some k) = ((e : ℕ) × (e < n) × (g e ≡ Some k)) × ((e i : ℕ) → e < n → g e ≡ Some i → k ≤ i)
