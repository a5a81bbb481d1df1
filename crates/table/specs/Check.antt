-- Document 01, 'What comes back': the rules of the table tested in order, each naming the lowest row that breaks it. Assumes nothing.
use Rattle.std.specs.Prelude.{ℕ, Bool, cond, List, [], ◌∷◌, ◌≡◌, ltb}
use Rattle.words.specs.Below.{lowest}
use Rattle.words.specs.Rows.{rows_of}
use Rattle.table.specs.Limits.{Limits}
use Rattle.table.specs.Numbers.{ACCEPTED, WORDS, ROLES}
use Rattle.table.specs.Rules.{Rule, rules, number, breaks, words_broken, roles_broken}

-- what a check or an opening says: the number, and the row or role that it names
pub record Verdict : Type 0 where
  pub number : ℕ
  pub place : ℕ

abbrev pub says : ℕ → ℕ → Verdict
says n at = record { number = n; place = at }

abbrev pub accepted : Verdict
accepted = says ACCEPTED 0

-- refused with that number at place 0 where the test holds; else the rest
abbrev pub refused : ℕ → Bool → Verdict → Verdict
refused n broken rest = cond broken (says n 0) rest

-- refused with that number at the lowest of the first m places that the test holds of; else the rest
abbrev pub refused_at : ℕ → (ℕ → Bool) → ℕ → Verdict → Verdict
refused_at n broken m rest = let at = lowest broken m in cond (ltb at m) (says n at) rest

-- rules 1 and 2, then the rest
abbrev pub sized : Limits → List ℕ → ℕ → Verdict → Verdict
sized lim t roles rest = refused WORDS (words_broken lim t) (refused ROLES (roles_broken lim roles) rest)

-- these rules in order, each over all rows, then the rest
unfoldable pub tested : Limits → List ℕ → ℕ → List Rule → Verdict → Verdict
tested lim t roles [] rest = rest
tested lim t roles (k ∷ ks) rest = refused_at (number k) (breaks lim t roles k) (rows_of t) (tested lim t roles ks rest)

-- the check of a table: rules 1, 2 and 4 to 10
unfoldable pub check_of : Limits → List ℕ → ℕ → Verdict
check_of lim t roles = sized lim t roles (tested lim t roles rules accepted)

-- what the test of a table's size promises, and what its check does, for every input: number and place
abbrev pub Sizes : Limits → List ℕ → ℕ → Verdict → Type 0
Sizes lim t roles v = v ≡ sized lim t roles accepted

abbrev pub Checks : Limits → List ℕ → ℕ → Verdict → Type 0
Checks lim t roles v = v ≡ check_of lim t roles
