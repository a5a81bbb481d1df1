-- Logs that a wrong report could miss, and what the definitions say of them: one computation. The answers are those of an independent program. Assumes nothing.
use Prim.Native.Nat.{ℕ, suc, ◌-◌}
use mathlib.Core.Bool.{Bool, true, false}
use mathlib.Core.List.{List, [], ◌∷◌, ◌++◌, map}
use mathlib.Core.Path.{◌≡◌, refl}
use lib.ListN.{length, replicate}
use Rattle.words.specs.Below.{lowest, sum}
use Rattle.table.specs.Limits.{base}
use Rattle.hours.specs.declared.Record.{Record}
use Rattle.hours.specs.Figures.{Figures}
use Rattle.hours.specs.Records.{blank}
use Rattle.hours.specs.Report.{each, report_of}

log : List (ℕ × Bool × ℕ) → List Record
log [] = []
log (r ∷ rs) = record { minute = r.0; awake = r.1; set = r.2 } ∷ log rs

-- the roles alone that are not written have 0
abbrev says : ℕ → ℕ → ℕ → ℕ → ℕ → List ℕ → ℕ → ℕ → Figures
says n i t a s one many none =
    record { number = n; place = i; total = t; awake = a; asleep = s; alone = one ++ replicate (base.roles - length one) 0; several = many; nobody = none }

logs : List (List Record × ℕ)
unfolding log
logs =
    -- no records
    (log [], 2) ∷
    -- one record, of everybody
    (log ((77, true, 3) ∷ []), 2) ∷
    -- asleep, then awake for role 0, for role 1, for both, for nobody; the last covers none
    (log ((10, false, 3) ∷ (40, true, 1) ∷ (45, true, 2) ∷ (52, true, 3) ∷ (63, true, 0) ∷ (100, true, 1) ∷ []), 2) ∷
    -- equal minutes are fine
    (log ((5, true, 1) ∷ (5, false, 0) ∷ (5, true, 4) ∷ (9, false, 0) ∷ []), 3) ∷
    -- the whole of 32 bits, eight roles, role 7 alone
    (log ((0, true, 128) ∷ (4294967294, true, 129) ∷ (4294967295, false, 0) ∷ []), 8) ∷
    -- a count of roles that is too small, and one that is too large, whatever the records
    (log ((9, true, 255) ∷ (3, true, 0) ∷ []), 1) ∷
    (log ((9, true, 255) ∷ (3, true, 0) ∷ []), suc base.roles) ∷
    -- the later record is named, and the lowest; 28 comes before 29, though the set is met first
    (log ((9, true, 4) ∷ (8, true, 0) ∷ (7, true, 0) ∷ []), 2) ∷
    -- a role that is not in the session, in a record that is asleep, and in the last one
    (log ((1, true, 1) ∷ (2, false, 4) ∷ (3, true, 8) ∷ []), 2) ∷
    (log ((1, true, 1) ∷ (2, false, 3) ∷ (3, true, 4) ∷ []), 2) ∷
    -- a longer log
    (log ((358, true, 5) ∷ (697, true, 3) ∷ (1034, true, 4) ∷ (1121, false, 3) ∷ (1582, true, 4) ∷ (1715, false, 8) ∷ (1857, true, 5) ∷ (2027, false, 3) ∷ (3034, false, 8) ∷ (3075, true, 1) ∷ (3282, true, 3) ∷ (4148, true, 0) ∷ []), 5) ∷
    []

answers : List Figures
answers =
    says 0 0 0 0 0 [] 0 0 ∷
    says 0 0 0 0 0 [] 0 0 ∷
    says 0 0 90 60 30 (5 ∷ 7 ∷ []) 11 37 ∷
    says 0 0 4 4 0 (0 ∷ 0 ∷ 4 ∷ []) 0 0 ∷
    says 0 0 4294967295 4294967295 0 (0 ∷ 0 ∷ 0 ∷ 0 ∷ 0 ∷ 0 ∷ 0 ∷ 4294967294 ∷ []) 1 0 ∷
    says 2 0 0 0 0 [] 0 0 ∷
    says 2 0 0 0 0 [] 0 0 ∷
    says 28 1 0 0 0 [] 0 0 ∷
    says 29 1 0 0 0 [] 0 0 ∷
    says 29 2 0 0 0 [] 0 0 ∷
    says 0 0 3790 2139 1651 (207 ∷ 0 ∷ 220 ∷ []) 1712 0 ∷
    []

claims : map (λ c. report_of base c.0 c.1) logs ≡ answers
unfolding logs answers log report_of each lowest sum
claims = refl

-- 4,097 records are too many
too_many : report_of base (replicate 4097 blank) 2 ≡ says 27 0 0 0 0 [] 0 0
unfolding report_of
too_many = refl
