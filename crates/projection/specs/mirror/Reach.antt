-- What a row reaches, from what the rows that its links lead to reach: who takes part in the exchanges at and below it, and how many of the
-- Loops around it a Back there leaves. Assumes nothing.
use Rattle.std.specs.Prelude.{ℕ, zero, suc, ◌+◌, ◌-◌, max, min, true, cond, List, eqb, ltb, get_or}
use Rattle.std.specs.Int.Bits.{bit_or}
use Rattle.words.specs.Below.{set_of}
use Rattle.table.specs.Limits.{base}
use Rattle.table.specs.Rows.{Row, End, Exchange, Arm, Loop, Back, Other}
use Rattle.projection.specs.declared.reach.Reach.{Reach}

-- the set of one role
abbrev pub alone : ℕ → ℕ
alone role = set_of (λ k. eqb k role) base.roles

abbrev pub nothing : Reach
nothing = record { roles = 0; out = 0 }

-- what two rows reach together
abbrev pub both : Reach → Reach → Reach
both a b = record { roles = bit_or a.roles b.roles; out = max a.out b.out }

-- what was found for row i
abbrev pub placed : List Reach → ℕ → Reach
placed found i = get_or found i nothing

-- a next arm; 0 for none
abbrev pub next_of : (ℕ → Reach) → ℕ → Reach
next_of at zero = nothing
next_of at (suc n) = at (suc n)

-- a row
abbrev pub reach_of : (ℕ → Reach) → Row → Reach
reach_of at (End a b c) = nothing
reach_of at (Exchange s r f) = record { roles = bit_or (bit_or (alone s) (alone r)) (at f).roles; out = (at f).out }
reach_of at (Arm l c n) = both (at c) (next_of at n)
reach_of at (Loop b x y) = record { roles = (at b).roles; out = (at b).out - 1 }
reach_of at (Back d x y) = record { roles = 0; out = min (d + 1) 65535 }
reach_of at Other = nothing

-- the roles that stay in a Loop that reaches this: all of them where a Back leads out of it
abbrev pub stay_of : Reach → ℕ
stay_of r = cond (ltb 0 r.out) (set_of (λ k. true) base.roles) r.roles
