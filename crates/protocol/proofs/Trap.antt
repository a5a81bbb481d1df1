-- Why the proof that the engine accepts what the step rules allow speaks of covering and not of parts: with the customer's first merge this table opens, and
-- after one step of role 3 what is left for role 2 in its two arms has no merge. With today's it has one. By computation. Assumes nothing.
use Prim.Native.Nat.{ℕ}
use mathlib.Core.List.{List, [], ◌∷◌}
use mathlib.Core.Logic.{◌≢◌}
use mathlib.Core.Option.{none, some}
use mathlib.Core.Path.{◌≡◌, refl}
use native.Mathlib.Decide.{ℕ_discrete}
use native.Mathlib.Omega.{arith}
use Rattle.words.specs.Below.{lowest, sum}
use Rattle.table.specs.Above.{times, over, chain_over, has_label, loops, only_loops}
use Rattle.table.specs.Check.{accepted}
use Rattle.table.specs.Limits.{base}
use Rattle.table.specs.Rules.{breaks}
use Rattle.table.specs.Tree.{Global, end, exchange, flight, nil, arm, tree_of}
use Rattle.parts.specs.Merge.{merge}
use Rattle.parts.specs.Before.{merge_before}
use Rattle.parts.specs.Part.{Part, p_end, p_send, p_receive, p_nil, p_arm}
use Rattle.parts.specs.Projection.{part}
use Rattle.opening.specs.Before.{open_before}
use Rattle.protocol.specs.Steps.{send, here, some_arm, Step, rule_1, rule_4, no_arm, each_arm}

-- 0 tells 1 either of two things; in both 2 then tells 0 the same, 3 tells 1 either of two things, and 1 answers 2 by what it heard of both
unfoldable pub trap : List ℕ
trap =
    1 ∷ 0 ∷ 1 ∷ 1 ∷
    2 ∷ 1 ∷ 2 ∷ 13 ∷
    1 ∷ 2 ∷ 0 ∷ 3 ∷
    2 ∷ 5 ∷ 4 ∷ 0 ∷
    1 ∷ 3 ∷ 1 ∷ 5 ∷
    2 ∷ 1 ∷ 6 ∷ 9 ∷
    1 ∷ 1 ∷ 2 ∷ 7 ∷
    2 ∷ 3 ∷ 8 ∷ 0 ∷
    0 ∷ 0 ∷ 0 ∷ 0 ∷
    2 ∷ 2 ∷ 10 ∷ 0 ∷
    1 ∷ 1 ∷ 2 ∷ 11 ∷
    2 ∷ 4 ∷ 12 ∷ 0 ∷
    0 ∷ 0 ∷ 0 ∷ 0 ∷
    2 ∷ 2 ∷ 14 ∷ 0 ∷
    1 ∷ 2 ∷ 0 ∷ 15 ∷
    2 ∷ 5 ∷ 16 ∷ 0 ∷
    1 ∷ 3 ∷ 1 ∷ 17 ∷
    2 ∷ 1 ∷ 18 ∷ 21 ∷
    1 ∷ 1 ∷ 2 ∷ 19 ∷
    2 ∷ 4 ∷ 20 ∷ 0 ∷
    0 ∷ 0 ∷ 0 ∷ 0 ∷
    2 ∷ 2 ∷ 22 ∷ 0 ∷
    1 ∷ 1 ∷ 2 ∷ 23 ∷
    2 ∷ 3 ∷ 24 ∷ 0 ∷
    0 ∷ 0 ∷ 0 ∷ 0 ∷ []

pub opens : open_before base trap 4 400 ≡ accepted
unfolding open_before trap lowest sum times over chain_over has_label loops only_loops breaks merge_before ℕ_discrete
opens = refl

-- 1 tells 2 the label l
abbrev pub answer : ℕ → Global ℕ
answer l = exchange 1 2 (arm l end nil)

-- 2 tells 0 the label 5, and then G
abbrev pub after_5 : Global ℕ → Global ℕ
after_5 G = exchange 2 0 (arm 5 G nil)

-- 3 tells 1 the label 1 or 2
abbrev pub asked : ℕ → ℕ → Global ℕ
asked k l = exchange 3 1 (arm 1 (answer k) (arm 2 (answer l) nil))

pub tree_is : tree_of trap ≡ exchange 0 1 (arm 1 (after_5 (asked 3 4)) (arm 2 (after_5 (asked 4 3)) nil))
unfolding tree_of trap
tree_is = refl

-- role 3 sends 1 to role 1, with the payload 7, past what has not been sent
pub step : Step (send 3 1 1 7) (exchange 0 1 (arm 1 (after_5 (asked 3 4)) (arm 2 (after_5 (asked 4 3)) nil)))
    (exchange 0 1 (arm 1 (after_5 (flight 3 1 1 7 (answer 3))) (arm 2 (after_5 (flight 3 1 1 7 (answer 4))) nil)))
step =
    let a : ◌≢◌ {A = ℕ} 3 0 = omega arith in
    let b : ◌≢◌ {A = ℕ} 3 1 = omega arith in
    let c : ◌≢◌ {A = ℕ} 3 2 = omega arith in
    rule_4 a b some_arm (
    each_arm (rule_4 c a some_arm (each_arm (rule_1 (here refl)) no_arm)) (
    each_arm (rule_4 c a some_arm (each_arm (rule_1 (here refl)) no_arm)) no_arm))

-- what is left there for role 2, whom the message from 3 to 1 does not concern
abbrev pub left : ℕ → Part
left l = p_send 0 (p_arm 5 (p_receive 1 (p_arm l p_end p_nil)) p_nil)

pub left_first : part {A = ℕ} 2 (after_5 (answer 3)) ≡ some (left 3)
unfolding part
left_first = refl

pub left_second : part {A = ℕ} 2 (after_5 (answer 4)) ≡ some (left 4)
unfolding part
left_second = refl

pub no_merge : merge_before (left 3) (left 4) ≡ none
unfolding merge_before ℕ_discrete
no_merge = refl

-- two sends of the same label merge now, and what follows is a receive of either
pub merges_now : merge (left 3) (left 4) ≡ some (p_send 0 (p_arm 5 (p_receive 1 (p_arm 3 p_end (p_arm 4 p_end p_nil))) p_nil))
unfolding merge ℕ_discrete
merges_now = refl
