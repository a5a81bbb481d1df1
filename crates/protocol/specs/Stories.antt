-- What is told of sessions over the marked tables T5 and T9, by computation. Assumes nothing.
use Rattle.std.specs.Prelude.{ℕ, List, [], ◌∷◌, ◌≡◌, refl}
use Rattle.std.proofs.Math.Decide.{ℕ_discrete}
use Rattle.words.specs.Below.{every, lowest, sum}
use Rattle.table.specs.Limits.{base}
use Rattle.parts.specs.Merge.{merge}
use Rattle.opening.specs.Opening.{blocks}
use Rattle.opening.specs.Marked.{t5, t9}
use Rattle.blocks.specs.Block.{End, part_row}
use Rattle.blocks.specs.Head.{chain, find}
use Rattle.session.specs.State.{head_of}
use Rattle.session.specs.Calls.{fresh_of, send_of, receive_of}
use Rattle.session.specs.Awaited.{awaited_of}
use Rattle.session.specs.declared.Session.{Session}
use Rattle.session.specs.Answers.{Answer}

-- what role 0 says and role 1 hears over T5's tables
pub data Turn : Type 0 where
  says_1 hears : Turn

unfoldable pub answer : Turn → Session → Answer
unfolding send_of receive_of blocks
answer says_1 s = send_of base (blocks t5 3) 3 0 1 1 7 s
answer hears s = receive_of base (blocks t5 3) 3 0 1 s

-- the numbers of a list of calls, one after the other
unfoldable pub numbers : List Turn → Session → List ℕ
unfolding answer
numbers [] s = []
numbers (c ∷ cs) s = let a = answer c s in a.number ∷ numbers cs a.state

-- role 0 may send label 1 four times before role 1 receives; the fifth is FULL; after one receive it is accepted
pub t5_story : numbers (says_1 ∷ says_1 ∷ says_1 ∷ says_1 ∷ says_1 ∷ hears ∷ says_1 ∷ []) (fresh_of base (blocks t5 3) 3).state ≡ 0 ∷ 0 ∷ 0 ∷ 0 ∷ 17 ∷ 0 ∷ 0 ∷ []
unfolding numbers fresh_of every merge ℕ_discrete chain find
t5_story = refl

-- T9 is finished when fresh: accepted, each role stands at an end, and nobody is awaited: the empty set, 0 and 8
abbrev pub t9_fresh : Answer
t9_fresh = fresh_of base (blocks t9 2) 2

pub t9_finished : (t9_fresh.number ≡ 0)
    × (part_row (blocks t9 2) 2 0 (head_of t9_fresh.state 0) ≡ End 0 0 0)
    × (part_row (blocks t9 2) 2 1 (head_of t9_fresh.state 1) ≡ End 0 0 0)
    × (awaited_of base (blocks t9 2) 2 t9_fresh.state ≡ record { number = 0; set = 0; count = 0; lowest = 8; state = t9_fresh.state })
unfolding awaited_of fresh_of blocks every sum lowest
t9_finished = (refl, refl, refl, refl)
