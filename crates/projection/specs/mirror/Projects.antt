-- What is promised of the projection's functions: each puts the words of a part, or of arms, on a stack, or says that there is no part.
-- r: the role. work, work': the stack before and after. at, e: its height. Assumes nothing.
use Rattle.std.specs.Prelude.{ℕ, zero, suc, ◌+◌, ◌*◌, ◌<◌, ◌≤◌, true, not, ◌||◌, List, [], ◌∷◌, ◌++◌, ◌≡◌, Some, None, Result, OnOk, ⊤, length, replicate, Bool, false, ◌&&◌, eqb, get_or, is_some}
use Rattle.std.specs.Prelude.{Option as Maybe}
use Rattle.std.proofs.Math.Option.{Option, none, some, bind}
use Rattle.words.specs.Rows.{word}
use Rattle.table.specs.Limits.{Limits, base}
use Rattle.table.specs.Numbers.{NOPART}
use Rattle.table.specs.Rules.{rules}
use Rattle.table.specs.Check.{Verdict, accepted, refused_at, sized, tested, check_of}
use Rattle.table.specs.Refusals.{verdict_of}
use Rattle.table.specs.declared.refusal.Refusal.{Refusal}
use Rattle.table.specs.mirror.Kept.{Good, GoodArms}
use Rattle.table.specs.Tree.{Global, end, exchange, loop, back, Arms, nil, arm, rows_in, rows_in_arms}
use Rattle.parts.specs.Part.{Part, PartArms, rising}
use Rattle.parts.specs.Absent.{takes_part, leaves}
use Rattle.parts.specs.Projection.{part, part_arms, part_exchange, merge_from, merge_all, part_of, present}
use Rattle.parts.specs.Layout.{size}
use Rattle.parts.specs.mirror.Rising.{Rising}
use Rattle.parts.specs.mirror.Codes.{code, codes, codes_arms}
use Rattle.parts.specs.mirror.Grows.{Grows, Chain, ordered}
use Rattle.parts.specs.mirror.Stands.{Stands}
use Rattle.merge.specs.mirror.Merging.{MOST}
use Rattle.projection.specs.mirror.Keeps.{Keeps}
use Rattle.projection.specs.mirror.Orders.{Listed, Orders}
use Rattle.projection.specs.declared.Arm.{Arm}
use Rattle.projection.specs.declared.Plan.{Plan}
use Rattle.projection.specs.declared.Plan.TheVariants.{Leaf, Body, Action, Others}
use Rattle.projection.specs.declared.Projection.{Projection}
use Rattle.projection.specs.declared.Step.{Step}
use Rattle.projection.specs.declared.Way.{Way}

-- arguments of code words are below this
abbrev pub SMALL : ℕ
SMALL = 8192

-- ---- trees that have code words

mutual
  -- nothing is in flight, and roles, labels and depths are small
  pub data Coded {A : Type 0} : Global A → Type 0 where
    s_end : Coded end
    s_exchange : {p q : ℕ} {cs : Arms A} → p < base.roles → q < base.roles → CodedArms cs → Coded (exchange p q cs)
    s_loop : {G : Global A} → Coded G → Coded (loop G)
    s_back : {k : ℕ} → k < SMALL → Coded (back k)

  pub data CodedArms {A : Type 0} : Arms A → Type 0 where
    s_nil : CodedArms nil
    s_arm : {l : ℕ} {G : Global A} {cs : Arms A} → l < SMALL → Coded G → CodedArms cs → CodedArms (arm l G cs)

-- arms whose labels are small and whose trees are good and small, in any order
pub data Plain : Arms ℕ → Type 0 where
  plain_nil : Plain nil
  plain_arm : {l : ℕ} {G : Global ℕ} {cs : Arms ℕ} → l < SMALL → Good G → Coded G → Plain cs → Plain (arm l G cs)

-- ---- the stack

-- the words of work up to at are s
pub record Stack (work : List ℕ) (at : ℕ) (s : List ℕ) : Type 0 where
  pub rest : List ℕ
  pub is : work ≡ s ++ rest
  pub height : at ≡ length s

-- both workspaces have room for so many words, work from at on; spare for one more, since two arm lists have two marks
pub record Space (need at : ℕ) (work spare : List ℕ) : Type 0 where
  pub fits : at + need ≤ length work
  pub spares : need < length spare
  -- no merge has more words
  pub few : need ≤ MOST

-- one word more
pub record Pushed (work : List ℕ) (at w : ℕ) (work' : List ℕ) (e : ℕ) : Type 0 where
  pub gives : (s : List ℕ) → Stack work at s → at < length work → Stack work' e (s ++ w ∷ [])

-- what a call leaves that puts the words f of something on s and answers the height of the stack with them, or finds nothing
pub data Outcome {X : Type 0} (f : X → List ℕ) (s work : List ℕ) (res : Maybe ℕ) : Option X → Type 0 where
  fails : res ≡ None → Outcome f s work res none
  puts : {x : X} {e : ℕ} → res ≡ Some e → Stack work e (s ++ f x) → Outcome f s work res (some x)

-- ---- rows

-- what a plan says of the tree G of a row: its part is the word w; it is a Loop that stays, around the tree of the row next; an action of the
-- role's own, whose arms in rising order start at next; an exchange of others, whose chain starts at next
abbrev pub PlannedBy : Plan → Projection → Global ℕ → Type 0
PlannedBy (Leaf w) v G = (P : Part) × (part v.role G ≡ some P) × (codes P ≡ w ∷ [])
PlannedBy (Body w next) v G =
    (B : Global ℕ) × (G ≡ loop B) × Grows v.table.now next B × ((takes_part v.role B || leaves 1 B) ≡ true) × (w ≡ code 3 0)
PlannedBy (Action w next) v G =
    (p : ℕ) × (q : ℕ) × (cs : Arms ℕ) × (act : (PartArms → Part)) × (G ≡ exchange p q cs) × Listed v.table.now v.order.now next (ordered cs)
    × ((ps : PartArms) → part_exchange v.role p q ps ≡ some (act (rising ps)))
    × ((ps : PartArms) → codes (act ps) ≡ w ∷ codes_arms ps)
PlannedBy (Others next) v G =
    (p : ℕ) × (q : ℕ) × (cs : Arms ℕ) × (G ≡ exchange p q cs) × Chain v.table.now next cs
    × ((ps : PartArms) → part_exchange v.role p q ps ≡ merge_all ps)

-- what is known of a table, of what is kept of its Loops and of the order of its arms, for a role
pub record Known (v : Projection) : Type 0 where
  pub role : v.role < base.roles
  pub keeps : Keeps v.table.now v.kept.now
  pub orders : Orders v.table.now v.order.now

pub record Planned (v : Projection) (i : ℕ) (plan : Plan) : Type 0 where
  pub says : (G : Global ℕ) → Known v → Grows v.table.now i G → Coded G → PlannedBy plan v G

-- an arm as the code read it, where the row is one
pub data ArmRead (t : List ℕ) (i : ℕ) (res : Maybe Arm) : Type 0 where
  no_arm : res ≡ None → (word t i 0 ≡ 2 → ⊥) → ArmRead t i res
  an_arm : (a : Arm) → res ≡ Some a → word t i 0 ≡ 2 → (word t i 1 < SMALL → a.word ≡ code 2 (word t i 1)) → a.then ≡ word t i 2 → a.next ≡ word t i 3 → ArmRead t i res

-- ---- rows that lead on to one other row

-- the plan leads on: a Loop, the only arm of an action of the role's own, the only arm of an exchange of others
abbrev pub leads_on : Projection → Plan → Bool
leads_on v (Leaf w) = false
leads_on v (Body w i) = true
leads_on v (Action w i) = (not (eqb i 0) && eqb (get_or v.order.now i 0) 0) && eqb (word v.table.now i 0) 2
leads_on v (Others i) = eqb (word v.table.now i 0) 2 && eqb (word v.table.now i 3) 0

-- so many marks, each behind the last arm of an action
abbrev pub marks : ℕ → List ℕ
marks n = replicate n (code 1 0)

-- the words of the second part are ws, the words of the first one, and n marks; or there is neither
pub data Wraps (ws : List ℕ) (n : ℕ) : Option Part → Option Part → Type 0 where
  wraps_none : Wraps ws n none none
  wraps_some : {P Q : Part} → codes Q ≡ ws ++ (codes P ++ marks n) → Wraps ws n (some P) (some Q)

-- the part of G is that of the tree B below it, with words before and marks behind, and the links that are left suffice for B
pub record Within (r : ℕ) (G : Global ℕ) (left : ℕ) (ws : List ℕ) (n : ℕ) (B : Global ℕ) : Type 0 where
  pub good : Good B
  pub small : Coded B
  pub wraps : Wraps ws n (part r B) (part r G)
  pub rows : rows_in B ≤ left
  pub fits : length ws + (rows_in B * 2 + n) ≤ rows_in G * 2

-- where a plan leads on, the words before the tree of the row that it leads on to; where it does not, nothing is put
pub record Enters (v : Projection) (plan : Plan) (work : List ℕ) (at : ℕ) (work' : List ℕ) (res : Maybe Step) : Type 0 where
  pub leads : is_some res ≡ leads_on v plan
  pub stays : res ≡ None → work' ≡ work
  pub few : (e : Step) → res ≡ Some e → e.marks ≤ 1
  pub gives : (e : Step) → res ≡ Some e → (G : Global ℕ) (left : ℕ) (s : List ℕ) → PlannedBy plan v G → rows_in G ≤ suc left → Good G → Coded G
      → Stack work at s → at + rows_in G * 2 ≤ length work
      → (B : Global ℕ) × (ws : List ℕ) × Grows v.table.now e.row B × Stack work' e.at (s ++ ws) × Within v.role G left ws e.marks B

-- the plan of a row below row i that leads on to no single one, and what stands around its part; none where the links run out
pub record Walks (v : Projection) (left i : ℕ) (work : List ℕ) (at : ℕ) (work' : List ℕ) (res : Maybe Way) : Type 0 where
  pub stops : (e : Way) → res ≡ Some e → leads_on v e.plan ≡ false
  pub within : (e : Way) → res ≡ Some e → e.left < left
  pub gives : (G : Global ℕ) (s : List ℕ) → Known v → Grows v.table.now i G → rows_in G ≤ left → Good G → Coded G → Stack work at s
      → at + rows_in G * 2 ≤ length work
      → (e : Way) × (B : Global ℕ) × (ws : List ℕ) × (res ≡ Some e) × PlannedBy e.plan v B × Stack work' e.at (s ++ ws) × Within v.role G (suc e.left) ws e.marks B

-- so many marks more
pub record Closed (n : ℕ) (work : List ℕ) (at : ℕ) (work' : List ℕ) (e : ℕ) : Type 0 where
  pub gives : (s : List ℕ) → Stack work at s → at + n ≤ length work → Stack work' e (s ++ marks n)

-- ---- the calls

-- the tree of a plan; the links that may be followed suffice for what is below it
pub record Chooses (v : Projection) (plan : Plan) (left : ℕ) (work : List ℕ) (at : ℕ) (spare work' : List ℕ) (res : Maybe ℕ) : Type 0 where
  pub gives : (G : Global ℕ) (s : List ℕ) → Known v → PlannedBy plan v G → rows_in G ≤ suc left → Good G → Coded G → Stack work at s
      → Space (rows_in G * 2) at work spare → Outcome codes s work' res (part v.role G)

-- the links that may be followed suffice for a tree of so many rows
pub record Projects (v : Projection) (left i : ℕ) (work : List ℕ) (at : ℕ) (spare work' : List ℕ) (res : Maybe ℕ) : Type 0 where
  pub gives : (G : Global ℕ) (s : List ℕ) → Known v → Grows v.table.now i G → rows_in G ≤ left → Good G → Coded G → Stack work at s
      → Space (rows_in G * 2) at work spare → Outcome codes s work' res (part v.role G)

-- the arms from row i on, in rising order
pub record Owns (v : Projection) (left i : ℕ) (work : List ℕ) (at : ℕ) (spare work' : List ℕ) (res : Maybe ℕ) : Type 0 where
  pub gives : (cs : Arms ℕ) (s : List ℕ) → Known v → Listed v.table.now v.order.now i cs → rows_in_arms cs ≤ left → Plain cs → Stack work at s
      → Space (suc (rows_in_arms cs * 2)) at work spare → Outcome codes_arms s work' res (part_arms v.role cs)

-- the arms from row i of a chain on, none for 0
pub data Behind (t : List ℕ) : ℕ → Arms ℕ → Type 0 where
  behind_none : Behind t 0 nil
  behind_some : {i : ℕ} {cs : Arms ℕ} → 0 < i → Chain t i cs → Behind t i cs

-- P is the last on the stack
pub record Folds (v : Projection) (left i : ℕ) (work : List ℕ) (at e : ℕ) (spare work' : List ℕ) (res : Maybe ℕ) : Type 0 where
  pub gives : (cs : Arms ℕ) (s : List ℕ) (P : Part) → Known v → Behind v.table.now i cs → rows_in_arms cs ≤ left → GoodArms cs → CodedArms cs → Rising P
      → at ≡ length s → Stack work e (s ++ codes P) → Space ((size P + rows_in_arms cs) * 2) at work spare
      → Outcome codes s work' res (bind (part_arms v.role cs) (λ ps. merge_from P ps))

-- ---- the parts of all roles

-- the words of a part, none where there is none
abbrev pub words_of : Option Part → List ℕ
words_of none = []
words_of (some P) = codes P

-- the words of the parts of the roles below n, role 0 first
unfoldable pub parts_words : List ℕ → ℕ → List ℕ
unfolding codes part_of
parts_words t zero = []
parts_words t (suc n) = parts_words t n ++ words_of (part_of t n)

-- refused at the lowest role that has no part; and, where every role has one, the words of all parts one after the other
pub record Parted (t : List ℕ) (roles : ℕ) (work' : List ℕ) (res : Result ⊤ Refusal) : Type 0 where
  pub lacks : verdict_of res ≡ refused_at NOPART (λ k. not (present (part_of t k))) roles accepted
  pub stands : OnOk res (Stands work' 0 (parts_words t roles))

-- the verdict on a table and on its parts: rules 1, 2 and 4 to 11
unfoldable pub parts_of : Limits → List ℕ → ℕ → Verdict
unfolding part_of tested
parts_of lim t roles = sized lim t roles (tested lim t roles rules (refused_at NOPART (λ r. not (present (part_of t r))) roles accepted))

-- what there is where it accepts: the words of all parts, one after the other
pub record Complete (t : List ℕ) (roles : ℕ) (words : List ℕ) : Type 0 where
  pub checked : check_of base t roles ≡ accepted
  pub parts : (r : ℕ) → r < roles → present (part_of t r) ≡ true
  pub stand : Stands words 0 (parts_words t roles)
