-- A block without faults of last statements and choices, as a family: what stands where. Assumes nothing.
use Prim.Native.Nat.{ℕ}
use mathlib.Core.Bool.{Bool, true, false, not, ◌&&◌, ◌||◌}
use mathlib.Core.List.{List, [], ◌∷◌, ◌++◌, append-eq-nil_iff}
use mathlib.Core.Path.{◌≡◌, refl}
use native.Mathlib.Omega.{arith}
use borrow.Author.Tests.{not-false}
use Rattle.scribble.specs.Tokens.{spelled_alike}
use Rattle.scribble.specs.Grammar.{Name, Stmt, message, choice, recursion, continue, Block, ends, then, Blocks, no_more, or}
use Rattle.scribble.specs.Names.{spelled, stands_at}
use Rattle.scribble.specs.Refusals.{start_of, is_last, beginning_of, last_faults, last_faults_in, last_faults_among, message_start, beginning_in, beginnings_among, choice_receiver, wrong_start, choice_faults, choice_faults_in, choice_faults_among, Fault, blame, fault_when, CHOICE, LAST}
use Rattle.std.proofs.lemmas.Bool.{and_parts}
use Rattle.scribble.proofs.Same.{same_true}

-- a block that is at its end
pub data IsEnd : Block → Type 0 where
  is_end : {c : ℕ} → IsEnd (ends c)

mutual
  pub data FineStmt : Stmt → Type 0 where
    fine_message : {l p q : Name} {xs : List Name} {e : ℕ} → FineStmt (message l xs p q e)
    fine_choice : {c : ℕ} {to : List ℕ} {p : Name} {first : Block} {others : Blocks}
        → FineArm (spelled p) to first → FineArms (spelled p) to others → FineStmt (choice c p first others)
    fine_rec : {c : ℕ} {x : Name} {b : Block} → Fine b → FineStmt (recursion c x b)
    fine_continue : {c : ℕ} {x : Name} → FineStmt (continue c x)

  pub data Fine : Block → Type 0 where
    fine_end : {c : ℕ} → Fine (ends c)
    fine_then : {l p q : Name} {xs : List Name} {e : ℕ} {b : Block} → Fine b → Fine (then (message l xs p q e) b)
    fine_last : {t : Stmt} {b : Block} → FineStmt t → is_last t ≡ true → IsEnd b → Fine (then t b)

  -- a block of a choice: it begins with a message from the one name to the other
  pub data FineArm : List ℕ → List ℕ → Block → Type 0 where
    fine_arm : {from to : List ℕ} {l p q : Name} {xs : List Name} {e : ℕ} {b : Block}
        → spelled p ≡ from → spelled q ≡ to → Fine b → FineArm from to (then (message l xs p q e) b)

  pub data FineArms : List ℕ → List ℕ → Blocks → Type 0 where
    fine_none : {from to : List ℕ} → FineArms from to no_more
    fine_or : {from to : List ℕ} {b : Block} {bs : Blocks} → FineArm from to b → FineArms from to bs → FineArms from to (or b bs)

pub append_none : {A : Type 0} (xs ys : List A) → xs ++ ys ≡ [] → (xs ≡ []) × (ys ≡ [])
append_none xs ys e = (append-eq-nil_iff {p = xs} {q = ys}).0 e

fault_when_none : (t : Bool) (f : Fault) → fault_when t f ≡ [] → t ≡ false
fault_when_none true f e = let z : ◌≡◌ {A = ℕ} 0 1 = cc in let w : ⊥ = omega arith in absurd w
fault_when_none false f e = refl

one_none : {X : Type 0} (f : Fault) → (f ∷ []) ≡ [] → X
one_none f e = let z : ◌≡◌ {A = ℕ} 0 1 = cc in let w : ⊥ = omega arith in absurd w

-- behind the last statement nothing stands
only_end : (b : Block) → last_faults_in b true ≡ [] → IsEnd b
unfolding last_faults_in
only_end (ends c) e = is_end
only_end (then t b) e =
    one_none (blame (start_of t) LAST (start_of t)) (append_none (blame (start_of t) LAST (start_of t) ∷ []) (last_faults t) (append_none (blame (start_of t) LAST (start_of t) ∷ [] ++ last_faults t) (last_faults_in b _) e).0).0

-- the message that begins a block of a choice
begins_well : (from to : List ℕ) (l e : ℕ) (p q : List ℕ) → wrong_start from to (message_start l p q e) ≡ [] → (p ≡ from) × (q ≡ to)
unfolding wrong_start
begins_well from to l e p q h =
    let t = spelled_alike p from && spelled_alike q to in
    let v = and_parts (spelled_alike p from) (spelled_alike q to) (not-false t (fault_when_none (not t) (blame l CHOICE e) h)) in
    (same_true p from v.0, same_true q to v.1)

-- a statement with the block behind it
fine_on : (t : Stmt) (b : Block) → last_faults_in b (is_last t || false) ≡ [] → FineStmt t → (last_faults_in b false ≡ [] → Fine b) → Fine (then t b)
fine_on (message l xs p q e) b h f g = fine_then (g h)
fine_on (choice c p first others) b h f g = fine_last f refl (only_end b h)
fine_on (recursion c x body) b h f g = fine_last f refl (only_end b h)
fine_on (continue c x) b h f g = fine_last f refl (only_end b h)

arm_on : (t : Stmt) (b : Block) (from to : List ℕ) → wrong_start from to (beginning_of t) ≡ []
    → last_faults_in b (is_last t || false) ≡ [] → (last_faults_in b false ≡ [] → Fine b) → FineArm from to (then t b)
unfolding wrong_start
arm_on (message y xs p q e) b from to o l g =
    let w = begins_well from to (stands_at y) e (spelled p) (spelled q) o in
    fine_arm w.0 w.1 (g l)
arm_on (choice c p first others) b from to o l g = one_none (blame c CHOICE c) o
arm_on (recursion c y body) b from to o l g = one_none (blame c CHOICE c) o
arm_on (continue c y) b from to o l g = one_none (blame c CHOICE c) o

mutual
  unfolding last_faults_in choice_faults_in wrong_start

  fine_stmt : (t : Stmt) → last_faults t ≡ [] → choice_faults t ≡ [] → FineStmt t
  fine_stmt (message y xs p q e) l x = fine_message
  fine_stmt (choice c p first others) l x =
      let to = choice_receiver (beginning_in first ∷ beginnings_among others) in
      let l₂ = append_none (last_faults_in first false) (last_faults_among others) l in
      let x₂ = append_none (wrong_start (spelled p) to (beginning_in first) ++ choice_faults_in first) (choice_faults_among (spelled p) to others) x in
      let x₃ = append_none (wrong_start (spelled p) to (beginning_in first)) (choice_faults_in first) x₂.0 in
      fine_choice {to = to} (fine_block first (spelled p) to x₃.0 l₂.0 x₃.1) (fine_blocks others (spelled p) to l₂.1 x₂.1)
  fine_stmt (recursion c y body) l x = fine_rec (fine body l x)
  fine_stmt (continue c y) l x = fine_continue

  pub fine : (b : Block) → last_faults_in b false ≡ [] → choice_faults_in b ≡ [] → Fine b
  fine (ends c) l x = fine_end
  fine (then t b) l x =
      let l₁ = append_none (last_faults t) (last_faults_in b (is_last t || false)) l in
      let x₁ = append_none (choice_faults t) (choice_faults_in b) x in
      fine_on t b l₁.1 (fine_stmt t l₁.0 x₁.0) (λ h. fine b h x₁.1)

  fine_block : (b : Block) (from to : List ℕ) → wrong_start from to (beginning_in b) ≡ [] → last_faults_in b false ≡ [] → choice_faults_in b ≡ [] → FineArm from to b
  fine_block (ends c) from to o l x = one_none (blame c CHOICE c) o
  fine_block (then t b) from to o l x =
      let l₁ = append_none (last_faults t) (last_faults_in b (is_last t || false)) l in
      let x₁ = append_none (choice_faults t) (choice_faults_in b) x in
      arm_on t b from to o l₁.1 (λ h. fine b h x₁.1)

  fine_blocks : (bs : Blocks) (from to : List ℕ) → last_faults_among bs ≡ [] → choice_faults_among from to bs ≡ [] → FineArms from to bs
  fine_blocks no_more from to l x = fine_none
  fine_blocks (or b bs) from to l x =
      let l₁ = append_none (last_faults_in b false) (last_faults_among bs) l in
      let x₁ = append_none (wrong_start from to (beginning_in b) ++ choice_faults_in b) (choice_faults_among from to bs) x in
      let x₂ = append_none (wrong_start from to (beginning_in b)) (choice_faults_in b) x₁.0 in
      fine_or (fine_block b from to x₂.0 l₁.0 x₂.1) (fine_blocks bs from to l₁.1 x₁.1)
