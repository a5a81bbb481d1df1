-- The table of a tree stands for the tree: laid down row by row, it is read again as it was. Assumes nothing.
use Prim.Native.Nat.{ℕ, zero, suc, ◌+◌, ◌*◌, ◌/◌, ◌≤◌, ◌<◌}
use mathlib.Core.List.{List, [], ◌∷◌, ◌++◌, append_assoc, append-nil}
use mathlib.Core.Logic.{◌≢◌}
use mathlib.Core.Path.{◌≡◌, refl, sym, ◌∙◌, ap, ap₂}
use native.Mathlib.Omega.{arith}
use native.Mathlib.Nat.{mul-div_cancel}
use lib.ListN.{length, get_or, length-append}
use lib.Seq.{get_or-append-add}
use Rattle.words.specs.Rows.{word, rows_of}
use Rattle.table.specs.Limits.{Limits}
use Rattle.table.specs.Rows.{row_of, row}
use Rattle.table.specs.Tree.{Global, exchange, loop, Arms, nil, arm, grow_tree, grow_next, grow_arms, tree_at, chain_at, tree_of, rows_in, rows_in_arms}
use Rattle.scribble.specs.Grammar.{Stmt, Block, Blocks, SyntaxTree, protocol}
use Rattle.scribble.specs.Names.{spelled}
use Rattle.scribble.specs.Laid.{Armed, armed_end, armed_exchange, armed_loop, armed_back, ArmedArms, armed_nil, armed_one, laid, laid_arms, arm_behind}
use Rattle.scribble.specs.Meaning.{roles_of, label_names, global_of, global_in, arms_among, joined, meant, table_of}
use Rattle.scribble.specs.Refusals.{faults_of, deciding, faultless}
use Rattle.scribble.proofs.Laying.{row4, laid_length}
use Rattle.scribble.proofs.Fine.{IsEnd, is_end, FineStmt, fine_message, fine_choice, fine_rec, fine_continue, Fine, fine_end, fine_then, fine_last, FineArm, fine_arm, FineArms, fine_none, fine_or}
use Rattle.scribble.proofs.Tabled.{deciding_none, fine_body}

down : (n : ℕ) → 0 < n → (k : ℕ) × (n ≡ suc k)
down zero l = let v : ⊥ = omega arith in absurd v
down (suc k) l = (k, refl)

-- a row that stands behind so many
word_at : (pre ys : List ℕ) (m k : ℕ) → length pre ≡ m * 4 → word (pre ++ ys) m k ≡ get_or ys k 0
word_at pre ys m k e = ap (λ (n : ℕ). get_or (pre ++ ys) (n + k) 0) (sym e) ∙ get_or-append-add pre ys k 0

row_at : (t pre : List ℕ) (a b c d m : ℕ) (xs : List ℕ) → t ≡ pre ++ row4 a b c d xs → length pre ≡ m * 4 → row t m ≡ row_of a b c d
row_at t pre a b c d m xs w e =
    let ys = row4 a b c d xs in
    ap (λ (v : List ℕ). row v m) w
    ∙ (ap (λ (v : ℕ). row_of v (word (pre ++ ys) m 1) (word (pre ++ ys) m 2) (word (pre ++ ys) m 3)) (word_at pre ys m 0 e)
    ∙ (ap (λ (v : ℕ). row_of a v (word (pre ++ ys) m 2) (word (pre ++ ys) m 3)) (word_at pre ys m 1 e)
    ∙ (ap (λ (v : ℕ). row_of a b v (word (pre ++ ys) m 3)) (word_at pre ys m 2 e) ∙ ap (λ (v : ℕ). row_of a b c v) (word_at pre ys m 3 e))))

behind : (pre : List ℕ) (a b c d m : ℕ) → length pre ≡ m * 4 → length (pre ++ (a ∷ b ∷ c ∷ d ∷ [])) ≡ suc m * 4
behind pre a b c d m e = length-append pre (a ∷ b ∷ c ∷ d ∷ []) ∙ omega arith

next_is : (chain : ℕ → Arms ℕ) (k : ℕ) → 0 < k → grow_next chain k ≡ chain k
unfolding grow_next
next_is chain zero l = let v : ⊥ = omega arith in absurd v
next_is chain (suc k) l = refl

arm_some : {l : ℕ} {G : Global ℕ} {cs : Arms ℕ} → arm l G cs ≢ nil
arm_some e = let z : ◌≡◌ {A = ℕ} 0 1 = cc in omega arith

-- the arms behind an arm
next_from : (cs : Arms ℕ) (chain : ℕ → Arms ℕ) (m : ℕ) → 0 < m → (cs ≢ nil → chain m ≡ cs) → grow_next chain (arm_behind cs m) ≡ cs
unfolding grow_next laid
next_from nil chain m l h = refl
next_from (arm k G cs) chain m l h = next_is chain m l ∙ h arm_some

mutual
  unfolding laid rows_in tree_at grow_tree grow_arms grow_next

  tree_laid : {G : Global ℕ} → Armed G → (n : ℕ) (t pre post : List ℕ) (m : ℕ) → t ≡ pre ++ (laid G m ++ post) → length pre ≡ m * 4 → rows_in G ≤ n → tree_at n t m ≡ G
  tree_laid armed_end n t pre post m w e l =
      let k = down n (omega arith) in
      ap (λ (z : ℕ). tree_at z t m) k.1 ∙ ap (grow_tree (λ j. tree_at k.0 t j) (λ j. chain_at k.0 t j)) (row_at t pre 0 0 0 0 m post w e)
  tree_laid (armed_exchange {p = p} {q = q} {cs = cs} y c) n t pre post m w e l =
      let k = down n (omega arith) in
      let f = k.1 in
      let r = row_at t pre 1 p q (suc m) m (laid_arms cs (suc m) ++ post) w e in
      let w₁ = w ∙ sym (append_assoc pre (1 ∷ p ∷ q ∷ suc m ∷ []) (laid_arms cs (suc m) ++ post)) in
      ap (λ (z : ℕ). tree_at z t m) f
      ∙ (ap (grow_tree (λ j. tree_at k.0 t j) (λ j. chain_at k.0 t j)) r
      ∙ ap (exchange p q) (chain_laid c y k.0 t (pre ++ (1 ∷ p ∷ q ∷ suc m ∷ [])) post (suc m) w₁ (behind pre 1 p q (suc m) m e) (omega arith)))
  tree_laid (armed_loop {G = G} a) n t pre post m w e l =
      let k = down n (omega arith) in
      let f = k.1 in
      let r = row_at t pre 3 (suc m) 0 0 m (laid G (suc m) ++ post) w e in
      let w₁ = w ∙ sym (append_assoc pre (3 ∷ suc m ∷ 0 ∷ 0 ∷ []) (laid G (suc m) ++ post)) in
      ap (λ (z : ℕ). tree_at z t m) f
      ∙ (ap (grow_tree (λ j. tree_at k.0 t j) (λ j. chain_at k.0 t j)) r
      ∙ ap loop (tree_laid a k.0 t (pre ++ (3 ∷ suc m ∷ 0 ∷ 0 ∷ [])) post (suc m) w₁ (behind pre 3 (suc m) 0 0 m e) (omega arith)))
  tree_laid (armed_back {k = d}) n t pre post m w e l =
      let k = down n (omega arith) in
      ap (λ (z : ℕ). tree_at z t m) k.1 ∙ ap (grow_tree (λ j. tree_at k.0 t j) (λ j. chain_at k.0 t j)) (row_at t pre 4 d 0 0 m post w e)

  chain_laid : {cs : Arms ℕ} → ArmedArms cs → cs ≢ nil → (n : ℕ) (t pre post : List ℕ) (m : ℕ) → t ≡ pre ++ (laid_arms cs m ++ post) → length pre ≡ m * 4 → rows_in_arms cs ≤ n
      → chain_at n t m ≡ cs
  chain_laid armed_nil y n t pre post m w e l = absurd (y refl)
  chain_laid (armed_one {l = x} {G = G} {cs = cs} a c) y n t pre post m w e l =
      let k = down n (omega arith) in
      let f = k.1 in
      let after = suc m + rows_in G in
      let row₁ : List ℕ = 2 ∷ x ∷ suc m ∷ arm_behind cs after ∷ [] in
      let r = row_at t pre 2 x (suc m) (arm_behind cs after) m ((laid G (suc m) ++ laid_arms cs after) ++ post) w e in
      let w₁ : t ≡ (pre ++ row₁) ++ (laid G (suc m) ++ (laid_arms cs after ++ post))
      = w ∙ (ap (λ (z : List ℕ). pre ++ (row₁ ++ z)) (append_assoc (laid G (suc m)) (laid_arms cs after) post) ∙ sym (append_assoc pre row₁ (laid G (suc m) ++ (laid_arms cs after ++ post)))) in
      let w₂ = w₁ ∙ sym (append_assoc (pre ++ row₁) (laid G (suc m)) (laid_arms cs after ++ post)) in
      let e₁ = behind pre 2 x (suc m) (arm_behind cs after) m e in
      let e₂ : length ((pre ++ row₁) ++ laid G (suc m)) ≡ after * 4
      = length-append (pre ++ row₁) (laid G (suc m)) ∙ (ap₂ ◌+◌ e₁ (laid_length G (suc m)) ∙ omega arith) in
      ap (λ (z : ℕ). chain_at z t m) f
      ∙ (ap (grow_arms (λ j. tree_at k.0 t j) (λ j. chain_at k.0 t j)) r
      ∙ ap₂ (λ (z : Global ℕ) (z' : Arms ℕ). arm x z z')
      (tree_laid a k.0 t (pre ++ row₁) (laid_arms cs after ++ post) (suc m) w₁ e₁ (omega arith))
      (next_from cs (λ j. chain_at k.0 t j) after (omega arith) (λ z. chain_laid c z k.0 t ((pre ++ row₁) ++ laid G (suc m)) post after w₂ e₂ (omega arith))))

-- THEOREM: the rows of a tree, read as a table, are the tree
pub laid_stands : {G : Global ℕ} → Armed G → tree_of (laid G 0) ≡ G
unfolding tree_of
laid_stands {G} a =
    let n : rows_of (laid G 0) ≡ rows_in G = ap (λ (k : ℕ). k / 4) (laid_length G 0) ∙ mul-div_cancel (rows_in G) {n = 4} (omega arith) in
    tree_laid a (rows_of (laid G 0)) (laid G 0) [] [] 0 (sym (append-nil (laid G 0))) (omega arith) (omega arith)

module _ (roles names : List (List ℕ)) where
  end_armed : {b : Block} → IsEnd b → (recs : List (List ℕ)) → Armed (global_in roles names b recs)
  unfolding global_in
  end_armed is_end recs = armed_end

  mutual
    unfolding global_in

    stmt_armed : {t : Stmt} → FineStmt t → (recs : List (List ℕ)) (G : Global ℕ) → Armed G → Armed (global_of roles names t recs G)
    stmt_armed fine_message recs G a = armed_exchange arm_some (armed_one a armed_nil)
    stmt_armed (fine_choice fa fas) recs G a = let k = arm_armed fa recs (arms_armed fas recs) in armed_exchange k.0 k.1
    stmt_armed (fine_rec {x = x} fb) recs G a = armed_loop (block_armed fb (spelled x ∷ recs))
    stmt_armed fine_continue recs G a = armed_back

    pub block_armed : {b : Block} → Fine b → (recs : List (List ℕ)) → Armed (global_in roles names b recs)
    block_armed fine_end recs = armed_end
    block_armed (fine_then fb) recs = armed_exchange arm_some (armed_one (block_armed fb recs) armed_nil)
    block_armed (fine_last {b = b} ft i eb) recs = stmt_armed ft recs (global_in roles names b recs) (end_armed eb recs)

    arm_armed : {from to : List ℕ} {b : Block} → FineArm from to b → (recs : List (List ℕ)) {cs : Arms ℕ} → ArmedArms cs
        → (joined (global_in roles names b recs) cs ≢ nil) × ArmedArms (joined (global_in roles names b recs) cs)
    arm_armed (fine_arm i j fb) recs a = (arm_some, armed_one (block_armed fb recs) a)

    arms_armed : {from to : List ℕ} {bs : Blocks} → FineArms from to bs → (recs : List (List ℕ)) → ArmedArms (arms_among roles names bs recs)
    arms_armed fine_none recs = armed_nil
    arms_armed (fine_or fa fas) recs = (arm_armed fa recs (arms_armed fas recs)).1

-- THEOREM: the table of a text without faults stands for the protocol that the text says
pub stands : (lim : Limits) (t : SyntaxTree) → deciding (faults_of lim t) ≡ faultless → tree_of (table_of t) ≡ meant t
unfolding table_of meant
stands lim (protocol m n rs b) e =
    let t = protocol m n rs b in
    laid_stands (block_armed (roles_of t) (label_names t) (fine_body lim m n rs b (deciding_none (faults_of lim t) e)) [])
