-- The rows of a part as it is laid out in a block, row by row. Assumes nothing.
use Prim.Native.Nat.{ℕ, suc, ◌+◌, ◌*◌, ◌≤◌, ◌<◌}
use mathlib.Core.List.{List, ◌∷◌, ◌++◌, append_assoc}
use mathlib.Core.Path.{◌≡◌, sym, ◌∙◌, ap}
use native.Mathlib.Omega.{arith}
use lib.ListN.{get_or, length, length-append}
use lib.Seq.{get_or-append-add}
use Rattle.words.specs.Rows.{word}
use Rattle.parts.specs.Part.{Part, p_end, p_send, p_receive, p_loop, p_back, PartArms, p_nil, p_arm}
use Rattle.parts.specs.Layout.{size, size_arms, four, next_arm, layout, layout_arms}
use Rattle.parts.proofs.Lengths.{length_layout}
use Rattle.blocks.specs.Block.{PartRow, End, Arm, Loop, Back, Send, Receive, part_row_of}

-- row i of a list of words
abbrev pub row_at : List ℕ → ℕ → PartRow
row_at ws i = part_row_of (word ws i 0) (word ws i 1) (word ws i 2) (word ws i 3)

-- P is laid out from row i on; around: the rows of the loops around it, nearest first
mutual
  pub data Laid (row : ℕ → PartRow) : ℕ → List ℕ → Part → Type 0 where
    l_end : {i : ℕ} {around : List ℕ} → row i ≡ End 0 0 0 → Laid row i around p_end
    l_send : {i q : ℕ} {around : List ℕ} {ps : PartArms}
        → row i ≡ Send q (suc i) 0 → LaidArms row (suc i) around ps → Laid row i around (p_send q ps)
    l_receive : {i q : ℕ} {around : List ℕ} {ps : PartArms}
        → row i ≡ Receive q (suc i) 0 → LaidArms row (suc i) around ps → Laid row i around (p_receive q ps)
    l_loop : {i : ℕ} {around : List ℕ} {P : Part}
        → row i ≡ Loop (suc i) 0 0 → Laid row (suc i) (i ∷ around) P → Laid row i around (p_loop P)
    l_back : {i k : ℕ} {around : List ℕ} → row i ≡ Back (get_or around k 0) 0 0 → Laid row i around (p_back k)

  pub data LaidArms (row : ℕ → PartRow) : ℕ → List ℕ → PartArms → Type 0 where
    l_nil : {i : ℕ} {around : List ℕ} → LaidArms row i around p_nil
    l_arm : {i l : ℕ} {around : List ℕ} {P : Part} {ps : PartArms}
        → row i ≡ Arm l (suc i) (next_arm (suc i + size P) ps) → Laid row (suc i) around P → LaidArms row (suc i + size P) around ps
        → LaidArms row i around (p_arm l P ps)

row_here : (pre rest : List ℕ) (a b c d i : ℕ) → length pre ≡ i * 4 → row_at (pre ++ (a ∷ b ∷ c ∷ d ∷ rest)) i ≡ part_row_of a b c d
row_here pre rest a b c d i e =
    rw (
      ← e,
      get_or-append-add pre (a ∷ b ∷ c ∷ d ∷ rest) 0 0,
      get_or-append-add pre (a ∷ b ∷ c ∷ d ∷ rest) 1 0,
      get_or-append-add pre (a ∷ b ∷ c ∷ d ∷ rest) 2 0,
      get_or-append-add pre (a ∷ b ∷ c ∷ d ∷ rest) 3 0,
    )

next_pre : (pre rest : List ℕ) (a b c d i : ℕ) → length pre ≡ i * 4 → length (pre ++ four a b c d) ≡ suc i * 4
next_pre pre rest a b c d i e = rw length-append (omega arith)

-- row: as the words ws say, for the first n rows
module _ (ws : List ℕ) (row : ℕ → PartRow) (n : ℕ) (agree : (i : ℕ) → i < n → row i ≡ row_at ws i) where
  row_is : (pre rest : List ℕ) (a b c d i : ℕ) → ws ≡ pre ++ (a ∷ b ∷ c ∷ d ∷ rest) → length pre ≡ i * 4 → i < n → row i ≡ part_row_of a b c d
  row_is pre rest a b c d i e lp h = agree i h ∙ (ap (λ w. row_at w i) e ∙ row_here pre rest a b c d i lp)

  mutual
    unfolding layout size

    pub laid : (P : Part) (i : ℕ) (around pre post : List ℕ) → ws ≡ pre ++ (layout i around P ++ post) → length pre ≡ i * 4 → i + size P ≤ n
        → Laid row i around P
    laid p_end i around pre post e lp h = l_end (row_is pre post 0 0 0 0 i e lp (omega arith))
    laid (p_send q ps) i around pre post e lp h =
        let rest = layout_arms (suc i) around ps ++ post in
        l_send (row_is pre rest 5 q (suc i) 0 i e lp (omega arith))
        (laid_arms ps (suc i) around (pre ++ four 5 q (suc i) 0) post (e ∙ sym (append_assoc pre (four 5 q (suc i) 0) rest))
        (next_pre pre rest 5 q (suc i) 0 i lp) (omega arith))
    laid (p_receive q ps) i around pre post e lp h =
        let rest = layout_arms (suc i) around ps ++ post in
        l_receive (row_is pre rest 6 q (suc i) 0 i e lp (omega arith))
        (laid_arms ps (suc i) around (pre ++ four 6 q (suc i) 0) post (e ∙ sym (append_assoc pre (four 6 q (suc i) 0) rest))
        (next_pre pre rest 6 q (suc i) 0 i lp) (omega arith))
    laid (p_loop P) i around pre post e lp h =
        let rest = layout (suc i) (i ∷ around) P ++ post in
        l_loop (row_is pre rest 3 (suc i) 0 0 i e lp (omega arith))
        (laid P (suc i) (i ∷ around) (pre ++ four 3 (suc i) 0 0) post (e ∙ sym (append_assoc pre (four 3 (suc i) 0 0) rest))
        (next_pre pre rest 3 (suc i) 0 0 i lp) (omega arith))
    laid (p_back k) i around pre post e lp h = l_back (row_is pre post 4 (get_or around k 0) 0 0 i e lp (omega arith))

    pub laid_arms : (ps : PartArms) (i : ℕ) (around pre post : List ℕ) → ws ≡ pre ++ (layout_arms i around ps ++ post) → length pre ≡ i * 4
        → i + size_arms ps ≤ n → LaidArms row i around ps
    laid_arms p_nil i around pre post e lp h = l_nil
    laid_arms (p_arm l P ps) i around pre post e lp h =
        let body = layout (suc i) around P in
        let arms = layout_arms (suc i + size P) around ps in
        let next = next_arm (suc i + size P) ps in
        let head : List ℕ = four 2 l (suc i) next in
        let lp' : length (pre ++ head) ≡ suc i * 4 = next_pre pre post 2 l (suc i) next i lp in
        let e' : ws ≡ (pre ++ head) ++ (body ++ (arms ++ post)) =
        e ∙ (ap (λ w. pre ++ (head ++ w)) (append_assoc body arms post) ∙ sym (append_assoc pre head (body ++ (arms ++ post)))) in
        let lp'' : length ((pre ++ head) ++ body) ≡ (suc i + size P) * 4 =
        length-append (pre ++ head) body ∙ omega (arith, length_layout P (suc i) around) in
        l_arm (row_is pre ((body ++ arms) ++ post) 2 l (suc i) next i e lp (omega arith))
        (laid P (suc i) around (pre ++ head) (arms ++ post) e' lp' (omega arith))
        (laid_arms ps (suc i + size P) around ((pre ++ head) ++ body) post (e' ∙ sym (append_assoc (pre ++ head) body (arms ++ post))) lp'' (omega arith))
