-- For a tree without faults the reader's rows are its table. Assumes nothing.
use Prim.Native.Nat.{ℕ, ◌/◌}
use mathlib.Core.Bool.{true}
use mathlib.Core.List.{List, [], ◌∷◌, ◌++◌, append-nil}
use mathlib.Core.Path.{◌≡◌, refl, sym, ◌∙◌, ap}
use native.Mathlib.Omega.{arith}
use lib.ListN.{length}
use Rattle.table.specs.Limits.{Limits}
use Rattle.scribble.specs.Grammar.{Name, Block, SyntaxTree, protocol}
use Rattle.scribble.specs.Names.{firsts, spellings}
use Rattle.scribble.specs.Laid.{laid}
use Rattle.scribble.specs.Meaning.{labels_in, roles_of, label_names, meant, global_in, table_of}
use Rattle.scribble.specs.Refusals.{faults_of, Fault, faultless, deciding, faults22, faults23, faults21, faults24}
use Rattle.scribble.specs.mirror.Reader.{body, recs_in}
use Rattle.scribble.specs.mirror.Acts.{do_tree}
use Rattle.scribble.proofs.Fine.{Fine, fine, append_none}
use Rattle.scribble.proofs.Rows.{block_rows_lem}
use Rattle.scribble.proofs.Earliest.{headed, head_faults, head_told}

pub deciding_none : (fs : List Fault) → deciding fs ≡ faultless → fs ≡ []
unfolding deciding
deciding_none [] e = refl
deciding_none (f ∷ fs) e = let z : ◌≡◌ {A = ℕ} 0 1 = cc in let w : ⊥ = omega arith in absurd w

-- the body of a tree without faults
pub fine_body : (lim : Limits) (m : List Name) (n : Name) (rs : List Name) (b : Block) → faults_of lim (protocol m n rs b) ≡ [] → Fine b
unfolding faults_of faults22 faults23
fine_body lim m n rs b e =
    let t = protocol m n rs b in
    let e₁ = (append_none (faults21 t ++ faults22 t ++ faults23 t) (faults24 lim t) e).0 in
    let e₂ = append_none (faults21 t ++ faults22 t) (faults23 t) e₁ in
    fine b e₂.1 (append_none (faults21 t) (faults22 t) e₂.0).1

-- the rows of a tree whose body is fine, whatever its limits
pub fine_tabled : (lim : Limits) (m : List Name) (n : Name) (rs : List Name) (b : Block) → Fine b → (do_tree lim (protocol m n rs b)).rows ≡ table_of (protocol m n rs b)
unfolding do_tree table_of meant roles_of label_names recs_in
fine_tabled lim m n rs b f =
    let names = spellings (firsts [] (labels_in b)) in
    let roles = spellings (firsts [] rs) in
    let k = head_told lim 0 m n rs in
    let s = headed lim m n rs in
    block_rows_lem lim 0 (head_faults lim 0 m n rs) roles names f s body true [] [] k.1 refl k.0 ([], ap (λ (l : List Name). spellings (firsts [] l)) (sym (append-nil (labels_in b))))
    ∙ ap (λ (l : List ℕ). l ++ laid (global_in roles names b []) (at l)) k.2
  where
    at : List ℕ → ℕ
    at l = length l / 4

-- THEOREM: a reader has written the table of a tree that has no fault
pub tabled : (lim : Limits) (t : SyntaxTree) → deciding (faults_of lim t) ≡ faultless → (do_tree lim t).rows ≡ table_of t
tabled lim (protocol m n rs b) e = fine_tabled lim m n rs b (fine_body lim m n rs b (deciding_none (faults_of lim (protocol m n rs b)) e))
