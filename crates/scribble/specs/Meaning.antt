-- The protocol that a text says, and its table. All by recursion on the syntax tree; a text with faults has a meaning too, and it is not handed out. Assumes nothing.
use Rattle.std.specs.Prelude.{ℕ, List, [], ◌∷◌, ◌++◌}
use Rattle.table.specs.Tree.{Global, end, exchange, flight, loop, back, Arms, nil, arm}
use Rattle.scribble.specs.Grammar.{Name, Stmt, message, choice, recursion, continue, Block, ends, then, Blocks, no_more, or, SyntaxTree, protocol}
use Rattle.scribble.specs.Names.{spelled, spellings, index_of, is_in, firsts}
use Rattle.scribble.specs.Laid.{laid}

-- the labels as they are met
unfoldable mutual
  pub labels_of : Stmt → List Name
  labels_of (message l ns p q e) = l ∷ []
  labels_of (choice c p first others) = labels_in first ++ labels_among others
  labels_of (recursion c x b) = labels_in b
  labels_of (continue c x) = []

  pub labels_in : Block → List Name
  labels_in (ends c) = []
  labels_in (then t b) = labels_of t ++ labels_in b

  pub labels_among : Blocks → List Name
  labels_among no_more = []
  labels_among (or b bs) = labels_in b ++ labels_among bs

-- 'Roles number as listed', a role that is listed again being none
unfoldable pub roles_of : SyntaxTree → List (List ℕ)
unfolding firsts
roles_of (protocol m n rs b) = spellings (firsts [] rs)

-- 'labels by first appearance'
unfoldable pub label_names : SyntaxTree → List (List ℕ)
unfolding firsts labels_in
label_names (protocol m n rs b) = spellings (firsts [] (labels_in b))

-- The blocks of a choice begin with messages from the chooser, all to one receiver: the choice is one exchange, with the arm of each of them.
-- The first arm of the block's own exchange, before the arms of the other blocks
abbrev pub joined : Global ℕ → Arms ℕ → Arms ℕ
joined end cs = cs
joined (exchange p q nil) cs = cs
joined (exchange p q (arm l G rest)) cs = arm l G cs
joined (flight p q l v G) cs = cs
joined (loop G) cs = cs
joined (back k) cs = cs

-- the receiver of the block's own exchange
abbrev pub receiver_in : Global ℕ → ℕ
receiver_in end = 0
receiver_in (exchange p q cs) = q
receiver_in (flight p q l v G) = q
receiver_in (loop G) = 0
receiver_in (back k) = 0

-- the protocol of a statement and of a block, with the names of roles and labels; `recs` are the names of the recs around, the innermost first
module _ (roles labels : List (List ℕ)) where
  unfoldable mutual
    unfolding is_in index_of

    -- a statement, with what stands behind it in its block
    pub global_of : Stmt → List (List ℕ) → Global ℕ → Global ℕ
    -- 'a payload list is read and dropped'
    global_of (message l ns p q e) recs G = exchange (index_of (spelled p) roles) (index_of (spelled q) roles) (arm (index_of (spelled l) labels) G nil)
    global_of (choice c p first others) recs G =
        let G₁ = global_in first recs in
        exchange (index_of (spelled p) roles) (receiver_in G₁) (joined G₁ (arms_among others recs))
    global_of (recursion c x b) recs G = loop (global_in b (spelled x ∷ recs))
    global_of (continue c x) recs G = back (index_of (spelled x) recs)

    -- a block that has no statement left is an end
    pub global_in : Block → List (List ℕ) → Global ℕ
    global_in (ends c) recs = end
    global_in (then t b) recs = global_of t recs (global_in b recs)

    -- the arms of the `or` blocks
    pub arms_among : Blocks → List (List ℕ) → Arms ℕ
    arms_among no_more recs = nil
    arms_among (or b bs) recs = joined (global_in b recs) (arms_among bs recs)

-- the protocol that the text says
unfoldable pub meant : SyntaxTree → Global ℕ
unfolding roles_of label_names global_in
meant (protocol m n rs b) = global_in (roles_of (protocol m n rs b)) (label_names (protocol m n rs b)) b []

-- its table
unfoldable pub table_of : SyntaxTree → List ℕ
unfolding meant laid
table_of t = laid (meant t) 0
