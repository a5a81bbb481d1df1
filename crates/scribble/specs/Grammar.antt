-- 'The grammar is written on its own.' A relation says which tokens make a text, and which syntax tree they stand for; it knows of no reader.
--
--   text     = module name { . name } ;  global protocol name ( role name { , role name } ) block  end of the text
--   block    = { { message | choice | rec | continue } }
--   message  = name [ ( [ name { , name } ] ) ] from name to name ;
--   choice   = choice at name block { or block }
--   rec      = rec name block
--   continue = continue name ;
--
-- `IsBlock ws b rest` reads: the tokens ws begin with the block b, whose `{` stands before them, and rest is what stands behind it; the other relations likewise.
-- That the tokens of a text have one tree is proofs/Unique.antt. Assumes nothing.
use Rattle.std.specs.Prelude.{ℕ, List, [], ◌∷◌}
use Rattle.scribble.specs.Tokens.{Token, token, a_name, module_word, global_word, protocol_word, role_word, choice_word, at_word, or_word, rec_word, continue_word, from_word, to_word, open_mark, close_mark, left_mark, right_mark, comma_mark, semi_mark, dot_mark, end_of_text}

-- a name: where it stands, and its bytes
pub data Name : Type 0 where
  name_at : ℕ → List ℕ → Name

mutual
  pub data Stmt : Type 0 where
    -- label, payload types, sender, receiver, where its `;` stands
    message : Name → List Name → Name → Name → ℕ → Stmt
    -- where it stands, who chooses, its first block, its others
    choice : ℕ → Name → Block → Blocks → Stmt
    -- where it stands, its name, its body
    recursion : ℕ → Name → Block → Stmt
    -- where it stands, the name of its rec
    continue : ℕ → Name → Stmt

  pub data Block : Type 0 where
    -- where its `}` stands
    ends : ℕ → Block
    then : Stmt → Block → Block

  -- the `or` blocks of a choice
  pub data Blocks : Type 0 where
    no_more : Blocks
    or : Block → Blocks → Blocks

pub data SyntaxTree : Type 0 where
  -- the names of the module line, the protocol's name, the role list, the body
  protocol : List Name → Name → List Name → Block → SyntaxTree

-- { . name } ;
pub data IsModule : List Token → List Name → List Token → Type 0 where
  module_ends : {b : ℕ} {s : List ℕ} {r : List Token} → IsModule (token semi_mark b s ∷ r) [] r
  module_dot : {b c : ℕ} {s t : List ℕ} {ws r : List Token} {ns : List Name}
      → IsModule ws ns r → IsModule (token dot_mark b s ∷ token a_name c t ∷ ws) (name_at c t ∷ ns) r

-- { , role name } )
pub data IsRoles : List Token → List Name → List Token → Type 0 where
  roles_end : {b : ℕ} {s : List ℕ} {r : List Token} → IsRoles (token right_mark b s ∷ r) [] r
  roles_comma : {b c d : ℕ} {s t u : List ℕ} {ws r : List Token} {ns : List Name}
      → IsRoles ws ns r → IsRoles (token comma_mark b s ∷ token role_word c t ∷ token a_name d u ∷ ws) (name_at d u ∷ ns) r

-- { , name } )
pub data IsTypes : List Token → List Name → List Token → Type 0 where
  types_end : {b : ℕ} {s : List ℕ} {r : List Token} → IsTypes (token right_mark b s ∷ r) [] r
  types_comma : {b c : ℕ} {s t : List ℕ} {ws r : List Token} {ns : List Name}
      → IsTypes ws ns r → IsTypes (token comma_mark b s ∷ token a_name c t ∷ ws) (name_at c t ∷ ns) r

-- [ ( [ name { , name } ] ) ]: a payload list may be left out, and may be empty
pub data IsPayload : List Token → List Name → List Token → Type 0 where
  payload_left_out : {r : List Token} → IsPayload r [] r
  payload_empty : {b c : ℕ} {s t : List ℕ} {r : List Token} → IsPayload (token left_mark b s ∷ token right_mark c t ∷ r) [] r
  payload_types : {b c : ℕ} {s t : List ℕ} {ws r : List Token} {ns : List Name}
      → IsTypes ws ns r → IsPayload (token left_mark b s ∷ token a_name c t ∷ ws) (name_at c t ∷ ns) r

mutual
  pub data IsStmt : List Token → Stmt → List Token → Type 0 where
    -- name payload from name to name ;
    is_message : {l b p c q d : ℕ} {ls s ps t qs u : List ℕ} {ws r : List Token} {ns : List Name}
        → IsPayload ws ns (token from_word b s ∷ token a_name p ps ∷ token to_word c t ∷ token a_name q qs ∷ token semi_mark d u ∷ r)
        → IsStmt (token a_name l ls ∷ ws) (message (name_at l ls) ns (name_at p ps) (name_at q qs) d) r
    -- choice at name block { or block }
    is_choice : {c b p d : ℕ} {s t ps u : List ℕ} {ws r r' : List Token} {first : Block} {others : Blocks}
        → IsBlock ws first r → IsBlocks r others r'
        → IsStmt (token choice_word c s ∷ token at_word b t ∷ token a_name p ps ∷ token open_mark d u ∷ ws) (choice c (name_at p ps) first others) r'
    -- rec name block
    is_rec : {c x d : ℕ} {s xs u : List ℕ} {ws r : List Token} {body : Block}
        → IsBlock ws body r
        → IsStmt (token rec_word c s ∷ token a_name x xs ∷ token open_mark d u ∷ ws) (recursion c (name_at x xs) body) r
    -- continue name ;
    is_continue : {c x d : ℕ} {s xs u : List ℕ} {r : List Token}
        → IsStmt (token continue_word c s ∷ token a_name x xs ∷ token semi_mark d u ∷ r) (continue c (name_at x xs)) r

  -- { statement } }
  pub data IsBlock : List Token → Block → List Token → Type 0 where
    block_ends : {c : ℕ} {s : List ℕ} {r : List Token} → IsBlock (token close_mark c s ∷ r) (ends c) r
    block_then : {ws r r' : List Token} {t : Stmt} {b : Block} → IsStmt ws t r → IsBlock r b r' → IsBlock ws (then t b) r'

  -- { or block }
  pub data IsBlocks : List Token → Blocks → List Token → Type 0 where
    ors_none : {r : List Token} → IsBlocks r no_more r
    ors_one : {b c : ℕ} {s t : List ℕ} {ws r r' : List Token} {block : Block} {others : Blocks}
        → IsBlock ws block r → IsBlocks r others r' → IsBlocks (token or_word b s ∷ token open_mark c t ∷ ws) (or block others) r'

-- one module line and one global protocol with its role list
pub data IsText : List Token → SyntaxTree → Type 0 where
  is_text : {a b c d e f g h i j : ℕ} {sa sb sc sd se sf sg sh si sj : List ℕ} {ws ws' ws'' : List Token} {ns rs : List Name} {body : Block}
      → IsModule ws ns (token global_word c sc ∷ token protocol_word d sd ∷ token a_name e se ∷ token left_mark f sf ∷ token role_word g sg ∷ token a_name h sh ∷ ws')
      → IsRoles ws' rs (token open_mark i si ∷ ws'')
      → IsBlock ws'' body (token end_of_text j sj ∷ [])
      → IsText (token module_word a sa ∷ token a_name b sb ∷ ws) (protocol (name_at b sb ∷ ns) (name_at e se) (name_at h sh ∷ rs) body)
