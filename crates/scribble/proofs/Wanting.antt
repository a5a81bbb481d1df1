-- What the tokens to come must be for the reader to come to the end: at each place, what is left of the grammar. Assumes nothing.
use Prim.Native.Nat.{ℕ}
use mathlib.Core.Bool.{true}
use mathlib.Core.List.{List, [], ◌∷◌}
use mathlib.Core.Option.{none}
use mathlib.Core.Path.{◌≡◌}
use Rattle.scribble.specs.Tokens.{Sort, Token, token, a_name, module_word, global_word, protocol_word, role_word, at_word, from_word, to_word, open_mark, left_mark, semi_mark, end_of_text}
use Rattle.scribble.specs.Grammar.{Name, Block, Blocks, IsModule, IsRoles, IsTypes, IsPayload, IsBlock, IsBlocks}
use Rattle.scribble.specs.mirror.Reader.{ReaderState, Control, Form, body, looped, chosen, Frame, is_chosen, q_module, q_name, q_dots, q_global, q_protocol, q_title, q_left, q_role, q_listed, q_roles, q_open, q_stmt, q_arms, q_payload, q_first, q_types, q_type, q_from, q_sender, q_to, q_receiver, q_sent, q_at, q_chooser, q_rec, q_target, q_again, q_finish, q_done, q_stopped}

-- behind a block stands what its statement goes on with, or the text's end
abbrev pub Ended : List Token → Type 0
Ended ws = (j : ℕ) × (x : List ℕ) × (ws ≡ token end_of_text j x ∷ [])

abbrev pub Inside : (List Token → Type 0) → List Token → Type 0
Inside B ws = (b : Block) × (r : List Token) × IsBlock ws b r × B r

abbrev pub Beyond : Form → (List Token → Type 0) → List Token → Type 0
Beyond body B ws = Ended ws
Beyond (looped x) B ws = Inside B ws
Beyond (chosen p q r a) B ws = (os : Blocks) × (r : List Token) × IsBlocks ws os r × Inside B r

abbrev pub Behind : List Frame → List Token → Type 0
Behind [] ws = Ended ws
Behind (f ∷ fs) ws = Beyond f.form (λ (r : List Token). Behind fs r) ws

-- a token of a sort, and then ..
abbrev pub Next : Sort → (List Token → Type 0) → List Token → Type 0
Next k B ws = (b : ℕ) × (x : List ℕ) × (r : List Token) × (ws ≡ token k b x ∷ r) × B r

-- what the tokens must be for the reader to come to the end, in a block, a message, a choice, a rec, a continue, a list, the head of the text
module _ (fs : List Frame) where
  abbrev pub Stmts : List Token → Type 0
  Stmts ws = Inside (λ (r : List Token). Behind fs r) ws

  abbrev pub Opened : Form → List Token → Type 0
  Opened f ws = Next open_mark (λ (r : List Token). Inside (λ (r : List Token). Beyond f (λ (r : List Token). Behind fs r) r) r) ws

  abbrev pub Sent : List Token → Type 0
  Sent ws = Next semi_mark (λ (r : List Token). Stmts r) ws

  abbrev pub Receiver : List Token → Type 0
  Receiver ws = Next a_name (λ (r : List Token). Sent r) ws

  abbrev pub To : List Token → Type 0
  To ws = Next to_word (λ (r : List Token). Receiver r) ws

  abbrev pub Sender : List Token → Type 0
  Sender ws = Next a_name (λ (r : List Token). To r) ws

  abbrev pub From : List Token → Type 0
  From ws = Next from_word (λ (r : List Token). Sender r) ws

  abbrev pub Types : List Token → Type 0
  Types ws = (ns : List Name) × (r : List Token) × IsTypes ws ns r × From r

  abbrev pub Payload : List Token → Type 0
  Payload ws = (ns : List Name) × (r : List Token) × IsPayload ws ns r × From r

  abbrev pub Arms : List Token → Type 0
  Arms ws = (os : Blocks) × (r : List Token) × IsBlocks ws os r × Stmts r

abbrev pub Roles : List Token → Type 0
Roles ws = (ns : List Name) × (r : List Token) × IsRoles ws ns r × Opened [] body r

abbrev pub Listed : List Token → Type 0
Listed ws = Next a_name (λ (r : List Token). Roles r) ws

abbrev pub Role : List Token → Type 0
Role ws = Next role_word (λ (r : List Token). Listed r) ws

abbrev pub Left : List Token → Type 0
Left ws = Next left_mark (λ (r : List Token). Role r) ws

abbrev pub Title : List Token → Type 0
Title ws = Next a_name (λ (r : List Token). Left r) ws

abbrev pub Protocol : List Token → Type 0
Protocol ws = Next protocol_word (λ (r : List Token). Title r) ws

abbrev pub Dots : List Token → Type 0
Dots ws = (ns : List Name) × (r : List Token) × IsModule ws ns r × Next global_word (λ (r : List Token). Protocol r) r

abbrev pub Wants : Control → ReaderState → List Token → Type 0
Wants q_module s ws = Next module_word (λ (r : List Token). Next a_name (λ (r : List Token). Dots r) r) ws
Wants q_name s ws = Next a_name (λ (r : List Token). Dots r) ws
Wants q_dots s ws = Dots ws
Wants q_global s ws = Next global_word (λ (r : List Token). Protocol r) ws
Wants q_protocol s ws = Protocol ws
Wants q_title s ws = Title ws
Wants q_left s ws = Left ws
Wants q_role s ws = Role ws
Wants q_listed s ws = Listed ws
Wants q_roles s ws = Roles ws
Wants q_open s ws = Opened s.frames s.pending ws
Wants q_stmt s ws = Stmts s.frames ws
Wants q_arms s ws = is_chosen s.pending ≡ true → Arms s.frames ws
Wants q_payload s ws = Payload s.frames ws
Wants q_first s ws = (ns : List Name) × (r : List Token) × ((b : ℕ) (x : List ℕ) → IsPayload (token left_mark b x ∷ ws) ns r) × From s.frames r
Wants q_types s ws = Types s.frames ws
Wants q_type s ws = Next a_name (λ (r : List Token). Types s.frames r) ws
Wants q_from s ws = From s.frames ws
Wants q_sender s ws = Sender s.frames ws
Wants q_to s ws = To s.frames ws
Wants q_receiver s ws = Receiver s.frames ws
Wants q_sent s ws = Sent s.frames ws
Wants q_at s ws = Next at_word (λ (r : List Token). Next a_name (λ (r : List Token). Opened s.frames (chosen [] none 0 0) r) r) ws
Wants q_chooser s ws = Next a_name (λ (r : List Token). Opened s.frames (chosen [] none 0 0) r) ws
Wants q_rec s ws = Next a_name (λ (r : List Token). Opened s.frames (looped []) r) ws
Wants q_target s ws = Next a_name (λ (r : List Token). Sent s.frames r) ws
Wants q_again s ws = Sent s.frames ws
Wants q_finish s ws = Ended ws
Wants q_done s ws = ws ≡ []
Wants q_stopped s ws = ⊥

abbrev pub Goal : ReaderState → List Token → Type 0
Goal s ws = Wants s.control s ws
