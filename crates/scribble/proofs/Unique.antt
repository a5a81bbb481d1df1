-- A text has one tree. Assumes nothing.
use Prim.Native.Nat.{ℕ}
use mathlib.Core.Bool.{not}
use lib.Dec.{T}
use mathlib.Core.List.{List, [], ◌∷◌}
use mathlib.Core.Path.{◌≡◌, refl, ap}
use Rattle.scribble.specs.Tokens.{Token, token, same_sort, or_word, from_word, close_mark}
use Rattle.scribble.specs.Grammar.{Name, name_at, Stmt, recursion, Block, Blocks, SyntaxTree, IsModule, module_ends, module_dot, IsRoles, roles_end, roles_comma, IsTypes, types_end, types_comma, IsPayload, payload_left_out, payload_empty, payload_types, IsStmt, is_message, is_choice, is_rec, is_continue, IsBlock, block_ends, block_then, IsBlocks, ors_none, ors_one, IsText, is_text}

one_module : {ws r r' : List Token} {ns ns' : List Name} → IsModule ws ns r → IsModule ws ns' r' → (ns ≡ ns') × (r ≡ r')
one_module module_ends module_ends = (refl, refl)
one_module (module_dot {c = c} {t = t} m) (module_dot m') = let h = one_module m m' in (ap (λ (ns : List Name). name_at c t ∷ ns) h.0, h.1)

one_roles : {ws r r' : List Token} {ns ns' : List Name} → IsRoles ws ns r → IsRoles ws ns' r' → (ns ≡ ns') × (r ≡ r')
one_roles roles_end roles_end = (refl, refl)
one_roles (roles_comma {d = d} {u = u} m) (roles_comma m') = let h = one_roles m m' in (ap (λ (ns : List Name). name_at d u ∷ ns) h.0, h.1)

one_types : {ws r r' : List Token} {ns ns' : List Name} → IsTypes ws ns r → IsTypes ws ns' r' → (ns ≡ ns') × (r ≡ r')
one_types types_end types_end = (refl, refl)
one_types (types_comma {c = c} {t = t} m) (types_comma m') = let h = one_types m m' in (ap (λ (ns : List Name). name_at c t ∷ ns) h.0, h.1)

-- `from` stands behind the payload: only so is it known that it was left out
one_payload : {b b' : ℕ} {s s' : List ℕ} {ws r r' : List Token} {ns ns' : List Name}
    → IsPayload ws ns (token from_word b s ∷ r) → IsPayload ws ns' (token from_word b' s' ∷ r') → (ns ≡ ns') × (◌≡◌ {A = List Token} (token from_word b s ∷ r) (token from_word b' s' ∷ r'))
one_payload payload_left_out payload_left_out = (refl, refl)
one_payload payload_empty payload_empty = (refl, refl)
one_payload (payload_types {c = c} {t = t} m) (payload_types m') = let h = one_types m m' in (ap (λ (ns : List Name). name_at c t ∷ ns) h.0, h.1)

-- the tokens do not begin with `or`
abbrev pub NoOr : List Token → Type 0
NoOr [] = ⊥
NoOr (token k b s ∷ r) = T (not (same_sort k or_word))

-- the tokens begin with neither `or` nor `}`
abbrev pub Opens : List Token → Type 0
Opens [] = ⊥
Opens (token k b s ∷ r) = T (not (same_sort k or_word)) × T (not (same_sort k close_mark))

opens : {ws r : List Token} {t : Stmt} → IsStmt ws t r → Opens ws
opens (is_message p) = (tt, tt)
opens (is_choice b bs) = (tt, tt)
opens (is_rec b) = (tt, tt)
opens is_continue = (tt, tt)

opens_no_or : (ws : List Token) → Opens ws → NoOr ws
opens_no_or [] h = h
opens_no_or (token k b s ∷ r) h = h.0

pub block_no_or : {ws r : List Token} {b : Block} → IsBlock ws b r → NoOr ws
block_no_or block_ends = tt
block_no_or (block_then {ws = ws} s b) = opens_no_or ws (opens s)

mutual
  one_stmt : {ws r r' : List Token} {t t' : Stmt} → IsStmt ws t r → IsStmt ws t' r' → NoOr r → NoOr r' → (t ≡ t') × (r ≡ r')
  one_stmt (is_message p) (is_message p') n n' = let h = one_payload p p' in let e = h.0 in let f = h.1 in (cc, cc)
  one_stmt (is_choice b bs) (is_choice b' bs') n n' =
      let h = one_block b b' in
      let e = h.0 in
      let g = one_blocks bs (rw (← h.1) at bs') n n' in
      let f = g.0 in
      (cc, g.1)
  one_stmt (is_rec {c = c} {x = x} {xs = xs} b) (is_rec b') n n' = let h = one_block b b' in (ap (recursion c (name_at x xs)) h.0, h.1)
  one_stmt is_continue is_continue n n' = (refl, refl)

  one_block : {ws r r' : List Token} {b b' : Block} → IsBlock ws b r → IsBlock ws b' r' → (b ≡ b') × (r ≡ r')
  one_block block_ends block_ends = (refl, refl)
  one_block block_ends (block_then s b) = absurd (opens s).1
  one_block (block_then s b) block_ends = absurd (opens s).1
  one_block (block_then s b) (block_then s' b') =
      let h = one_stmt s s' (block_no_or b) (block_no_or b') in
      let e = h.0 in
      let g = one_block b (rw (← h.1) at b') in
      let f = g.0 in
      (cc, g.1)

  one_blocks : {ws r r' : List Token} {o o' : Blocks} → IsBlocks ws o r → IsBlocks ws o' r' → NoOr r → NoOr r' → (o ≡ o') × (r ≡ r')
  one_blocks ors_none ors_none n n' = (refl, refl)
  one_blocks ors_none (ors_one b bs) n n' = absurd n
  one_blocks (ors_one b bs) ors_none n n' = absurd n'
  one_blocks (ors_one b bs) (ors_one b' bs') n n' =
      let h = one_block b b' in
      let e = h.0 in
      let g = one_blocks bs (rw (← h.1) at bs') n n' in
      let f = g.0 in
      (cc, g.1)

pub one_text : {ws : List Token} {t t' : SyntaxTree} → IsText ws t → IsText ws t' → t ≡ t'
one_text (is_text {ws' = v} {ws'' = u} m r b) (is_text {ws' = v'} {ws'' = u'} m' r' b') =
    let h₁ = one_module m m' in
    let e₁ = h₁.0 in
    let f₁ = h₁.1 in
    let g₁ : v ≡ v' = cc in
    let h₂ = one_roles r (rw (← g₁) at r') in
    let e₂ = h₂.0 in
    let f₂ = h₂.1 in
    let g₂ : u ≡ u' = cc in
    let e₃ = (one_block b (rw (← g₂) at b')).0 in
    cc
