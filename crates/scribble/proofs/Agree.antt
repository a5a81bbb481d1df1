-- The reader does with the tokens of a tree what the tree says. Assumes nothing.
use Prim.Native.Nat.{ℕ}
use mathlib.Core.Bool.{Bool, true, false, cond, not}
use mathlib.Core.List.{List, [], ◌∷◌}
use mathlib.Core.Path.{◌≡◌, refl, ap, ◌∙◌}
use lib.Dec.{T}
use Rattle.table.specs.Limits.{Limits}
use Rattle.scribble.specs.Tokens.{Token, token, same_sort, or_word, from_word, open_mark, end_of_text}
use Rattle.scribble.specs.Grammar.{Name, Stmt, message, choice, recursion, continue, Block, Blocks, SyntaxTree, IsModule, module_ends, module_dot, IsRoles, roles_end, roles_comma, IsTypes, types_end, types_comma, IsPayload, payload_left_out, payload_empty, payload_types, IsStmt, is_message, is_choice, is_rec, is_continue, IsBlock, block_ends, block_then, IsBlocks, ors_none, ors_one, IsText, is_text}
use Rattle.scribble.specs.Names.{spelled, stands_at}
use Rattle.scribble.specs.mirror.Reader.{ReaderState, Control, body, Frame, frame, q_stmt, q_arms, q_payload, q_sender, q_sent, q_types, q_from, q_roles, q_dots, q_global, q_open, go_to, name_met, statement_begun, label_met, expecting, begun, q_listed, sender_met, receiver_met, chooser_met, rec_met, continue_met, special, block_opened, role_listed, statement, run}
use Rattle.scribble.specs.mirror.Acts.{names_met, message_read, do_stmt, do_block, do_blocks, roles_listed, do_tree}
use Rattle.scribble.proofs.Unique.{NoOr, block_no_or}
use Rattle.scribble.proofs.Acting.{label_met_go, role_listed_go, message_ends_go, block_closes_go, statement_go, behind, waits, stmt_keeps, block_left, blocks_left}

-- where the reader stands behind a statement
abbrev after : Stmt → Control
after (message l ns p q e) = q_stmt
after (choice c p first others) = q_arms
after (recursion c x b) = q_stmt
after (continue c x) = q_stmt

module _ (lim : Limits) where
  stmt_control : (t : Stmt) (s : ReaderState) (f : Frame) (fs : List Frame) → s.frames ≡ f ∷ fs → (do_stmt lim t s).control ≡ after t
  unfolding do_stmt special chooser_met rec_met continue_met
  stmt_control (message l ns p q e) s f fs h = refl
  stmt_control (choice c p first others) s f fs h =
      let s₁ = chooser_met lim (stands_at p) (spelled p) (special lim c s) in
      let k = block_left lim first (block_opened lim s₁) (frame s₁.pending true false) (frame f.form false true ∷ fs) (rw h) in
      (blocks_left lim others (do_block lim first (block_opened lim s₁)) k.2 k.1).1
  stmt_control (recursion c x b) s f fs h =
      let s₁ = rec_met lim (stands_at x) (spelled x) (special lim c s) in
      (block_left lim b (block_opened lim s₁) (frame s₁.pending true false) (frame f.form false true ∷ fs) (rw h)).1
  stmt_control (continue c x) s f fs h = refl

  no_or : (t : Bool) (w : Token) (ws : List Token) (s s' : ReaderState) → T (not t) → run lim ws (cond t s s') ≡ run lim ws s'
  no_or true w ws s s' h = absurd h
  no_or false w ws s s' h = refl

  -- behind a choice a statement is read as anywhere, unless it is an `or`
  pub arms : (ws : List Token) (s : ReaderState) → NoOr ws → run lim ws (go_to q_arms s) ≡ run lim ws (go_to q_stmt s)
  unfolding run
  arms [] s n = absurd n
  arms (token k b x ∷ ws) s n =
      no_or (same_sort k or_word) (token k b x) ws _ (statement lim (token k b x) (go_to q_arms s)) n ∙ ap (run lim ws) (statement_go lim q_arms q_stmt (token k b x) s)

  ready : (t : Stmt) (ws : List Token) (s : ReaderState) → s.control ≡ after t → NoOr ws → run lim ws s ≡ run lim ws (go_to q_stmt s)
  ready (message l ns p q e) ws s c n = ap (λ (x : Control). run lim ws (go_to x s)) c
  ready (choice k p first others) ws s c n = ap (λ (x : Control). run lim ws (go_to x s)) c ∙ arms ws s n
  ready (recursion k x b) ws s c n = ap (λ (x : Control). run lim ws (go_to x s)) c
  ready (continue k x) ws s c n = ap (λ (x : Control). run lim ws (go_to x s)) c

  run_types : {ws r : List Token} {ns : List Name} → IsTypes ws ns r → (s : ReaderState) → run lim ws (go_to q_types s) ≡ run lim r (go_to q_from (names_met ns s))
  unfolding run names_met
  run_types types_end s = refl
  run_types (types_comma {c = c} {t = t} m) s = run_types m (name_met c t s)

  run_payload : {b : ℕ} {x : List ℕ} {ws r : List Token} {ns : List Name}
      → IsPayload ws ns (token from_word b x ∷ r) → (s : ReaderState) → run lim ws (go_to q_payload s) ≡ run lim r (go_to q_sender (names_met ns s))
  unfolding run names_met
  run_payload payload_left_out s = refl
  run_payload payload_empty s = refl
  run_payload (payload_types {c = c} {t = t} m) s = run_types m (name_met c t s)

  mutual
    unfolding run do_stmt special chooser_met rec_met continue_met sender_met receiver_met message_read

    run_stmt : {ws r : List Token} {t : Stmt} → IsStmt ws t r → (s : ReaderState) (f : Frame) (fs : List Frame) → s.frames ≡ f ∷ fs
        → run lim ws (go_to q_stmt s) ≡ run lim r (do_stmt lim t s)
    run_stmt (is_message {l = l} {p = p} {q = q} {d = d} {ls = ls} {ps = ps} {qs = qs} {ws = ws} {r = r} {ns = ns} m) s f fs h =
        let s₁ = label_met lim l ls (name_met l ls (statement_begun lim l s)) in
        let s₂ = receiver_met lim q qs (sender_met lim p ps (names_met ns s₁)) in
        ap (λ (x : ReaderState). run lim ws (go_to q_payload x)) (label_met_go lim q_stmt l ls (name_met l ls (statement_begun lim l s)))
        ∙ (run_payload m s₁ ∙ ap (λ (x : ReaderState). run lim r (go_to q_stmt x)) (message_ends_go lim q_sent d s₂))
    run_stmt (is_choice {c = c} {p = p} {ps = ps} {first = first} b bs) s f fs h =
        let s₁ = chooser_met lim p ps (special lim c s) in
        let k = block_left lim first (block_opened lim s₁) (frame s₁.pending true false) (frame f.form false true ∷ fs) (rw h) in
        run_block b (block_opened lim s₁) (frame s₁.pending true false) s₁.frames refl
        ∙ run_blocks bs (do_block lim first (block_opened lim s₁)) k.2 k.1
    run_stmt (is_rec {c = c} {x = x} {xs = xs} b) s f fs h =
        let s₁ = rec_met lim x xs (special lim c s) in
        run_block b (block_opened lim s₁) (frame s₁.pending true false) s₁.frames refl
    run_stmt is_continue s f fs h = refl

    run_block : {ws r : List Token} {b : Block} → IsBlock ws b r → (s : ReaderState) (f : Frame) (fs : List Frame) → s.frames ≡ f ∷ fs
        → run lim ws (go_to q_stmt s) ≡ run lim r (do_block lim b s)
    run_block (block_ends {c = c} {r = r}) s f fs h = ap (run lim r) (block_closes_go lim q_stmt c s)
    run_block (block_then {r = r} {t = t} d b) s f fs h =
        let k = stmt_keeps lim t s f fs h in
        run_stmt d s f fs h
        ∙ (ready t r (do_stmt lim t s) (stmt_control t s f fs h) (block_no_or b)
        ∙ run_block b (do_stmt lim t s) k.0 fs k.1)

    run_blocks : {ws r : List Token} {bs : Blocks} → IsBlocks ws bs r → (s : ReaderState) → behind s.pending ≡ q_arms → s.control ≡ q_arms
        → run lim ws s ≡ run lim r (do_blocks lim bs s)
    run_blocks ors_none s w c = refl
    run_blocks (ors_one {b = b} {c = d} {s = x} {t = y} {ws = ws} {block = block} e es) s w c =
        let k = block_left lim block (block_opened lim s) (frame s.pending true false) s.frames refl in
        ap (λ (q : Control). run lim (token or_word b x ∷ token open_mark d y ∷ ws) (go_to q s)) c
        ∙ (run_block e (block_opened lim s) (frame s.pending true false) s.frames refl
        ∙ run_blocks es (do_block lim block (block_opened lim s)) (waits s.pending _ w k.2) (k.1 ∙ w))

  run_module : {ws r : List Token} {ns : List Name} → IsModule ws ns r → (s : ReaderState) → run lim ws (go_to q_dots s) ≡ run lim r (go_to q_global (names_met ns s))
  unfolding run names_met
  run_module module_ends s = refl
  run_module (module_dot {c = c} {t = t} m) s = run_module m (name_met c t s)

  run_roles : {ws r : List Token} {ns : List Name} → IsRoles ws ns r → (s : ReaderState)
      → run lim ws (go_to q_roles s) ≡ run lim r (go_to q_open (expecting body (roles_listed lim ns s)))
  unfolding run roles_listed
  run_roles roles_end s = refl
  run_roles (roles_comma {d = d} {u = u} {ws = ws} m) s =
      ap (λ (x : ReaderState). run lim ws (go_to q_roles x)) (role_listed_go lim q_listed d u (name_met d u s)) ∙ run_roles m (role_listed lim d u (name_met d u s))

  -- a text of the grammar is read to its end
  pub run_text : {ws : List Token} {t : SyntaxTree} → IsText ws t → run lim ws begun ≡ do_tree lim t
  unfolding run do_tree roles_listed names_met
  run_text (is_text {b = b} {e = e} {h = h} {j = j} {sb = sb} {se = se} {sh = sh} {sj = sj} {ws = ws} {ws' = v} {ns = ns} {rs = rs} {body = body'} m r d) =
      let s₁ = names_met ns (name_met b sb begun) in
      let s₂ = name_met e se s₁ in
      let s₃ = role_listed lim h sh (name_met h sh s₂) in
      let s₄ = block_opened lim (expecting body (roles_listed lim rs s₃)) in
      run_module m (name_met b sb begun)
      ∙ (ap (λ (x : ReaderState). run lim v (go_to q_roles x)) (role_listed_go lim q_listed h sh (name_met h sh s₂))
      ∙ (run_roles r s₃
      ∙ (run_block d s₄ (frame body true false) (roles_listed lim rs s₃).frames refl
      ∙ ap (λ (q : Control). run lim (token end_of_text j sj ∷ []) (go_to q (do_block lim body' s₄)))
      (block_left lim body' s₄ (frame body true false) (roles_listed lim rs s₃).frames refl).1)))
