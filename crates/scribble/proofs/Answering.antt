-- What the reader answers is the answer for the text. Assumes nothing.
use Prim.Native.Nat.{ℕ}
use mathlib.Core.Bool.{Bool, true, false, cond}
use mathlib.Core.List.{List, [], ◌∷◌, ◌++◌, append_assoc, append-nil}
use mathlib.Core.Logic.{◌⊎◌, inl, inr}
use mathlib.Core.Path.{◌≡◌, refl, ap, ap₂, sym, subst, ◌∙◌}
use native.Mathlib.Omega.{arith}
use lib.Dec.{ltb}
use lib.ListN.{length}
use Rattle.table.specs.Limits.{Limits}
use Rattle.table.specs.Numbers.{ROOM}
use Rattle.scribble.specs.Tokens.{Token, start, tokens_of}
use Rattle.scribble.specs.Grammar.{SyntaxTree, IsText}
use Rattle.scribble.specs.Meaning.{roles_of, table_of}
use Rattle.scribble.specs.Refusals.{Fault, blame, TEXT, faults_of, shown_before, Finding, faultless, faulty, deciding, MANY}
use Rattle.scribble.specs.Outcome.{longest_text, AllAt, whole, cut, TextOutcome, refused_text, accepted_text, outcome_of, ReadsTo, text_too_long, read}
use Rattle.scribble.specs.mirror.Reader.{ReaderState, begun, q_done, q_stopped, run, read_at, outcome_from, read_of}
use Rattle.scribble.specs.mirror.Acts.{do_tree}
use Rattle.scribble.proofs.Agree.{run_text}
use Rattle.scribble.proofs.Sound.{has_tree}
use Rattle.scribble.proofs.Viable.{completed, refused, run_append}
use Rattle.scribble.proofs.Cut.{shown_before_lem, TokensBelow}
use Rattle.scribble.proofs.Meet.{meet, meet_comm, deciding_append}
use Rattle.scribble.proofs.Earliest.{found, all_found, roles_found}
use Rattle.scribble.proofs.Tabled.{tabled}
use Rattle.scribble.proofs.Stopped.{steps, halts, stays}
use Rattle.scribble.proofs.Rising.{Rising, Ended, last_token, later_token, text_rises, before_below}

module _ (lim : Limits) where
  -- where the reader stops, if it does
  abbrev Stop : List Token → Type 0
  Stop ws = (before : List Token) × (w : Token) × (rest : List Token) × (ws ≡ before ++ (w ∷ rest))
      × ((run lim before begun).control ≡ q_stopped → ⊥) × ((run lim (before ++ (w ∷ [])) begun).control ≡ q_stopped)
      × ((run lim ws begun).log ≡ (run lim before begun).log ++ (blame (start w) TEXT (start w) ∷ []))

  step_on : (before : List Token) (w : Token) → run lim (before ++ (w ∷ [])) begun ≡ read_at lim (run lim before begun).control w (run lim before begun)
  unfolding run
  step_on before w = run_append lim before (w ∷ []) begun

  find_stop : (before ws : List Token) → ((run lim before begun).control ≡ q_stopped → ⊥)
      → (((run lim (before ++ ws) begun).control ≡ q_stopped → ⊥) ⊎ (Stop (before ++ ws)))
  find_stop before [] n = inl (λ e. n (ap (λ (l : List Token). (run lim l begun).control) (sym (append-nil before)) ∙ e))
  find_stop before (w ∷ ws) n =
      by (λ m. find_stop (before ++ (w ∷ [])) ws m) (steps lim (run lim before begun).control w (run lim before begun) n)
    where
      by : (((run lim (before ++ (w ∷ [])) begun).control ≡ q_stopped → ⊥)
          → (((run lim ((before ++ (w ∷ [])) ++ ws) begun).control ≡ q_stopped → ⊥) ⊎ (Stop ((before ++ (w ∷ [])) ++ ws))))
          → ◌⊎◌ ((read_at lim (run lim before begun).control w (run lim before begun)).control ≡ q_stopped → ⊥)
          (((read_at lim (run lim before begun).control w (run lim before begun)).control ≡ q_stopped)
          × ((read_at lim (run lim before begun).control w (run lim before begun)).log ≡ (run lim before begun).log ++ (blame (start w) TEXT (start w) ∷ [])))
          → (((run lim (before ++ (w ∷ ws)) begun).control ≡ q_stopped → ⊥) ⊎ (Stop (before ++ (w ∷ ws))))
      by h (inl m) =
          subst (λ (l : List Token). (((run lim l begun).control ≡ q_stopped → ⊥) ⊎ (Stop l))) (append_assoc before (w ∷ []) ws)
          (h (λ e. m (sym (ap (λ (x : ReaderState). x.control) (step_on before w)) ∙ e)))
      by h (inr (e, l)) =
          let k = step_on before w in
          let c : (run lim (before ++ (w ∷ [])) begun).control ≡ q_stopped = ap (λ (x : ReaderState). x.control) k ∙ e in
          let r : run lim (before ++ (w ∷ ws)) begun ≡ run lim ws (run lim (before ++ (w ∷ [])) begun)
          = ap (λ (v : List Token). run lim v begun) (sym (append_assoc before (w ∷ []) ws)) ∙ run_append lim (before ++ (w ∷ [])) ws begun in
          inr (
            before,
            w,
            ws,
            refl,
            n,
            c,
            ap (λ (x : ReaderState). x.log) r ∙ ((stays lim ws (run lim (before ++ (w ∷ [])) begun) c).1 ∙ (ap (λ (x : ReaderState). x.log) k ∙ l)),
          )

  -- all tokens of a text read, the reader has ended or stopped
  ended : {ws : List Token} → Ended ws → (s : ReaderState) → (((run lim ws s).control ≡ q_done) ⊎ ((run lim ws s).control ≡ q_stopped))
  unfolding run
  ended (last_token {b = b} {x = x}) s = halts lim s.control b x s
  ended (later_token {w = w} e) s = ended e (read_at lim s.control w s)

  begins_going : begun.control ≡ q_stopped → ⊥
  begins_going e = let z : ◌≡◌ {A = ℕ} 0 1 = cc in omega arith

  -- a tree with what the reader has for it
  same_answer : (text : List ℕ) (room : ℕ) (t : SyntaxTree) (s : ReaderState) (j : Finding) → (j ≡ faultless → s.rows ≡ table_of t) → s.roles ≡ roles_of t
      → outcome_from text room s j ≡ outcome_of text room t j
  same_answer text room t s (faulty at num) e f = refl
  same_answer text room t s faultless e f =
      ap₂ (λ (rows : List ℕ) (roles : List (List ℕ)). cond (ltb room (length rows)) (refused_text ROOM 0) (accepted_text (length roles) rows)) (e refl) f

  -- the faults shown before the token that no text goes on with, and that token
  pub cut_deciding : (before more : List Token) (w : Token) (t : SyntaxTree) (log : List Fault) → IsText (before ++ more) t → AllAt (start w) more → TokensBelow (start w) before
      → log ≡ (run lim before begun).log ++ (blame (start w) TEXT (start w) ∷ [])
      → deciding log ≡ deciding (blame (start w) TEXT (start w) ∷ shown_before (start w) (faults_of lim t))
  cut_deciding before more w t log h a b l =
      let e = start w in
      let fault = blame e TEXT e ∷ [] in
      let s = run lim before begun in
      let k : shown_before e (do_tree lim t).log ≡ s.log
      = ap (λ (x : ReaderState). shown_before e x.log) (sym (run_text lim h)) ∙ shown_before_lem lim e before more b a in
      let m : deciding s.log ≡ deciding (shown_before e (faults_of lim t)) = ap deciding (sym k) ∙ found lim t e in
      ap deciding l
      ∙ (deciding_append s.log fault
      ∙ (meet_comm (deciding s.log) (deciding fault)
      ∙ (ap (meet (deciding fault)) m ∙ sym (deciding_append fault (shown_before e (faults_of lim t))))))

  whole_means : (text : List ℕ) (room : ℕ) → ltb longest_text (length text) ≡ false → (t : SyntaxTree) → IsText (tokens_of text) t
      → ReadsTo lim text room (outcome_from text room (run lim (tokens_of text) begun) (deciding (run lim (tokens_of text) begun).log))
  whole_means text room e t h =
      let s = run lim (tokens_of text) begun in
      let r = run_text lim h in
      let j = deciding (faults_of lim t) in
      let k : deciding s.log ≡ j = ap (λ (x : ReaderState). deciding x.log) r ∙ all_found lim t in
      subst (λ (x : TextOutcome). ReadsTo lim text room x)
      (sym (ap (outcome_from text room s) k
      ∙ same_answer text room t s j (λ z. ap (λ (x : ReaderState). x.rows) r ∙ tabled lim t z) (ap (λ (x : ReaderState). x.roles) r ∙ roles_found lim t)))
      (read e (whole h))

  cut_means : (text : List ℕ) (room : ℕ) → ltb longest_text (length text) ≡ false → Stop (tokens_of text)
      → ReadsTo lim text room (outcome_from text room (run lim (tokens_of text) begun) (deciding (run lim (tokens_of text) begun).log))
  unfolding deciding
  cut_means text room e (before, w, rest, q, n, c, l) =
      let s = run lim (tokens_of text) begun in
      let at = start w in
      let k = completed lim at before n in
      let t = k.2 in
      let r = subst (λ (ws : List Token). Rising 0 ws) q (text_rises text).0 in
      let j = cut_deciding before k.0 w t s.log k.3 k.1 (before_below before w rest r) l in
      let dead : (after : List Token) (u : SyntaxTree) → IsText (before ++ (w ∷ after)) u → ⊥
      = λ after u i. refused lim (before ++ (w ∷ [])) after u c (subst (λ (ws : List Token). IsText ws u) (sym (append_assoc before (w ∷ []) after)) i) in
      subst (λ (x : TextOutcome). ReadsTo lim text room x) (sym (ap (outcome_from text room s) j))
      (read e (cut before rest k.0 w q k.3 k.1 dead))

  -- THEOREM: the reader answers as the text says
  pub read_means : (text : List ℕ) (room : ℕ) → ReadsTo lim text room (read_of lim text room)
  unfolding read_of
  read_means text room = by (ltb longest_text (length text)) refl
    where
      done : ltb longest_text (length text) ≡ false → (((run lim (tokens_of text) begun).control ≡ q_done) ⊎ ((run lim (tokens_of text) begun).control ≡ q_stopped))
          → (((run lim (tokens_of text) begun).control ≡ q_stopped → ⊥) ⊎ (Stop (tokens_of text)))
          → ReadsTo lim text room (outcome_from text room (run lim (tokens_of text) begun) (deciding (run lim (tokens_of text) begun).log))
      done e (inl d) (inl n) = let k = has_tree lim (tokens_of text) d in whole_means text room e k.0 k.1
      done e (inr d) (inl n) = absurd (n d)
      done e d (inr k) = cut_means text room e k

      by : (t : Bool) → ltb longest_text (length text) ≡ t
          → ReadsTo lim text room (cond t (refused_text MANY 1) (outcome_from text room (run lim (tokens_of text) begun) (deciding (run lim (tokens_of text) begun).log)))
      by true e = text_too_long e
      by false e = done e (ended (text_rises text).1 begun) (find_stop [] (tokens_of text) begins_going)
