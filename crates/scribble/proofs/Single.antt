-- A text has one answer. Assumes nothing.
use Prim.Native.Nat.{ℕ}
use mathlib.Core.List.{List, [], ◌∷◌, ◌++◌, append_assoc}
use mathlib.Core.Path.{◌≡◌, refl, ap, sym, subst, ◌∙◌}
use native.Mathlib.Omega.{arith}
use Rattle.table.specs.Limits.{Limits}
use Rattle.scribble.specs.Tokens.{Token, start}
use Rattle.scribble.specs.Grammar.{SyntaxTree, IsText}
use Rattle.scribble.specs.Refusals.{Fault, blame, TEXT, faults_of, shown_before, Finding, deciding}
use Rattle.scribble.specs.Outcome.{AllAt, ReadAs, whole, cut, TextOutcome, outcome_of, ReadsTo, text_too_long, read}
use Rattle.scribble.specs.mirror.Reader.{begun, run}
use Rattle.scribble.proofs.Unique.{one_text}
use Rattle.scribble.proofs.Rising.{Rising, text_rises, before_below}
use Rattle.scribble.proofs.Answering.{cut_deciding}

-- two places in one list: the same, or one before the other
data Placed (b : List Token) (w : Token) (b' : List Token) (w' : Token) : Type 0 where
  both : b ≡ b' → w ≡ w' → Placed b w b' w'
  sooner : (x : List Token) → b' ≡ b ++ (w ∷ x) → Placed b w b' w'
  later : (x : List Token) → b ≡ b' ++ (w' ∷ x) → Placed b w b' w'

behind : {b b' : List Token} {w w' v v' : Token} → v ≡ v' → Placed b w b' w' → Placed (v ∷ b) w (v' ∷ b') w'
behind e (both f g) = both (cc) g
behind e (sooner x f) = sooner x (cc)
behind e (later x f) = later x (cc)

placed : (b : List Token) (w : Token) (r b' : List Token) (w' : Token) (r' : List Token) → b ++ (w ∷ r) ≡ b' ++ (w' ∷ r') → Placed b w b' w'
placed [] w r [] w' r' e = both refl (cc)
placed [] w r (v ∷ b') w' r' e = sooner b' (cc)
placed (v ∷ b) w r [] w' r' e = later b (cc)
placed (v ∷ b) w r (v' ∷ b') w' r' e = behind (cc) (placed b w r b' w' r' (cc))

module _ (lim : Limits) (text : List ℕ) (room : ℕ) where
  -- a token with which no text goes on does not stand in the beginning of a text
  not_before : (b : List Token) (w : Token) (x more : List Token) (t : SyntaxTree) → ((after : List Token) (u : SyntaxTree) → IsText (b ++ (w ∷ after)) u → ⊥) → IsText ((b ++ (w ∷ x)) ++ more) t → ⊥
  not_before b w x more t dead h = dead (x ++ more) t (subst (λ (ws : List Token). IsText ws t) (append_assoc b (w ∷ x) more) h)

  same_tree : (t t' : SyntaxTree) (f : Fault) (fs : List Fault) → outcome_of text room t (deciding (f ∷ fs)) ≡ outcome_of text room t' (deciding (f ∷ fs))
  unfolding deciding
  same_tree t t' f fs = refl

  both_cut : (b r more more' : List Token) (w : Token) (t t' : SyntaxTree) → Rising 0 (b ++ (w ∷ r))
      → IsText (b ++ more) t → AllAt (start w) more → IsText (b ++ more') t' → AllAt (start w) more'
      → outcome_of text room t (deciding (blame (start w) TEXT (start w) ∷ shown_before (start w) (faults_of lim t)))
      ≡ outcome_of text room t' (deciding (blame (start w) TEXT (start w) ∷ shown_before (start w) (faults_of lim t')))
  both_cut b r more more' w t t' up h a h' a' =
      let fault = blame (start w) TEXT (start w) in
      let log = (run lim b begun).log ++ (fault ∷ []) in
      let low = before_below b w r up in
      let j = cut_deciding lim b more w t log h a low refl in
      let j' = cut_deciding lim b more' w t' log h' a' low refl in
      ap (outcome_of text room t) (sym j ∙ j') ∙ same_tree t t' fault (shown_before (start w) (faults_of lim t'))

  one_reading : {ws : List Token} {t t' : SyntaxTree} {j j' : Finding} → Rising 0 ws → ReadAs lim ws t j → ReadAs lim ws t' j' → outcome_of text room t j ≡ outcome_of text room t' j'
  one_reading up (whole h) (whole h') = ap (λ (t : SyntaxTree). outcome_of text room t (deciding (faults_of lim t))) (one_text h h')
  one_reading up (whole {t = t} h) (cut b r more w e h' a dead) = absurd (dead r t (subst (λ (ws : List Token). IsText ws t) e h))
  one_reading up (cut b r more w e h a dead) (whole {t = t} h') = absurd (dead r t (subst (λ (ws : List Token). IsText ws t) e h'))
  one_reading up (cut {t = t} b r more w e h a dead) (cut {t = t'} b' r' more' w' e' h' a' dead') =
      by (placed b w r b' w' r' (sym e ∙ e'))
    where
      by : Placed b w b' w' → outcome_of text room t (deciding (blame (start w) TEXT (start w) ∷ shown_before (start w) (faults_of lim t)))
          ≡ outcome_of text room t' (deciding (blame (start w') TEXT (start w') ∷ shown_before (start w') (faults_of lim t')))
      by (both f g) =
          let up₁ = subst (λ (ws : List Token). Rising 0 ws) e up in
          let h₁ = subst (λ (x : List Token). IsText (x ++ more') t') (sym f) h' in
          let a₁ = subst (λ (x : Token). AllAt (start x) more') (sym g) a' in
          both_cut b r more more' w t t' up₁ h a h₁ a₁
          ∙ ap (λ (x : Token). outcome_of text room t' (deciding (blame (start x) TEXT (start x) ∷ shown_before (start x) (faults_of lim t')))) g
      by (sooner x f) = absurd (not_before b w x more' t' dead (subst (λ (z : List Token). IsText (z ++ more') t') f h'))
      by (later x f) = absurd (not_before b' w' x more t dead' (subst (λ (z : List Token). IsText (z ++ more) t) f h))

  -- THEOREM: any two answers for a text are equal
  pub one_answer : {a a' : TextOutcome} → ReadsTo lim text room a → ReadsTo lim text room a' → a ≡ a'
  one_answer (text_too_long e) (text_too_long e') = refl
  one_answer (text_too_long e) (read e' r) = let z : ◌≡◌ {A = ℕ} 0 1 = cc in let v : ⊥ = omega arith in absurd v
  one_answer (read e r) (text_too_long e') = let z : ◌≡◌ {A = ℕ} 0 1 = cc in let v : ⊥ = omega arith in absurd v
  one_answer (read e r) (read e' r') = one_reading (text_rises text).0 r r'
