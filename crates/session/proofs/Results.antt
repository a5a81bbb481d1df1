-- What the code's answers say determines them: two that say the same are the same. Assumes nothing.
use Prim.Native.Nat.{ℕ}
use mathlib.Core.Bool.{cond}
use mathlib.Core.Path.{◌≡◌, refl, sym, ◌∙◌, ap, ap₂}
use lib.Dec.{eqb}
use native.Mathlib.Omega.{arith}
use Rattle.std.specs.Prelude.{None, Result, Ok, Err, ⊤}
use Rattle.table.specs.Limits.{Limits}
use Rattle.state.specs.declared.Refusal.{Refusal}
use Rattle.state.specs.declared.Refusal.TheVariants.{Tables, State, Party, Turn, Label, Full, Empty, Stray}
use Rattle.state.specs.Refusals.{number_of, offered_of}
use Rattle.session.specs.declared.answers.Answer as code
use Rattle.session.specs.declared.answers.Message.{Message}
use Rattle.session.specs.declared.answers.Awaited.{Awaited}
use Rattle.session.specs.Answers.{Answer, Awaiting}
use Rattle.session.specs.Results.{number_in, offered_in, label_or_none, label_in, payload_in, set_in, answered, delivered, told}

-- the refusal with that number, which offers k
refusal_of : ℕ → ℕ → Refusal
refusal_of n k =
    cond (eqb n 12) Tables (cond (eqb n 13) State (cond (eqb n 14) Party (cond (eqb n 15) Turn (cond (eqb n 16) (Label k) (cond (eqb n 17) Full (cond (eqb n 18) Empty (Stray k)))))))

refusal_is : (lim : Limits) (e : Refusal) → refusal_of (number_of e) (label_or_none lim (offered_of e)) ≡ e
unfolding refusal_of
refusal_is lim Tables = refl
refusal_is lim State = refl
refusal_is lim Party = refl
refusal_is lim Turn = refl
refusal_is lim (Label k) = refl
refusal_is lim Full = refl
refusal_is lim Empty = refl
refusal_is lim (Stray k) = refl

pub same_refusal : (lim : Limits) (e f : Refusal) → number_of e ≡ number_of f → label_or_none lim (offered_of e) ≡ label_or_none lim (offered_of f) → e ≡ f
same_refusal lim e f n k = sym (refusal_is lim e) ∙ ap₂ refusal_of n k ∙ refusal_is lim f

-- a refusal's number is not 0
pub number_positive : (e : Refusal) → 0 ≡ number_of e → ⊥
number_positive Tables z = omega arith
number_positive State z = omega arith
number_positive Party z = omega arith
number_positive Turn z = omega arith
number_positive (Label k) z = omega arith
number_positive Full z = omega arith
number_positive Empty z = omega arith
number_positive (Stray k) z = omega arith

-- a refusal that is not for its label offers nothing
unoffered : (e : Refusal) → (number_of e ≡ 16 → ⊥) → (number_of e ≡ 19 → ⊥) → offered_of e ≡ None
unoffered Tables g h = refl
unoffered State g h = refl
unoffered Party g h = refl
unoffered Turn g h = refl
unoffered (Label k) g h = absurd (g refl)
unoffered Full g h = refl
unoffered Empty g h = refl
unoffered (Stray k) g h = absurd (h refl)

module _ (lim : Limits) where
  same_plain : (r t : Result ⊤ Refusal) → number_in r ≡ number_in t → offered_in lim r ≡ offered_in lim t → r ≡ t
  same_plain (Ok x) (Ok y) n k = refl
  same_plain (Ok x) (Err e) n k = absurd (number_positive e n)
  same_plain (Err e) (Ok y) n k = absurd (number_positive e (sym n))
  same_plain (Err e) (Err f) n k = ap Err (same_refusal lim e f n k)

  same_message : (r t : Result Message Refusal) → number_in r ≡ number_in t → offered_in lim r ≡ offered_in lim t → label_in r ≡ label_in t → payload_in r ≡ payload_in t → r ≡ t
  same_message (Ok x) (Ok y) n k l v = ap₂ (λ a b. Ok (record { label = a; payload = b })) l v
  same_message (Ok x) (Err e) n k l v = absurd (number_positive e n)
  same_message (Err e) (Ok y) n k l v = absurd (number_positive e (sym n))
  same_message (Err e) (Err f) n k l v = ap Err (same_refusal lim e f n k)

  pub answered_same : (a b : code.Answer ⊤) → answered lim a ≡ answered lim b → a ≡ b
  answered_same a b e =
      ap₂ (λ r s. record { result = r; state = s })
      (same_plain a.result b.result (ap (λ (x : Answer). x.number) e) (ap (λ (x : Answer). x.offered) e))
      (ap (λ (x : Answer). x.state) e)

  pub delivered_same : (a b : code.Answer Message) → delivered lim a ≡ delivered lim b → a ≡ b
  delivered_same a b e =
      ap₂ (λ r s. record { result = r; state = s })
      (same_message a.result b.result (ap (λ (x : Answer). x.number) e) (ap (λ (x : Answer). x.offered) e) (ap (λ (x : Answer). x.label) e) (ap (λ (x : Answer). x.payload) e))
      (ap (λ (x : Answer). x.state) e)

  -- but for the numbers 16 and 19 a refusal offers nothing
  pub told_same : (a b : code.Answer Awaited) → (number_in a.result ≡ 16 → ⊥) → (number_in a.result ≡ 19 → ⊥) → told lim a ≡ told lim b → a ≡ b
  told_same a b g h e =
      ap₂ (λ r s. record { result = r; state = s })
      (same_set a.result b.result g h (ap (λ (x : Awaiting). x.number) e) (ap (λ (x : Awaiting). x.set) e))
      (ap (λ (x : Awaiting). x.state) e)
    where
      same_set : (r t : Result Awaited Refusal) → (number_in r ≡ 16 → ⊥) → (number_in r ≡ 19 → ⊥) → number_in r ≡ number_in t → set_in r ≡ set_in t → r ≡ t
      same_set (Ok x) (Ok y) g h n w = ap (λ a. Ok (record { set = a })) w
      same_set (Ok x) (Err e) g h n w = absurd (number_positive e n)
      same_set (Err e) (Ok y) g h n w = absurd (number_positive e (sym n))
      same_set (Err e) (Err f) g h n w =
          ap Err (same_refusal lim e f n (ap (label_or_none lim) (unoffered e g h ∙ sym (unoffered f (λ z. g (n ∙ z)) (λ z. h (n ∙ z))))))
