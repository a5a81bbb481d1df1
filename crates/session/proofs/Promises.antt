-- Any two answers that meet a call's promise are equal, as the customer has them and as the code has them. Assumes nothing.
use Prim.Native.Nat.{ℕ}
use mathlib.Core.List.{List}
use mathlib.Core.Bool.{Bool, true, false, cond, not}
use mathlib.Core.Path.{◌≡◌, sym, ◌∙◌, ap}
use native.Mathlib.Omega.{arith}
use Rattle.std.specs.Prelude.{⊤}
use Rattle.table.specs.Limits.{Limits}
use Rattle.session.specs.Promises.{Freshens, Sends, Receives, Awaits}
use Rattle.session.specs.declared.Session.{Session}
use Rattle.session.specs.State.{state_good}
use Rattle.session.specs.Awaited.{is_awaited, role_set, nobody_awaited, awaited_of}
use Rattle.session.specs.Answers.{Answer, Awaiting}
use Rattle.session.specs.Results.{number_in, answered, delivered, told}
use Rattle.session.specs.declared.answers.Answer as code
use Rattle.session.specs.declared.answers.Message.{Message}
use Rattle.session.specs.declared.answers.Awaited.{Awaited}
use Rattle.blocks.specs.Tables.{tables_good}
use Rattle.session.proofs.Results.{answered_same, delivered_same, told_same}

module _ (lim : Limits) (ts : List ℕ) (roles : ℕ) where
  pub one_fresh : (a b : Answer) → Freshens lim ts roles a → Freshens lim ts roles b → a ≡ b
  one_fresh a b e f = e ∙ sym f

  pub one_send : (p q l v : ℕ) (s : Session) (a b : Answer) → Sends lim ts roles p q l v s a → Sends lim ts roles p q l v s b → a ≡ b
  one_send p q l v s a b e f = e ∙ sym f

  pub one_receive : (p q : ℕ) (s : Session) (a b : Answer) → Receives lim ts roles p q s a → Receives lim ts roles p q s b → a ≡ b
  one_receive p q s a b e f = e ∙ sym f

  pub one_awaited : (s : Session) (a b : Awaiting) → Awaits lim ts roles s a → Awaits lim ts roles s b → a ≡ b
  one_awaited s a b e f = e ∙ sym f

  -- the code's answers
  pub one_fresh_result : (a b : code.Answer ⊤) → Freshens lim ts roles (answered lim a) → Freshens lim ts roles (answered lim b) → a ≡ b
  one_fresh_result a b e f = answered_same lim a b (one_fresh _ _ e f)

  pub one_send_result : (p q l v : ℕ) (s : Session) (a b : code.Answer ⊤) → Sends lim ts roles p q l v s (answered lim a) → Sends lim ts roles p q l v s (answered lim b) → a ≡ b
  one_send_result p q l v s a b e f = answered_same lim a b (one_send p q l v s _ _ e f)

  pub one_receive_result : (p q : ℕ) (s : Session) (a b : code.Answer Message) → Receives lim ts roles p q s (delivered lim a) → Receives lim ts roles p q s (delivered lim b) → a ≡ b
  one_receive_result p q s a b e f = delivered_same lim a b (one_receive p q s _ _ e f)

  -- awaited is refused with 12 and 13 alone
  awaited_number : (s : Session) (n : ℕ) → n ≡ (awaited_of lim ts roles s).number → (n ≡ 16 → ⊥) × (n ≡ 19 → ⊥)
  unfolding awaited_of
  awaited_number s n = decide (not (tables_good lim ts roles)) (not (state_good lim ts roles s))
    where
      decide : (a b : Bool) → n ≡ (cond a (nobody_awaited lim 12 s) (cond b (nobody_awaited lim 13 s) (role_set 0 (is_awaited lim ts roles s) roles lim.roles s))).number
          → (n ≡ 16 → ⊥) × (n ≡ 19 → ⊥)
      decide true b e = ((λ z. omega arith), (λ z. omega arith))
      decide false true e = ((λ z. omega arith), (λ z. omega arith))
      decide false false e = ((λ z. omega arith), (λ z. omega arith))

  pub one_awaited_result : (s : Session) (a b : code.Answer Awaited) → Awaits lim ts roles s (told lim a) → Awaits lim ts roles s (told lim b) → a ≡ b
  one_awaited_result s a b e f =
      let (g, h) = awaited_number s (number_in a.result) (ap (λ (x : Awaiting). x.number) e) in
      told_same lim a b g h (one_awaited s _ _ e f)
