-- Laws of a call's tests past rule 14: what the lookup's answer says, and a head that is no such action. Assumes nothing.
use Prim.Native.Nat.{ℕ}
use mathlib.Core.Bool.{false}
use mathlib.Core.List.{List}
use mathlib.Core.Option.{Option, none, some}
use mathlib.Core.Path.{◌≡◌, refl}
use native.Mathlib.Omega.{arith}
use borrow.Author.Tests.{eq-eqb, ne_eqb}
use Rattle.std.specs.Prelude.{Ok, Err}
use Rattle.table.specs.Limits.{Limits}
use Rattle.blocks.specs.Block.{PartRow}
use Rattle.blocks.specs.Block as part
use Rattle.blocks.specs.declared.rows.Row.{Row}
use Rattle.blocks.specs.declared.rows.Row.TheVariants.{End, Arm, Loop, Back, Send, Receive, Other}
use Rattle.blocks.specs.mirror.Rows.{said, found_of}
use Rattle.state.specs.State.{State}
use Rattle.state.specs.Awaited.{can_act}
use Rattle.state.specs.declared.Refusal.TheVariants.{Turn}
use Rattle.state.specs.mirror.Turns.{send_turn, send_arm, receive_turn, receive_arm}

-- k is the lowest label of the arms
pub found_nothing : (o : Option ℕ) (k n : ℕ) → found_of o k ≡ Err n → (o ≡ none) × (n ≡ k)
found_nothing none k n e = (refl, cc)
found_nothing (some c) k n e = absurd (let z : ◌≡◌ {A = ℕ} 0 1 = cc in omega arith)

pub found_at : (o : Option ℕ) (k c : ℕ) → found_of o k ≡ Ok c → o ≡ some c
found_at none k c e = absurd (let z : ◌≡◌ {A = ℕ} 0 1 = cc in omega arith)
found_at (some d) k c e = cc

-- w is what was read of the head's row
module _ (lim : Limits) (ts : List ℕ) (roles r : ℕ) {row : PartRow} where
  pub no_send : (q l count : ℕ) (w : Row) → said w ≡ row → ((a b c : ℕ) → w ≡ Send a b c → ⊥) → Err Turn ≡ send_turn lim ts roles r q l count row
  unfolding send_turn
  no_send q l count (End a b c) e h = rw (← e)
  no_send q l count (Arm a b c) e h = rw (← e)
  no_send q l count (Loop a b c) e h = rw (← e)
  no_send q l count (Back a b c) e h = rw (← e)
  no_send q l count (Send a b c) e h = absurd (h a b c refl)
  no_send q l count (Receive a b c) e h = rw (← e)
  no_send q l count (Other k a b c) e h = rw (← e)

  -- a send to another, and one to q
  pub send_else : (q l count a b c : ℕ) → part.Send a b c ≡ row → (a ≡ q → ⊥) → Err Turn ≡ send_turn lim ts roles r q l count row
  unfolding send_turn
  send_else q l count a b c e h = rw (← e, ne_eqb a q h)

  pub send_there : (q l count a b c : ℕ) → part.Send a b c ≡ row → a ≡ q → send_arm lim ts roles r b l count ≡ send_turn lim ts roles r q l count row
  unfolding send_turn
  send_there q l count a b c e h = rw (← e, eq-eqb a q h)

  pub no_receive : (p l count : ℕ) (w : Row) → said w ≡ row → ((a b c : ℕ) → w ≡ Receive a b c → ⊥) → Err Turn ≡ receive_turn lim ts roles p r count l row
  unfolding receive_turn
  no_receive p l count (End a b c) e h = rw (← e)
  no_receive p l count (Arm a b c) e h = rw (← e)
  no_receive p l count (Loop a b c) e h = rw (← e)
  no_receive p l count (Back a b c) e h = rw (← e)
  no_receive p l count (Send a b c) e h = rw (← e)
  no_receive p l count (Receive a b c) e h = absurd (h a b c refl)
  no_receive p l count (Other k a b c) e h = rw (← e)

  pub receive_else : (p l count a b c : ℕ) → part.Receive a b c ≡ row → (a ≡ p → ⊥) → Err Turn ≡ receive_turn lim ts roles p r count l row
  unfolding receive_turn
  receive_else p l count a b c e h = rw (← e, ne_eqb a p h)

  pub receive_there : (p l count a b c : ℕ) → part.Receive a b c ≡ row → a ≡ p → receive_arm lim ts roles r b count l ≡ receive_turn lim ts roles p r count l row
  unfolding receive_turn
  receive_there p l count a b c e h = rw (← e, eq-eqb a p h)

  pub no_action : (s : State) (w : Row) → said w ≡ row → ((a b c : ℕ) → w ≡ Send a b c → ⊥) → ((a b c : ℕ) → w ≡ Receive a b c → ⊥) → false ≡ can_act lim ts roles s r row
  unfolding can_act
  no_action s (End a b c) e g h = rw (← e)
  no_action s (Arm a b c) e g h = rw (← e)
  no_action s (Loop a b c) e g h = rw (← e)
  no_action s (Back a b c) e g h = rw (← e)
  no_action s (Send a b c) e g h = absurd (g a b c refl)
  no_action s (Receive a b c) e g h = absurd (h a b c refl)
  no_action s (Other k a b c) e g h = rw (← e)
