-- Accepted means that no test refused a call, and what is known then. Assumes nothing.
use Prim.Native.Nat.{ℕ, ◌<◌}
use mathlib.Core.Bool.{true, not}
use mathlib.Core.List.{List}
use mathlib.Core.Option.{Option, none, some}
use mathlib.Core.Path.{◌≡◌, refl, sym}
use lib.Dec.{eqb, leb}
use native.Mathlib.Omega.{arith}
use borrow.Author.Tests.{eqb-true, leb-false, not-false, eqb-false}
use Rattle.std.specs.Prelude.{Ok}
use Rattle.table.specs.Limits.{base}
use Rattle.blocks.specs.Block.{PartRow, End, Arm, Loop, Back, Send, Receive, Other, part_row}
use Rattle.blocks.specs.Head.{head, arms_of, find}
use Rattle.blocks.specs.Tables.{row_holds}
use Rattle.state.specs.State.{State, head_of, held, label_at, are_pair}
use Rattle.state.specs.declared.Refusal.TheVariants.{Turn, Full, Empty}
use Rattle.state.specs.mirror.Turns.{send_turn, send_found, receive_turn, receive_found}
use Rattle.state.specs.mirror.Judged.{send_judged, receive_judged}
use Rattle.blocks.proofs.Sound.{Reached, row_holds_lem, sent_found, received_found}
use Rattle.state.proofs.Sound.{pair_in, head_stands}
use Rattle.state.proofs.Judging.{Stood, stood_roles, judged_ok, passes, same_ok, ok≢err}

-- the head's row, the arm that was found, and where its continuation's head is
pub record Sent (ts : List ℕ) (roles p q l count h : ℕ) (row : PartRow) : Type 0 where
  pub first : ℕ
  pub spare : ℕ
  pub continuation : ℕ
  pub is : row ≡ Send q first spare
  pub found : find l (arms_of ts roles p first) ≡ some continuation
  pub room : count < 4
  pub lands : h ≡ head ts roles p continuation

pub record Received (ts : List ℕ) (roles p q count l h : ℕ) (row : PartRow) : Type 0 where
  pub first : ℕ
  pub spare : ℕ
  pub continuation : ℕ
  pub is : row ≡ Receive p first spare
  pub found : find l (arms_of ts roles q first) ≡ some continuation
  pub some_held : 0 < count
  pub lands : h ≡ head ts roles q continuation

module _ (ts : List ℕ) (roles p q h : ℕ) where
  found_sent : (l count f x k : ℕ) (o : Option ℕ) → find l (arms_of ts roles p f) ≡ o → send_found base ts roles p count k o ≡ Ok h
      → Sent ts roles p q l count h (Send q f x)
  unfolding send_found
  found_sent l count f x k none g e = absurd (ok≢err e)
  found_sent l count f x k (some c) g e =
      let (a, b) = passes (leb 4 count) Full (Ok (head ts roles p c)) e in
      record { first = f; spare = x; continuation = c; is = refl; found = g; room = leb-false 4 count a; lands = sym (same_ok b) }

  row_sent : (l count : ℕ) (row : PartRow) → send_turn base ts roles p q l count row ≡ Ok h → Sent ts roles p q l count h row
  unfolding send_turn
  row_sent l count (End a b c) e = absurd (ok≢err e)
  row_sent l count (Arm k c n) e = absurd (ok≢err e)
  row_sent l count (Loop b x y) e = absurd (ok≢err e)
  row_sent l count (Back j x y) e = absurd (ok≢err e)
  row_sent l count (Send peer f x) e =
      let (a, b) = passes (not (eqb peer q)) Turn _ e in
      rw (eqb-true peer q (not-false _ a)) (found_sent l count f x _ (find l (arms_of ts roles p f)) refl b)
  row_sent l count (Receive peer f x) e = absurd (ok≢err e)
  row_sent l count Other e = absurd (ok≢err e)

  found_received : (count l f x k : ℕ) (o : Option ℕ) → (count ≡ 0 → ⊥) → find l (arms_of ts roles q f) ≡ o → receive_found ts roles q k o ≡ Ok h
      → Received ts roles p q count l h (Receive p f x)
  unfolding receive_found
  found_received count l f x k none z g e = absurd (ok≢err e)
  found_received count l f x k (some c) z g e =
      record { first = f; spare = x; continuation = c; is = refl; found = g; some_held = omega (arith, z); lands = sym (same_ok e) }

  row_received : (count l : ℕ) (row : PartRow) → receive_turn base ts roles p q count l row ≡ Ok h → Received ts roles p q count l h row
  unfolding receive_turn
  row_received count l (End a b c) e = absurd (ok≢err e)
  row_received count l (Arm k c n) e = absurd (ok≢err e)
  row_received count l (Loop b x y) e = absurd (ok≢err e)
  row_received count l (Back j x y) e = absurd (ok≢err e)
  row_received count l (Send peer f x) e = absurd (ok≢err e)
  row_received count l (Receive peer f x) e =
      let (a, b) = passes (not (eqb peer p)) Turn _ e in
      let (z, d) = passes (eqb count 0) Empty _ b in
      rw (eqb-true peer p (not-false _ a)) (found_received count l f x _ (find l (arms_of ts roles q f)) (eqb-false count 0 z) refl d)
  row_received count l Other e = absurd (ok≢err e)

-- an accepted send: the tables and the state are good, the two are a pair, and the arm is there
pub record SendTo (ts : List ℕ) (roles p q l h : ℕ) (s : State) : Type 0 where
  pub stood : Stood ts roles s
  pub two : are_pair roles p q ≡ true
  pub sent : Sent ts roles p q l (held base s p q) h (part_row ts roles p (head_of s p))
  pub reached : Reached base ts roles p l sent.continuation
  pub p_low : p < 8
  pub q_low : q < 8

pub record ReceiveTo (ts : List ℕ) (roles p q h : ℕ) (s : State) : Type 0 where
  pub stood : Stood ts roles s
  pub two : are_pair roles p q ≡ true
  pub received : Received ts roles p q (held base s p q) (label_at base s p q 0) h (part_row ts roles q (head_of s q))
  pub reached : Reached base ts roles q (label_at base s p q 0) received.continuation
  pub p_low : p < 8
  pub q_low : q < 8

module _ (ts : List ℕ) (roles p q : ℕ) (s : State) (h : ℕ) where
  pub send_to : (l : ℕ) → send_judged base ts roles p q l s ≡ Ok h → SendTo ts roles p q l h s
  unfolding send_judged
  send_to l e =
      let (st, two, rest) = judged_ok ts roles p q s _ e in
      let t = row_sent ts roles p q h l (held base s p q) (part_row ts roles p (head_of s p)) rest in
      let (ip, iq, ne) = pair_in roles p q two in
      let b = stood_roles ts roles s st in
      let lp : p < 8 = omega (arith, b.1) in
      let holds = row_holds_lem ts roles st.tables_hold p ip in
      let hs = head_stands ts roles s st.state_holds p ip lp in
      let row : row_holds base ts roles p (head_of s p) (Send q t.first t.spare) ≡ true = rw t.is at (holds (head_of s p) hs.0) in
      record {
        stood = st;
        two = two;
        sent = t;
        reached = sent_found base ts roles p holds (head_of s p) q t.first t.spare l t.continuation row t.found;
        p_low = lp;
        q_low = omega (arith, b.1);
      }

  pub receive_to : receive_judged base ts roles p q s ≡ Ok h → ReceiveTo ts roles p q h s
  unfolding receive_judged
  receive_to e =
      let (st, two, rest) = judged_ok ts roles p q s _ e in
      let t = row_received ts roles p q h (held base s p q) (label_at base s p q 0) (part_row ts roles q (head_of s q)) rest in
      let (ip, iq, ne) = pair_in roles p q two in
      let b = stood_roles ts roles s st in
      let lq : q < 8 = omega (arith, b.1) in
      let holds = row_holds_lem ts roles st.tables_hold q iq in
      let hs = head_stands ts roles s st.state_holds q iq lq in
      let row : row_holds base ts roles q (head_of s q) (Receive p t.first t.spare) ≡ true = rw t.is at (holds (head_of s q) hs.0) in
      record {
        stood = st;
        two = two;
        received = t;
        reached = received_found base ts roles q holds (head_of s q) p t.first t.spare (label_at base s p q 0) t.continuation row t.found;
        p_low = omega (arith, b.1);
        q_low = lq;
      }
