-- What the code says, read as a reply. Assumes nothing.
use Prim.Native.Nat.{ℕ, ◌≤◌, ◌<◌}
use mathlib.Core.Bool.{Bool, true, false, cond}
use mathlib.Core.List.{List, [], ◌∷◌, ◌++◌, append-nil}
use mathlib.Core.Path.{◌≡◌, refl, sym}
use native.Mathlib.Omega.{arith}
use lib.ListN.{length, get_or, take}
use borrow.Author.Tests.{ne_eqb}
use Rattle.std.proofs.Common.{Option, Some, None, Ok, Err}
use Rattle.std.specs.Result.{result_unwrap_or}
use Rattle.arrayvec.specs.ArrayVec.{ArrayVec}
use Rattle.table.specs.Limits.{base}
use Rattle.session.specs.Calls.{fresh_of, send_of, receive_of}
use Rattle.session.specs.Awaited.{awaited_of}
use Rattle.session.specs.Answers.{Answer, Awaiting}
use Rattle.session.specs.Results.{label_in, payload_in}
use Rattle.session.specs.declared.answers.Message.{Message}
use Rattle.session.specs.declared.Session.{Session}
use Rattle.orders.specs.Orders.{Kept, Reply, number, malformed, calls, awaited, awaited_in, state_of, is_state, freshened, handed, sent, received, sending, receiving, is_call, call_order}
use Rattle.orders.specs.Lines.{keeps}
use Rattle.orders.specs.declared.run.Run.{Run}
use Rattle.orders.specs.declared.run.Said.{Said}
use Rattle.orders.specs.mirror.Said.{Says, said_of}

pub told : {s x : Said} {ws ns : List ℕ} {r : Reply} → s ≡ x → x.told.items ≡ ns → 0 < length ns → x.shown ≤ 8192
    → record { numbers = ns ++ take x.shown ws; kept = keeps x.run ws } ≡ r → Says s ws r
told e f some short reply = rw e record { some = rw f some; short = short; reply = rw f reply }

-- numbers told by a call
pub called : {s : Said} {r : Reply} (run : Run) (ws ns : List ℕ) (t : ArrayVec ℕ) (state : Session) → s ≡ said_of run t state
    → t.items ≡ ns → 0 < length ns
    → r ≡ record { numbers = ns; kept = calls (keeps run ws) state } → Says s ws r
called run ws ns t state e f some g = told e f some (omega arith) (rw (g, append-nil ns))

pub fresh_said : {s : Said} (run : Run) (ws ts : List ℕ) (t : ArrayVec ℕ) (a : Answer) → a ≡ fresh_of base ts run.roles → ts ≡ take run.words ws
    → t.items ≡ a.number ∷ a.state.heads → s ≡ said_of run t a.state → Says s ws (freshened base (keeps run ws))
unfolding freshened
fresh_said run ws ts t a e f g i =
    let fresh : fresh_of base (take run.words ws) run.roles ≡ a = rw (← f) (sym e) in
    called run ws (a.number ∷ a.state.heads) t a.state i g (omega arith) (rw fresh)

-- the awaited roles of a state stand behind the other numbers
pub hand_said : {s : Said} (run : Run) (ws ts vs : List ℕ) (t : ArrayVec ℕ) (state : Session) (n : ℕ) (w : Awaiting) → w ≡ awaited_of base ts run.roles state → ts ≡ take run.words ws
    → n ≡ w.number → vs ≡ awaited w → t.items ≡ n ∷ get_or vs 0 0 ∷ get_or vs 1 0 ∷ get_or vs 2 0 ∷ []
    → s ≡ said_of run t state → Says s ws (handed base (keeps run ws) state)
unfolding handed
hand_said run ws ts vs t state n w e f g h i j =
    let is : awaited_of base (take run.words ws) run.roles state ≡ w = rw (← f) (sym e) in
    called run ws (n ∷ awaited w) t state j (rw h at i) (omega arith) (rw (is, g))

pub sent_said : {s : Said} (run : Run) (ws vs : List ℕ) (t : ArrayVec ℕ) (a : Answer) (n o : ℕ) → n ≡ a.number → o ≡ a.offered
    → vs ≡ awaited (awaited_in base (keeps run ws) a.state) → t.items ≡ n ∷ o ∷ get_or vs 0 0 ∷ get_or vs 1 0 ∷ get_or vs 2 0 ∷ []
    → s ≡ said_of run t a.state → Says s ws (sent base (keeps run ws) a)
unfolding sent
sent_said run ws vs t a n o e f g h i =
    called run ws (n ∷ o ∷ awaited (awaited_in base (keeps run ws) a.state)) t a.state i (rw g at h) (omega arith) (rw (e, f))

pub received_said : {s : Said} (run : Run) (ws vs : List ℕ) (t : ArrayVec ℕ) (a : Answer) (n l p o : ℕ) → n ≡ a.number → l ≡ a.label → p ≡ a.payload → o ≡ a.offered
    → vs ≡ awaited (awaited_in base (keeps run ws) a.state)
    → t.items ≡ n ∷ l ∷ p ∷ o ∷ get_or vs 0 0 ∷ get_or vs 1 0 ∷ get_or vs 2 0 ∷ []
    → s ≡ said_of run t a.state → Says s ws (received base (keeps run ws) a)
unfolding received
received_said run ws vs t a n l p o e f g h i j k =
    called run ws (n ∷ l ∷ p ∷ o ∷ awaited (awaited_in base (keeps run ws) a.state)) t a.state k (rw i at j) (omega arith) (rw (e, f, g, h))

-- ---- the numbers of each call

module _ (k : Kept) (ns : List ℕ) where
  pub call_fresh : length ns ≡ 0 → call_order base k 102 ns ≡ freshened base k
  unfolding call_order is_call
  call_fresh e = rw e

  pub no_fresh : (length ns ≡ 0 → ⊥) → call_order base k 102 ns ≡ malformed k
  unfolding call_order is_call
  no_fresh e = rw (ne_eqb (length ns) 0 e)

  pub call_hand : is_state base ns ≡ true → call_order base k 104 ns ≡ handed base k (state_of base ns)
  unfolding call_order is_call
  call_hand e = rw e

  pub no_hand : is_state base ns ≡ false → call_order base k 104 ns ≡ malformed k
  unfolding call_order is_call
  no_hand e = rw e

  pub call_send : length ns ≡ 4 → call_order base k 115 ns ≡ sent base k (sending base k ns)
  unfolding call_order is_call
  call_send e = rw e

  pub no_send : (length ns ≡ 4 → ⊥) → call_order base k 115 ns ≡ malformed k
  unfolding call_order is_call
  no_send e = rw (ne_eqb (length ns) 4 e)

  pub call_receive : length ns ≡ 2 → call_order base k 114 ns ≡ received base k (receiving base k ns)
  unfolding call_order is_call
  call_receive e = rw e

  pub no_receive : (length ns ≡ 2 → ⊥) → call_order base k 114 ns ≡ malformed k
  unfolding call_order is_call
  no_receive e = rw (ne_eqb (length ns) 2 e)

-- what an answer by cases says of its test
pub none_of : {A : Type 0} (b : Bool) (x : A) → ◌≡◌ {A = Option A} None (cond b (Some x) None) → b ≡ false
none_of true x e = cc
none_of false x e = refl

pub some_of : {A : Type 0} (b : Bool) (x y : A) → ◌≡◌ {A = Option A} (Some y) (cond b (Some x) None) → (b ≡ true) × (y ≡ x)
some_of true x y e = (refl, cc)
some_of false x y e = absurd (cc)

module _ (run : Run) (ws ts ns : List ℕ) (e : ts ≡ take run.words ws) {a : Answer} {s : Said} where
  pub send_said : length ns ≡ 4 → a ≡ send_of base ts run.roles (number ns 0) (number ns 1) (number ns 2) (number ns 3) run.state
      → Says s ws (sent base (keeps run ws) a) → Says s ws (call_order base (keeps run ws) 115 ns)
  send_said four f said =
      let same : sending base (keeps run ws) ns ≡ a = rw (← e) (sym f) in
      rw (call_send (keeps run ws) ns four, same) said

  pub receive_said : length ns ≡ 2 → a ≡ receive_of base ts run.roles (number ns 0) (number ns 1) run.state
      → Says s ws (received base (keeps run ws) a) → Says s ws (call_order base (keeps run ws) 114 ns)
  receive_said two f said =
      let same : receiving base (keeps run ws) ns ≡ a = rw (← e) (sym f) in
      rw (call_receive (keeps run ws) ns two, same) said

-- the message of an answer, or that of zeros
pub message_in : (r : _) (m : Message) → m ≡ result_unwrap_or r (record { label = 0; payload = 0 }) → (m.label ≡ label_in r) × (m.payload ≡ payload_in r)
message_in (Ok x) m e = rw e (refl, refl)
message_in (Err x) m e = rw e (refl, refl)
