-- Engines that demand 3, and K13, must not let through, each made from any engine e. proofs/ShutOut.antt shows that it does not. Assumes nothing.
use Rattle.std.specs.Prelude.{ℕ, ◌+◌, ◌*◌, Bool, true, false, cond, eqb}
use Rattle.table.specs.Limits.{base}
use Rattle.table.specs.Numbers.{ACCEPTED}
use Rattle.state.specs.Numbers.{TURN, EMPTY}
use Rattle.protocol.specs.Engine.{Call, sends, receives, caller, Reply, Engine}

-- a number, no message, and nothing is offered
abbrev pub bare : {S : Type 0} → ℕ → S → Reply S
bare n s = record { number = n; label = 0; payload = 0; offered = base.labels; state = s }

-- e with other answers
abbrev pub answering : {S : Type 0} → Engine S → (Call → S → Reply S) → Engine S
answering e f = record { fresh = e.fresh; answer = f; awaited = e.awaited; held = e.held; ended = e.ended }

-- answers as e does, and offers nothing
abbrev pub silent : {S : Type 0} → Engine S → Engine S
silent e = answering e (λ c s. let a = e.answer c s in record { number = a.number; label = a.label; payload = a.payload; offered = base.labels; state = a.state })

-- refuses everything
abbrev pub refusing : {S : Type 0} → Engine S → Engine S
refusing e = answering e (λ c s. bare TURN s)

-- has a single answer
abbrev pub single : {S : Type 0} → Engine S → Reply S → Engine S
single e a = answering e (λ c s. a)

-- accepts what e accepts, and moves nobody
abbrev pub still : {S : Type 0} → Engine S → Engine S
still e = answering e (λ c s. let a = e.answer c s in record { number = a.number; label = a.label; payload = a.payload; offered = a.offered; state = s })

-- follows e for its first call only, and then accepts anything: the state says whether a call was made
abbrev pub later_answer : {S : Type 0} → Reply S → S → Bool → Reply (S × Bool)
later_answer a s true = bare ACCEPTED (s, true)
later_answer a s false = record { number = a.number; label = a.label; payload = a.payload; offered = a.offered; state = (a.state, true) }

abbrev pub once : {S : Type 0} → Engine S → Engine (S × Bool)
once e = record {
  fresh = bare e.fresh.number (e.fresh.state, false);
  answer = λ c s. later_answer (e.answer c s.0) s.0 s.1;
  awaited = λ s. e.awaited s.0;
  held = λ s p q. e.held s.0 p q;
  ended = λ s r. e.ended s.0 r;
}

-- keeps each message for ever: refuses every receive
abbrev pub kept_answer : {S : Type 0} → Engine S → Call → S → Reply S
kept_answer e (sends p q l v) s = e.answer (sends p q l v) s
kept_answer e (receives p q) s = bare EMPTY s

abbrev pub keeping : {S : Type 0} → Engine S → Engine S
keeping e = answering e (kept_answer e)

-- lets role r wait for ever: refuses every call of it
abbrev pub ignoring : {S : Type 0} → Engine S → ℕ → Engine S
ignoring e r = answering e (λ c s. cond (eqb (caller c) r) (bare TURN s) (e.answer c s))

-- says this many for the count of the awaited roles
abbrev pub counting : {S : Type 0} → Engine S → (S → ℕ) → Engine S
counting e f = record {
  fresh = e.fresh;
  answer = e.answer;
  awaited = λ s. let a = e.awaited s in record { number = a.number; set = a.set; count = f s; lowest = a.lowest };
  held = e.held;
  ended = e.ended;
}

-- one too many
abbrev pub overcounting : {S : Type 0} → Engine S → Engine S
overcounting e = counting e (λ s. (e.awaited s).count + 1)

-- says other things of what its queues hold and of who has ended
abbrev pub saying : {S : Type 0} → Engine S → (S → ℕ → ℕ → ℕ) → (S → ℕ → Type 0) → Engine S
saying e f g = record { fresh = e.fresh; answer = e.answer; awaited = e.awaited; held = f; ended = g }

-- each message is four
abbrev pub boasting : {S : Type 0} → Engine S → Engine S
boasting e = saying e (λ s p q. 4 * e.held s p q) e.ended
