-- Code whose own answers say what its promises have keeps the promises of what is said, so every theorem of those is one of its own
-- answers, and what those shut out is shut out of these. Assumes nothing.
use Prim.Native.Nat.{ℕ}
use mathlib.Core.Logic.{◌≢◌}
use mathlib.Core.Path.{◌≡◌}
use Rattle.table.specs.Limits.{base}
use Rattle.table.specs.Numbers.{ACCEPTED}
use Rattle.table.proofs.Promises.{one_answer}
use Rattle.opening.proofs.Promises.{one_open, one_room}
use Rattle.session.proofs.Promises.{one_fresh_result, one_send_result, one_receive_result, one_awaited_result}
use Rattle.protocol.specs.Promised.{Promises}
use Rattle.protocol.specs.Own.{Own, OwnPromises, OwnLaws, SameAnswers, said_by}
use Rattle.protocol.proofs.Promised.{law_of_the_code, sessions_fit, never_stray, k13_of_the_code, k13_by_any_arm_of_the_code}
use Rattle.protocol.proofs.Refused.{code_refused_keeps}
use Rattle.protocol.proofs.Offered.{code_says_what_is_taken}
use Rattle.protocol.proofs.ShutOut.{Always, AlwaysOpens, opening_refuses, opening_single, opening_writes_nothing, code_refuses, code_single, code_still}

pub own_promises : (own : Own) → OwnPromises own → Promises (said_by own)
own_promises own keeps = record {
  opening = keeps.opening;
  fresh = keeps.fresh;
  send = keeps.send;
  receive = keeps.receive;
  awaited = keeps.awaited;
}

pub own_laws : (own : Own) → OwnPromises own → OwnLaws own
own_laws own keeps =
    let said : Promises (said_by own) = own_promises own keeps in
    record {
      demand3 = law_of_the_code (said_by own) said;
      sessions_fit = sessions_fit (said_by own) said;
      never_stray = never_stray (said_by own) said;
      k13 = k13_of_the_code (said_by own) said;
      k13_by_any_arm = k13_by_any_arm_of_the_code (said_by own) said;
      refused_keeps = code_refused_keeps (said_by own) said;
      says_what_is_taken = code_says_what_is_taken (said_by own) said;
    }

pub own_same : (own other : Own) → OwnPromises own → OwnPromises other → SameAnswers own other
own_same own other keeps too = record {
  opening = λ t roles room i j k.
      let a = keeps.opening t roles room i j k in
      let b = too.opening t roles room i j k in
      (one_answer _ _ (one_open base t roles room _ _ _ _ a b), one_room base t roles room _ _ _ _ a b);
  fresh = λ ts roles i j. one_fresh_result base ts roles _ _ (keeps.fresh ts roles i j) (too.fresh ts roles i j);
  send = λ s ts roles p q l v i j k m.
      one_send_result base ts roles p q l v s _ _ (keeps.send s ts roles p q l v i j k m) (too.send s ts roles p q l v i j k m);
  receive = λ s ts roles p q i j k m.
      one_receive_result base ts roles p q s _ _ (keeps.receive s ts roles p q i j k m) (too.receive s ts roles p q i j k m);
  awaited = λ s ts roles i j k. one_awaited_result base ts roles s _ _ (keeps.awaited s ts roles i j k) (too.awaited s ts roles i j k);
}

-- ---- what the promises shut out, of code's own answers

-- it opens nothing
pub own_opening_refuses : (own : Own) → AlwaysOpens (said_by own) (λ v r r'. v.number ≢ ACCEPTED) → ¬ OwnPromises own
own_opening_refuses own f keeps = opening_refuses (said_by own) f (own_promises own keeps)

-- it has a single verdict
pub own_opening_single : (own : Own) (n : ℕ) → AlwaysOpens (said_by own) (λ v r r'. v.number ≡ n) → ¬ OwnPromises own
own_opening_single own n f keeps = opening_single (said_by own) n f (own_promises own keeps)

-- it writes nothing
pub own_opening_writes_nothing : (own : Own) → AlwaysOpens (said_by own) (λ v r r'. r' ≡ r) → ¬ OwnPromises own
own_opening_writes_nothing own f keeps = opening_writes_nothing (said_by own) f (own_promises own keeps)

-- it refuses every call
pub own_refuses : (own : Own) → Always (said_by own) (λ s a. a.number ≢ ACCEPTED) → ¬ OwnPromises own
own_refuses own f keeps = code_refuses (said_by own) f (own_promises own keeps)

-- it has a single answer to every call
pub own_single : (own : Own) (n : ℕ) → Always (said_by own) (λ s a. a.number ≡ n) → ¬ OwnPromises own
own_single own n f keeps = code_single (said_by own) n f (own_promises own keeps)

-- it moves nobody
pub own_still : (own : Own) → Always (said_by own) (λ s a. a.state ≡ s) → ¬ OwnPromises own
own_still own f keeps = code_still (said_by own) f (own_promises own keeps)
