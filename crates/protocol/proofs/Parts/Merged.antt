-- What merging gives, as a family: one constructor for each of the merge's rules. Everything that is proved of a merge is proved by
-- induction over it, so that another merge rule is another constructor. Assumes nothing.
use Prim.Native.Nat.{ℕ}
use mathlib.Core.Bool.{Bool, true, false, cond}
use mathlib.Core.Option.{Option, none, some}
use mathlib.Core.Path.{◌≡◌, refl, sym}
use native.Mathlib.Decide.{ℕ_discrete}
use Rattle.parts.specs.Part.{Part, p_end, p_send, p_receive, p_loop, p_back, PartArms, p_nil, p_arm, insert, arm_of, without}
use Rattle.parts.specs.Merge.{only_if, same_labels, merge_shared, merge, merge_arms}
use Rattle.protocol.proofs.Parts.Arms.{none≢some, some_injective, bind_some}

mutual
  pub data Merged : Part → Part → Part → Type 0 where
    m_end : Merged p_end p_end p_end
    m_send : {q : ℕ} {ps qs ms : PartArms} → same_labels ps qs ≡ true → MergedArms ps qs ms → Merged (p_send q ps) (p_send q qs) (p_send q ms)
    m_receive : {p : ℕ} {ps qs ms : PartArms} → MergedArms ps qs ms → Merged (p_receive p ps) (p_receive p qs) (p_receive p ms)
    m_loop : {P Q M : Part} → Merged P Q M → Merged (p_loop P) (p_loop Q) (p_loop M)
    m_back : {k : ℕ} → Merged (p_back k) (p_back k) (p_back k)

  pub data MergedArms : PartArms → PartArms → PartArms → Type 0 where
    m_rest : {qs : PartArms} → MergedArms p_nil qs qs
    m_alone : {l : ℕ} {P : Part} {ps qs ms ns : PartArms}
        → arm_of l qs ≡ none → MergedArms ps (without l qs) ms → ns ≡ insert l P ms → MergedArms (p_arm l P ps) qs ns
    m_shared : {l : ℕ} {P Q M : Part} {ps qs ms ns : PartArms}
        → arm_of l qs ≡ some Q → Merged P Q M → MergedArms ps (without l qs) ms → ns ≡ insert l M ms → MergedArms (p_arm l P ps) qs ns

pub only_if_some : {X B : Type 0} {y : B} (d : Dec X) (o : Option B) → only_if d o ≡ some y → X × (o ≡ some y)
unfolding only_if
only_if_some (yes x) o e = (x, e)
only_if_some (no n) o e = none≢some e

cond_some : {B : Type 0} {y : B} (b : Bool) (o : Option B) → cond b o none ≡ some y → (b ≡ true) × (o ≡ some y)
cond_some true o e = (refl, e)
cond_some false o e = none≢some e

shared_arm : (l : ℕ) {P M : Part} {ps : PartArms} (qs : PartArms) {ms ns : PartArms} (f : Part → Option Part) (o : Option Part) → arm_of l qs ≡ o
    → ((Q N : Part) → f Q ≡ some N → Merged P Q N) → merge_shared f P o ≡ some M → MergedArms ps (without l qs) ms
    → ns ≡ insert l M ms → MergedArms (p_arm l P ps) qs ns
unfolding merge_shared
shared_arm l qs f none h one e rest i = m_alone h rest (rw (← some_injective e) at i)
shared_arm l {M = M} qs f (some Q) h one e rest i = m_shared h (one Q M e) rest i

mutual
  unfolding merge

  pub merged : (P Q : Part) {M : Part} → merge P Q ≡ some M → Merged P Q M
  merged p_end p_end e = rw (← some_injective e) m_end
  merged p_end (p_send q qs) e = none≢some e
  merged p_end (p_receive q qs) e = none≢some e
  merged p_end (p_loop Q) e = none≢some e
  merged p_end (p_back j) e = none≢some e
  merged (p_send p ps) p_end e = none≢some e
  merged (p_send p ps) (p_send q qs) e =
      let (s, f) = only_if_some (ℕ_discrete p q) _ e in
      let (t, g) = cond_some (same_labels ps qs) _ f in
      let (ms, h, i) = bind_some (merge_arms ps qs) _ g in
      rw (← s, ← some_injective i) (m_send t (merged_arms ps qs h))
  merged (p_send p ps) (p_receive q qs) e = none≢some e
  merged (p_send p ps) (p_loop Q) e = none≢some e
  merged (p_send p ps) (p_back j) e = none≢some e
  merged (p_receive p ps) p_end e = none≢some e
  merged (p_receive p ps) (p_send q qs) e = none≢some e
  merged (p_receive p ps) (p_receive q qs) e =
      let (s, f) = only_if_some (ℕ_discrete p q) _ e in
      let (ms, g, h) = bind_some (merge_arms ps qs) _ f in
      rw (← s, ← some_injective h) (m_receive (merged_arms ps qs g))
  merged (p_receive p ps) (p_loop Q) e = none≢some e
  merged (p_receive p ps) (p_back j) e = none≢some e
  merged (p_loop P) p_end e = none≢some e
  merged (p_loop P) (p_send q qs) e = none≢some e
  merged (p_loop P) (p_receive q qs) e = none≢some e
  merged (p_loop P) (p_loop Q) e =
      let (N, g, h) = bind_some (merge P Q) _ e in rw (← some_injective h) (m_loop (merged P Q g))
  merged (p_loop P) (p_back j) e = none≢some e
  merged (p_back k) p_end e = none≢some e
  merged (p_back k) (p_send q qs) e = none≢some e
  merged (p_back k) (p_receive q qs) e = none≢some e
  merged (p_back k) (p_loop Q) e = none≢some e
  merged (p_back k) (p_back j) e =
      let (s, f) = only_if_some (ℕ_discrete k j) _ e in rw (← s, ← some_injective f) m_back

  pub merged_arms : (ps qs : PartArms) {ms : PartArms} → merge_arms ps qs ≡ some ms → MergedArms ps qs ms
  merged_arms p_nil qs e = rw (← some_injective e) m_rest
  merged_arms (p_arm l P ps) qs e =
      let (M, f, g) = bind_some (merge_shared (λ Q. merge P Q) P (arm_of l qs)) _ e in
      let (ns, h, i) = bind_some (merge_arms ps (without l qs)) _ g in
      shared_arm l qs (λ Q. merge P Q) (arm_of l qs) refl (λ Q N t. merged P Q t) f (merged_arms ps (without l qs) h) (sym (some_injective i))
