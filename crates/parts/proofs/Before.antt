-- What merged before two sends could merge arm by arm merges to the same part, and so each role that had a part has the same part. Assumes nothing.
use Prim.Native.Nat.{ℕ}
use mathlib.Core.Bool.{Bool, true, false, cond, ◌||◌}
use mathlib.Core.List.{List}
use mathlib.Core.Option.{Option, none, some, bind}
use mathlib.Core.Path.{◌≡◌, refl, ◌∙◌}
use native.Mathlib.Decide.{ℕ_discrete}
use lib.Dec.{eqb}
use borrow.Author.Tests.{eq-eqb}
use Rattle.table.specs.Limits.{Limits}
use Rattle.table.specs.Check.{accepted, check_of}
use Rattle.table.specs.Tree.{Global, Arms}
use Rattle.table.specs.mirror.Kept.{Good, g_end, g_exchange, g_flight, g_loop, g_back, GoodArms, g_nil, g_arm}
use Rattle.table.proofs.Trees.{tree_good}
use Rattle.parts.specs.Part.{Part, p_end, p_send, p_receive, p_loop, p_back, PartArms, p_nil, p_arm, insert, rising, arm_of, without}
use Rattle.parts.specs.Absent.{takes_part, leaves}
use Rattle.parts.specs.Merge.{only_if, same_labels, merge_shared, merge, merge_arms}
use Rattle.parts.specs.Projection.{merge_from, merge_all, part_exchange, part, part_arms, part_of}
use Rattle.parts.specs.Before.{same, merge_before, merge_arms_before, merge_from_before, merge_all_before, part_exchange_before, part_before, part_arms_before, part_of_before}
use Rattle.parts.specs.mirror.Rising.{Rising, r_end, r_send, r_receive, r_loop, r_back, RisingArms, r_nil, r_arm}
use Rattle.parts.proofs.Rising.{Holds, vacant, held, held_is, holds_some, shared, merge_rising, arm_of_rising, without_rising, EachRising, e_nil, e_arm}
use Rattle.parts.proofs.Laws.{parts_rising}

-- ---- a part with itself

labels_self : (ps : PartArms) → same_labels ps ps ≡ true
unfolding same_labels
labels_self p_nil = refl
labels_self (p_arm l P ps) = rw (eq-eqb l l refl, labels_self ps)

self_only : {B : Type 0} (k : ℕ) (d : Dec (k ≡ k)) (o : Option B) → only_if d o ≡ o
unfolding only_if
self_only k (yes e) o = refl
self_only k (no n) o = absurd (n refl)

mutual
  unfolding merge merge_arms bind

  merge_self : {P : Part} → Rising P → merge P P ≡ some P
  merge_self r_end = refl
  merge_self (r_send {q} {ps} h) = rw (self_only q (ℕ_discrete q q) (cond (same_labels ps ps) (bind (merge_arms ps ps) (λ ms. some (p_send q ms))) none), labels_self ps, merge_self_arms h)
  merge_self (r_receive {q} {ps} h) = rw (self_only q (ℕ_discrete q q) (bind (merge_arms ps ps) (λ ms. some (p_receive q ms))), merge_self_arms h)
  merge_self (r_loop h) = rw (merge_self h)
  merge_self (r_back {k}) = self_only k (ℕ_discrete k k) (some (p_back k))

  merge_self_arms : {ps : PartArms} → RisingArms ps → merge_arms ps ps ≡ some ps
  merge_self_arms r_nil = refl
  merge_self_arms (r_arm {l} {P} {ps} a p h) = shared P P a a ∙ rw (merge_self p, merge_self_arms h)

-- ---- what merged before

-- what there was is what there is
abbrev Still : {B : Type 0} → Option B → Option B → Type 0
Still before now = Holds (λ x. now ≡ some x) before

still_only : {X B : Type 0} {o o' : Option B} (d : Dec X) → Still o o' → Still (only_if d o) (only_if d o')
unfolding only_if
still_only (yes x) h = h
still_only (no n) h = vacant

still_bind : {B C : Type 0} {o o' : Option B} (f f' : B → Option C) → Still o o' → ((x : B) → o' ≡ some x → Still (f x) (f' x)) → Still (bind o f) (bind o' f')
unfolding bind
still_bind f f' vacant k = vacant
still_bind f f' (held {x} e) k = rw e (k x e)

still_some : {B : Type 0} (x : B) → Still (some x) (some x)
still_some x = held refl

sends_still : {p q : ℕ} {ps qs : PartArms} → Rising (p_send p ps) → (d : Dec (p_send p ps ≡ p_send q qs))
    → Still (only_if d (some (p_send p ps))) (merge (p_send p ps) (p_send q qs))
unfolding only_if
sends_still {p} {q} {ps} {qs} h (yes e) = held {x = p_send p ps} (rw (← e) (merge_self h))
sends_still h (no n) = vacant

mutual
  unfolding merge_before merge_arms_before merge merge_arms merge_shared bind

  pub merge_still : (P Q : Part) → Rising P → Rising Q → Still (merge_before P Q) (merge P Q)
  merge_still p_end p_end h i = held refl
  merge_still p_end (p_send q qs) h i = vacant
  merge_still p_end (p_receive q qs) h i = vacant
  merge_still p_end (p_loop Q) h i = vacant
  merge_still p_end (p_back j) h i = vacant
  merge_still (p_send p ps) p_end h i = vacant
  merge_still (p_send p ps) (p_send q qs) h i = sends_still h (same (p_send p ps) (p_send q qs))
  merge_still (p_send p ps) (p_receive q qs) h i = vacant
  merge_still (p_send p ps) (p_loop Q) h i = vacant
  merge_still (p_send p ps) (p_back j) h i = vacant
  merge_still (p_receive p ps) p_end h i = vacant
  merge_still (p_receive p ps) (p_send q qs) h i = vacant
  merge_still (p_receive p ps) (p_receive q qs) (r_receive h) (r_receive i) =
      still_only (ℕ_discrete p q) (still_bind _ _ (merge_still_arms ps qs h i) (λ ms e. still_some (p_receive p ms)))
  merge_still (p_receive p ps) (p_loop Q) h i = vacant
  merge_still (p_receive p ps) (p_back j) h i = vacant
  merge_still (p_loop P) p_end h i = vacant
  merge_still (p_loop P) (p_send q qs) h i = vacant
  merge_still (p_loop P) (p_receive q qs) h i = vacant
  merge_still (p_loop P) (p_loop Q) (r_loop h) (r_loop i) = still_bind _ _ (merge_still P Q h i) (λ M e. still_some (p_loop M))
  merge_still (p_loop P) (p_back j) h i = vacant
  merge_still (p_back k) p_end h i = vacant
  merge_still (p_back k) (p_send q qs) h i = vacant
  merge_still (p_back k) (p_receive q qs) h i = vacant
  merge_still (p_back k) (p_loop Q) h i = vacant
  merge_still (p_back k) (p_back j) h i = still_only (ℕ_discrete k j) (still_some (p_back k))

  merge_still_arms : (ps qs : PartArms) → RisingArms ps → RisingArms qs → Still (merge_arms_before ps qs) (merge_arms ps qs)
  merge_still_arms p_nil qs h i = held refl
  merge_still_arms (p_arm l P ps) qs (r_arm a p h) i =
      still_bind _ _ (go (arm_of l qs) (arm_of_rising l i) (λ Q q. merge_still P Q p q))
      (λ M e. still_bind _ _ (merge_still_arms ps (without l qs) h (without_rising l i)) (λ ms f. still_some (insert l M ms)))
    where
      go : (o : Option Part) → Holds Rising o → ((Q : Part) → Rising Q → Still (merge_before P Q) (merge P Q))
          → Still (merge_shared (λ Q. merge_before P Q) P o) (merge_shared (λ Q. merge P Q) P o)
      go none q f = held refl
      go (some Q) q f = f Q (held_is q)

-- ---- parts

from_still : {P : Part} {ps : PartArms} → Rising P → EachRising ps → Still (merge_from_before P ps) (merge_from P ps)
unfolding merge_from_before merge_from
from_still {P} p e_nil = held refl
from_still {P} p (e_arm {P = Q} {ps} q e) =
    still_bind _ _ (merge_still P Q p q) (λ M f. from_still (holds_some (merge_rising p q) f) e)

all_still : {ps : PartArms} → EachRising ps → Still (merge_all_before ps) (merge_all ps)
unfolding merge_all_before merge_all
all_still e_nil = vacant
all_still (e_arm p e) = from_still p e

exchange_still : {ps : PartArms} (r p q : ℕ) → EachRising ps → Still (part_exchange_before r p q ps) (part_exchange r p q ps)
unfolding part_exchange_before part_exchange
exchange_still {ps} r p q e = go (eqb r p) (eqb r q)
  where
    go : (b c : Bool) → Still (cond b (some (p_send q (rising ps))) (cond c (some (p_receive p (rising ps))) (merge_all_before ps)))
        (cond b (some (p_send q (rising ps))) (cond c (some (p_receive p (rising ps))) (merge_all ps)))
    go true c = held refl
    go false true = held refl
    go false false = all_still e

mutual
  unfolding part_before part bind

  pub part_still : {A : Type 0} (r : ℕ) {G : Global A} → Good G → Still (part_before r G) (part r G)
  part_still r g_end = held refl
  part_still r (g_exchange {p} {q} {cs} n m h) =
      still_bind _ _ (parts_still r h) (λ ps e. exchange_still r p q (holds_some (parts_rising r h) e).each)
  part_still r (g_flight h) = vacant
  part_still r (g_loop {G} h) = go (takes_part r G || leaves 1 G) (part_still r h)
    where
      go : (b : Bool) {o o' : Option Part} → Still o o'
          → Still (cond b (bind o (λ P. some (p_loop P))) (some p_end)) (cond b (bind o' (λ P. some (p_loop P))) (some p_end))
      go true i = still_bind _ _ i (λ P e. still_some (p_loop P))
      go false i = held refl
  part_still r g_back = held refl

  parts_still : {A : Type 0} (r : ℕ) {cs : Arms A} → GoodArms cs → Still (part_arms_before r cs) (part_arms r cs)
  parts_still r g_nil = held refl
  parts_still r (g_arm {l} n h i) =
      still_bind _ _ (part_still r h) (λ P e. still_bind _ _ (parts_still r i) (λ ps f. still_some (p_arm l P ps)))

-- no table accepted before gets a different part
pub no_other_part : (lim : Limits) (t : List ℕ) (roles r : ℕ) (P : Part) → check_of lim t roles ≡ accepted
    → part_of_before t r ≡ some P → part_of t r ≡ some P
unfolding part_of_before part_of
no_other_part lim t roles r P e f = holds_some (part_still r (tree_good lim t roles e)) f
