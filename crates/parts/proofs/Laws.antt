-- Two laws of every part that the projection gives: it needs no more rows than the tree, and its labels rise throughout. Assumes nothing.
use Prim.Native.Nat.{ℕ, suc, ◌+◌, ◌≤◌}
use mathlib.Core.Bool.{Bool, true, false, cond, ◌||◌}
use mathlib.Core.Option.{Option, none, some, bind}
use mathlib.Core.Path.{◌≡◌, refl}
use native.Mathlib.Omega.{arith}
use lib.Dec.{leb, eqb}
use Rattle.table.specs.Tree.{Global, end, exchange, flight, loop, back, Arms, nil, arm, rows_in, rows_in_arms}
use Rattle.table.specs.mirror.Kept.{HasLabel, has_here, has_there, Good, g_end, g_exchange, g_flight, g_loop, g_back, GoodArms, g_nil, g_arm}
use Rattle.parts.specs.Part.{Part, p_end, p_send, p_receive, p_loop, p_back, PartArms, p_nil, p_arm, insert, rising}
use Rattle.parts.specs.Absent.{takes_part, leaves}
use Rattle.parts.specs.Merge.{merge}
use Rattle.parts.specs.Projection.{part, part_arms, part_exchange, merge_from, merge_all}
use Rattle.parts.specs.Layout.{size, size_arms}
use Rattle.parts.specs.mirror.Rising.{Rising, r_end, r_loop, r_back, no_label, label}
use Rattle.parts.proofs.Rising.{Holds, vacant, held, holds_bind, Lacks, Distinct, d_nil, d_arm, EachRising, e_nil, e_arm, exchange_rising}
use Rattle.parts.proofs.Sizes.{merge_size}

-- ---- how many rows

pub insert_size : (l : ℕ) (P : Part) (ps : PartArms) → size_arms (insert l P ps) ≡ suc (size P + size_arms ps)
unfolding insert size_arms
insert_size l P p_nil = refl
insert_size l P (p_arm k Q qs) = go (leb l k) (insert_size l P qs)
  where
    go : (b : Bool) → size_arms (insert l P qs) ≡ suc (size P + size_arms qs)
        → size_arms (cond b (p_arm l P (p_arm k Q qs)) (p_arm k Q (insert l P qs))) ≡ suc (size P + suc (size Q + size_arms qs))
    go true e = refl
    go false e = omega arith

pub rising_size : (ps : PartArms) → size_arms (rising ps) ≡ size_arms ps
unfolding rising size_arms
rising_size p_nil = refl
rising_size (p_arm l P ps) = omega (arith, insert_size l P (rising ps), rising_size ps)

pub merge_from_size : (P : Part) (ps : PartArms) → Holds (λ M. size M ≤ size P + size_arms ps) (merge_from P ps)
unfolding merge_from size_arms
merge_from_size P p_nil = held {x = P} (omega arith)
merge_from_size P (p_arm l Q qs) =
    holds_bind _ (known (merge P Q)) (λ M e. go M (merge_size P Q e) (merge_from_size M qs))
  where
    known : (o : Option Part) → Holds (λ M. o ≡ some M) o
    known none = vacant
    known (some M) = held refl

    go : (M : Part) → size M ≤ size P + size Q → {o : Option Part} → Holds (λ N. size N ≤ size M + size_arms qs) o
        → Holds (λ N. size N ≤ size P + suc (size Q + size_arms qs)) o
    go M h vacant = vacant
    go M h (held {x} i) = held {x = x} (omega arith)

exchange_size : (r p q n : ℕ) (ps : PartArms) → size_arms ps ≤ n → Holds (λ P. size P ≤ suc n) (part_exchange r p q ps)
unfolding part_exchange merge_all size size_arms
exchange_size r p q n ps h = go (eqb r p) (eqb r q) ps h (rising_size ps)
  where
    all : (ps : PartArms) → size_arms ps ≤ n → Holds (λ P. size P ≤ suc n) (merge_all ps)
    all p_nil h = vacant
    all (p_arm l P ps) h = lower (merge_from_size P ps)
      where
        lower : {o : Option Part} → Holds (λ M. size M ≤ size P + size_arms ps) o → Holds (λ P. size P ≤ suc n) o
        lower vacant = vacant
        lower (held {x} i) = held {x = x} (omega arith)

    go : (b c : Bool) (ps : PartArms) → size_arms ps ≤ n → size_arms (rising ps) ≡ size_arms ps
        → Holds (λ P. size P ≤ suc n) (cond b (some (p_send q (rising ps))) (cond c (some (p_receive p (rising ps))) (merge_all ps)))
    go true c ps h e = held {x = p_send q (rising ps)} (omega arith)
    go false true ps h e = held {x = p_receive p (rising ps)} (omega arith)
    go false false ps h e = all ps h

mutual
  unfolding part part_arms size size_arms rows_in rows_in_arms

  -- a part never needs more rows than the table has
  pub part_size : {A : Type 0} (r : ℕ) (G : Global A) → Holds (λ P. size P ≤ rows_in G) (part r G)
  part_size r end = held {x = p_end} (omega arith)
  part_size r (exchange p q cs) = holds_bind _ (parts_size r cs) (λ ps h. exchange_size r p q (rows_in_arms cs) ps h)
  part_size r (flight p q l v G) = vacant
  part_size r (loop B) = go (takes_part r B || leaves 1 B) (part_size r B)
    where
      go : (b : Bool) {o : Option Part} → Holds (λ P. size P ≤ rows_in B) o
          → Holds (λ P. size P ≤ suc (rows_in B)) (cond b (bind o (λ P. some (p_loop P))) (some p_end))
      go true h = holds_bind _ h (λ P i. held {x = p_loop P} (omega arith))
      go false h = held {x = p_end} (omega arith)
  part_size r (back k) = held {x = p_back k} (omega arith)

  pub parts_size : {A : Type 0} (r : ℕ) (cs : Arms A) → Holds (λ ps. size_arms ps ≤ rows_in_arms cs) (part_arms r cs)
  parts_size r nil = held {x = p_nil} (omega arith)
  parts_size r (arm l G cs) =
      holds_bind _ (part_size r G) (λ P h. holds_bind _ (parts_size r cs) (λ ps i. held {x = p_arm l P ps} (omega arith)))

-- ---- rising labels

-- the parts of arms have the arms' labels
pub labels_kept : {A : Type 0} {l : ℕ} (r : ℕ) (cs : Arms A) → ¬ HasLabel l cs → Holds (Lacks l) (part_arms r cs)
unfolding part_arms
labels_kept r nil n = held no_label
labels_kept {l} r (arm k G cs) n =
    holds_bind _ (anything (part r G)) (λ P t. holds_bind _ (labels_kept r cs (λ h. n (has_there h))) (λ ps i. held (label (λ e. n (here e)) i)))
  where
    anything : (o : Option Part) → Holds (λ x. Unit) o
    anything none = vacant
    anything (some x) = held tt

    here : l ≡ k → HasLabel l (arm k G cs)
    here e = rw e has_here

pub record Sorted (ps : PartArms) : Type 0 where
  pub distinct : Distinct ps
  pub each : EachRising ps

mutual
  unfolding part part_arms

  -- the labels of a part rise throughout
  pub part_rising : {A : Type 0} (r : ℕ) {G : Global A} → Good G → Holds Rising (part r G)
  part_rising r g_end = held r_end
  part_rising r (g_exchange {p} {q} n m h) = holds_bind _ (parts_rising r h) (λ ps i. exchange_rising r p q i.distinct i.each)
  part_rising r (g_flight h) = vacant
  part_rising r (g_loop {G} h) = go (takes_part r G || leaves 1 G) (part_rising r h)
    where
      go : (b : Bool) {o : Option Part} → Holds Rising o → Holds Rising (cond b (bind o (λ P. some (p_loop P))) (some p_end))
      go true i = holds_bind _ i (λ P p. held (r_loop p))
      go false i = held r_end
  part_rising r g_back = held r_back

  pub parts_rising : {A : Type 0} (r : ℕ) {cs : Arms A} → GoodArms cs → Holds Sorted (part_arms r cs)
  parts_rising r g_nil = held (record { distinct = d_nil; each = e_nil })
  parts_rising r (g_arm {l} {cs} n h i) =
      holds_bind _ (part_rising r h) (λ P p. go p (parts_rising r i) (labels_kept r cs n))
    where
      go : {P : Part} {o : Option PartArms} → Rising P → Holds Sorted o → Holds (Lacks l) o → Holds Sorted (bind o (λ ps. some (p_arm l P ps)))
      go p vacant vacant = vacant
      go p (held s) (held k) = held (record { distinct = d_arm k s.distinct; each = e_arm p s.each })
