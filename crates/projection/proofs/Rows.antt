-- What a row asks for a role, from the words that the code read. Assumes nothing.
use Prim.Native.Nat.{ℕ, zero, suc, ◌+◌, ◌*◌, ◌<◌}
use mathlib.Core.Bool.{Bool, false, ◌||◌}
use mathlib.Core.List.{List}
use mathlib.Core.Logic.{◌≢◌}
use mathlib.Core.Path.{◌≡◌, refl, sym, ◌∙◌, ap}
use native.Mathlib.Omega.{arith}
use lib.ListN.{get_or}
use borrow.Author.Tests.{eq-eqb, ne_eqb}
use Rattle.words.specs.Rows.{word}
use Rattle.table.specs.Rows.{Row, End, Exchange, Arm, Loop, Back, Other, row_of, row}
use Rattle.table.specs.mirror.Read.{said}
use Rattle.table.specs.declared.row.Row as declared
use Rattle.table.specs.declared.row.Row.TheVariants as read
use Rattle.table.specs.Tree.{Global, exchange, loop, back, Arms}
use Rattle.parts.specs.Part.{p_end, p_send, p_receive, p_back}
use Rattle.parts.specs.Absent.{takes_part, leaves}
use Rattle.parts.specs.Projection.{part, part_exchange}
use Rattle.parts.specs.mirror.Codes.{codes}
use Rattle.parts.specs.mirror.Grows.{Grows, grows_end, grows_exchange, grows_loop, grows_back, Chain, ordered}
use Rattle.projection.specs.mirror.Orders.{Listed}
use Rattle.projection.specs.mirror.Projects.{SMALL, Coded, s_exchange, s_back, PlannedBy, Known, Planned}
use Rattle.projection.specs.declared.Plan.{Plan}
use Rattle.projection.specs.declared.Plan.TheVariants.{Leaf, Action, Others}
use Rattle.projection.specs.declared.Projection.{Projection}

-- ---- one kind of row

module _ (v : Projection) where
  -- a Loop; b: whether the code found that the role stays in it
  module _ (B : Global ℕ) {b : Bool} (is : b ≡ (takes_part v.role B || leaves 1 B)) where
    pub idle_plan : b ≡ false → {w : ℕ} → w ≡ 0 → PlannedBy (Leaf w) v (loop B)
    unfolding part codes
    idle_plan e ew = (p_end, rw (← is, e), rw ew refl)

  -- an exchange from p to q; w is the word that the code made of the peer
  module _ (p q : ℕ) (cs : Arms ℕ) (small : Coded (exchange p q cs)) where
    peers : Coded (exchange p q cs) → (p < SMALL) × (q < SMALL)
    peers (s_exchange i j m) = (omega arith, omega arith)

    pub send_plan : {w next : ℕ} → v.role ≡ p → (q < SMALL → w ≡ 5 + q * 8) → Listed v.table.now v.order.now next (ordered cs)
        → PlannedBy (Action w next) v (exchange p q cs)
    unfolding part_exchange codes
    send_plan e h l = (p, q, cs, p_send q, refl, l, (λ ps. rw (eq-eqb v.role p e)), λ ps. rw (h (peers small).1))

    pub receive_plan : {w next : ℕ} → (v.role ≡ p → ⊥) → v.role ≡ q → (p < SMALL → w ≡ 6 + p * 8)
        → Listed v.table.now v.order.now next (ordered cs) → PlannedBy (Action w next) v (exchange p q cs)
    unfolding part_exchange codes
    receive_plan d e h l = (p, q, cs, p_receive p, refl, l, (λ ps. rw (ne_eqb v.role p d, eq-eqb v.role q e)), λ ps. rw (h (peers small).0))

    pub others_plan : {next : ℕ} → (v.role ≡ p → ⊥) → (v.role ≡ q → ⊥) → Chain v.table.now next cs → PlannedBy (Others next) v (exchange p q cs)
    unfolding part_exchange
    others_plan d e c = (p, q, cs, refl, c, λ ps. rw (ne_eqb v.role p d, ne_eqb v.role q e))

-- ---- a row, as the code read it

abbrev number : Row → ℕ
number (End a b c) = 0
number (Exchange a b c) = 1
number (Arm a b c) = 2
number (Loop a b c) = 3
number (Back a b c) = 4
number Other = 5

abbrev first : Row → ℕ
first (End a b c) = a
first (Exchange a b c) = a
first (Arm a b c) = a
first (Loop a b c) = a
first (Back a b c) = a
first Other = 0

abbrev second : Row → ℕ
second (End a b c) = b
second (Exchange a b c) = b
second (Arm a b c) = b
second (Loop a b c) = b
second (Back a b c) = b
second Other = 0

abbrev third : Row → ℕ
third (End a b c) = c
third (Exchange a b c) = c
third (Arm a b c) = c
third (Loop a b c) = c
third (Back a b c) = c
third Other = 0

-- its four words
pub words_are : (k a b c : ℕ) (x : Row) → x ≡ row_of k a b c → number x < 5 → (k ≡ number x) × (a ≡ first x) × (b ≡ second x) × (c ≡ third x)
words_are zero a b c x e l = (sym (ap number e), sym (ap first e), sym (ap second e), sym (ap third e))
words_are (suc zero) a b c x e l = (sym (ap number e), sym (ap first e), sym (ap second e), sym (ap third e))
words_are (suc (suc zero)) a b c x e l = (sym (ap number e), sym (ap first e), sym (ap second e), sym (ap third e))
words_are (suc (suc (suc zero))) a b c x e l = (sym (ap number e), sym (ap first e), sym (ap second e), sym (ap third e))
words_are (suc (suc (suc (suc zero)))) a b c x e l = (sym (ap number e), sym (ap first e), sym (ap second e), sym (ap third e))
words_are (suc (suc (suc (suc (suc k))))) a b c x e l = absurd (omega (arith, ap number e))

-- a row that was read as no Exchange
pub not_exchange : (t : List ℕ) (i : ℕ) (x : declared.Row) → said x ≡ row t i → ((s r f : ℕ) → x ≡ read.Exchange s r f → ⊥) → word t i 0 ≡ 1 → ⊥
not_exchange t i x e never k = go x never (ap number e ∙ rw k refl)
  where
    go : (x : declared.Row) → ((s r f : ℕ) → x ≡ read.Exchange s r f → ⊥) → number (said x) ≡ 1 → ⊥
    go (read.End a b c) never h = omega arith
    go (read.Exchange a b c) never h = never a b c refl
    go (read.Arm a b c) never h = omega arith
    go (read.Loop a b c) never h = omega arith
    go (read.Back a b c) never h = omega arith
    go (read.Other k a b c) never h = omega arith

-- ---- the kind of a row, as the code read it

module _ {v : Projection} {i k : ℕ} (ek : k ≡ word v.table.now i 0) where
  pub at_exchange : k ≡ 1 → {p q f least : ℕ} → p ≡ word v.table.now i 1 → q ≡ word v.table.now i 2 → f ≡ word v.table.now i 3
      → least ≡ get_or v.order.now i 0 → {plan : Plan}
      → ((cs : Arms ℕ) → Coded (exchange p q cs) → Listed v.table.now v.order.now least (ordered cs) → Chain v.table.now f cs → PlannedBy plan v (exchange p q cs))
      → Planned v i plan
  at_exchange e {p} {q} {f} {least} ep eq ef el {plan} h = record { says = go }
    where
      go : (G : Global ℕ) → Known v → Grows v.table.now i G → Coded G → PlannedBy plan v G
      go G o (grows_end l z) m = absurd (omega arith)
      go G o (grows_exchange {f = g} {cs = cs} l z a b c d) m = rw (← a, ← b, ← ep, ← eq) (h cs (rw (ep ∙ a, eq ∙ b) m) (rw el (o.orders.orders i g cs l z c d)) (rw (ef ∙ c) d))
      go G o (grows_loop l z a d) m = absurd (omega arith)
      go G o (grows_back l z a) m = absurd (omega arith)

  pub at_loop : k ≡ 3 → {b : ℕ} → b ≡ word v.table.now i 1 → {plan : Plan}
      → ((B : Global ℕ) → Known v → Grows v.table.now i (loop B) → Grows v.table.now b B → PlannedBy plan v (loop B)) → Planned v i plan
  at_loop e {b} eb {plan} h = record { says = go }
    where
      go : (G : Global ℕ) → Known v → Grows v.table.now i G → Coded G → PlannedBy plan v G
      go G o (grows_end l z) m = absurd (omega arith)
      go G o (grows_exchange l z a c d f) m = absurd (omega arith)
      go G o (grows_loop {G = B} l z a d) m = h B o (grows_loop l z a d) (rw (eb ∙ a) d)
      go G o (grows_back l z a) m = absurd (omega arith)

  pub at_back : k ≡ 4 → {d w : ℕ} → d ≡ word v.table.now i 1 → (d < SMALL → w ≡ 4 + d * 8) → Planned v i (Leaf w)
  unfolding part codes
  at_back e {d} {w} ed h = record { says = go }
    where
      depth : {x : ℕ} → Coded {A = ℕ} (back x) → x < SMALL
      depth (s_back l) = l

      go : (G : Global ℕ) → Known v → Grows v.table.now i G → Coded G → PlannedBy (Leaf w) v G
      go G o (grows_end l z) m = absurd (omega arith)
      go G o (grows_exchange l z a b c f) m = absurd (omega arith)
      go G o (grows_loop l z a f) m = absurd (omega arith)
      go G o (grows_back {d = x} l z a) m = let f : d ≡ x = ed ∙ a in (p_back x, refl, rw (h (rw f (depth m)), f))

-- a row that was read as none of these
pub at_other : {v : Projection} {i : ℕ} (x : declared.Row) → said x ≡ row v.table.now i → ((s r f : ℕ) → x ≡ read.Exchange s r f → ⊥)
    → ((b c d : ℕ) → x ≡ read.Loop b c d → ⊥) → ((d b c : ℕ) → x ≡ read.Back d b c → ⊥) → {w : ℕ} → w ≡ 0 → Planned v i (Leaf w)
unfolding part codes
at_other {v} {i} x e n1 n3 n4 {w} ew = record { says = go (others x n1 n3 n4) }
  where
    others : (x : declared.Row) → ((s r f : ℕ) → x ≡ read.Exchange s r f → ⊥) → ((b c d : ℕ) → x ≡ read.Loop b c d → ⊥)
        → ((d b c : ℕ) → x ≡ read.Back d b c → ⊥) → (number (said x) ≢ 1) × (number (said x) ≢ 3) × (number (said x) ≢ 4)
    others (read.End a b c) n1 n3 n4 = (λ h. omega arith, λ h. omega arith, λ h. omega arith)
    others (read.Exchange a b c) n1 n3 n4 = absurd (n1 a b c refl)
    others (read.Arm a b c) n1 n3 n4 = (λ h. omega arith, λ h. omega arith, λ h. omega arith)
    others (read.Loop a b c) n1 n3 n4 = absurd (n3 a b c refl)
    others (read.Back a b c) n1 n3 n4 = absurd (n4 a b c refl)
    others (read.Other k a b c) n1 n3 n4 = (λ h. omega arith, λ h. omega arith, λ h. omega arith)

    go : (number (said x) ≢ 1) × (number (said x) ≢ 3) × (number (said x) ≢ 4) → (G : Global ℕ) → Known v → Grows v.table.now i G → Coded G → PlannedBy (Leaf w) v G
    go h G o (grows_end l z) m = (p_end, refl, rw ew refl)
    go h G o (grows_exchange l z a b c f) m = absurd (h.0 (ap number e ∙ rw z refl))
    go h G o (grows_loop l z a f) m = absurd (h.1 (ap number e ∙ rw z refl))
    go h G o (grows_back l z a) m = absurd (h.2 (ap number e ∙ rw z refl))
