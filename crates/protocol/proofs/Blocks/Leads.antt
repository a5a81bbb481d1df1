-- Every row of an opened block that is no Arm has a head: following its Loops and Backs comes to an action or an end, in fewer steps than
-- the block has rows. Assumes nothing.
use Prim.Native.Nat.{ℕ, zero, suc, ◌+◌, ◌≤◌, ◌<◌}
use mathlib.Core.Bool.{true, true≢false}
use mathlib.Core.List.{List, [], ◌∷◌}
use mathlib.Core.Path.{◌≡◌, refl, sym, ap}
use native.Mathlib.Omega.{arith}
use lib.ListN.{get_or, length}
use Rattle.parts.specs.Part.{Part}
use Rattle.parts.specs.Layout.{size}
use Rattle.blocks.specs.Block.{PartRow, End, Arm, Loop, Back, Send, Receive, Other, part_row, is_head, is_loop}
use Rattle.blocks.specs.Head.{onward, follow}
use Rattle.protocol.proofs.Parts.Fits.{HeadBack, hb_back}
use Rattle.protocol.proofs.Parts.Sound.{Sound, s_loop, s_back}
use Rattle.protocol.proofs.Start.Begins.{deeper}
use Rattle.protocol.proofs.Blocks.Laid.{Laid, l_end, l_send, l_receive, l_loop, l_back}

-- following row x comes to a head in at most n steps
pub data Leads (row : ℕ → PartRow) : ℕ → ℕ → Type 0 where
  leads_here : {n x : ℕ} → is_head (row x) ≡ true → Leads row n x
  leads_loop : {n x y a b : ℕ} → row x ≡ Loop y a b → Leads row n y → Leads row (suc n) x
  leads_back : {n x y a b : ℕ} → row x ≡ Back y a b → Leads row n y → Leads row (suc n) x

onward_stays : (go : ℕ → ℕ) (x : ℕ) (w : PartRow) → is_head w ≡ true → onward go x w ≡ x
unfolding onward
onward_stays go x (End a b c) e = refl
onward_stays go x (Arm l c n) e = refl
onward_stays go x (Loop b u v) e = absurd (true≢false (sym e))
onward_stays go x (Back j u v) e = absurd (true≢false (sym e))
onward_stays go x (Send q f u) e = refl
onward_stays go x (Receive q f u) e = refl
onward_stays go x Other e = refl

module _ (ts : List ℕ) (roles r : ℕ) where
  pub follow_stays : (m x : ℕ) → is_head (part_row ts roles r x) ≡ true → follow m ts roles r x ≡ x
  unfolding follow
  follow_stays zero x e = refl
  follow_stays (suc m) x e = onward_stays (λ j. follow m ts roles r j) x (part_row ts roles r x) e

  pub leads_head : {n x : ℕ} (m : ℕ) → Leads (part_row ts roles r) n x → n ≤ m → is_head (part_row ts roles r (follow m ts roles r x)) ≡ true
  unfolding follow onward
  leads_head {x = x} m (leads_here e) h = rw (follow_stays m x e) e
  leads_head zero (leads_loop e l) h = absurd (omega arith)
  leads_head (suc m) (leads_loop e l) h = rw (e, onward) (leads_head m l (omega arith))
  leads_head zero (leads_back e l) h = absurd (omega arith)
  leads_head (suc m) (leads_back e l) h = rw (e, onward) (leads_head m l (omega arith))

-- the rows of the loops around row b + d. The nearest d, right above it, stand with no action in between; of the others it is known that
-- they lead to a head, in fewer than b steps
module _ (row : ℕ → PartRow) where
  pub data Around (b : ℕ) : ℕ → List ℕ → Type 0 where
    around_nil : Around b 0 []
    around_old : {x n : ℕ} {around : List ℕ}
        → row x ≡ Loop (suc x) 0 0 → x < b → Leads row n x → n < b → Around b 0 around → Around b 0 (x ∷ around)
    around_new : {x d : ℕ} {around : List ℕ} → row x ≡ Loop (suc x) 0 0 → x ≡ b + d → Around b d around → Around b (suc d) (x ∷ around)

  pub around_loop : {b d : ℕ} {around : List ℕ} (k : ℕ) → Around b d around → k < length around
      → (is_loop (row (get_or around k 0)) ≡ true) × (get_or around k 0 < b + d)
  around_loop k around_nil h = absurd (omega arith)
  around_loop zero (around_old e x<b l n<b a) h = (ap is_loop e, omega arith)
  around_loop (suc k) (around_old e x<b l n<b a) h = around_loop k a (omega arith)
  around_loop zero (around_new e x a) h = (ap is_loop e, omega arith)
  around_loop (suc k) (around_new e x a) h = let (f, g) = around_loop k a (omega arith) in (f, omega arith)

  around_leads : {b d : ℕ} {around : List ℕ} (k : ℕ) → Around b d around → d ≤ k → k < length around
      → (n : ℕ) × Leads row n (get_or around k 0) × (n < b)
  around_leads k around_nil g h = absurd (omega arith)
  around_leads zero (around_old {n = n} e x<b l n<b a) g h = (n, l, n<b)
  around_leads (suc k) (around_old e x<b l n<b a) g h = around_leads k a (omega arith) (omega arith)
  around_leads zero (around_new e x a) g h = absurd (omega arith)
  around_leads (suc k) (around_new e x a) g h = around_leads k a (omega arith) (omega arith)

  pub raise : {b : ℕ} {around : List ℕ} (c : ℕ) → b ≤ c → Around b 0 around → Around c 0 around
  raise c h around_nil = around_nil
  raise {b} c h (around_old {x = x} {n = n} e x<b l n<b a) =
      let f : x < c = omega arith in
      let g : n < c = omega arith in
      around_old e f l g (raise c h a)

  -- at row i something is known to lead to a head: then so do all the loops around
  pub settle : {b d : ℕ} {around : List ℕ} (c m i : ℕ) → Around b d around → i ≡ b + d → Leads row m i → m + i < c → Around c 0 around
  settle c m i around_nil e l h = around_nil
  settle c m i (around_old f x<b k n<b a) e l h = raise c (omega arith) (around_old f x<b k n<b a)
  settle c m i (around_new {x = x} f e' a) e l h =
      let next : i ≡ suc x = omega arith in
      let k : Leads row (suc m) x = leads_loop f (rw next at l) in
      let x<c : x < c = omega arith in
      let m<c : suc m < c = omega arith in
      around_old f x<c k m<c (settle c (suc m) x a e' k (omega arith))

  -- how far the head of a part's first row is
  pub lead : {P : Part} {roles labels r i b d : ℕ} {around : List ℕ} → Laid row i around P → i ≡ b + d → Sound roles labels r (length around) P
      → Around b d around → ((j : ℕ) → j < d → HeadBack j P → ⊥) → (n : ℕ) × Leads row n i × (n + d < i + size P)
  unfolding size
  lead (l_end e) h s a acts = (0, leads_here (ap is_head e), omega arith)
  lead (l_send e arms) h s a acts = (0, leads_here (ap is_head e), omega arith)
  lead (l_receive e arms) h s a acts = (0, leads_here (ap is_head e), omega arith)
  lead {i = i} {b = b} {d = d} (l_loop e body) h (s_loop no_zero s) a acts =
      let at : suc i ≡ b + suc d = omega arith in
      let (n, l, k) = lead {d = suc d} body at s (around_new e h a) (deeper no_zero acts) in
      (suc n, leads_loop e l, omega arith)
  lead {d = d} (l_back {k = k} e) h (s_back k<) a acts =
      let far : ¬ (k < d) = λ t. acts k t hb_back in
      let (n, l, n<b) = around_leads k a (omega arith) k< in
      (suc n, leads_back e l, omega arith)
