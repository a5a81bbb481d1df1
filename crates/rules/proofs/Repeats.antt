-- Where rules 6 and 7 are kept, the first repeat along each Exchange's chain is an arm that repeats an earlier label of its chain, and the
-- lowest such arm is found along some chain. Assumes nothing.
use Prim.Native.Nat.{ℕ, zero, suc, ◌-◌, ◌≤◌, ◌<◌}
use mathlib.Core.Bool.{Bool, true, false, cond, true≢false}
use mathlib.Core.List.{List, ◌∷◌}
use mathlib.Core.Logic.{◌≢◌, ◌⊎◌, inl, inr, ⊎_elim}
use mathlib.Core.Path.{◌≡◌, refl, sym, ◌∙◌, ap}
use lib.Dec.{ltb, eqb}
use native.Mathlib.Nat.{eq-or-lt_of_le, le_of_suc-le-suc}
use native.Mathlib.Omega.{arith}
use borrow.Author.Tests.{lt-ltb, le-ltb, eq-eqb, ne_eqb, eqb-false}
use Rattle.std.specs.Prelude.{Some, None}
use Rattle.words.specs.Rows.{rows_of, word}
use Rattle.words.specs.Below.{any}
use Rattle.words.proofs.Below.{Lowest, found, nowhere, lowest_is, lowest_at}
use Rattle.table.specs.Rows.{Row, End, Exchange, Arm, Loop, Back, Other, row, is_arm}
use Rattle.table.specs.Above.{namer, over, chain_over, has_label}
use Rattle.table.specs.Rules.{link_broken, named_broken, of_arm, twice_broken}
use Rattle.table.specs.mirror.Names.{near_link, far_link}
use Rattle.rules.specs.mirror.Chain.{nth, repeats, stops, repeated_of, chain_of}
use Rattle.table.proofs.Tests.{neither, or_comm}
use Rattle.table.proofs.Rows.{arm_row, arm_third}
use Rattle.table.proofs.Walk.{over_more}
use Rattle.table.proofs.Links.{Link, exchange_link, arm_link, loop_link, named_once, namer_is, namer_names, near_named, far_named, named_by}
use Rattle.rules.proofs.Least.{Sound, none, some, Finds, finds}

of_arm_lem : (p : ℕ → Bool) (r : Row) → of_arm p r ≡ true → is_arm r ≡ true
of_arm_lem p (End a b c) e = e
of_arm_lem p (Exchange s r f) e = e
of_arm_lem p (Arm l c n) e = refl
of_arm_lem p (Loop b x y) e = e
of_arm_lem p (Back d x y) e = e
of_arm_lem p Other e = e

-- the first arm of an Exchange, and that the chain goes on to its k-th arm
pub record Chain (t : List ℕ) (e f k : ℕ) : Type 0 where
  pub inside : e < rows_of t
  pub sender : ℕ
  pub receiver : ℕ
  pub first : row t e ≡ Exchange sender receiver f
  pub alive : (j : ℕ) → j ≤ k → nth t f j ≢ 0

pub data InChain (t : List ℕ) (i : ℕ) : Type 0 where
  in_chain : (e f k : ℕ) → Chain t e f k → nth t f k ≡ i → InChain t i

shorter : {t : List ℕ} {e f k : ℕ} (j : ℕ) → j ≤ k → Chain t e f k → Chain t e f j
shorter {k = k} j l c =
    record { inside = c.inside; sender = c.sender; receiver = c.receiver; first = c.first; alive = λ i m. c.alive i (omega arith) }

module _ (t : List ℕ) (link : (i : ℕ) → i < rows_of t → link_broken t i (row t i) ≡ false)
    (named : (i : ℕ) → i < rows_of t → named_broken t i ≡ false) where
  -- the next arm after an Arm
  after : (x : ℕ) → x < rows_of t → is_arm (row t x) ≡ true → word t x 3 ≢ 0 → Link t true x (word t x 3)
  after x l a h =
      let e = arm_row t x a in
      let k = arm_link t x (word t x 1) (word t x 2) (word t x 3) (rw e at (link x l)) in
      ⊎_elim (λ z. absurd (h z)) (λ m. m) k.2

  -- the k-th arm is reached by a link, from the Exchange or from the arm before
  reached : (e f k : ℕ) → Chain t e f k → (Link t true 0 (nth t f k)) × (k < nth t f k)
  unfolding nth
  reached e f zero c =
      let m = exchange_link t e c.sender c.receiver f (rw c.first at (link e c.inside)) in
      let h = m.up in
      (record { up = omega arith; inside = m.inside; is = m.is }, omega arith)
  reached e f (suc k) c =
      let (m, l) = reached e f k (shorter k (omega arith) c) in
      let n = after (nth t f k) m.inside m.is (c.alive (suc k) (omega arith)) in
      let h = n.up in
      (record { up = omega arith; inside = n.inside; is = n.is }, omega arith)

  rises : (e f j k : ℕ) → Chain t e f k → j < k → nth t f j < nth t f k
  unfolding nth
  rises e f j zero c l = absurd (omega arith)
  rises e f j (suc k) c l =
      let (m, _) = reached e f k (shorter k (omega arith) c) in
      let h = (after (nth t f k) m.inside m.is (c.alive (suc k) (omega arith))).up in
      ⊎_elim
      (λ q. rw q h)
      (λ q. let g = rises e f j k (shorter k (omega arith) c) q in omega arith)
      (eq-or-lt_of_le (le_of_suc-le-suc l))

  -- who names the arms
  names_first : (e f : ℕ) → Chain t e f 0 → namer t f ≡ e
  unfolding nth
  names_first e f c =
      let (m, l) = reached e f 0 c in
      let o = named_once t f m.up (named f m.inside) in
      namer_is t f e o c.inside (near_named t e f m.up (ap near_link c.first))

  names_next : (e f k : ℕ) → Chain t e f (suc k) → namer t (nth t f (suc k)) ≡ nth t f k
  unfolding nth
  names_next e f k c =
      let (m, l) = reached e f k (shorter k (omega arith) c) in
      let (n, _) = reached e f (suc k) c in
      let x = nth t f k in
      let y = word t x 3 in
      let o = named_once t y n.up (named y n.inside) in
      namer_is t y x o m.inside (far_named t x y n.up (ap far_link (arm_row t x m.is)))

  -- one of the arms before the k-th has the label l; n rows are looked at, going up
  earlier_has : (e f k n l : ℕ) → Chain t e f k → k < n
      → has_label t l (chain_over t (nth t f k) (over n t (nth t f k))) ≡ any (λ j. eqb (word t (nth t f j) 1) l) k
  unfolding nth any chain_over has_label
  earlier_has e f zero n l c h =
      let (m, _) = reached e f 0 c in
      rw (over_more t n f (omega arith) m.up, names_first e f c, c.first)
  earlier_has e f (suc k) n l c h =
      let (m, _) = reached e f k (shorter k (omega arith) c) in
      let (u, _) = reached e f (suc k) c in
      let x = nth t f k in
      let y = word t x 3 in
      let o : over n t y ≡ x ∷ over (n - 1) t x =
      over_more t n y (omega arith) u.up ∙ ap (λ p. p ∷ over (n - 1) t p) (names_next e f k c) in
      let r = arm_row t x m.is in
      rw (o, r, eq-eqb y y refl, r, earlier_has e f k (n - 1) l (shorter k (omega arith) c) (omega arith))
      (or_comm (eqb (word t x 1) l) (any (λ j. eqb (word t (nth t f j) 1) l) k))

  twice_at : (e f k : ℕ) → Chain t e f k → twice_broken t (nth t f k) (row t (nth t f k)) ≡ repeats t f k
  twice_at e f k c =
      let (m, l) = reached e f k c in
      let i = m.inside in
      rw (arm_row t (nth t f k) m.is) (earlier_has e f k (rows_of t) (word t (nth t f k) 1) c (omega arith))

  -- what a chain answers is an arm that breaks the rule, or none
  chain_sound : (e s r f : ℕ) → e < rows_of t → row t e ≡ Exchange s r f
      → Sound (λ i. twice_broken t i (row t i)) (rows_of t) (repeated_of t f)
  unfolding repeated_of
  chain_sound e s r f l q = go (lowest_is (stops t f) (rows_of t))
    where
      stopped : (i : ℕ) → i < rows_of t → stops t f i ≡ true → ((j : ℕ) → j < i → stops t f j ≡ false) → (b : Bool) → eqb (nth t f i) 0 ≡ b
          → Sound (λ i. twice_broken t i (row t i)) (rows_of t) (cond b None (Some (nth t f i)))
      stopped i m h before true z = none
      stopped i m h before false z =
          let here = eqb-false (nth t f i) 0 z in
          let c : Chain t e f i = record {
            inside = l;
            sender = s;
            receiver = r;
            first = q;
            alive = λ j k.
                ⊎_elim
                (λ x. rw x here)
                (λ x. eqb-false (nth t f j) 0 (neither (eqb (nth t f j) 0) (repeats t f j) (before j x)).0)
                (eq-or-lt_of_le k);
          } in
          some (reached e f i c).0.inside (twice_at e f i c ∙ (rw z at h))

      go : {i : ℕ} → Lowest (stops t f) (rows_of t) i
          → Sound (λ i. twice_broken t i (row t i)) (rows_of t)
          (cond (ltb i (rows_of t)) (cond (eqb (nth t f i) 0) None (Some (nth t f i))) None)
      go (found {i = i} m h before) = rw (lt-ltb i (rows_of t) m) (stopped i m h before (eqb (nth t f i) 0) refl)
      go (nowhere h) = rw (le-ltb (rows_of t) (rows_of t) (omega arith)) none

  -- the k-th arm of a chain, where it is the lowest that breaks the rule, is what the chain answers
  chain_finds : (e f k : ℕ) → Chain t e f k → twice_broken t (nth t f k) (row t (nth t f k)) ≡ true
      → ((i : ℕ) → i < nth t f k → twice_broken t i (row t i) ≡ false) → repeated_of t f ≡ Some (nth t f k)
  unfolding repeated_of
  chain_finds e f k c h before =
      let (m, l) = reached e f k c in
      let i = m.inside in
      let z : eqb (nth t f k) 0 ≡ false = ne_eqb (nth t f k) 0 (c.alive k (omega arith)) in
      let s : stops t f k ≡ true = rw (z, ← twice_at e f k c) h in
      let a : k < rows_of t = omega arith in
      rw (lowest_at (stops t f) (rows_of t) k a (λ j x. passed j x) s, lt-ltb k (rows_of t) a, z)
    where
      passed : (j : ℕ) → j < k → stops t f j ≡ false
      passed j x =
          rw (ne_eqb (nth t f j) 0 (c.alive j (omega arith)), ← twice_at e f j (shorter j (omega arith) c))
          (before (nth t f j) (rises e f j k c x))

  -- an arm's next arm stands in its chain
  extended : (i : ℕ) (x : ℕ) → word t x 3 ≡ i → i ≢ 0 → InChain t x → InChain t i
  unfolding nth
  extended i x w h (in_chain e f k c q) =
      in_chain e f (suc k)
      (record {
        inside = c.inside;
        sender = c.sender;
        receiver = c.receiver;
        first = c.first;
        alive = λ j l.
            ⊎_elim
            (λ y z. h (sym w ∙ (ap (λ v. word t v 3) (sym q) ∙ (ap (nth t f) (sym y) ∙ z))))
            (λ y. c.alive j (omega arith))
            (eq-or-lt_of_le l);
      })
      (rw q w)

  -- the row that names an Arm, by its kind: an Exchange whose first arm it is, or the arm before it
  by_namer : (i p : ℕ) → p < rows_of t → is_arm (row t i) ≡ true → (r : Row) → row t p ≡ r → (i ≡ near_link r) ⊎ (i ≡ far_link r)
      → (p < i → is_arm (row t p) ≡ true → InChain t p) → 0 < i → InChain t i
  unfolding nth
  by_namer i p l a (End x y z) e (inl q) up h = absurd (omega arith)
  by_namer i p l a (End x y z) e (inr q) up h = absurd (omega arith)
  by_namer i p l a (Exchange s r f) e (inl q) up h =
      in_chain p f 0
      (record { inside = l; sender = s; receiver = r; first = e; alive = λ j m. let z : j ≡ 0 = omega arith in rw z (omega arith) })
      (sym q)
  by_namer i p l a (Exchange s r f) e (inr q) up h = absurd (omega arith)
  by_namer i p l a (Arm x c n) e (inl q) up h =
      absurd (true≢false (sym a ∙ (ap (λ v. is_arm (row t v)) q ∙ (arm_link t p x c n (rw e at (link p l))).1.is)))
  by_namer i p l a (Arm x c n) e (inr q) up h =
      ⊎_elim
      (λ z. absurd (omega arith))
      (λ m.
      let u = m.up in
      extended i p (arm_third (word t p 0) (word t p 1) (word t p 2) (word t p 3) e ∙ sym q) (omega arith) (up (omega arith) (rw e)))
      (arm_link t p x c n (rw e at (link p l))).2
  by_namer i p l a (Loop b x y) e (inl q) up h =
      absurd (true≢false (sym a ∙ (ap (λ v. is_arm (row t v)) q ∙ (loop_link t p b x y (rw e at (link p l))).is)))
  by_namer i p l a (Loop b x y) e (inr q) up h = absurd (omega arith)
  by_namer i p l a (Back d x y) e (inl q) up h = absurd (omega arith)
  by_namer i p l a (Back d x y) e (inr q) up h = absurd (omega arith)
  by_namer i p l a Other e (inl q) up h = absurd (omega arith)
  by_namer i p l a Other e (inr q) up h = absurd (omega arith)

  -- every Arm stands in the chain of an Exchange; m bounds its row
  in_some_chain : (m i : ℕ) → i < m → i < rows_of t → is_arm (row t i) ≡ true → InChain t i
  in_some_chain zero i h l a = absurd (omega arith)
  in_some_chain (suc m) i h l a =
      let k = arm_link t i (word t i 1) (word t i 2) (word t i 3) (rw (arm_row t i a) at (link i l)) in
      let (pl, pn) = namer_names t i (named_once t i k.0 (named i l)) in
      let p = namer t i in
      by_namer i p pl a (row t p) refl (named_by i (row t p) k.0 pn) (λ q b. in_some_chain m p (omega arith) pl b) k.0

  row_sound : (e : ℕ) → e < rows_of t → (r : Row) → row t e ≡ r → Sound (λ i. twice_broken t i (row t i)) (rows_of t) (chain_of t r)
  row_sound e l (End a b c) q = none
  row_sound e l (Exchange s r f) q = chain_sound e s r f l q
  row_sound e l (Arm x c n) q = none
  row_sound e l (Loop b x y) q = none
  row_sound e l (Back d x y) q = none
  row_sound e l Other q = none

  found_in : (i : ℕ) → twice_broken t i (row t i) ≡ true → ((k : ℕ) → k < i → twice_broken t k (row t k) ≡ false) → InChain t i
      → Finds (λ e. chain_of t (row t e)) (rows_of t) i
  found_in i h before (in_chain e f k c q) =
      finds e c.inside (rw c.first (chain_finds e f k c (rw q h) (rw q before) ∙ ap Some q))

  pub twice_sound : (e : ℕ) → e < rows_of t → Sound (λ i. twice_broken t i (row t i)) (rows_of t) (chain_of t (row t e))
  twice_sound e l = row_sound e l (row t e) refl

  pub twice_complete : (i : ℕ) → i < rows_of t → twice_broken t i (row t i) ≡ true → ((k : ℕ) → k < i → twice_broken t k (row t k) ≡ false)
      → Finds (λ e. chain_of t (row t e)) (rows_of t) i
  twice_complete i l h before = found_in i h before (in_some_chain (suc i) i (omega arith) l (of_arm_lem _ (row t i) h))
