-- Laws of how far a row is from its head, and of what is noted of it. Assumes nothing.
use Prim.Native.Nat.{ℕ, zero, suc, ◌+◌, ◌-◌, ◌*◌, ◌<◌, ◌≤◌}
use mathlib.Core.Bool.{Bool, true, false, and-false}
use mathlib.Core.List.{List}
use mathlib.Core.Logic.{inr, ⊎_elim}
use mathlib.Core.Path.{◌≡◌, refl, sym, ◌∙◌, ap}
use lib.Dec.{eqb, ltb, leb, leb-zero}
use lib.ListN.{get_or, set, replicate, length-set, length-replicate, get_or-replicate}
use lib.Seq.{get_or-set_same, get_or-set_other}
use native.Mathlib.Nat.{mul-le-mul_right}
use native.Mathlib.Omega.{arith}
use borrow.Author.Count.{below_more}
use borrow.Author.Tests.{ltb-true, ltb-false, le-ltb, leb-true, leb-false, le-leb, lt-leb, eqb-true, eqb-false}
use Rattle.std.specs.Bool.{then_some}
use Rattle.words.proofs.Below.{every_fails}
use Rattle.table.specs.Limits.{base}
use Rattle.blocks.specs.Block.{part_row, block_rows, is_arm, is_head}
use Rattle.blocks.specs.Head.{follow, head}
use Rattle.blocks.specs.Tables.{row_holds, row_good}
use Rattle.blocks.specs.mirror.Rows.{said}
use Rattle.blocks.specs.mirror.Heads.{has_head_in, Far, NotedOf, Noted, Bad, Headless, Steps}
use Rattle.blocks.specs.declared.rows.Row.{Row}
use Rattle.blocks.specs.declared.rows.Row.TheVariants.{Loop, Back}
use Rattle.blocks.proofs.Walk.{Onward, onward_kind, follow_step, follow_on, onward_stays}

module _ (ts : List ℕ) (roles r : ℕ) where
  -- ---- one step

  -- row i is no head, and row j is one step on
  pub record Leads (i j : ℕ) : Type 0 where
    pub moves : has_head_in 0 ts roles r i ≡ false
    pub on : (n : ℕ) → has_head_in (suc n) ts roles r i ≡ has_head_in n ts roles r j

  -- w is row i
  module _ (i : ℕ) {w : Row} (read : said w ≡ part_row ts roles r i) where
    pub leads_on_lem : (j : ℕ) → Onward w j → Leads i j
    unfolding follow
    leads_on_lem j o = record {
      moves = rw (← read, (onward_kind w j o).1);
      on = λ n. ap (λ (k : ℕ). is_head (part_row ts roles r k)) (follow_on ts roles r {m = n} i j w refl read o);
    }

    -- a row that is no Loop and no Back is where following stays
    pub stays : ((b x y : ℕ) → w ≡ Loop b x y → ⊥) → ((j x y : ℕ) → w ≡ Back j x y → ⊥) → (n : ℕ) → has_head_in n ts roles r i ≡ is_head (said w)
    unfolding follow
    stays h g zero = rw (sym read)
    stays h g (suc n) = rw (follow_step ts roles r {m = n} i w refl read, onward_stays (λ j. follow n ts roles r j) i w h g, sym read)

  -- one step on, the head is one step nearer
  pub far_on : (i j d : ℕ) → 0 < d → Leads i j → Far ts roles r i d → Far ts roles r j (d - 1)
  far_on i j d h leads far = λ n. sym (leads.on n) ∙ far (suc n) ∙ nearer n (leb d (suc n)) refl
    where
      nearer : (n : ℕ) (b : Bool) → leb d (suc n) ≡ b → leb d (suc n) ≡ leb (d - 1) n
      nearer n true e = rw (e, le-leb (d - 1) n (omega (arith, leb-true d (suc n) e)))
      nearer n false e = rw (e, lt-leb (d - 1) n (omega (arith, leb-false d (suc n) e)))

  -- ---- some steps

  -- t steps lead from row i to row j, through no head
  pub record Came (i t j : ℕ) : Type 0 where
    pub before : (n : ℕ) → n < t → has_head_in n ts roles r i ≡ false
    pub after : (n : ℕ) → has_head_in (t + n) ts roles r i ≡ has_head_in n ts roles r j

  pub came_here : (i : ℕ) → Came i 0 i
  came_here i = record {
    before = λ n l. absurd (omega arith);
    after = λ n. let e : 0 + n ≡ n = omega arith in ap (λ (m : ℕ). has_head_in m ts roles r i) e;
  }

  pub came_on : (i t j k : ℕ) → Came i t j → Leads j k → Came i (t + 1) k
  came_on i t j k came leads = record {
    before = below_more (λ n. has_head_in n ts roles r i ≡ false) t came.before (ap (λ (m : ℕ). has_head_in m ts roles r i) (omega arith) ∙ came.after 0 ∙ leads.moves);
    after = λ n. let e : t + 1 + n ≡ t + suc n = omega arith in
        ap (λ (m : ℕ). has_head_in m ts roles r i) e ∙ came.after (suc n) ∙ leads.on n;
  }

  module _ (i t j : ℕ) (came : Came i t j) where
    -- the head of where one came to is the head of where one came from
    pub came_far : (d : ℕ) → Far ts roles r j d → Far ts roles r i (t + d)
    came_far d far = λ n. from n (ltb n t) refl
      where
        later : (k : ℕ) (b : Bool) → leb d k ≡ b → has_head_in (t + k) ts roles r i ≡ leb (t + d) (t + k)
        later k true g = came.after k ∙ far k ∙ g ∙ sym (le-leb (t + d) (t + k) (omega (arith, leb-true d k g)))
        later k false g = came.after k ∙ far k ∙ g ∙ sym (lt-leb (t + d) (t + k) (omega (arith, leb-false d k g)))

        from : (n : ℕ) (b : Bool) → ltb n t ≡ b → has_head_in n ts roles r i ≡ leb (t + d) n
        from n true e = came.before n (ltb-true n t e) ∙ sym (lt-leb (t + d) n (omega (arith, ltb-true n t e)))
        from n false e =
            let split : t + (n - t) ≡ n = omega (arith, ltb-false n t e) in
            rw split at (later (n - t) (leb d (n - t)) refl)

    -- one came to a head
    pub came_head : ((n : ℕ) → has_head_in n ts roles r j ≡ true) → Far ts roles r i t
    came_head all =
        let e : t + 0 ≡ t = omega arith in
        rw e at (came_far 0 (λ n. all n ∙ sym (leb-zero n)))

    -- whoever comes to a row that has none has none
    pub came_none : ((n : ℕ) → has_head_in n ts roles r j ≡ false) → (n : ℕ) → has_head_in n ts roles r i ≡ false
    came_none none n = from (ltb n t) refl
      where
        from : (b : Bool) → ltb n t ≡ b → has_head_in n ts roles r i ≡ false
        from true e = came.before n (ltb-true n t e)
        from false e =
            let split : t + (n - t) ≡ n = omega (arith, ltb-false n t e) in
            rw split at (came.after (n - t) ∙ none (n - t))

  -- ---- blocks that are not good

  module _ (rows i : ℕ) (rows_are : rows ≡ block_rows ts roles) (l : i < rows) where
    -- a row that does not hold, or is no Arm and has no head
    pub bad_row : row_good base ts roles r i ≡ false → Bad ts roles r
    bad_row e = every_fails (λ k. row_good base ts roles r k) (block_rows ts roles) i (omega (arith, rows_are)) e

    -- w is row i, a Loop or a Back, and leads out of the block
    pub leads_out : {w : Row} (j : ℕ) → said w ≡ part_row ts roles r i → Onward w j → rows ≤ j → Bad ts roles r
    unfolding row_holds
    leads_out {w} j read o out =
        bad_row (⊎_elim (λ (x, y, k). rw (← read, k, le-ltb j (block_rows ts roles) (omega (arith, rows_are)), and-false (ltb i j)))
        (λ (x, y, k). rw (← read, k, le-ltb j i (omega arith))) o)

  -- ---- heads that are found, or not

  module _ (rows i t j : ℕ) (rows_are : rows ≡ block_rows ts roles) (came : Came i t j) where
    -- where one came to is a head, or followed no further
    pub came_stands : (b : Bool) → t < rows → ((n : ℕ) → has_head_in n ts roles r j ≡ b) → Steps ts roles r i (then_some b t)
    came_stands true l all = (omega (arith, rows_are), came_head i t j came all)
    came_stands false l all = inr (came_none i t j came all (block_rows ts roles - 1))

    -- of where one came to the steps are known
    pub came_known : (d : ℕ) → t < rows → Far ts roles r j d → Steps ts roles r i (then_some (ltb (t + d) rows) (t + d))
    came_known d l far = from (ltb (t + d) rows) refl
      where
        from : (b : Bool) → ltb (t + d) rows ≡ b → Steps ts roles r i (then_some b (t + d))
        from true e = (omega (arith, rows_are, ltb-true (t + d) rows e), came_far i t j came d far)
        from false e =
            inr (came_far i t j came d far (block_rows ts roles - 1) ∙ lt-leb (t + d) (block_rows ts roles - 1) (omega (arith, rows_are, ltb-false (t + d) rows e)))

  -- a row that leads to a row with a head, or to one without
  module _ (rows i j : ℕ) (rows_are : rows ≡ block_rows ts roles) (l : i < rows) (leads : Leads i j) where
    pub head_led : has_head_in (rows - 1) ts roles r j ≡ true → has_head_in (block_rows ts roles) ts roles r i ≡ true
    head_led found =
        let e : block_rows ts roles ≡ suc (rows - 1) = omega (arith, rows_are) in ap (λ (n : ℕ). has_head_in n ts roles r i) e ∙ leads.on (rows - 1) ∙ found

    pub head_lost : is_arm (part_row ts roles r i) ≡ false → Headless ts roles r j → Bad ts roles r
    unfolding head
    head_lost a lost =
        let e : block_rows ts roles ≡ suc (block_rows ts roles - 1) = omega (arith, rows_are) in
        ⊎_elim (λ bad. bad)
        (λ none.
        let f : has_head_in (block_rows ts roles) ts roles r i ≡ false = ap (λ (n : ℕ). has_head_in n ts roles r i) e ∙ leads.on (block_rows ts roles - 1) ∙ none in
        bad_row rows i rows_are l (rw (a, f) (and-false (row_holds base ts roles r i (part_row ts roles r i))))) lost

-- ---- notes

mul_past : (r p n : ℕ) → r < p → r * n + n ≤ p * n
mul_past r p n l =
    let le : suc r ≤ p = omega arith in omega (arith, mul-le-mul_right n le)

-- where nothing is noted
pub noted_none : (ts : List ℕ) (roles r : ℕ) → block_rows ts roles ≤ 256 → Noted ts roles r (replicate 256 0)
noted_none ts roles r h = (
  omega (arith, length-replicate {A = ℕ} 256 0),
  λ i l. let none : get_or (replicate 256 0) i 0 ≡ 0 = get_or-replicate {A = ℕ} 256 i 0 0 (omega arith) in
      (omega (arith, none), λ m. absurd (omega (arith, none))),
)

-- what one block left says nothing of a later one
pub noted_later : (ts : List ℕ) (roles r p : ℕ) (noted : List ℕ) → r ≤ p → Noted ts roles r noted → Noted ts roles p noted
noted_later ts roles r p noted le so = from (eqb r p) refl
  where
    from : (b : Bool) → eqb r p ≡ b → Noted ts roles p noted
    from true e = rw (sym (eqb-true r p e)) so
    from false e =
        let past : r * block_rows ts roles + block_rows ts roles ≤ p * block_rows ts roles = mul_past r p (block_rows ts roles) (omega (arith, eqb-false r p e, le)) in
        (so.0, λ i l. (omega (arith, (so.1 i l).0, past), λ m. absurd (omega (arith, (so.1 i l).0, past))))

pub noted_put : (ts : List ℕ) (roles r : ℕ) (noted : List ℕ) (at d : ℕ) → 0 < d → d ≤ block_rows ts roles → Far ts roles r at d → Noted ts roles r noted
    → Noted ts roles r (set noted at (r * block_rows ts roles + d))
noted_put ts roles r noted at d some few far so =
    (omega (arith, so.0, length-set noted at (r * block_rows ts roles + d)), λ i l. of_row i l (eqb i at) refl)
  where
    of_row : (i : ℕ) → i < block_rows ts roles → (b : Bool) → eqb i at ≡ b
        → NotedOf ts roles r (r * block_rows ts roles) i (get_or (set noted at (r * block_rows ts roles + d)) i 0)
    of_row i l true e =
        let here : i ≡ at = eqb-true i at e in
        let s : r * block_rows ts roles + d - r * block_rows ts roles ≡ d = omega arith in
        let put : get_or (set noted at (r * block_rows ts roles + d)) i 0 ≡ r * block_rows ts roles + d = rw here (get_or-set_same noted at (r * block_rows ts roles + d) 0 (omega (arith, so.0, here))) in
        rw (put, here) (omega arith, λ m. rw s far)
    of_row i l false e = rw (get_or-set_other noted at i (r * block_rows ts roles + d) 0 (eqb-false i at e)) (so.1 i l)
