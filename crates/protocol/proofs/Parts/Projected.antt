-- The part of a role, as the customer's paper projects it, fits the tree. Assumes nothing.
use Prim.Native.Nat.{ℕ, suc}
use mathlib.Core.Bool.{Bool, true, false, cond, ◌||◌, true≢false}
use mathlib.Core.Logic.{◌≢◌}
use mathlib.Core.Option.{Option, some, bind}
use mathlib.Core.Path.{◌≡◌, refl, sym, ◌∙◌}
use lib.Dec.{eqb}
use borrow.Author.Tests.{eqb-true, eqb-false, leb-false, ne_eqb, lt-leb}
use Rattle.table.specs.mirror.Kept.{
  Inside,
  i_end,
  i_exchange,
  i_flight,
  i_loop,
  i_back,
  InsideArms,
  i_nil,
  i_arm,
  HasLabel,
  has_here,
  has_there,
  Good,
  g_end,
  g_exchange,
  g_flight,
  g_loop,
  g_back,
  GoodArms,
  g_nil,
  g_arm,
}
use Rattle.table.specs.Tree.{Global, end, exchange, flight, loop, back, Arms, nil, arm}
use Rattle.table.proofs.Tests.{neither}
use Rattle.parts.specs.Part.{Part, p_end, p_send, p_receive, p_loop, PartArms, p_nil, p_arm, rising}
use Rattle.parts.specs.Absent.{takes_part, takes_part_arms, leaves, leaves_arms}
use Rattle.parts.specs.Merge.{merge}
use Rattle.parts.specs.Projection.{merge_from, merge_all, part, part_arms}
use Rattle.protocol.specs.Steps.{SomeArm, some_arm}
use Rattle.protocol.proofs.Invariant.Covers.{Absent, a_end, a_exchange, a_flight, a_loop, a_back, AbsentArms, a_nil, a_arm}
use Rattle.protocol.proofs.Parts.Arms.{none≢some, some_injective, bind_some, At, at_here, at_there, at_rising, rising_at}
use Rattle.protocol.proofs.Parts.Merged.{merged}
use Rattle.protocol.proofs.Parts.Within.{within_merge}
use Rattle.protocol.proofs.Parts.Fits.{
  Fits,
  f_end,
  f_back,
  f_gone,
  f_loop,
  f_send,
  f_receive,
  f_past,
  FitsArms,
  fa_nil,
  fa_arm,
  FitsEach,
  fe_nil,
  fe_arm,
  fits_up,
}

-- ---- the two tests of a loop

mutual
  unfolding takes_part

  pub absent_of : {A : Type 0} (r : ℕ) (G : Global A) → takes_part r G ≡ false → Absent r G
  absent_of r end e = a_end
  absent_of r (exchange p q cs) e =
      let (pq, c) = neither (eqb r p || eqb r q) (takes_part_arms r cs) e in
      let (a, b) = neither (eqb r p) (eqb r q) pq in
      a_exchange (eqb-false r p a) (eqb-false r q b) (absent_of_arms r cs c)
  absent_of r (flight p q l v G) e =
      let (pq, c) = neither (eqb r p || eqb r q) (takes_part r G) e in
      let (a, b) = neither (eqb r p) (eqb r q) pq in
      a_flight (eqb-false r p a) (eqb-false r q b) (absent_of r G c)
  absent_of r (loop B) e = a_loop (absent_of r B e)
  absent_of r (back k) e = a_back

  absent_of_arms : {A : Type 0} (r : ℕ) (cs : Arms A) → takes_part_arms r cs ≡ false → AbsentArms r cs
  absent_of_arms r nil e = a_nil
  absent_of_arms r (arm l G cs) e =
      let (a, b) = neither (takes_part r G) (takes_part_arms r cs) e in a_arm (absent_of r G a) (absent_of_arms r cs b)

mutual
  unfolding takes_part

  pub of_absent : {A : Type 0} {r : ℕ} {G : Global A} → Absent r G → takes_part r G ≡ false
  of_absent a_end = refl
  of_absent {r = r} (a_exchange {p = p} {q = q} m n a) = rw (ne_eqb r p m, ne_eqb r q n) (of_absent_arms a)
  of_absent {r = r} (a_flight {p = p} {q = q} m n a) = rw (ne_eqb r p m, ne_eqb r q n) (of_absent a)
  of_absent (a_loop a) = of_absent a
  of_absent a_back = refl

  of_absent_arms : {A : Type 0} {r : ℕ} {cs : Arms A} → AbsentArms r cs → takes_part_arms r cs ≡ false
  of_absent_arms a_nil = refl
  of_absent_arms {r = r} (a_arm {G = G} a as') = rw (of_absent a) (of_absent_arms as')

mutual
  unfolding leaves

  pub inside_of : {A : Type 0} (d : ℕ) (G : Global A) → leaves d G ≡ false → Inside d G
  inside_of d end e = i_end
  inside_of d (exchange p q cs) e = i_exchange (inside_of_arms d cs e)
  inside_of d (flight p q l v G) e = i_flight (inside_of d G e)
  inside_of d (loop B) e = i_loop (inside_of (suc d) B e)
  inside_of d (back k) e = i_back (leb-false d k e)

  inside_of_arms : {A : Type 0} (d : ℕ) (cs : Arms A) → leaves_arms d cs ≡ false → InsideArms d cs
  inside_of_arms d nil e = i_nil
  inside_of_arms d (arm l G cs) e =
      let (a, b) = neither (leaves d G) (leaves_arms d cs) e in i_arm (inside_of d G a) (inside_of_arms d cs b)

mutual
  unfolding leaves

  pub of_inside : {A : Type 0} {d : ℕ} {G : Global A} → Inside d G → leaves d G ≡ false
  of_inside i_end = refl
  of_inside (i_exchange i) = of_inside_arms i
  of_inside (i_flight i) = of_inside i
  of_inside (i_loop i) = of_inside i
  of_inside (i_back {d = d} {k = k} h) = lt-leb d k h

  of_inside_arms : {A : Type 0} {d : ℕ} {cs : Arms A} → InsideArms d cs → leaves_arms d cs ≡ false
  of_inside_arms i_nil = refl
  of_inside_arms (i_arm i is) = rw (of_inside i) (of_inside_arms is)

-- ---- the parts of the arms, one by one

data Zip {A : Type 0} (r : ℕ) : Arms A → PartArms → Type 0 where
  z_nil : Zip r nil p_nil
  z_arm : {l : ℕ} {G : Global A} {P : Part} {cs : Arms A} {ps : PartArms}
      → Fits r G P → Zip r cs ps → Zip r (arm l G cs) (p_arm l P ps)

zip_label : {A : Type 0} {r l : ℕ} {P : Part} {cs : Arms A} {ps : PartArms} → Zip r cs ps → At l P ps → HasLabel l cs
zip_label (z_arm f z) (at_here e) = rw e has_here
zip_label (z_arm f z) (at_there n t) = has_there (zip_label z t)
zip_label z_nil h = elim h [ ]

fits_there : {A : Type 0} {r l : ℕ} {P : Part} {cs : Arms A} {ps : PartArms} → ¬ HasLabel l cs → FitsArms r cs ps → FitsArms r cs (p_arm l P ps)
fits_there h fa_nil = fa_nil
fits_there {l = l} h (fa_arm {l = k} {G = G} {cs = cs} t f fs) =
    let n : k ≢ l = λ e. h (rw (← e) (has_here {l = k} {G = G} {cs = cs})) in
    fa_arm (at_there n t) f (fits_there (λ b. h (has_there b)) fs)

zip_fits : {A : Type 0} {r : ℕ} {cs : Arms A} {ps : PartArms} → GoodArms cs → Zip r cs ps → FitsArms r cs ps
zip_fits g_nil z_nil = fa_nil
zip_fits (g_arm h g gs) (z_arm f z) = fa_arm (at_here refl) f (fits_there h (zip_fits gs z))

fits_rising : {A : Type 0} {r : ℕ} {cs : Arms A} {ps : PartArms} → FitsArms r cs ps → FitsArms r cs (rising ps)
fits_rising fa_nil = fa_nil
fits_rising (fa_arm t f fs) = fa_arm (at_rising t) f (fits_rising fs)

zip_from : {A : Type 0} {r : ℕ} {cs : Arms A} {ps : PartArms} → Zip r cs ps → {P M : Part} → merge_from P ps ≡ some M
    → ((H : Global A) → Fits r H P → Fits r H M) × FitsEach r cs M
unfolding merge_from
zip_from z_nil e = rw (← some_injective e) ((λ H f. f), fe_nil)
zip_from (z_arm {G = G} {P = Q} f z) {P} e =
    let (N, g, h) = bind_some (merge P Q) _ e in
    let (up, fs) = zip_from z h in
    let (a, b) = within_merge (merged P Q g) in
    ((λ H k. up H (fits_up k a)), fe_arm (up G (fits_up f b)) fs)

zip_all : {A : Type 0} {r : ℕ} {M : Part} {cs : Arms A} {ps : PartArms} → Zip r cs ps → merge_all ps ≡ some M → FitsEach r cs M
unfolding merge_all
zip_all z_nil e = none≢some e
zip_all (z_arm {G = G} f z) e = let (up, fs) = zip_from z e in fe_arm (up G f) fs

pub some_of : {A : Type 0} (cs : Arms A) → cs ≢ nil → SomeArm cs
some_of nil n = absurd (n refl)
some_of (arm l G cs) n = some_arm

fits_exchange : {A : Type 0} {r p q : ℕ} {M : Part} {cs : Arms A} {ps : PartArms} (b c : Bool) → eqb r p ≡ b → eqb r q ≡ c
    → p ≢ q → SomeArm cs → GoodArms cs → Zip r cs ps
    → cond b (some (p_send q (rising ps))) (cond c (some (p_receive p (rising ps))) (merge_all ps)) ≡ some M → Fits r (exchange p q cs) M
fits_exchange {r = r} {p = p} {ps = ps} true c e f pq sm gs z h =
    rw (← some_injective h) (
    f_send (eqb-true r p e) pq sm (λ l P t. zip_label z (rising_at ps t)) (fits_rising (zip_fits gs z)))
fits_exchange {r = r} {q = q} false true e f pq sm gs z h =
    rw (← some_injective h) (f_receive (eqb-true r q f) pq sm (fits_rising (zip_fits gs z)))
fits_exchange {r = r} {p = p} {q = q} false false e f pq sm gs z h = f_past (eqb-false r p e) (eqb-false r q f) sm (zip_all z h)

fits_loop : {A : Type 0} {r : ℕ} {B : Global A} {M : Part} (b : Bool) (o : Option Part) → (takes_part r B || leaves 1 B) ≡ b
    → ((P : Part) → o ≡ some P → Fits r B P) → cond b (bind o (λ P. some (p_loop P))) (some p_end) ≡ some M → Fits r (loop B) M
unfolding bind
fits_loop {r = r} {B = B} true o t f e =
    let (P, g, h) = bind_some o _ e in
    let stays : ¬ (Absent r B × Inside 1 B) = λ d. true≢false (sym t ∙ (rw (of_absent d.0) (of_inside d.1))) in
    rw (← some_injective h) (f_loop stays (f P g))
fits_loop {r = r} {B = B} false o t f e =
    let (a, b) = neither (takes_part r B) (leaves 1 B) t in
    rw (← some_injective e) (f_gone (absent_of r B a) (inside_of 1 B b))

mutual
  unfolding part

  pub projected_fits : {A : Type 0} {r : ℕ} {G : Global A} (P : Part) → Good G → part r G ≡ some P → Fits r G P
  projected_fits P g_end e = rw (← some_injective e) f_end
  projected_fits {r = r} P (g_exchange {p = p} {q = q} {cs = cs} pq n gs) e =
      let (ps, f, h) = bind_some (part_arms r cs) _ e in
      fits_exchange (eqb r p) (eqb r q) refl refl pq (some_of cs n) gs (projected_zip ps gs f) h
  projected_fits P (g_flight g) e = none≢some e
  projected_fits {r = r} P (g_loop {G = B} g) e =
      fits_loop (takes_part r B || leaves 1 B) (part r B) refl (λ Q h. projected_fits Q g h) e
  projected_fits P g_back e = rw (← some_injective e) f_back

  projected_zip : {A : Type 0} {r : ℕ} {cs : Arms A} (ps : PartArms) → GoodArms cs → part_arms r cs ≡ some ps → Zip r cs ps
  projected_zip ps g_nil e = rw (← some_injective e) z_nil
  projected_zip {r = r} ps (g_arm {G = G} {cs = cs} n g gs) e =
      let (P, f, h) = bind_some (part r G) _ e in
      let (qs, i, j) = bind_some (part_arms r cs) _ h in
      rw (← some_injective j) (z_arm (projected_fits P g f) (projected_zip qs gs i))
