-- Laws of unrolling a loop: what is closed stays as it is, and two replacements one after the other are one. Assumes nothing.
use Prim.Native.Nat.{ℕ, zero, suc, ◌+◌, ◌-◌, ◌≤◌, ◌<◌}
use mathlib.Core.List.{List, [], ◌∷◌}
use mathlib.Core.Path.{◌≡◌, refl, sym, ◌∙◌, ap, ap₂}
use native.Mathlib.Decide.{dec_lt}
use native.Mathlib.Omega.{arith}
use lib.ListN.{length}
use Rattle.table.specs.mirror.Kept.{
  Inside,
  i_end,
  i_exchange,
  i_flight,
  i_loop,
  i_back,
  InsideArms,
  i_nil,
  i_arm,
  Static,
  t_end,
  t_exchange,
  t_loop,
  t_back,
  StaticArms,
  t_nil,
  t_arm,
}
use Rattle.table.specs.Tree.{Global, end, exchange, flight, loop, back, Arms, nil, arm}
use Rattle.protocol.specs.Each.{Each, each_nil, each_cons}
use Rattle.protocol.specs.Unrolled.{nth, back_to, close, close_arms, unrolled}

-- ---- a property of trees that every back has, and every tree that is put in

pub each_nth : {A : Type 0} (P : Global A → Type 0) (k : ℕ) {σ : List (Global A)} {g : Global A} → Each P σ → P g → P (nth k σ g)
unfolding nth
each_nth P k each_nil h = h
each_nth P zero (each_cons f fs) h = f
each_nth P (suc k) (each_cons f fs) h = each_nth P k fs h

pub each_back_to : {A : Type 0} (P : Global A → Type 0) (d k : ℕ) {σ : List (Global A)} {g : Global A} → Each P σ → P g → P (back_to d k σ g)
unfolding back_to
each_back_to P zero k fs h = each_nth P k fs h
each_back_to P (suc d) zero fs h = h
each_back_to P (suc d) (suc k) fs h = each_back_to P d k fs h

-- ---- nothing in flight

mutual
  unfolding close

  static_close : {A : Type 0} {G : Global A} (d : ℕ) {σ : List (Global A)} → Each Static σ → Static G → Static (close G d σ)
  static_close d fs t_end = t_end
  static_close d fs (t_exchange f) = t_exchange (static_close_arms d fs f)
  static_close d fs (t_loop f) = t_loop (static_close (suc d) fs f)
  static_close d fs (t_back {k = k}) = each_back_to Static d k fs t_back

  static_close_arms : {A : Type 0} {cs : Arms A} (d : ℕ) {σ : List (Global A)} → Each Static σ → StaticArms cs → StaticArms (close_arms cs d σ)
  static_close_arms d fs t_nil = t_nil
  static_close_arms d fs (t_arm f g) = t_arm (static_close d fs f) (static_close_arms d fs g)

pub static_unrolled : {A : Type 0} (B : Global A) → Static B → Static (unrolled B)
unfolding unrolled
static_unrolled B f = static_close 0 (each_cons (t_loop f) each_nil) f

-- ---- backs that stay inside

mutual
  inside_mono : {A : Type 0} {d : ℕ} {G : Global A} (e : ℕ) → d ≤ e → Inside d G → Inside e G
  inside_mono e h i_end = i_end
  inside_mono e h (i_exchange i) = i_exchange (inside_mono_arms e h i)
  inside_mono e h (i_flight i) = i_flight (inside_mono e h i)
  inside_mono e h (i_loop i) = i_loop (inside_mono (suc e) (omega arith) i)
  inside_mono e h (i_back {k = k} b) = i_back {d = e} {k = k} (omega arith)

  inside_mono_arms : {A : Type 0} {d : ℕ} {cs : Arms A} (e : ℕ) → d ≤ e → InsideArms d cs → InsideArms e cs
  inside_mono_arms e h i_nil = i_nil
  inside_mono_arms e h (i_arm i is) = i_arm (inside_mono e h i) (inside_mono_arms e h is)

back_to_below : {A : Type 0} (d k : ℕ) (σ : List (Global A)) (g : Global A) → k < d → back_to d k σ g ≡ g
unfolding back_to
back_to_below zero k σ g h = absurd (omega arith)
back_to_below (suc d) zero σ g h = refl
back_to_below (suc d) (suc k) σ g h = back_to_below d k σ g (omega arith)

back_to_from : {A : Type 0} (d k j : ℕ) (σ : List (Global A)) (g : Global A) → k ≡ d + j → back_to d k σ g ≡ nth j σ g
unfolding back_to
back_to_from zero k j σ g e = let f : k ≡ j = omega arith in rw f
back_to_from (suc d) zero j σ g e = absurd (omega arith)
back_to_from (suc d) (suc k) j σ g e = back_to_from d k j σ g (omega arith)

mutual
  unfolding close

  pub close_inside : {A : Type 0} {d : ℕ} {G : Global A} (σ : List (Global A)) → Inside d G → close G d σ ≡ G
  close_inside σ i_end = refl
  close_inside σ (i_exchange {p = p} {q = q} i) = ap (exchange p q) (close_inside_arms σ i)
  close_inside σ (i_flight {p = p} {q = q} {l = l} {v = v} i) = ap (flight p q l v) (close_inside σ i)
  close_inside σ (i_loop i) = ap loop (close_inside σ i)
  close_inside σ (i_back {d = d} {k = k} h) = back_to_below d k σ (back k) h

  close_inside_arms : {A : Type 0} {d : ℕ} {cs : Arms A} (σ : List (Global A)) → InsideArms d cs → close_arms cs d σ ≡ cs
  close_inside_arms σ i_nil = refl
  close_inside_arms σ (i_arm {l = l} i is) = ap₂ (arm l) (close_inside σ i) (close_inside_arms σ is)

beyond : {A : Type 0} (d k : ℕ) (g : Global A) → d < k → back_to d k (g ∷ []) (back k) ≡ back k
unfolding nth
beyond d k g h = back_to_from d k (suc (k - suc d)) (g ∷ []) (back k) (omega arith)

close_nth : {A : Type 0} (d j k : ℕ) (g : Global A) {σ : List (Global A)} → Each (Inside 0) σ → d < k
    → close (nth j σ (back k)) d (g ∷ []) ≡ nth j σ (back k)
unfolding close nth
close_nth d j k g each_nil h = beyond d k g h
close_nth d zero k g (each_cons i is) h = close_inside (g ∷ []) (inside_mono d (omega arith) i)
close_nth d (suc j) k g (each_cons i is) h = close_nth d j k g is h

close_back_to : {A : Type 0} (d k : ℕ) (g : Global A) {σ : List (Global A)} → Each (Inside 0) σ
    → Dec (k < d) → Dec (d < k) → close (back_to (suc d) k σ (back k)) d (g ∷ []) ≡ back_to d k (g ∷ σ) (back k)
unfolding close nth
close_back_to d k g {σ = σ} is (yes h) e =
    ap (λ t. close t d (g ∷ [])) (back_to_below (suc d) k σ (back k) (omega arith))
    ∙ (back_to_below d k (g ∷ []) (back k) h ∙ sym (back_to_below d k (g ∷ σ) (back k) h))
close_back_to d k g {σ = σ} is (no h) (yes e) =
    ap (λ t. close t d (g ∷ [])) (back_to_from (suc d) k (k - suc d) σ (back k) (omega arith))
    ∙ (close_nth d (k - suc d) k g is e ∙ sym (back_to_from d k (suc (k - suc d)) (g ∷ σ) (back k) (omega arith)))
close_back_to d k g {σ = σ} is (no h) (no e) =
    ap (λ t. close t d (g ∷ [])) (back_to_below (suc d) k σ (back k) (omega arith))
    ∙ (back_to_from d k 0 (g ∷ []) (back k) (omega arith) ∙ sym (back_to_from d k 0 (g ∷ σ) (back k) (omega arith)))

mutual
  unfolding close

  -- the loops around first, then the loop itself: at once
  pub close_close : {A : Type 0} (B : Global A) (d : ℕ) (g : Global A) {σ : List (Global A)} → Each (Inside 0) σ
      → close (close B (suc d) σ) d (g ∷ []) ≡ close B d (g ∷ σ)
  close_close end d g is = refl
  close_close (exchange p q cs) d g is = ap (exchange p q) (close_close_arms cs d g is)
  close_close (flight p q l v G) d g is = ap (flight p q l v) (close_close G d g is)
  close_close (loop B) d g is = ap loop (close_close B (suc d) g is)
  close_close (back k) d g is = close_back_to d k g is (dec_lt k d) (dec_lt d k)

  close_close_arms : {A : Type 0} (cs : Arms A) (d : ℕ) (g : Global A) {σ : List (Global A)} → Each (Inside 0) σ
      → close_arms (close_arms cs (suc d) σ) d (g ∷ []) ≡ close_arms cs d (g ∷ σ)
  close_close_arms nil d g is = refl
  close_close_arms (arm l G cs) d g is = ap₂ (arm l) (close_close G d g is) (close_close_arms cs d g is)

inside_nth : {A : Type 0} (d j : ℕ) (g : Global A) {σ : List (Global A)} → Each (Inside 0) σ → j < length σ → Inside d (nth j σ g)
unfolding nth
inside_nth d j g each_nil h = absurd (omega arith)
inside_nth d zero g (each_cons i is) h = inside_mono d (omega arith) i
inside_nth d (suc j) g (each_cons i is) h = inside_nth d j g is (omega arith)

inside_back_to : {A : Type 0} (d k : ℕ) {σ : List (Global A)} → Each (Inside 0) σ → k < d + length σ → Dec (k < d)
    → Inside d (back_to d k σ (back k))
inside_back_to d k {σ = σ} is h (yes e) = rw (back_to_below d k σ (back k) e) (i_back e)
inside_back_to d k {σ = σ} is h (no e) = rw (back_to_from d k (k - d) σ (back k) (omega arith)) (inside_nth d (k - d) (back k) is (omega arith))

mutual
  unfolding close

  pub inside_close : {A : Type 0} {e : ℕ} {B : Global A} (d : ℕ) {σ : List (Global A)} → Each (Inside 0) σ → e ≡ d + length σ
      → Inside e B → Inside d (close B d σ)
  inside_close d is h i_end = i_end
  inside_close d is h (i_exchange i) = i_exchange (inside_close_arms d is h i)
  inside_close d is h (i_flight i) = i_flight (inside_close d is h i)
  inside_close d is h (i_loop i) = i_loop (inside_close (suc d) is (omega arith) i)
  inside_close d is h (i_back {k = k} b) = inside_back_to d k is (omega arith) (dec_lt k d)

  inside_close_arms : {A : Type 0} {e : ℕ} {cs : Arms A} (d : ℕ) {σ : List (Global A)} → Each (Inside 0) σ → e ≡ d + length σ
      → InsideArms e cs → InsideArms d (close_arms cs d σ)
  inside_close_arms d is h i_nil = i_nil
  inside_close_arms d is h (i_arm i j) = i_arm (inside_close d is h i) (inside_close_arms d is h j)
