-- The steps of the projection, one lemma for each way that a call returns. Assumes nothing.
use Prim.Native.Nat.{ℕ, suc, ◌+◌, ◌*◌, ◌<◌, ◌≤◌}
use mathlib.Core.Bool.{Bool, true, false, cond, ◌||◌}
use mathlib.Core.List.{List, [], ◌∷◌, ◌++◌, append_assoc}
use mathlib.Core.Logic.{◌⊎◌, ⊎_elim}
use mathlib.Core.Option.{Option, none, some, bind}
use mathlib.Core.Path.{◌≡◌, refl, sym, ◌∙◌, ap, subst}
use native.Mathlib.Omega.{arith}
use lib.Dec.{leb}
use lib.ListN.{length, get_or, set, length-append}
use lib.Seq.{set_at, append_snoc}
use Rattle.std.proofs.lemmas.Option.{none-some, same_Some}
use Rattle.words.specs.Rows.{word}
use Rattle.table.specs.Tree.{Global, end, exchange, flight, loop, back, Arms, nil, arm, rows_in, rows_in_arms}
use Rattle.table.specs.mirror.Kept.{Good, g_exchange, g_loop, GoodArms, g_nil, g_arm}
use Rattle.parts.specs.Absent.{takes_part, leaves}
use Rattle.parts.specs.Part.{Part, PartArms, p_loop, p_nil, p_arm, rising}
use Rattle.parts.specs.Merge.{merge}
use Rattle.parts.specs.Projection.{part, part_arms, part_exchange, merge_from, merge_all}
use Rattle.parts.specs.Layout.{size}
use Rattle.parts.specs.mirror.Codes.{code, codes, codes_arms}
use Rattle.parts.specs.mirror.Rising.{Rising}
use Rattle.parts.specs.mirror.Grows.{Grows, Chain, chain_last, chain_more, place, ordered}
use Rattle.parts.proofs.Grown.{ordered_rows, ordered_parts}
use Rattle.parts.proofs.Rising.{holds_some, merge_rising}
use Rattle.parts.proofs.Sizes.{words_twice, merge_size}
use Rattle.parts.proofs.Laws.{part_size, part_rising}
use Rattle.projection.specs.mirror.Orders.{Listed, listed_none, listed_arm}
use Rattle.projection.specs.mirror.Projects.{SMALL, Coded, s_exchange, s_loop, CodedArms, s_nil, s_arm, Plain, plain_nil, plain_arm, Stack, Space, Pushed, Outcome, fails, puts, Known, ArmRead, no_arm, an_arm, Chooses, Projects, Owns, Behind, behind_none, behind_some, Folds}
use Rattle.projection.specs.declared.Arm.{Arm}
use Rattle.projection.specs.declared.Plan.TheVariants.{Leaf, Body, Action, Others}
use Rattle.projection.specs.declared.Projection.{Projection}
use Rattle.projection.proofs.Join.{Joins}
use Rattle.std.specs.Prelude.{Some, None}
use Rattle.std.specs.Prelude.{Option as Maybe}

-- ---- the stack

pub push_stack : {work s : List ℕ} {at : ℕ} (w : ℕ) → Stack work at s → at < length work → Stack (set work at w) (at + 1) (s ++ w ∷ [])
push_stack {work} {s} {at} w k l = go k.rest k.is
  where
    go : (rest : List ℕ) → work ≡ s ++ rest → Stack (set work at w) (at + 1) (s ++ w ∷ [])
    go [] e = absurd (omega (arith, k.height, simp length-append at (ap length e)))
    go (x ∷ rest) e = record {
      rest = rest;
      is = rw e (set_at s x rest w at (sym k.height) ∙ sym (append_snoc s w rest));
      height = omega (arith, k.height, length-append s (w ∷ []));
    }

-- the words of a stack, said otherwise
pub restack : {work s t : List ℕ} {at : ℕ} → s ≡ t → Stack work at s → Stack work at t
restack {work} {at} e k = subst (λ (x : List ℕ). Stack work at x) e k

pub space_within : {n m at at' : ℕ} {work work' spare spare' : List ℕ} → Space n at work spare → length work' ≡ length work → length spare' ≡ length spare
    → at' + m ≤ at + n → m ≤ n → Space m at' work' spare'
space_within {n} {m} {at} {at'} {work} {work'} {spare} {spare'} h e f l k = record {
  fits = omega (arith, h.fits);
  spares = omega (arith, h.spares);
  few = omega (arith, h.few);
}

-- ---- outcomes, one after the other

-- a call goes on with what another answered, or stops where that found nothing
pub data Goes (P : ℕ → Type 0) (a b : Maybe ℕ) : Type 0 where
  stops : a ≡ None → b ≡ None → Goes P a b
  goes : (e : ℕ) → a ≡ Some e → P e → Goes P a b

pub none_some : {A : Type 0} {a : Maybe A} {e : A} → a ≡ None → a ≡ Some e → ⊥
none_some {e = e} n s = none-some e (sym n ∙ s)

pub none_left : {A : Type 0} (a : Maybe A) → ((x : A) → a ≡ Some x → ⊥) → a ≡ None
none_left None h = refl
none_left (Some x) h = absurd (h x refl)

pub some_same : {A : Type 0} {a : Maybe A} {e f : A} → a ≡ Some e → a ≡ Some f → e ≡ f
some_same {e = e} {f} s t = same_Some e f (sym s ∙ t)

-- the second call does its work if the first did
outcome_then : {X Y : Type 0} {f : X → List ℕ} {g : Y → List ℕ} {o : Option X} (next : X → Option Y) {s t work work' : List ℕ} {a b : Maybe ℕ} {P : ℕ → Type 0}
    → Outcome f s work a o → Goes P a b → ((e : ℕ) (x : X) → o ≡ some x → Stack work e (s ++ f x) → P e → Outcome g t work' b (next x))
    → Outcome g t work' b (bind o next)
unfolding bind
outcome_then next (fails h) (stops m n) k = fails n
outcome_then next (fails h) (goes e m p) k = absurd (none_some h m)
outcome_then next (puts h i) (stops m n) k = absurd (none_some m h)
outcome_then {f = f} next {s} {work = work} (puts {x} h i) (goes e m p) k = k e x refl (subst (λ (d : ℕ). Stack work d (s ++ f x)) (some_same h m) i) p

outcome_is : {X : Type 0} {f : X → List ℕ} {o p : Option X} {s work : List ℕ} {a : Maybe ℕ} → p ≡ o → Outcome f s work a o → Outcome f s work a p
outcome_is {f} {s} {work} {a} e h = subst (λ (p : Option _). Outcome f s work a p) (sym e) h

-- what is put behind a first word
outcome_under : {X Y : Type 0} {f : X → List ℕ} {g : Y → List ℕ} {o : Option X} (next : X → Option Y) (make : X → Y) {w : ℕ}
    {s work : List ℕ} {a : Maybe ℕ} → ((x : X) → next x ≡ some (make x)) → ((x : X) → g (make x) ≡ w ∷ f x)
    → Outcome f (s ++ w ∷ []) work a o → Outcome g s work a (bind o next)
unfolding bind
outcome_under next make n m (fails h) = fails h
outcome_under {f} next make {w} {s} n m (puts {x} h k) =
    outcome_is (n x) (puts {x = make x} h (restack (append_snoc s w (f x) ∙ ap (λ (y : List ℕ). s ++ y) (sym (m x))) k))

-- ---- rows

pub rows_positive : {A : Type 0} (G : Global A) → 0 < rows_in G
unfolding rows_in
rows_positive end = omega arith
rows_positive (exchange p q cs) = omega arith
rows_positive (flight p q l v G) = omega arith
rows_positive (loop G) = omega arith
rows_positive (back k) = omega arith

-- a row that is an arm is read as one
pub arm_there : {t : List ℕ} {i : ℕ} {res : Maybe Arm} → ArmRead t i res → word t i 0 ≡ 2
    → (a : Arm) × (res ≡ Some a) × (word t i 1 < SMALL → a.word ≡ code 2 (word t i 1)) × (a.then ≡ word t i 2) × (a.next ≡ word t i 3)
arm_there (no_arm n h) k = absurd (h k)
arm_there (an_arm a e h w c m) k = (a, e, w, c, m)

-- a part of one word
pub leaf_step : {v : Projection} {work work' : List ℕ} (spare : List ℕ) {at w left e : ℕ}
    → Pushed work at w work' e → Chooses v (Leaf w) left work at spare work' (Some e)
leaf_step spare {at} {e} push = record {
  gives = λ G s o by f g m k sp.
      let (P, f, is) = by in
      outcome_is f (puts {x = P} refl (restack (ap (λ (y : List ℕ). s ++ y) (sym is)) (push.gives s k (omega (arith, sp.fits, rows_positive G)))));
}

-- ---- a Loop that stays

body_loop : {v : Projection} {left i : ℕ} {B : Global ℕ} {work work' work'' spare : List ℕ} {at e : ℕ} {a : Maybe ℕ}
    → (takes_part v.role B || leaves 1 B) ≡ true → Pushed work at (code 3 0) work' e → length work' ≡ length work
    → Projects v left i work' e spare work'' a → Known v → Grows v.table.now i B
    → (s : List ℕ) → rows_in (loop B) ≤ suc left → Good (loop B) → Coded (loop B) → Stack work at s
    → Space (rows_in (loop B) * 2) at work spare → Outcome codes s work'' a (part v.role (loop B))
unfolding part rows_in codes
body_loop {v} {B = B} takes push len rec o h s f (g_loop g) (s_loop m) k sp =
    let k' = push.gives s k (omega (arith, sp.fits)) in
    rw takes
    (outcome_under (λ P. some (p_loop P)) p_loop (λ P. refl) (λ P. refl)
    (rec.gives B (s ++ code 3 0 ∷ []) o h (omega arith) g m k'
    (space_within sp len refl (omega (arith, k.height, k'.height, length-append s (code 3 0 ∷ []))) (omega arith))))

pub body_step : {v : Projection} {left : ℕ} {work work' work'' spare : List ℕ} {at w i e : ℕ} {a : Maybe ℕ}
    → Pushed work at w work' e → length work' ≡ length work → Projects v left i work' e spare work'' a
    → Chooses v (Body w i) left work at spare work'' a
body_step {v} {left} {work} {work'} {work''} {spare} {at} {w} {i} {e} {a} push len rec = record {
  gives = λ G s o by f g m.
      let (B, is, grows, takes, word_is) = by in
      subst (λ (X : Global ℕ). rows_in X ≤ suc left → Good X → Coded X → Stack work at s → Space (rows_in X * 2) at work spare → Outcome codes s work'' a (part v.role X)) (sym is)
      (body_loop takes (subst (λ (x : ℕ). Pushed work at x work' e) word_is push) len rec o grows s) f g m;
}

-- ---- the arms of an action of the role's own, in rising order

place_plain : {l : ℕ} {G : Global ℕ} {cs : Arms ℕ} → l < SMALL → Good G → Coded G → Plain cs → Plain (place l G cs)
unfolding place
place_plain h g m plain_nil = plain_arm h g m plain_nil
place_plain {l} {G} h g m (plain_arm {l = k} {G = H} {cs = cs} i f n ps) = go (leb l k) (place_plain h g m ps)
  where
    go : (b : Bool) → Plain (place l G cs) → Plain (cond b (arm l G (arm k H cs)) (arm k H (place l G cs)))
    go true q = plain_arm h g m (plain_arm i f n ps)
    go false q = plain_arm i f n q

pub ordered_plain : {cs : Arms ℕ} → GoodArms cs → CodedArms cs → Plain (ordered cs)
unfolding ordered
ordered_plain g_nil s_nil = plain_nil
ordered_plain (g_arm d g gs) (s_arm x m ms) = place_plain x g m (ordered_plain gs ms)

-- the parts of the arms in rising order are the arms' parts in rising order
outcome_ordered : (o : Option PartArms) {s work : List ℕ} {a : Maybe ℕ} → Outcome codes_arms s work a (bind o (λ ps. some (rising ps)))
    → Outcome (λ ps. codes_arms (rising ps)) s work a o
unfolding bind
outcome_ordered none (fails h) = fails h
outcome_ordered (some ps) (puts h k) = puts {x = ps} h k

-- a Send or a Receive before its arms
arms_step : {v : Projection} {p q : ℕ} {left i : ℕ} {cs : Arms ℕ} (act : PartArms → Part) {work work' work'' spare : List ℕ} {at w e : ℕ} {a : Maybe ℕ}
    → ((ps : PartArms) → part_exchange v.role p q ps ≡ some (act (rising ps))) → ((ps : PartArms) → codes (act ps) ≡ w ∷ codes_arms ps)
    → Pushed work at w work' e → length work' ≡ length work → Owns v left i work' e spare work'' a → Known v
    → Listed v.table.now v.order.now i (ordered cs) → (s : List ℕ) → rows_in (exchange p q cs) ≤ suc left → Good (exchange p q cs) → Coded (exchange p q cs) → Stack work at s
    → Space (rows_in (exchange p q cs) * 2) at work spare → Outcome codes s work'' a (part v.role (exchange p q cs))
unfolding part rows_in
arms_step {v} {p} {q} {cs = cs} act {w = w} ex is push len rec o h s f (g_exchange n d g) (s_exchange i j m) k sp =
    let k' = push.gives s k (omega (arith, sp.fits)) in
    let rows = ordered_rows cs in
    outcome_under (λ ps. part_exchange v.role p q ps) (λ ps. act (rising ps)) ex (λ ps. is (rising ps))
    (outcome_ordered (part_arms v.role cs) (outcome_is (sym (ordered_parts v.role cs))
    (rec.gives (ordered cs) (s ++ w ∷ []) o h (omega arith) (ordered_plain g m) k'
    (space_within sp len refl (omega (arith, k.height, k'.height, length-append s (w ∷ []))) (omega arith)))))

pub action_step : {v : Projection} {left : ℕ} {work work' work'' spare : List ℕ} {at w next e : ℕ} {a : Maybe ℕ}
    → Pushed work at w work' e → length work' ≡ length work → Owns v left next work' e spare work'' a
    → Chooses v (Action w next) left work at spare work'' a
action_step {v} {left} {work = work} {work'' = work''} {spare} {at} {a = a} push len rec = record {
  gives = λ G s o by f g m.
      let (p, q, cs, act, is, arms, ex, words) = by in
      subst (λ (X : Global ℕ). rows_in X ≤ suc left → Good X → Coded X → Stack work at s → Space (rows_in X * 2) at work spare → Outcome codes s work'' a (part v.role X)) (sym is)
      (arms_step act ex words push len rec o arms s) f g m;
}

-- none
pub own_end : {v : Projection} {i left : ℕ} {work work' : List ℕ} (spare : List ℕ) {at w e : ℕ} → (i ≡ 0) ⊎ ((i ≡ 0 → ⊥) × (left ≡ 0)) → w ≡ code 1 0
    → Pushed work at w work' e → Owns v left i work at spare work' (Some e)
unfolding rows_in_arms part_arms codes_arms
own_end {v} {i} {left} {work} {work'} spare {at} {w} {e} stop ew push = record { gives = go i stop }
  where
    go : (i : ℕ) → (i ≡ 0) ⊎ ((i ≡ 0 → ⊥) × (left ≡ 0)) → (cs : Arms ℕ) (s : List ℕ) → Known v → Listed v.table.now v.order.now i cs → rows_in_arms cs ≤ left → Plain cs
        → Stack work at s → Space (suc (rows_in_arms cs * 2)) at work spare → Outcome codes_arms s work' (Some e) (part_arms v.role cs)
    go i z cs s o listed_none f p k sp = puts {x = p_nil} refl (restack (ap (λ (x : ℕ). s ++ x ∷ []) ew) (push.gives s k (omega (arith, sp.fits))))
    go i z cs s o (listed_arm h l a b c g x) f p k sp =
        absurd (⊎_elim (λ y. omega arith) (λ y. let x = y.1 in omega arith) z)

-- one, and those behind it
own_arm : {v : Projection} {l less c n : ℕ} {G : Global ℕ} {cs : Arms ℕ} {work₀ work₁ work₂ work₃ spare₀ spare₁ : List ℕ} {at e : ℕ} {one rest : Maybe ℕ}
    → Pushed work₀ at (code 2 l) work₁ e → Projects v less c work₁ e spare₀ work₂ one → Goes (λ e. Owns v less n work₂ e spare₁ work₃ rest) one rest
    → length work₁ ≡ length work₀ → length work₂ ≡ length work₀ → length spare₁ ≡ length spare₀
    → Known v → Grows v.table.now c G → Listed v.table.now v.order.now n cs → (s : List ℕ) → rows_in_arms (arm l G cs) ≤ suc less → Plain (arm l G cs) → Stack work₀ at s
    → Space (suc (rows_in_arms (arm l G cs) * 2)) at work₀ spare₀ → Outcome codes_arms s work₃ rest (part_arms v.role (arm l G cs))
unfolding part_arms rows_in_arms codes_arms bind
own_arm {v} {l} {G = G} {cs = cs} push project own len₁ len₂ spare₁ o h x s f (plain_arm b g m ps) k sp =
    let k₁ = push.gives s k (omega (arith, sp.fits)) in
    let n₁ = length-append s (code 2 l ∷ []) in
    outcome_then (λ P. bind (part_arms v.role cs) (λ ps. some (p_arm l P ps)))
    (project.gives G (s ++ code 2 l ∷ []) o h (omega arith) g m k₁ (space_within sp len₁ refl (omega (arith, k.height, k₁.height)) (omega arith))) own
    (λ d P e k₂ own.
    let z = holds_some (part_size v.role G) e in
    let n₂ = length-append (s ++ code 2 l ∷ []) (codes P) in
    let n₃ = words_twice P in
    outcome_behind l P (own.gives cs (s ++ code 2 l ∷ [] ++ codes P) o x (omega arith) ps k₂ (space_within sp len₂ spare₁ (omega (arith, k.height, k₂.height)) (omega arith))))
  where
    outcome_behind : (l : ℕ) (P : Part) {q : Option PartArms} {s work : List ℕ} {a : Maybe ℕ} → Outcome codes_arms (s ++ code 2 l ∷ [] ++ codes P) work a q
        → Outcome codes_arms s work a (bind q (λ ps. some (p_arm l P ps)))
    outcome_behind l P (fails h) = fails h
    outcome_behind l P {s = s} (puts {x = ps} h k) =
        puts {x = p_arm l P ps} h (restack (append_assoc (s ++ code 2 l ∷ []) (codes P) (codes_arms ps) ∙ append_snoc s (code 2 l) (codes P ++ codes_arms ps)) k)

pub own_step : {v : Projection} {i left less n : ℕ} {work₀ work₁ work₂ work₃ spare₀ spare₁ : List ℕ} {at e : ℕ} (c : Arm) {read : Maybe Arm} {one rest : Maybe ℕ}
    → (i ≡ 0 → ⊥) → left ≡ suc less → ArmRead v.table.now i read → read ≡ Some c → n ≡ get_or v.order.now i 0
    → Pushed work₀ at c.word work₁ e → Projects v less c.then work₁ e spare₀ work₂ one → Goes (λ e. Owns v less n work₂ e spare₁ work₃ rest) one rest
    → length work₁ ≡ length work₀ → length work₂ ≡ length work₀ → length spare₁ ≡ length spare₀
    → Owns v left i work₀ at spare₀ work₃ rest
own_step {v} {i} {left} {less} {n} {work₀ = work₀} {work₁} {work₂} {work₃ = work₃} {spare₀} {at = at} {e = e} c {read} {one} {rest} on el is ec en push project own len₁ len₂ spare₁ =
    record { gives = go i on is en }
  where
    go : (i : ℕ) → (i ≡ 0 → ⊥) → ArmRead v.table.now i read → n ≡ get_or v.order.now i 0 → (cs : Arms ℕ) (s : List ℕ) → Known v → Listed v.table.now v.order.now i cs
        → rows_in_arms cs ≤ left → Plain cs → Stack work₀ at s → Space (suc (rows_in_arms cs * 2)) at work₀ spare₀
        → Outcome codes_arms s work₃ rest (part_arms v.role cs)
    go i z read en cs s o listed_none f p k sp = absurd (z refl)
    go i z read en cs s o (listed_arm {l = l} h j a b d g x) f (plain_arm q y m ps) k sp =
        let (c', ec', word_is, then_is, next_is) = arm_there read a in
        let same : c' ≡ c = some_same ec' ec in
        let as_word : c.word ≡ code 2 l = rw same at (word_is (rw b q)) ∙ ap (code 2) b in
        let as_then : c.then ≡ word v.table.now i 2 = rw same at then_is in
        own_arm (subst (λ (w : ℕ). Pushed work₀ at w work₁ e) as_word push) project own len₁ len₂ spare₁ o (rw (as_then ∙ d) g) (rw en x) s
        (rw el at f) (plain_arm q y m ps) k sp

-- ---- an exchange of others

-- the first arm of a chain, and the arms behind it
first_arm : {t : List ℕ} {i : ℕ} {cs : Arms ℕ} → Chain t i cs
    → (l : ℕ) × (G : Global ℕ) × (ds : Arms ℕ) × (cs ≡ arm l G ds) × (word t i 0 ≡ 2) × Grows t (word t i 2) G × Behind t (word t i 3) ds
first_arm (chain_last {l = l} {G = G} h w0 w1 w2 w3 g) = (l, G, nil, refl, w0, rw w2 g, rw w3 behind_none)
first_arm (chain_more {l = l} {G = G} {cs = cs} h w0 w1 w2 w3 m g c) = (l, G, cs, refl, w0, rw w2 g, rw w3 (behind_some m c))

merge_arms_is : (l : ℕ) (o : Option Part) (a : Option PartArms)
    → bind (bind o (λ P. bind a (λ ps. some (p_arm l P ps)))) (λ ps. merge_all ps) ≡ bind o (λ P. bind a (λ ps. merge_from P ps))
unfolding bind merge_all
merge_arms_is l none a = refl
merge_arms_is l (some P) none = refl
merge_arms_is l (some P) (some ps) = refl

bind_is : {X Y : Type 0} {f g : X → Option Y} (o : Option X) → ((x : X) → f x ≡ g x) → bind o f ≡ bind o g
unfolding bind
bind_is none e = refl
bind_is (some x) e = e x

first_step : {v : Projection} {p q l : ℕ} {left c n : ℕ} {G : Global ℕ} {cs : Arms ℕ} {work work' work'' spare spare' : List ℕ} {at : ℕ} {a b : Maybe ℕ}
    → ((ps : PartArms) → part_exchange v.role p q ps ≡ merge_all ps) → length work' ≡ length work → length spare' ≡ length spare
    → Projects v left c work at spare work' a → Goes (λ e. Folds v left n work' at e spare' work'' b) a b
    → Known v → Grows v.table.now c G → Behind v.table.now n cs → (s : List ℕ) → rows_in (exchange p q (arm l G cs)) ≤ suc left
    → Good (exchange p q (arm l G cs)) → Coded (exchange p q (arm l G cs)) → Stack work at s
    → Space (rows_in (exchange p q (arm l G cs)) * 2) at work spare → Outcome codes s work'' b (part v.role (exchange p q (arm l G cs)))
unfolding part rows_in
first_step {v} {l = l} {G = G} {cs} ex len len' one rest o h j s f (g_exchange n d (g_arm e g gs)) (s_exchange x y (s_arm z m ms)) k sp =
    outcome_is (bind_is (part_arms v.role (arm l G cs)) ex ∙ merge_arms_is l (part v.role G) (part_arms v.role cs))
    (outcome_then (λ P. bind (part_arms v.role cs) (λ ps. merge_from P ps)) (one.gives G s o h (omega arith) g m k (space_within sp refl refl (omega arith) (omega arith))) rest
    (λ t P e k' rest. let z = holds_some (part_size v.role G) e in
    rest.gives cs s P o j (omega arith) gs ms (holds_some (part_rising v.role g) e) k.height k' (space_within sp len len' (omega arith) (omega arith))))

pub others_step : {v : Projection} {left : ℕ} {work work' work'' spare spare' : List ℕ} {at next : ℕ} (c : Arm) {read : Maybe Arm} {a b : Maybe ℕ}
    → ArmRead v.table.now next read → read ≡ Some c → length work' ≡ length work → length spare' ≡ length spare
    → Projects v left c.then work at spare work' a → Goes (λ e. Folds v left c.next work' at e spare' work'' b) a b
    → Chooses v (Others next) left work at spare work'' b
others_step {v} {left} {work = work} {work'' = work''} {spare} {at = at} {next} c {a = a} {b} read ec len len' one rest = record {
  gives = λ G s o by f g m.
      let (p, q, cs, is, chain, ex) = by in
      let (x, H, ds, e, kind, grows, behind) = first_arm chain in
      let (c', ec', word_is, then_is, next_is) = arm_there read kind in
      let same : c' ≡ c = some_same ec' ec in
      let as_then : c.then ≡ word v.table.now next 2 = rw same at then_is in
      let as_next : c.next ≡ word v.table.now next 3 = rw same at next_is in
      subst (λ (X : Global ℕ). rows_in X ≤ suc left → Good X → Coded X → Stack work at s → Space (rows_in X * 2) at work spare → Outcome codes s work'' b (part v.role X))
      (ap (λ (z : Arms ℕ). exchange p q z) (sym e) ∙ sym is)
      (first_step {p = p} {q = q} {l = x} ex len len' one rest o (rw as_then grows) (rw as_next behind) s) f g m;
}

-- ---- the parts of the arms of others, merged

pub fold_end : {v : Projection} {i left : ℕ} {work : List ℕ} (spare : List ℕ) {at e : ℕ} → (i ≡ 0) ⊎ ((i ≡ 0 → ⊥) × (left ≡ 0))
    → Folds v left i work at e spare work (Some e)
unfolding rows_in_arms part_arms bind merge_from
fold_end {v} {i} {left} {work} spare {at} {e} stop = record { gives = go i stop }
  where
    some_rows : {t : List ℕ} {i : ℕ} {cs : Arms ℕ} → Chain t i cs → 0 < rows_in_arms cs
    some_rows (chain_last h w0 w1 w2 w3 g) = omega arith
    some_rows (chain_more h w0 w1 w2 w3 m g c) = omega arith

    go : (i : ℕ) → (i ≡ 0) ⊎ ((i ≡ 0 → ⊥) × (left ≡ 0)) → (cs : Arms ℕ) (s : List ℕ) (P : Part) → Known v → Behind v.table.now i cs → rows_in_arms cs ≤ left → GoodArms cs
        → CodedArms cs → Rising P → at ≡ length s → Stack work e (s ++ codes P) → Space ((size P + rows_in_arms cs) * 2) at work spare
        → Outcome codes s work (Some e) (bind (part_arms v.role cs) (λ ps. merge_from P ps))
    go i z cs s P o behind_none f g m u x k sp = puts {x = P} refl k
    go i z cs s P o (behind_some h c) f g m u x k sp =
        let l = some_rows c in absurd (⊎_elim (λ y. omega arith) (λ y. let x = y.1 in omega arith) z)

merge_next_is : (l : ℕ) (M : Part) (o : Option Part) (a : Option PartArms)
    → bind (bind o (λ P. bind a (λ ps. some (p_arm l P ps)))) (λ ps. merge_from M ps) ≡ bind o (λ P. bind (merge M P) (λ N. bind a (λ ps. merge_from N ps)))
unfolding bind merge_from
merge_next_is l M none a = refl
merge_next_is l M (some P) none = go (merge M P)
  where
    go : (o : Option Part) → none ≡ bind {B = Part} o (λ N. none)
    go none = refl
    go (some N) = refl
merge_next_is l M (some P) (some ps) = refl

-- what a fold does with the part of one arm: its merge with the part before it, then the arms behind
abbrev pub Merges : Projection → ℕ → ℕ → List ℕ → List ℕ → ℕ → ℕ → List ℕ → List ℕ → List ℕ → Maybe ℕ → Maybe ℕ → Type 0
Merges v less n work₁ spare₁ at e work₂ spare₂ work₃ both rest =
    Joins work₁ spare₁ at e work₂ both × Goes (λ (d : ℕ). Folds v less n work₂ at d spare₂ work₃ rest) both rest
    × (length work₂ ≡ length work₁) × (length spare₂ ≡ length spare₁)

fold_arm : {v : Projection} {l : ℕ} {less c n : ℕ} {G : Global ℕ} {cs : Arms ℕ} {work₀ work₁ work₂ work₃ spare₀ spare₁ spare₂ : List ℕ} {at e : ℕ}
    {one : Maybe ℕ} (both : Maybe ℕ) {rest : Maybe ℕ}
    → Projects v less c work₀ e spare₀ work₁ one → Goes (λ d. Merges v less n work₁ spare₁ at e work₂ spare₂ work₃ both rest) one rest
    → length work₁ ≡ length work₀ → length spare₁ ≡ length spare₀
    → Known v → Grows v.table.now c G → Behind v.table.now n cs → (s : List ℕ) (P : Part) → rows_in_arms (arm l G cs) ≤ suc less → GoodArms (arm l G cs) → CodedArms (arm l G cs)
    → Rising P → at ≡ length s → Stack work₀ e (s ++ codes P) → Space ((size P + rows_in_arms (arm l G cs)) * 2) at work₀ spare₀
    → Outcome codes s work₃ rest (bind (part_arms v.role (arm l G cs)) (λ ps. merge_from P ps))
unfolding part_arms rows_in_arms
fold_arm {v} {l} {G = G} {cs} {one = one} both project more len₁ spare₁ o h j s P f (g_arm d g gs) (s_arm x m ms) i at_is k sp =
    let n₁ = length-append s (codes P) in
    let n₂ = words_twice P in
    outcome_is (merge_next_is l P (part v.role G) (part_arms v.role cs))
    (outcome_then (λ Q. bind (merge P Q) (λ N. bind (part_arms v.role cs) (λ ps. merge_from N ps)))
    (project.gives G (s ++ codes P) o h (omega arith) g m k (space_within sp refl refl (omega (arith, k.height)) (omega arith))) more
    (λ b Q e k₁ more.
    let (join, fold, len₂, spare₂) = more in
    let z = holds_some (part_size v.role G) e in
    let q = holds_some (part_rising v.role g) e in
    outcome_then (λ N. bind (part_arms v.role cs) (λ ps. merge_from N ps))
    (join s P Q b i q at_is k.height k₁ (space_within sp len₁ spare₁ (omega arith) (omega arith))) fold
    (λ b N e k₂ fold.
    let y = merge_size P Q e in
    fold.gives cs s N o j (omega arith) gs ms (holds_some (merge_rising i q) e) at_is k₂ (space_within sp (len₂ ∙ len₁) (spare₂ ∙ spare₁) (omega arith) (omega arith)))))

pub fold_step : {v : Projection} {i left less : ℕ} {work₀ work₁ work₂ work₃ spare₀ spare₁ spare₂ : List ℕ} {at e : ℕ} (c : Arm) {read : Maybe Arm}
    {one : Maybe ℕ} (both : Maybe ℕ) {rest : Maybe ℕ} → (i ≡ 0 → ⊥) → left ≡ suc less → ArmRead v.table.now i read → read ≡ Some c
    → Projects v less c.then work₀ e spare₀ work₁ one → Goes (λ d. Merges v less c.next work₁ spare₁ at e work₂ spare₂ work₃ both rest) one rest
    → length work₁ ≡ length work₀ → length spare₁ ≡ length spare₀
    → Folds v left i work₀ at e spare₀ work₃ rest
fold_step {v} {i} {left} {less} {work₀} {work₃ = work₃} {spare₀} {at = at} {e} a {read} {one} both {rest} on el is ea project more len₁ spare₁ =
    record { gives = go i on is }
  where
    go : (i : ℕ) → (i ≡ 0 → ⊥) → ArmRead v.table.now i read → (cs : Arms ℕ) (s : List ℕ) (P : Part) → Known v → Behind v.table.now i cs
        → rows_in_arms cs ≤ left → GoodArms cs → CodedArms cs → Rising P → at ≡ length s → Stack work₀ e (s ++ codes P)
        → Space ((size P + rows_in_arms cs) * 2) at work₀ spare₀
        → Outcome codes s work₃ rest (bind (part_arms v.role cs) (λ ps. merge_from P ps))
    go i z read cs s P o behind_none f g m u x k sp = absurd (z refl)
    go i z read cs s P o (behind_some h c) f g m u x k sp =
        let (l, H, ds, e', kind, grows, behind) = first_arm c in
        let (c', ec', word_is, then_is, next_is) = arm_there read kind in
        let same : c' ≡ a = some_same ec' ea in
        let as_then : a.then ≡ word v.table.now i 2 = rw same at then_is in
        let as_next : a.next ≡ word v.table.now i 3 = rw same at next_is in
        subst (λ (X : Arms ℕ). rows_in_arms X ≤ suc less → GoodArms X → CodedArms X → Rising P → at ≡ length s → Stack work₀ e (s ++ codes P)
        → Space ((size P + rows_in_arms X) * 2) at work₀ spare₀ → Outcome codes s work₃ rest (bind (part_arms v.role X) (λ ps. merge_from P ps)))
        (sym e') (fold_arm both project more len₁ spare₁ o (rw as_then grows) (rw as_next behind) s P) (rw el at f) g m u x k sp

-- no arm there
pub fold_nowhere : {v : Projection} {i left : ℕ} {work work' : List ℕ} (spare : List ℕ) {at e : ℕ} {read : Maybe Arm} {res : Maybe ℕ} → (i ≡ 0 → ⊥)
    → ArmRead v.table.now i read → read ≡ None → Folds v left i work at e spare work' res
fold_nowhere {v} {i} {left} {work} {work'} spare {at} {e} {read} {res} on is en = record { gives = go i on is }
  where
    go : (i : ℕ) → (i ≡ 0 → ⊥) → ArmRead v.table.now i read → (cs : Arms ℕ) (s : List ℕ) (P : Part) → Known v → Behind v.table.now i cs
        → rows_in_arms cs ≤ left → GoodArms cs → CodedArms cs → Rising P → at ≡ length s → Stack work e (s ++ codes P)
        → Space ((size P + rows_in_arms cs) * 2) at work spare
        → Outcome codes s work' res (bind (part_arms v.role cs) (λ ps. merge_from P ps))
    go i z read cs s P o behind_none f g m u x k sp = absurd (z refl)
    go i z read cs s P o (behind_some h c) f g m u x k sp =
        let (l, H, ds, e', kind, grows, behind) = first_arm c in
        absurd (none_some en (arm_there read kind).1)
