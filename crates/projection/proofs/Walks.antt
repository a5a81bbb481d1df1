-- Rows that lead on to one other row: the part of the one is that of the other, with words before and marks behind. Assumes nothing.
use Prim.Native.Nat.{ℕ, suc, ◌+◌, ◌*◌, ◌<◌, ◌≤◌}
use mathlib.Core.Bool.{true, false, ◌||◌}
use lib.Dec.{eqb}
use borrow.Author.Tests.{eq-eqb, ne_eqb}
use mathlib.Core.List.{List, [], ◌∷◌, ◌++◌, append_assoc, append-nil}
use mathlib.Core.Option.{Option, none, some, bind}
use mathlib.Core.Path.{◌≡◌, refl, sym, ◌∙◌, ap, subst}
use native.Mathlib.Omega.{arith}
use lib.ListN.{length, get_or, length-append, replicate-append-replicate}
use Rattle.words.specs.Rows.{word}
use Rattle.table.specs.Tree.{Global, exchange, loop, Arms, nil, arm, rows_in, rows_in_arms}
use Rattle.table.specs.mirror.Kept.{Good, g_exchange, g_loop, g_arm}
use Rattle.parts.specs.Part.{Part, p_loop, PartArms, p_nil, p_arm, rising}
use Rattle.parts.specs.Absent.{takes_part, leaves}
use Rattle.parts.specs.Projection.{part, part_arms, part_exchange, merge_from, merge_all}
use Rattle.parts.specs.mirror.Codes.{code, codes, codes_arms}
use Rattle.parts.specs.mirror.Grows.{Grows, Chain, chain_last, chain_more, ordered}
use Rattle.parts.proofs.Grown.{ordered_rows, ordered_parts}
use Rattle.parts.proofs.Laws.{part_size}
use Rattle.parts.proofs.Rising.{holds_some}
use Rattle.parts.proofs.Sizes.{words_twice}
use Rattle.projection.specs.mirror.Orders.{Listed, listed_none, listed_arm}
use Rattle.projection.specs.mirror.Projects.{Coded, s_exchange, s_loop, s_arm, Plain, plain_arm, Stack, Pushed, Outcome, fails, puts, SMALL, PlannedBy, Known, Planned, ArmRead, no_arm, an_arm, leads_on, marks, Wraps, wraps_none, wraps_some, Within, Enters, Walks, Closed, Chooses, Projects}
use Rattle.projection.specs.declared.Arm.{Arm}
use Rattle.projection.specs.declared.Plan.{Plan}
use Rattle.projection.specs.declared.Plan.TheVariants.{Body, Action, Others}
use Rattle.projection.specs.declared.Projection.{Projection}
use Rattle.projection.specs.declared.Step.{Step}
use Rattle.projection.specs.declared.Way.{Way}
use Rattle.projection.proofs.Steps.{none_some, some_same, rows_positive, restack, space_within, ordered_plain, arm_there}
use Rattle.std.specs.Prelude.{Some, None, is_some}
use Rattle.std.specs.Prelude.{Option as Maybe}
use Rattle.std.proofs.lemmas.Option.{none-some, same_Some}

-- ---- words before a part and marks behind it

wraps_same : {o p : Option Part} → p ≡ o → Wraps [] 0 o p
wraps_same {o} e = subst (λ (p : Option Part). Wraps [] 0 o p) (sym e) (go o)
  where
    go : (o : Option Part) → Wraps [] 0 o o
    go none = wraps_none
    go (some P) = wraps_some (sym (append-nil (codes P)))

regroup : (ws vs ps : List ℕ) (n m : ℕ) → ws ++ ((vs ++ (ps ++ marks m)) ++ marks n) ≡ (ws ++ vs) ++ (ps ++ marks (n + m))
regroup ws vs ps n m =
    let sum : m + n ≡ n + m = omega arith in
    let both : marks m ++ marks n ≡ marks (n + m) = replicate-append-replicate m n (code 1 0) ∙ ap marks sum in
    rw (append_assoc vs (ps ++ marks m) (marks n), append_assoc ps (marks m) (marks n), both, append_assoc ws vs (ps ++ marks (n + m))) refl

-- what stands around a part stands around what is around it
wraps_then : {ws vs : List ℕ} {n m : ℕ} {o p q : Option Part} → Wraps ws n p q → Wraps vs m o p → Wraps (ws ++ vs) (n + m) o q
wraps_then wraps_none wraps_none = wraps_none
wraps_then {ws} {vs} {n} {m} (wraps_some f) (wraps_some {P = P} e) = wraps_some {P = P} (f ∙ rw e (regroup ws vs (codes P) n m))

inside_start : (r : ℕ) {G : Global ℕ} {left : ℕ} → rows_in G ≤ left → Good G → Coded G → Within r G left [] 0 G
inside_start r f g m = record { good = g; small = m; wraps = wraps_same refl; rows = f; fits = omega arith }

inside_on : {r : ℕ} {G H B : Global ℕ} {left less n m : ℕ} {ws vs : List ℕ} → Within r G left ws n H → Within r H less vs m B → Within r G less (ws ++ vs) (n + m) B
inside_on {ws = ws} {vs} outer inner = record {
  good = inner.good;
  small = inner.small;
  wraps = wraps_then outer.wraps inner.wraps;
  rows = inner.rows;
  fits = omega (arith, outer.fits, inner.fits, length-append ws vs);
}

-- ---- the three plans that lead on

-- a Loop that stays
wraps_loop : (r : ℕ) (B : Global ℕ) → (takes_part r B || leaves 1 B) ≡ true → Wraps (code 3 0 ∷ []) 0 (part r B) (part r (loop B))
unfolding part codes bind
wraps_loop r B takes = rw takes (go (part r B))
  where
    go : (o : Option Part) → Wraps (code 3 0 ∷ []) 0 o (bind o (λ P. some (p_loop P)))
    go none = wraps_none
    go (some P) = wraps_some (ap (λ (x : List ℕ). 3 ∷ x) (sym (append-nil (codes P))))

inside_loop : {r left : ℕ} {B : Global ℕ} → (takes_part r B || leaves 1 B) ≡ true → rows_in (loop B) ≤ suc left → Good (loop B) → Coded (loop B)
    → Within r (loop B) left (code 3 0 ∷ []) 0 B
unfolding rows_in
inside_loop {r} {B = B} takes f (g_loop g) (s_loop m) = record { good = g; small = m; wraps = wraps_loop r B takes; rows = omega arith; fits = omega arith }

-- a step that was taken, from what it gives
entered : {v : Projection} {plan : Plan} {work work' : List ℕ} {at : ℕ} (e : Step) → leads_on v plan ≡ true → e.marks ≤ 1
    → ((G : Global ℕ) (left : ℕ) (s : List ℕ) → PlannedBy plan v G → rows_in G ≤ suc left → Good G → Coded G
    → Stack work at s → at + rows_in G * 2 ≤ length work
    → (B : Global ℕ) × (ws : List ℕ) × Grows v.table.now e.row B × Stack work' e.at (s ++ ws) × Within v.role G left ws e.marks B)
    → Enters v plan work at work' (Some e)
entered {v} {plan} {work} {work'} {at} e on few gives = record {
  leads = sym on;
  stays = λ n. absurd (none-some e (sym n));
  few = λ d is. subst (λ (x : Step). x.marks ≤ 1) (same_Some e d is) few;
  gives = λ d is.
      subst
      (λ (x : Step). (G : Global ℕ) (left : ℕ) (s : List ℕ) → PlannedBy plan v G → rows_in G ≤ suc left → Good G → Coded G
      → Stack work at s → at + rows_in G * 2 ≤ length work
      → (B : Global ℕ) × (ws : List ℕ) × Grows v.table.now x.row B × Stack work' x.at (s ++ ws) × Within v.role G left ws x.marks B)
      (same_Some e d is) gives;
}

-- an arm that was read is one, and where there is none the row is none
pub arm_kind : {t : List ℕ} {i : ℕ} {read : Maybe Arm} (a : Arm) → ArmRead t i read → read ≡ Some a → eqb (word t i 0) 2 ≡ true
arm_kind {t} {i} a (no_arm n h) e = absurd (none_some n e)
arm_kind {t} {i} a (an_arm b s k w c m) e = eq-eqb (word t i 0) 2 k

-- the arm behind one that was read
pub arm_next : {t : List ℕ} {i : ℕ} {read : Maybe Arm} (a : Arm) → ArmRead t i read → read ≡ Some a → a.next ≡ word t i 3
arm_next a (no_arm n h) e = absurd (none_some n e)
arm_next {t} {i} a (an_arm b s k w c m) e = subst (λ (x : Arm). x.next ≡ word t i 3) (some_same s e) m

pub enter_loop : {v : Projection} {w next : ℕ} {work work' : List ℕ} {at e : ℕ} → Pushed work at w work' e
    → Enters v (Body w next) work at work' (Some (record { row = next; at = e; marks = 0 }))
enter_loop {v} {work = work} {work'} {at} {e} push =
    entered (record { row = _; at = e; marks = 0 }) refl (omega arith)
    (λ G left s by f g m k room.
    let (B, is, grows, takes, word_is) = by in
    let top = push.gives s k (omega (arith, rows_positive G)) in (
      B,
      code 3 0 ∷ [],
      grows,
      subst (λ (x : ℕ). Stack work' e (s ++ x ∷ [])) word_is top,
      subst (λ (X : Global ℕ). Within v.role X left (code 3 0 ∷ []) 0 B) (sym is) (inside_loop takes (rw is at f) (rw is at g) (rw is at m)),
    ))

-- the only arm of an action of the role's own
wraps_sole : (r p q l w : ℕ) (cs : Arms ℕ) (B : Global ℕ) (act : PartArms → Part) → ((ps : PartArms) → part_exchange r p q ps ≡ some (act (rising ps)))
    → ((ps : PartArms) → codes (act ps) ≡ w ∷ codes_arms ps) → ordered cs ≡ arm l B nil → Wraps (w ∷ code 2 l ∷ []) 1 (part r B) (part r (exchange p q cs))
unfolding part part_arms codes_arms bind
wraps_sole r p q l w cs B act ex is one =
    let arms : bind (part_arms r cs) (λ ps. some (rising ps)) ≡ part_arms r (arm l B nil) = sym (ordered_parts r cs) ∙ ap (part_arms r) one in
    let is_part = acts (part_arms r cs) ∙ ap (λ (x : Option PartArms). bind x (λ ps. some (act ps))) arms in
    subst (λ (x : Option Part). Wraps (w ∷ code 2 l ∷ []) 1 (part r B) x) (sym is_part) (go (part r B))
  where
    acts : (os : Option PartArms) → bind os (λ ps. part_exchange r p q ps) ≡ bind (bind os (λ ps. some (rising ps))) (λ ps. some (act ps))
    acts none = refl
    acts (some ps) = ex ps

    go : (o : Option Part) → Wraps (w ∷ code 2 l ∷ []) 1 o (bind (bind o (λ P. some (p_arm l P p_nil))) (λ ps. some (act ps)))
    go none = wraps_none
    go (some P) = wraps_some {P = P} (is (p_arm l P p_nil))

inside_sole : {r p q l w left : ℕ} {cs : Arms ℕ} {B : Global ℕ} (act : PartArms → Part) → ((ps : PartArms) → part_exchange r p q ps ≡ some (act (rising ps)))
    → ((ps : PartArms) → codes (act ps) ≡ w ∷ codes_arms ps) → ordered cs ≡ arm l B nil → Plain (arm l B nil) → rows_in (exchange p q cs) ≤ suc left
    → Within r (exchange p q cs) left (w ∷ code 2 l ∷ []) 1 B
unfolding rows_in rows_in_arms
inside_sole {r} {p} {q} {l} {w} {cs = cs} {B} act ex is one (plain_arm h g m ps) f =
    let rows : rows_in_arms (arm l B nil) ≡ rows_in_arms cs = sym (ap rows_in_arms one) ∙ ordered_rows cs in
    record { good = g; small = m; wraps = wraps_sole r p q l w cs B act ex is one; rows = omega arith; fits = omega arith }

none_listed : {t order : List ℕ} {i : ℕ} {cs : Arms ℕ} → Listed t order i cs → i ≡ 0 → cs ≡ nil
none_listed listed_none e = refl
none_listed (listed_arm h j a b d g x) e = absurd (omega arith)

only_arm : {t order : List ℕ} {i : ℕ} {cs : Arms ℕ} → Listed t order i cs → (i ≡ 0 → ⊥) → get_or order i 0 ≡ 0
    → (l : ℕ) × (B : Global ℕ) × (cs ≡ arm l B nil) × (word t i 0 ≡ 2) × (word t i 1 ≡ l) × Grows t (word t i 2) B
only_arm listed_none on last = absurd (on refl)
only_arm (listed_arm {l = l} {G = B} h j a b d g x) on last = (l, B, ap (arm l B) (none_listed x last), a, b, rw d g)

pub enter_sole : {v : Projection} {w next n : ℕ} {work work₁ work₂ : List ℕ} {at e₁ e₂ : ℕ} (a : Arm) {read : Maybe Arm} → (next ≡ 0 → ⊥) → n ≡ 0
    → n ≡ get_or v.order.now next 0 → ArmRead v.table.now next read → read ≡ Some a → Pushed work at w work₁ e₁
    → Pushed work₁ e₁ a.word work₂ e₂ → length work₁ ≡ length work → Enters v (Action w next) work at work₂ (Some (record { row = a.then; at = e₂; marks = 1 }))
unfolding rows_in rows_in_arms
enter_sole {v} {w} {next} {n} {work} {work₁} {work₂} {at} {e₁} {e₂} a {read} on last en is ea push₁ push₂ len =
    entered (record { row = a.then; at = e₂; marks = 1 })
    (rw (ne_eqb next 0 on, eq-eqb (get_or v.order.now next 0) 0 (sym en ∙ last), arm_kind a is ea) refl) (omega arith)
    (λ G left s by f g m k room.
    let (p, q, cs, act, is_exchange, listed, ex, words) = by in
    let (l, B, one, kind, label, grows) = only_arm listed on (sym en ∙ last) in
    let (c, ec, word_is, then_is, next_is) = arm_there is kind in
    let same : c ≡ a = some_same ec ea in
    let plain = arms (rw is_exchange at g) (rw is_exchange at m) one in
    let as_word : a.word ≡ code 2 l = rw same at (word_is (rw label (plain_label plain))) ∙ ap (code 2) label in
    let as_then : a.then ≡ word v.table.now next 2 = rw same at then_is in
    let put = stack p q cs as_word (rw is_exchange at room) one s k in (
      B,
      w ∷ code 2 l ∷ [],
      rw as_then grows,
      put,
      subst (λ (X : Global ℕ). Within v.role X left (w ∷ code 2 l ∷ []) 1 B) (sym is_exchange) (inside_sole {p = p} {q = q} act ex words one plain (rw is_exchange at f)),
    ))
  where
    arms : {p q l : ℕ} {cs : Arms ℕ} {B : Global ℕ} → Good (exchange p q cs) → Coded (exchange p q cs) → ordered cs ≡ arm l B nil → Plain (arm l B nil)
    arms (g_exchange x y gs) (s_exchange u v ms) one = subst Plain one (ordered_plain gs ms)

    plain_label : {l : ℕ} {B : Global ℕ} → Plain (arm l B nil) → l < SMALL
    plain_label (plain_arm h g m ps) = h

    stack : (p q : ℕ) (cs : Arms ℕ) {l : ℕ} {B : Global ℕ} → a.word ≡ code 2 l → at + rows_in (exchange p q cs) * 2 ≤ length work → ordered cs ≡ arm l B nil
        → (s : List ℕ) → Stack work at s → Stack work₂ e₂ (s ++ w ∷ code 2 l ∷ [])
    stack p q cs {l} {B} label room one s k =
        let rows : rows_in_arms (arm l B nil) ≡ rows_in_arms cs = sym (ap rows_in_arms one) ∙ ordered_rows cs in
        let k₁ = push₁.gives s k (omega arith) in
        let k₂ = push₂.gives (s ++ w ∷ []) k₁ (omega (arith, k.height, k₁.height, length-append s (w ∷ []))) in
        restack (append_assoc s (w ∷ []) (a.word ∷ []) ∙ ap (λ (x : ℕ). s ++ w ∷ x ∷ []) label) k₂

-- the only arm of an exchange of others
sole_part : (r p q l : ℕ) (G : Global ℕ) → ((ps : PartArms) → part_exchange r p q ps ≡ merge_all ps) → part r (exchange p q (arm l G nil)) ≡ part r G
unfolding part part_arms bind merge_all merge_from
sole_part r p q l G ex = go (part r G)
  where
    go : (o : Option Part) → bind (bind o (λ P. some (p_arm l P p_nil))) (λ ps. part_exchange r p q ps) ≡ o
    go none = refl
    go (some P) = ex (p_arm l P p_nil)

inside_passed : {r p q i left : ℕ} {t : List ℕ} {cs : Arms ℕ} → Chain t i cs → word t i 3 ≡ 0 → ((ps : PartArms) → part_exchange r p q ps ≡ merge_all ps)
    → rows_in (exchange p q cs) ≤ suc left → Good (exchange p q cs) → Coded (exchange p q cs)
    → (B : Global ℕ) × Grows t (word t i 2) B × Within r (exchange p q cs) left [] 0 B
unfolding rows_in rows_in_arms
inside_passed {r} {p} {q} (chain_last {l = l} {G = B} a b c d e grows) last ex f (g_exchange x y (g_arm z good gs)) (s_exchange u v (s_arm j small ms)) =
    (B, rw d grows, record { good = good; small = small; wraps = wraps_same (sole_part r p q l B ex); rows = omega arith; fits = omega arith })
inside_passed (chain_more a b c d e n grows chain) last ex f g m = absurd (omega arith)

chain_kind : {t : List ℕ} {i : ℕ} {cs : Arms ℕ} → Chain t i cs → word t i 0 ≡ 2
chain_kind (chain_last h a b c d g) = a
chain_kind (chain_more h a b c d m g x) = a

pub enter_passed : {v : Projection} {next : ℕ} {work : List ℕ} {at : ℕ} (a : Arm) {read : Maybe Arm} → ArmRead v.table.now next read → read ≡ Some a → a.next ≡ 0
    → Enters v (Others next) work at work (Some (record { row = a.then; at = at; marks = 0 }))
enter_passed {v} {next} {work} {at} a is ea last =
    entered (record { row = a.then; at = at; marks = 0 })
    (rw (arm_kind a is ea, eq-eqb (word v.table.now next 3) 0 (sym (arm_next a is ea) ∙ last)) refl) (omega arith)
    (λ G left s by f g m stack room.
    let (p, q, cs, is_exchange, chain, ex) = by in
    let (c, ec, word_is, then_is, next_is) = arm_there is (chain_kind chain) in
    let same : c ≡ a = some_same ec ea in
    let as_then : a.then ≡ word v.table.now next 2 = rw same at then_is in
    let as_next : a.next ≡ word v.table.now next 3 = rw same at next_is in
    let (B, grows, inside) = inside_passed {p = p} {q = q} chain (sym as_next ∙ last) ex (rw is_exchange at f) (rw is_exchange at g) (rw is_exchange at m) in
    (B, [], subst (λ (x : ℕ). Grows v.table.now x B) (sym as_then) grows, restack (sym (append-nil s)) stack, subst (λ (X : Global ℕ). Within v.role X left [] 0 B) (sym is_exchange) inside))

-- ---- the walk

-- the tree of the row here is below that of row i, with words and marks around its part, and so many links are left for it
pub record Comes (v : Projection) (left i : ℕ) (work₀ : List ℕ) (at : ℕ) (here : ℕ) (work : List ℕ) (top n more : ℕ) : Type 0 where
  pub long : length work ≡ length work₀
  pub within : n + more ≤ left
  pub gives : (G : Global ℕ) (s : List ℕ) → Known v → Grows v.table.now i G → rows_in G ≤ left → Good G → Coded G → Stack work₀ at s
      → at + rows_in G * 2 ≤ length work₀ → (B : Global ℕ) × (ws : List ℕ) × Grows v.table.now here B × Stack work top (s ++ ws) × Within v.role G more ws n B

pub comes_start : (v : Projection) (left i : ℕ) (work : List ℕ) (at : ℕ) → Comes v left i work at i work at 0 left
comes_start v left i work at = record {
  long = refl;
  within = omega arith;
  gives = λ G s o h f g m k room. (G, [], h, restack (sym (append-nil s)) k, inside_start v.role f g m);
}

pub comes_on : {v : Projection} {left i here at top n more less : ℕ} {plan : Plan} {work₀ work work' : List ℕ} {res : Maybe Step} (e : Step)
    → Comes v left i work₀ at here work top n more → Planned v here plan → Enters v plan work top work' res → res ≡ Some e
    → length work' ≡ length work → more ≡ suc less → Comes v left i work₀ at e.row work' e.at (n + e.marks) less
comes_on {v} {less = less} {work₀ = work₀} {work} {work'} e comes plan enter is len el =
    let few = enter.few e is in
    record {
      long = len ∙ comes.long;
      within = omega (arith, comes.within, few);
      gives = λ G s o h f g m k room.
          let (H, ws, grows, stack, outer) = comes.gives G s o h f g m k room in
          let n = length-append s ws in
          let (B, vs, grows', stack', inner) = enter.gives e is H less (s ++ ws) (plan.says H o grows outer.small)
          (rw el at outer.rows) outer.good outer.small stack
          (omega (arith, outer.fits, comes.long, stack.height, k.height)) in
          (B, ws ++ vs, grows', restack (append_assoc s ws vs) stack', inside_on outer inner);
    }

-- where the walk ends
pub walks : {v : Projection} {left i here at top n more less : ℕ} {plan : Plan} {work₀ work work' : List ℕ} {res : Maybe Step}
    → Comes v left i work₀ at here work top n more → Planned v here plan → Enters v plan work top work' res → res ≡ None → more ≡ suc less
    → Walks v left i work₀ at work' (Some (record { plan = plan; at = top; marks = n; left = less }))
walks {v} {left} {n = n} {less = less} {plan = plan} {work} {work' = work'} comes plans enter stops el = record {
  stops = λ e is. subst (λ (x : Way). leads_on v x.plan ≡ false) (same_Some _ e is) (sym enter.leads ∙ ap is_some stops);
  within = λ e is. subst (λ (x : Way). x.left < left) (same_Some _ e is) (omega (arith, comes.within));
  gives = λ G s o h f g m st room.
      let (B, ws, grows, stack, inside) = comes.gives G s o h f g m st room in
      let same = enter.stays stops in
      (_, B, ws, refl, plans.says B o grows inside.small, rw same stack, rw el at inside);
}

-- no tree has no rows
pub walks_nowhere : {v : Projection} {left i here at top n more : ℕ} {work₀ work : List ℕ}
    → Comes v left i work₀ at here work top n more → more ≡ 0 → Walks v left i work₀ at work None
walks_nowhere comes e = record {
  stops = λ d is. absurd (none-some d is);
  within = λ d is. absurd (none-some d is);
  gives = λ G s o h f g m st room.
      let (B, ws, grows, stack, inside) = comes.gives G s o h f g m st room in
      absurd (omega (arith, rows_positive B, inside.rows));
}

-- ---- the marks behind a part

-- the marks behind what a call put, or nothing where it put nothing
pub data Marked (n : ℕ) (work work' : List ℕ) (one res : Maybe ℕ) : Type 0 where
  unmarked : one ≡ None → res ≡ None → Marked n work work' one res
  marked : (d e : ℕ) → one ≡ Some d → res ≡ Some e → Closed n work d work' e → Marked n work work' one res

behind : {s ws : List ℕ} {n : ℕ} {o p : Option Part} {work work' : List ℕ} {one res : Maybe ℕ} → Wraps ws n o p → Marked n work work' one res
    → ((P : Part) → o ≡ some P → length (s ++ ws) + (length (codes P) + n) ≤ length work) → Outcome codes (s ++ ws) work one o
    → Outcome codes s work' res p
behind wraps_none (unmarked a b) room (fails h) = fails b
behind wraps_none (marked d e a b close) room (fails h) = absurd (none_some h a)
behind (wraps_some is) (unmarked a b) room (puts h k) = absurd (none_some a h)
behind {s} {ws} {n} {work = work} (wraps_some {P = P} {Q = Q} is) (marked d e a b close) room (puts h k) =
    let k' = subst (λ (x : ℕ). Stack work x ((s ++ ws) ++ codes P)) (some_same h a) k in
    puts {x = Q} b
    (restack (append_assoc (s ++ ws) (codes P) (marks n) ∙ append_assoc s ws (codes P ++ marks n) ∙ ap (λ (x : List ℕ). s ++ x) (sym is))
    (close.gives ((s ++ ws) ++ codes P) k' (omega (arith, room P refl, k'.height, length-append (s ++ ws) (codes P)))))

-- a part is that of the plan at the end of the walk, with the marks behind it
pub project_step : {v : Projection} {left i : ℕ} {work work₁ work₂ work₃ spare : List ℕ} {at : ℕ} {found : Maybe Way} (way : Way) {one res : Maybe ℕ}
    → Walks v left i work at work₁ found → found ≡ Some way → Chooses v way.plan way.left work₁ way.at spare work₂ one
    → Marked way.marks work₂ work₃ one res → length work₁ ≡ length work → length work₂ ≡ length work₁
    → Projects v left i work at spare work₃ res
project_step {v} {work₁ = work₁} {spare = spare} way {one} walk is choose mark len₁ len₂ = record {
  gives = λ G s o h f g m k sp.
      let (e, B, ws, found, by, stack, inside) = walk.gives G s o h f g m k sp.fits in
      let same : e ≡ way = some_same found is in
      let (by', stack', inside') = subst (λ (x : Way). PlannedBy x.plan v B × Stack work₁ x.at (s ++ ws) × Within v.role G (suc x.left) ws x.marks B) same (by, stack, inside) in
      let n = length-append s ws in
      behind {s = s} {ws = ws} inside'.wraps mark
      (λ P e. let z = holds_some (part_size v.role B) e in let y = words_twice P in omega (arith, inside'.fits, k.height, sp.fits))
      (choose.gives B (s ++ ws) o by' inside'.rows inside'.good inside'.small stack'
      (space_within sp len₁ refl (omega (arith, inside'.fits, stack'.height, k.height)) (omega (arith, inside'.fits))));
}
