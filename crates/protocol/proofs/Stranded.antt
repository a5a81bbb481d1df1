-- K13 holds of every table that opens, whoever picks the arms. Assumes nothing.
use Prim.Native.Nat.{ℕ, ◌<◌}
use mathlib.Core.List.{List, [], ◌∷◌, ◌++◌}
use mathlib.Core.Path.{◌≡◌, refl, ◌∙◌}
use native.Mathlib.Omega.{arith}
use lib.ListN.{length}
use Rattle.table.specs.Limits.{Limits, base}
use Rattle.table.specs.Tree.{Global, Arms, nil, arm, tree_of}
use Rattle.opening.specs.Opening.{blocks}
use Rattle.blocks.specs.Block.{End, part_row}
use Rattle.blocks.specs.Head.{head}
use Rattle.session.specs.State.{head_of}
use Rattle.session.specs.Calls.{fresh_of}
use Rattle.session.specs.declared.Session.{Session}
use Rattle.protocol.specs.Steps.{Action, send, receive, subject, here, some_arm}
use Rattle.protocol.specs.Engine.{Call, receives, caller, Engine, ours}
use Rattle.protocol.specs.Demand3.{after, ComesTo, Conforms}
use Rattle.protocol.specs.Stranded.{
  Place,
  IsReceived,
  Acts,
  NothingStranded,
  K13,
  call_of,
  Advanced,
  ByAnyArm,
  Picks,
  K13ByAnyArm,
}
use Rattle.protocol.proofs.Invariant.Reached.{held_gets, role_moves}
use Rattle.protocol.proofs.Invariant.Theorems.{one≢0}
use Rattle.protocol.proofs.Invariant.Holds.{Holds, h_quiet}
use Rattle.protocol.proofs.Invariant.Unread.{unread_holds}
use Rattle.protocol.proofs.Blocks.Opening.{Opened, opened}
use Rattle.protocol.proofs.Blocks.Tables.{TreeKept, length_tables}
use Rattle.protocol.proofs.Blocks.Views.{view_of}
use Rattle.protocol.proofs.Sessions.Awaited.{Enough}
use Rattle.protocol.proofs.Sessions.Runs.{Ground, Inv, agrees_after}
use Rattle.protocol.proofs.Sessions.Followed.{stands_end}
use Rattle.protocol.proofs.Sessions.Reached.{calls_of, receives_of_lem, leads_advanced, done}
use Rattle.protocol.proofs.Demand3.{every_enough, ground, fresh_inv, written, tree_kept, demand3}

caller_of : (a : Action ℕ) → caller (call_of a) ≡ subject a
caller_of (send p q l v) = refl
caller_of (receive p q l v) = refl

same_label : {p q l l' v v' : ℕ} → receive p q l v ≡ receive p q l' v' → l ≡ l'
same_label e = cc

same_payload : {p q l l' v v' : ℕ} → receive p q l v ≡ receive p q l' v' → v ≡ v'
same_payload e = cc

module _ (lim : Limits) (ts : List ℕ) (roles : ℕ) (ground : Ground lim ts roles) (deep : 0 < lim.depth) {may : Call → Type 0} (enough : Enough lim may)
    (pick : Arms ℕ → ℕ) (picks : Picks pick) (s : Session) (G : Global ℕ) (inv : Inv lim ts roles s G) where
  receivable : {w : List (ℕ × ℕ)} (p q k : ℕ) (m : ℕ × ℕ) → Holds p q G w → Place w k m
      → (c : IsReceived may (ours lim ts roles) s p q k m) × Advanced pick 0 G (c.before ++ (receives p q ∷ []))
  receivable p q k m h i =
      let g = held_gets pick 0 picks h i in
      let d = done lim ts roles ground deep enough pick g.leads inv in (
        record {
          before = calls_of g.before;
          may_be_made = d.may_be_made;
          all_accepted = d.all_accepted;
          receives_before = receives_of_lem p q g.before ∙ g.count;
          may_be_last = d.may_be_last;
          last_accepted = d.last_accepted;
          label = same_label d.is;
          payload = same_payload d.is;
        },
        leads_advanced pick 0 g.leads,
      )

  acting : (r : ℕ) → r < roles → ¬ (part_row ts roles r (head_of s r) ≡ End 0 0 0)
      → (c : Acts may (ours lim ts roles) s r) × Advanced pick 0 G (c.before ++ (c.call.0 ∷ []))
  acting r h n =
      let g = role_moves pick 0 picks (view_of ts roles r) (head ts roles r) (inv.agrees.covered r 1) one≢0
      (λ at. n (stands_end lim ts roles ground deep s G inv r h at)) in
      let d = done lim ts roles ground deep enough pick g.leads inv in (
        record {
          before = calls_of g.before;
          may_be_made = d.may_be_made;
          all_accepted = d.all_accepted;
          call = (call_of g.action, d.may_be_last, caller_of g.action ∙ g.by, d.last_accepted);
        },
        leads_advanced pick 0 g.leads,
      )

module _ (lim : Limits) (t : List ℕ) (roles : ℕ) (o : Opened lim t roles) (kept : TreeKept lim t roles) (deep : 0 < lim.depth) where
  abbrev first : Session
  first = (fresh_of lim (blocks t roles) roles).state

  come : {cs : List Call} {G : Global ℕ} → ComesTo (ours lim (blocks t roles) roles) first (tree_of t) cs G
      → Inv lim (blocks t roles) roles (after (ours lim (blocks t roles) roles) cs first) G
  come c = agrees_after lim (blocks t roles) roles (ground lim t roles o kept) c (fresh_inv lim t roles o kept)

  pub by_any_arm : {may : Call → Type 0} → Enough lim may → (pick : Arms ℕ → ℕ) → Picks pick → ByAnyArm may (ours lim (blocks t roles) roles) t roles pick
  by_any_arm enough pick picks = record {
    received = λ cs G _ c p q k m i.
        receivable lim (blocks t roles) roles (ground lim t roles o kept) deep enough pick picks _ G (come c) p q k m
        (unread_holds c (h_quiet kept.static)) i;
    acts = λ cs G _ c r h n. acting lim (blocks t roles) roles (ground lim t roles o kept) deep enough pick picks _ G (come c) r h n;
  }

-- the first arm, say
abbrev first_arm : Arms ℕ → ℕ
first_arm nil = 0
first_arm (arm l G cs) = l

picks_first : Picks first_arm
picks_first cs (some_arm {G = G}) = (G, here refl)

-- then nothing is stranded: of any engine whose calls come to a tree
pub strands_nothing : {S : Type 0} {lim : Limits} {may : Call → Type 0} (e : Engine S) {t : List ℕ} {roles : ℕ} → Conforms lim may e t roles
    → ((pick : Arms ℕ → ℕ) → Picks pick → ByAnyArm may e t roles pick) → NothingStranded may e roles
strands_nothing e c any cs ms =
    let (G, r) = c.comes cs ms in
    let b = any first_arm picks_first in
    record {
      received = λ p q k m i. (b.received cs G ms r p q k m i).0;
      acts = λ r' h n. (b.acts cs G ms r r' h n).0;
    }

-- for any limits that leave a queue a slot
pub k13_by_any_arm : (lim : Limits) → 0 < lim.depth → K13ByAnyArm lim
k13_by_any_arm lim deep t roles room e pick picks =
    let o = opened lim t roles (length room) e in
    let k = tree_kept lim t roles o.checked in
    rw (written lim t roles room e (length_tables lim t roles o k)) (by_any_arm lim t roles o k deep every_enough pick picks)

pub k13 : (lim : Limits) → 0 < lim.depth → K13 lim
k13 lim deep t roles room e = strands_nothing _ (demand3 lim deep t roles room e) (k13_by_any_arm lim deep t roles room e)

-- and so for the customer's limits
pub k13_base : K13 base
k13_base = k13 base (omega arith)

pub k13_by_any_arm_base : K13ByAnyArm base
k13_by_any_arm_base = k13_by_any_arm base (omega arith)
