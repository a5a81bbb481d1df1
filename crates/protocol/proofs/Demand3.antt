-- The engine accepts exactly what the step rules allow, for every table that opens. Assumes nothing.
use Prim.Native.Nat.{ℕ, ◌+◌, ◌*◌, ◌≤◌, ◌<◌}
use mathlib.Core.Bool.{true}
use mathlib.Core.List.{List}
use mathlib.Core.Logic.{◌≢◌}
use mathlib.Core.Path.{◌≡◌}
use native.Mathlib.Decide.{ℕ_discrete, dec_lt}
use native.Mathlib.Omega.{arith}
use lib.ListN.{length, take, drop}
use lib.Seq.{take_at}
use Rattle.table.specs.mirror.Kept.{Ranged, r_end, r_exchange, r_flight, r_loop, r_back, RangedArms, r_nil, r_arm}
use Rattle.table.specs.Limits.{Limits, base}
use Rattle.table.specs.Numbers.{ACCEPTED}
use Rattle.table.specs.Check.{accepted, check_of}
use Rattle.table.specs.Tree.{Global, Arms, tree_of}
use Rattle.table.proofs.Trees.{tree_static, tree_inside, tree_good, tree_ranged}
use Rattle.table.proofs.Weight.{tree_rows}
use Rattle.parts.specs.Projection.{part_of}
use Rattle.opening.specs.Opening.{open_of, blocks, room_of}
use Rattle.blocks.specs.Block.{part_row, block_rows, is_head}
use Rattle.blocks.specs.Head.{head}
use Rattle.blocks.specs.Tables.{row_good}
use Rattle.session.specs.State.{head_of}
use Rattle.session.specs.Calls.{fresh_of}
use Rattle.session.specs.declared.Session.{Session}
use Rattle.protocol.specs.Each.{Each}
use Rattle.protocol.specs.Engine.{Call, Engine, ours}
use Rattle.protocol.specs.Left.{is_send, is_receive, accepted_of, NothingLeft, left_end, left_exchange, left_flight, left_loop, left_back, NothingLeftArms, left_nil, left_arm}
use Rattle.protocol.specs.Demand3.{Every, every, after, Conforms, Demand3}
use Rattle.protocol.proofs.Invariant.Covers.{Covers, c_gone}
use Rattle.protocol.proofs.Invariant.Holds.{h_quiet}
use Rattle.protocol.proofs.Invariant.Unread.{unread_holds, unread_count}
use Rattle.protocol.proofs.Parts.Projected.{projected_fits}
use Rattle.protocol.proofs.Start.Begins.{begins}
use Rattle.protocol.proofs.Blocks.Opening.{Opened, opened}
use Rattle.protocol.proofs.Blocks.Tables.{TreeKept, length_tables, block_rows_lem, opened_rows, opened_tables, opened_heads, opened_encodes}
use Rattle.protocol.proofs.Blocks.Views.{view_of, has_head_lem}
use Rattle.protocol.proofs.Sessions.Walks.{head_in, first_row}
use Rattle.protocol.proofs.Sessions.States.{fresh_state, fresh_head, fresh_held, fresh_kept}
use Rattle.protocol.proofs.Sessions.Config.{fresh_queue}
use Rattle.protocol.proofs.Sessions.Calls.{view_absent}
use Rattle.protocol.proofs.Sessions.Runs.{Ground, Inv, comes_to, comes_once, agrees_after}
use Rattle.protocol.proofs.Sessions.Awaited.{Enough}
use Rattle.protocol.proofs.Sessions.Followed.{count_held, followed}

-- a number that is none of the roles has nothing to do
mutual
  left_role : {A : Type 0} {roles labels : ℕ} {G : Global A} (r : ℕ) → roles ≤ r → Ranged roles labels G → NothingLeft r G
  left_role r h r_end = left_end
  left_role r h (r_exchange {p = p} {q = q} i j t) =
      let n : r ≢ p = omega arith in
      let m : r ≢ q = omega arith in
      left_exchange n m (left_role_arms r h t)
  left_role r h (r_flight {p = p} {q = q} i j k t) =
      let m : r ≢ q = omega arith in
      left_flight m (left_role r h t)
  left_role r h (r_loop t) = left_loop (left_role r h t)
  left_role r h r_back = left_back

  left_role_arms : {A : Type 0} {roles labels : ℕ} {cs : Arms A} (r : ℕ) → roles ≤ r → RangedArms roles labels cs → NothingLeftArms r cs
  left_role_arms r h r_nil = left_nil
  left_role_arms r h (r_arm i t ts) = left_arm (left_role r h t) (left_role_arms r h ts)

module _ (lim : Limits) (t : List ℕ) (roles : ℕ) (o : Opened lim t roles) (kept : TreeKept lim t roles) where
  pub ground : Ground lim (blocks t roles) roles
  ground = record {
    tables = opened_tables lim t roles o kept;
    good = λ r x h i. opened_rows lim t roles o kept r x h i;
    few_roles = o.few_roles;
  }

  pub fresh_is : (fresh_of lim (blocks t roles) roles).state ≡ fresh_state lim (blocks t roles) roles
  unfolding fresh_of
  fresh_is = rw (opened_tables lim t roles o kept)

  first_heads_lem : (r : ℕ) → r < roles
      → (head (blocks t roles) roles r 0 < block_rows (blocks t roles) roles) × (is_head (part_row (blocks t roles) roles r (head (blocks t roles) roles r 0)) ≡ true)
  first_heads_lem r h =
      let rows : (x : ℕ) → x < block_rows (blocks t roles) roles → row_good lim (blocks t roles) roles r x ≡ true = λ x i. ground.good r x h i in
      let some_row : 0 < block_rows (blocks t roles) roles = omega (arith, block_rows_lem lim t roles o kept, o.some_row) in (
        head_in lim (blocks t roles) roles r rows 0 some_row,
        has_head_lem (blocks t roles) roles r h lim rows 0 some_row (first_row lim (blocks t roles) roles r rows some_row),
      )

  covers_fresh : (r n : ℕ) → Dec (r < roles)
      → Covers {A = ℕ} (view_of (blocks t roles) roles r) (head (blocks t roles) roles r) r n (tree_of t) (head_of (fresh_state lim (blocks t roles) roles) r)
  unfolding part_of
  covers_fresh r n (yes h) =
      let (P, e) = o.parts r h in
      rw (fresh_head lim (blocks t roles) roles o.few_roles r h) (
      begins ℕ (view_of (blocks t roles) roles r) (head (blocks t roles) roles r) r (opened_heads lim t roles o kept r h)
      (projected_fits P kept.good e) kept.inside (opened_encodes lim t roles o kept r P h e) n)
  covers_fresh r n (no h) = c_gone (left_role r (omega arith) kept.ranged) (view_absent (blocks t roles) roles r _ (omega arith))

  pub fresh_inv : Inv lim (blocks t roles) roles (fresh_of lim (blocks t roles) roles).state (tree_of t)
  fresh_inv =
      rw fresh_is (record {
        kept = fresh_kept lim (blocks t roles) roles o.few_roles first_heads_lem;
        agrees = record {
          covered = λ r n. covers_fresh r n (dec_lt r roles);
          held = λ p q.
              rw (fresh_queue lim roles (fresh_state lim (blocks t roles) roles) p q (fresh_held lim (blocks t roles) roles o.few_roles p q))
              (h_quiet kept.static);
        };
      })

  fresh_number : (fresh_of lim (blocks t roles) roles).number ≡ ACCEPTED
  unfolding fresh_of
  fresh_number = rw (opened_tables lim t roles o kept)

  pub conforms : {may : Call → Type 0} → Enough lim may → 0 < lim.depth → Conforms lim may (ours lim (blocks t roles) roles) t roles
  conforms enough deep = record {
    fresh_accepted = fresh_number;
    comes = λ cs _. comes_to lim (blocks t roles) roles ground cs first (tree_of t) fresh_inv;
    comes_once = λ cs G H a b. comes_once a b;
    follows = λ cs G _ a.
        followed lim (blocks t roles) roles ground deep _ G (agrees_after lim (blocks t roles) roles ground a fresh_inv) enough;
    held_exactly = λ cs p q _ hp hq.
        let (G, a) = comes_to lim (blocks t roles) roles ground cs first (tree_of t) fresh_inv in
        count_held lim (blocks t roles) roles ground deep _ G (agrees_after lim (blocks t roles) roles ground a fresh_inv) p q hp hq
        (unread_holds a (h_quiet kept.static)) (ℕ_discrete p q);
  }
    where
      first : Session
      first = (fresh_of lim (blocks t roles) roles).state

pub written : (lim : Limits) (t : List ℕ) (roles : ℕ) (room : List ℕ) → open_of lim t roles (length room) ≡ accepted
    → length (blocks t roles) ≡ roles * length t → take (roles * length t) (room_of lim t roles room) ≡ blocks t roles
unfolding room_of
written lim t roles room e h = rw e (take_at (blocks t roles) (drop (roles * length t) room) (roles * length t) h)

pub tree_kept : (lim : Limits) (t : List ℕ) (roles : ℕ) → check_of lim t roles ≡ accepted → TreeKept lim t roles
tree_kept lim t roles e = record {
  good = tree_good lim t roles e;
  inside = tree_inside lim t roles e;
  static = tree_static lim t roles e;
  ranged = tree_ranged lim t roles e;
  fits = tree_rows ℕ lim t roles e;
}

-- for any limits that leave a queue a slot, and any calls among which are those of the limit's roles and labels
pub demand3_of : (lim : Limits) (may : Call → Type 0) → Enough lim may → 0 < lim.depth
    → (t : List ℕ) (roles : ℕ) (room : List ℕ) → open_of lim t roles (length room) ≡ accepted
    → Conforms lim may (ours lim (take (roles * length t) (room_of lim t roles room)) roles) t roles
demand3_of lim may enough deep t roles room e =
    let o = opened lim t roles (length room) e in
    let k = tree_kept lim t roles o.checked in
    rw (written lim t roles room e (length_tables lim t roles o k)) (conforms lim t roles o k enough deep)

-- every call
pub every_enough : {lim : Limits} → Enough lim Every
every_enough = record { sends = λ p q l _ _ _. every; receives = λ p q _ _. every }

pub demand3 : (lim : Limits) → 0 < lim.depth → Demand3 lim
demand3 lim deep = demand3_of lim Every every_enough deep

-- and so for the customer's limits
pub demand3_base : Demand3 base
demand3_base = demand3 base (omega arith)

-- what a queue holds, counted: with what was received it is what was sent. Of any engine that conforms to a table that opens
pub held_counted : {S : Type 0} (lim : Limits) (may : Call → Type 0) (e : Engine S) (t : List ℕ) (roles room : ℕ) → open_of lim t roles room ≡ accepted
    → Conforms lim may e t roles → (cs : List Call) (p q : ℕ) → Each may cs → p < roles → q < roles
    → e.held (after e cs e.fresh.state) p q + accepted_of e (is_receive p q) cs e.fresh.state ≡ accepted_of e (is_send p q) cs e.fresh.state
held_counted lim may e t roles room opens c cs p q ms h i =
    let k = tree_kept lim t roles (opened lim t roles room opens).checked in
    let (G, r) = c.comes cs ms in
    let counted = unread_count {p = p} {q = q} r (h_quiet k.static) in
    rw (c.held_exactly cs p q ms h i) (omega (arith, counted))
