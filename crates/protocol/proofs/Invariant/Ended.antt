-- Machinery of the proof of demand 3: the row of a role that covers the tree is an end exactly when the tree leaves the role nothing to do.
-- Assumes nothing.
use Prim.Native.Nat.{ℕ}
use mathlib.Core.Logic.{◌≢◌}
use mathlib.Core.Path.{◌≡◌, refl}
use Rattle.table.specs.Tree.{Global, Arms}
use Rattle.protocol.specs.Left.{NothingLeft, left_exchange, left_flight, left_loop, NothingLeftArms, left_nil, left_arm}
use Rattle.protocol.specs.Steps.{SomeArm, some_arm}
use Rattle.protocol.proofs.Invariant.View.{View, v_end, end≢send, end≢receive}
use Rattle.protocol.proofs.Invariant.Covers.{Covers, c_zero, c_gone, c_send, c_receive, c_past, c_get, c_over, c_loop, CoversEach, ce_nil, ce_arm}
use Rattle.protocol.proofs.Invariant.Left.{left_unrolled, left_rolled}

module _ {A : Type 0} (view : ℕ → View) (head : ℕ → ℕ) where
  mutual
    pub end_left : {r n row : ℕ} {G : Global A} → Covers view head r n G row → n ≢ 0 → view row ≡ v_end → NothingLeft r G
    end_left c_zero z e = absurd (z refl)
    end_left (c_gone f _) z e = f
    end_left (c_send rp pq f sm labels ca) z e = absurd (end≢send e f)
    end_left (c_receive rq pq f sm ca) z e = absurd (end≢receive e f)
    end_left (c_past rp rq sm ce) z e = left_exchange rp rq (end_left_arms ce z e)
    end_left (c_get rq f g c) z e = absurd (end≢receive e f)
    end_left (c_over rq c) z e = left_flight rq (end_left c z e)
    end_left (c_loop {B = B} c) z e = left_loop (left_rolled B (end_left c z e))

    end_left_arms : {r n row : ℕ} {cs : Arms A} → CoversEach view head r n cs row → n ≢ 0 → view row ≡ v_end → NothingLeftArms r cs
    end_left_arms ce_nil z e = left_nil
    end_left_arms (ce_arm c ce) z e = left_arm (end_left c z e) (end_left_arms ce z e)

  mutual
    pub left_ends : {r n row : ℕ} {G : Global A} → Covers view head r n G row → n ≢ 0 → NothingLeft r G → view row ≡ v_end
    left_ends c_zero z f = absurd (z refl)
    left_ends (c_gone _ e) z f = e
    left_ends (c_send rp pq e sm labels ca) z (left_exchange np nq f) = absurd (np rp)
    left_ends (c_receive rq pq e sm ca) z (left_exchange np nq f) = absurd (nq rq)
    left_ends (c_past rp rq sm ce) z (left_exchange np nq f) = left_ends_first ce sm z f
    left_ends (c_get rq e g c) z (left_flight nq f) = absurd (nq rq)
    left_ends (c_over rq c) z (left_flight nq f) = left_ends c z f
    left_ends (c_loop {B = B} c) z (left_loop f) = left_ends c z (left_unrolled B f)

    left_ends_first : {r n row : ℕ} {cs : Arms A} → CoversEach view head r n cs row → SomeArm cs → n ≢ 0 → NothingLeftArms r cs → view row ≡ v_end
    left_ends_first (ce_arm c ce) some_arm z (left_arm f g) = left_ends c z f
    left_ends_first ce_nil h z _ = elim h [ ]
