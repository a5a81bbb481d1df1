-- Machinery of the proof of demand 3: a step of the tree keeps every row covering it; its subject's row lets the subject take it, and
-- the head of where that leads covers what is left. Assumes nothing.
use Prim.Native.Nat.{ℕ, suc}
use mathlib.Core.List.{List}
use mathlib.Core.Logic.{◌≢◌}
use mathlib.Core.Option.{some}
use mathlib.Core.Path.{◌≡◌, refl}
use Rattle.table.specs.mirror.Kept.{HasLabel, has_here, has_there}
use Rattle.table.specs.Tree.{Global, Arms}
use Rattle.blocks.specs.Head.{ArmAt, find}
use Rattle.protocol.specs.Steps.{
  Action,
  subject,
  ArmOf,
  here,
  there,
  SomeArm,
  some_arm,
  Step,
  rule_1,
  rule_2,
  rule_3,
  rule_4,
  rule_5,
  Steps,
  no_arm,
  each_arm,
}
use Rattle.protocol.proofs.Invariant.View.{View, Does, does_send, does_receive, goes_send, goes_receive}
use Rattle.protocol.proofs.Invariant.Left.{left_step, left_still}
use Rattle.protocol.proofs.Invariant.Covers.{
  Covers,
  c_zero,
  c_gone,
  c_send,
  c_receive,
  c_past,
  c_get,
  c_over,
  c_loop,
  CoversArms,
  ca_nil,
  ca_arm,
  CoversEach,
  ce_nil,
  ce_arm,
}

pub some_steps : {A : Type 0} {a : Action A} {cs cs' : Arms A} → Steps a cs cs' → SomeArm cs → SomeArm cs'
some_steps (each_arm s ss) some_arm = some_arm
some_steps no_arm h = elim h [ ]

label_steps : {A : Type 0} {a : Action A} {l : ℕ} {cs cs' : Arms A} → Steps a cs cs' → HasLabel l cs → HasLabel l cs'
label_steps (each_arm s ss) has_here = has_here
label_steps (each_arm s ss) (has_there h) = has_there (label_steps ss h)
label_steps no_arm h = elim h [ ]

module _ {A : Type 0} (view : ℕ → View) (head : ℕ → ℕ) where
  each_in : {r n l row : ℕ} {G : Global A} {cs : Arms A} → ArmOf l G cs → CoversEach view head r n cs row → Covers view head r n G row
  each_in (here e) (ce_arm c ce) = c
  each_in (there n i) (ce_arm c ce) = each_in i ce

  arms_in : {r n l : ℕ} {G : Global A} {cs : Arms A} {arms : List ArmAt} → ArmOf l G cs → CoversArms view head r n arms cs
      → (x : ℕ) × (find l arms ≡ some x) × Covers view head r n G (head x)
  arms_in (here e) (ca_arm {x = x} f c ca) = (x, rw e f, c)
  arms_in (there n i) (ca_arm f c ca) = arms_in i ca

  -- who is not the subject stays where it is
  mutual
    pub others_cover : {r n row : ℕ} {a : Action A} {G G' : Global A} → Step a G G' → r ≢ subject a
        → Covers view head r n G row → Covers view head r n G' row
    others_cover (rule_1 i) ne c_zero = c_zero
    others_cover (rule_1 i) ne (c_gone f e) = c_gone (left_step (rule_1 i) f) e
    others_cover (rule_1 i) ne (c_send rp pq e sm labels ca) = absurd (ne rp)
    others_cover (rule_1 i) ne (c_receive rq pq e sm ca) = let (x, f, c) = arms_in i ca in c_get rq e f c
    others_cover (rule_1 i) ne (c_past rp rq sm ce) = c_over rq (each_in i ce)
    others_cover rule_2 ne c_zero = c_zero
    others_cover rule_2 ne (c_gone f e) = c_gone (left_step rule_2 f) e
    others_cover rule_2 ne (c_get rq e f c) = absurd (ne rq)
    others_cover rule_2 ne (c_over rq c) = c
    others_cover (rule_3 s) ne c_zero = c_zero
    others_cover (rule_3 s) ne (c_gone f e) = c_gone (left_step (rule_3 s) f) e
    others_cover (rule_3 s) ne (c_loop c) = others_cover s ne c
    others_cover (rule_4 sp sq sm ss) ne c_zero = c_zero
    others_cover (rule_4 sp sq sm ss) ne (c_gone f e) = c_gone (left_step (rule_4 sp sq sm ss) f) e
    others_cover (rule_4 sp sq sm ss) ne (c_send rp pq e sm' labels ca) =
        c_send rp pq e (some_steps ss sm') (λ l x f. label_steps ss (labels l x f)) (others_cover_arms ss ne ca)
    others_cover (rule_4 sp sq sm ss) ne (c_receive rq pq e sm' ca) = c_receive rq pq e (some_steps ss sm') (others_cover_arms ss ne ca)
    others_cover (rule_4 sp sq sm ss) ne (c_past rp rq sm' ce) = c_past rp rq (some_steps ss sm') (others_cover_each ss ne ce)
    others_cover (rule_5 sq s) ne c_zero = c_zero
    others_cover (rule_5 sq s) ne (c_gone f e) = c_gone (left_step (rule_5 sq s) f) e
    others_cover (rule_5 sq s) ne (c_get rq e f c) = c_get rq e f (others_cover s ne c)
    others_cover (rule_5 sq s) ne (c_over rq c) = c_over rq (others_cover s ne c)

    others_cover_each : {r n row : ℕ} {a : Action A} {cs cs' : Arms A} → Steps a cs cs' → r ≢ subject a
        → CoversEach view head r n cs row → CoversEach view head r n cs' row
    others_cover_each no_arm ne ce_nil = ce_nil
    others_cover_each (each_arm s ss) ne (ce_arm c ce) = ce_arm (others_cover s ne c) (others_cover_each ss ne ce)

    others_cover_arms : {r n : ℕ} {arms : List ArmAt} {a : Action A} {cs cs' : Arms A} → Steps a cs cs' → r ≢ subject a
        → CoversArms view head r n arms cs → CoversArms view head r n arms cs'
    others_cover_arms no_arm ne ca_nil = ca_nil
    others_cover_arms (each_arm s ss) ne (ca_arm f c ca) = ca_arm f (others_cover s ne c) (others_cover_arms ss ne ca)

  -- the subject stands where the action is
  mutual
    pub does : {n row : ℕ} {a : Action A} {G G' : Global A} → Step a G G' → Covers view head (subject a) (suc n) G row
        → (x : ℕ) × Does a (view row) x
    does (rule_1 {v = v} i) (c_gone f e) = absurd (left_still (rule_1 {v = v} i) f)
    does (rule_1 i) (c_send rp pq e sm labels ca) = let (x, f, c) = arms_in i ca in (x, rw e (does_send f))
    does (rule_1 i) (c_receive rq pq e sm ca) = absurd (pq rq)
    does (rule_1 i) (c_past rp rq sm ce) = absurd (rp refl)
    does rule_2 (c_gone f e) = absurd (left_still rule_2 f)
    does rule_2 (c_get {x = x} rq e f c) = (x, rw e (does_receive f))
    does rule_2 (c_over rq c) = absurd (rq refl)
    does (rule_3 s) (c_gone f e) = absurd (left_still (rule_3 s) f)
    does (rule_3 s) (c_loop c) = does s c
    does (rule_4 sp sq sm ss) (c_gone f e) = absurd (left_still (rule_4 sp sq sm ss) f)
    does (rule_4 sp sq sm ss) (c_send rp pq e sm' labels ca) = absurd (sp rp)
    does (rule_4 sp sq sm ss) (c_receive rq pq e sm' ca) = absurd (sq rq)
    does (rule_4 sp sq sm ss) (c_past rp rq sm' ce) = does_first ss sm ce
    does (rule_5 sq s) (c_gone f e) = absurd (left_still (rule_5 sq s) f)
    does (rule_5 sq s) (c_get rq e f c) = absurd (sq rq)
    does (rule_5 sq s) (c_over rq c) = does s c

    does_first : {n row : ℕ} {a : Action A} {cs cs' : Arms A} → Steps a cs cs' → SomeArm cs
        → CoversEach view head (subject a) (suc n) cs row → (x : ℕ) × Does a (view row) x
    does_first (each_arm s ss) sm (ce_arm c ce) = does s c
    does_first no_arm sm _ = elim sm [ ]

  -- and goes on to where it covers what is left
  mutual
    pub subject_covers : {n row x : ℕ} {a : Action A} {G G' : Global A} → Step a G G' → Covers view head (subject a) (suc n) G row
        → Does a (view row) x → Covers view head (subject a) n G' (head x)
    subject_covers (rule_1 {v = v} i) (c_gone f e) d = absurd (left_still (rule_1 {v = v} i) f)
    subject_covers (rule_1 i) (c_send rp pq e sm labels ca) d = let (y, f, c) = arms_in i ca in c_over pq (rw (goes_send d e f) at c)
    subject_covers (rule_1 i) (c_receive rq pq e sm ca) d = absurd (pq rq)
    subject_covers (rule_1 i) (c_past rp rq sm ce) d = absurd (rp refl)
    subject_covers rule_2 (c_gone f e) d = absurd (left_still rule_2 f)
    subject_covers rule_2 (c_get rq e f c) d = rw (goes_receive d e f) at c
    subject_covers rule_2 (c_over rq c) d = absurd (rq refl)
    subject_covers (rule_3 s) (c_gone f e) d = absurd (left_still (rule_3 s) f)
    subject_covers (rule_3 s) (c_loop c) d = subject_covers s c d
    subject_covers (rule_4 sp sq sm ss) (c_gone f e) d = absurd (left_still (rule_4 sp sq sm ss) f)
    subject_covers (rule_4 sp sq sm ss) (c_send rp pq e sm' labels ca) d = absurd (sp rp)
    subject_covers (rule_4 sp sq sm ss) (c_receive rq pq e sm' ca) d = absurd (sq rq)
    subject_covers (rule_4 sp sq sm ss) (c_past rp rq sm' ce) d = c_past rp rq (some_steps ss sm) (subject_covers_each ss ce d)
    subject_covers (rule_5 sq s) (c_gone f e) d = absurd (left_still (rule_5 sq s) f)
    subject_covers (rule_5 sq s) (c_get rq e f c) d = absurd (sq rq)
    subject_covers (rule_5 sq s) (c_over rq c) d = c_over rq (subject_covers s c d)

    subject_covers_each : {n row x : ℕ} {a : Action A} {cs cs' : Arms A} → Steps a cs cs'
        → CoversEach view head (subject a) (suc n) cs row → Does a (view row) x → CoversEach view head (subject a) n cs' (head x)
    subject_covers_each no_arm ce_nil d = ce_nil
    subject_covers_each (each_arm s ss) (ce_arm c ce) d = ce_arm (subject_covers s c d) (subject_covers_each ss ce d)
