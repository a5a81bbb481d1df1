-- Code that keeps the promises of the public calls meets demand 3. Assumes nothing.
use Prim.Native.Nat.{ℕ, ◌*◌, ◌^◌, ◌<◌}
use mathlib.Core.Bool.{Bool, true, false, cond, not}
use mathlib.Core.List.{List, [], ◌∷◌}
use mathlib.Core.Logic.{◌≢◌}
use mathlib.Core.Path.{◌≡◌, refl, sym, ◌∙◌, ap, subst}
use native.Mathlib.Omega.{arith}
use lib.Dec.{ltb}
use lib.ListN.{length, take}
use borrow.Author.Tests.{lt-ltb}
use Rattle.words.specs.Below.{lowest}
use Rattle.words.specs.Rows.{rows_of}
use Rattle.table.specs.Check as check
use Rattle.table.specs.Check.{says, tested}
use Rattle.table.specs.Limits.{Limits, base}
use Rattle.table.specs.Numbers.{ACCEPTED}
use Rattle.table.specs.Rules.{Rule, rules, number, breaks, words_broken, roles_broken}
use Rattle.table.specs.Tree.{Global, Arms, tree_of}
use Rattle.table.specs.Check.{Verdict}
use Rattle.parts.specs.Projection.{part_of, present}
use Rattle.opening.specs.Opening.{open_of, blocks, room_of}
use Rattle.session.specs.Calls.{answers, fresh_of, send_of, receive_of}
use Rattle.session.specs.Awaited.{awaited_of}
use Rattle.session.specs.Answers.{Answer}
use Rattle.session.specs.declared.Session.{Session}
use Rattle.protocol.specs.Each.{Each}
use Rattle.protocol.specs.Engine.{Call, sends, receives, Engine, answer_to, reply, role_set, ours}
use Rattle.protocol.specs.Fits.{Size, Words, Fits, fits_send, fits_receive, FitsSession}
use Rattle.protocol.specs.Demand3.{after, Conforms}
use Rattle.protocol.specs.Stranded.{ByAnyArm, Picks}
use Rattle.protocol.specs.Promised.{Code, Promises, code_answer, engine_of, Demand3OfCode, SessionsFit, NeverStray, K13OfCode, K13ByAnyArmOfCode}
use Rattle.protocol.proofs.Alike.{good_after, same_after, any_arm_too, conforms_too}
use Rattle.protocol.proofs.Blocks.Opening.{number_some, Opened, opened}
use Rattle.protocol.proofs.Blocks.Tables.{TreeKept, length_tables}
use Rattle.protocol.proofs.Demand3.{ground, fresh_is, fresh_inv, conforms, written, tree_kept}
use Rattle.protocol.proofs.Stranded.{by_any_arm, strands_nothing}
use Rattle.protocol.proofs.Sessions.Awaited.{Enough}
use Rattle.protocol.proofs.Sessions.Fitting.{Small, small_after, session_fits, small_nothing, blocks_words, few_block_rows}
use Rattle.protocol.proofs.Sessions.Runs.{Inv, Outcome, refused, accepted, outcome}

-- ---- a verdict whose number is ACCEPTED is `accepted`

abbrev Plain : Verdict → Type 0
Plain v = v.number ≡ 0 → v ≡ check.accepted

plain_else : (n at : ℕ) (b : Bool) (rest : Verdict) → n ≢ 0 → Plain rest → Plain (cond b (says n at) rest)
plain_else n at true rest some h e = absurd (some e)
plain_else n at false rest some h e = h e

plain_tests : (lim : Limits) (t : List ℕ) (roles : ℕ) (ks : List Rule) (rest : Verdict) → Plain rest → Plain (tested lim t roles ks rest)
unfolding tested
plain_tests lim t roles [] rest h = h
plain_tests lim t roles (k ∷ ks) rest h =
    plain_else (number k) _ (ltb (lowest (breaks lim t roles k) (rows_of t)) (rows_of t)) _ (number_some k) (plain_tests lim t roles ks rest h)

plain_open : (lim : Limits) (t : List ℕ) (roles room : ℕ) → Plain (open_of lim t roles room)
unfolding open_of
plain_open lim t roles room =
    plain_else 1 0 (words_broken lim t) _ (λ e. omega arith) (
    plain_else 2 0 (roles_broken lim roles) _ (λ e. omega arith) (
    plain_else 3 0 (ltb room (roles * length t)) _ (λ e. omega arith) (
    plain_tests lim t roles rules _ (
    plain_else 11 _ (ltb (lowest (λ r. not (present (part_of t r))) roles) roles) check.accepted (λ e. omega arith) (λ e. refl)))))

-- ---- the engine that the code is

pub enough_fits : Enough base Fits
enough_fits = record {
  sends = λ p q l h i j. fits_send {p = p} {q = q} {l = l} {v = 0} (omega arith) (omega arith) (omega arith) (omega arith);
  receives = λ p q h i. fits_receive {p = p} {q = q} (omega arith) (omega arith);
}

module _ (code : Code) (keeps : Promises code) (t : List ℕ) (roles : ℕ) (o : Opened base t roles) (kept : TreeKept base t roles) where
  abbrev tables : List ℕ
  tables = blocks t roles

  size_fits : Size roles
  size_fits = omega (arith, o.few_roles)

  words : Words tables
  words = blocks_words t roles o kept

  -- a session that agrees with a tree, and whose queues fit
  abbrev Good : Session → Type 0
  Good s = (G : Global ℕ) × Inv base tables roles s G × Small s

  fits : (s : Session) → Good s → FitsSession s
  fits s g = session_fits tables roles (ground base t roles o kept) s g.0 g.1 (few_block_rows t roles o kept) g.2

  answers_as : (c : Call) (s : Session) → Fits c → Good s → code_answer code tables roles c s ≡ answer_to base tables roles c s
  unfolding answer_to
  answers_as (sends p q l v) s m g = keeps.send s tables roles p q l v (fits s g) words size_fits m
  answers_as (receives p q) s m g = keeps.receive s tables roles p q (fits s g) words size_fits m

  stays_good : (c : Call) (s : Session) → Fits c → Good s → Good (answer_to base tables roles c s).state
  stays_good c s m g =
      let small = small_after tables roles (ground base t roles o kept) s g.0 g.1 c m g.2 in
      go small (outcome base tables roles (ground base t roles o kept) s g.0 g.1 c)
    where
      go : {a : Answer} → Small a.state → Outcome base tables roles (ground base t roles o kept) s g.0 g.1 c a → Good a.state
      go k (refused n e) = (g.0, rw e g.1, k)
      go k (accepted G' n step i) = (G', i, k)

  first_small : Small (fresh_of base tables roles).state
  first_small =
      rw (fresh_is base t roles o kept) (
      record { counts = small_nothing.counts; labels = small_nothing.labels; payloads = small_nothing.payloads })

  abbrev engine : Engine Session
  engine = engine_of code tables roles

  same : (c : Call) (s : Session) → Fits c → Good s → engine.answer c s ≡ (ours base tables roles).answer c s
  same c s m g = ap reply (answers_as c s m g)

  first_same : engine.fresh ≡ (ours base tables roles).fresh
  first_same = ap reply (keeps.fresh tables roles words size_fits)

  first_good : Good (fresh_of base tables roles).state
  first_good = (tree_of t, fresh_inv base t roles o kept, first_small)

  code_conforms : Conforms base Fits engine t roles
  code_conforms =
      conforms_too Fits Good (ours base tables roles) engine same stays_good
      (λ s g. ap role_set (keeps.awaited s tables roles (fits s g) words size_fits)) refl refl
      first_same first_good (conforms base t roles o kept enough_fits (omega arith))

  code_by_any_arm : (pick : Arms ℕ → ℕ) → Picks pick → ByAnyArm Fits engine t roles pick
  code_by_any_arm pick picks =
      any_arm_too Fits Good (ours base tables roles) engine same stays_good first_same first_good refl
      (by_any_arm base t roles o kept (omega arith) enough_fits pick picks)

  sessions_fit_too : (cs : List Call) → Each Fits cs → FitsSession (after engine cs engine.fresh.state)
  sessions_fit_too cs ms =
      let came = ap (λ a. after engine cs a.state) first_same ∙ same_after Fits Good (ours base tables roles) engine same stays_good cs _ ms first_good in
      subst FitsSession (sym came) (fits _ (good_after Fits Good (ours base tables roles) engine same stays_good cs _ ms first_good))

module _ (code : Code) (keeps : Promises code) (table : List ℕ) (roles : ℕ) (room : List ℕ) (wt : Words table) (sr : Size roles) (wr : Words room)
    (ok : (code.verdict table roles room).number ≡ ACCEPTED) where
  opens : open_of base table roles (length room) ≡ check.accepted
  opens = plain_open base table roles (length room) (ap (λ v. v.number) (sym (keeps.opening table roles room wt sr wr).0) ∙ ok)

  is_open : Opened base table roles
  is_open = opened base table roles (length room) opens

  is_kept : TreeKept base table roles
  is_kept = tree_kept base table roles is_open.checked

  written_there : take (roles * length table) (code.filled table roles room) ≡ blocks table roles
  written_there =
      ap (take (roles * length table)) (keeps.opening table roles room wt sr wr).1
      ∙ written base table roles room opens (length_tables base table roles is_open is_kept)

  pub tables_fit : Words (take (roles * length table) (code.filled table roles room))
  tables_fit = rw written_there (blocks_words table roles is_open is_kept)

pub law_of_the_code : (code : Code) → Promises code → Demand3OfCode code
law_of_the_code code keeps table roles room wt sr wr ok =
    rw (written_there code keeps table roles room wt sr wr ok)
    (code_conforms code keeps table roles (is_open code keeps table roles room wt sr wr ok) (is_kept code keeps table roles room wt sr wr ok))

pub sessions_fit : (code : Code) → Promises code → SessionsFit code
sessions_fit code keeps table roles room wt sr wr ok =
    rw (written_there code keeps table roles room wt sr wr ok)
    (sessions_fit_too code keeps table roles (is_open code keeps table roles room wt sr wr ok) (is_kept code keeps table roles room wt sr wr ok))

pub k13_by_any_arm_of_the_code : (code : Code) → Promises code → K13ByAnyArmOfCode code
k13_by_any_arm_of_the_code code keeps table roles room wt sr wr ok =
    rw (written_there code keeps table roles room wt sr wr ok)
    (code_by_any_arm code keeps table roles (is_open code keeps table roles room wt sr wr ok) (is_kept code keeps table roles room wt sr wr ok))

pub k13_of_the_code : (code : Code) → Promises code → K13OfCode code
k13_of_the_code code keeps table roles room wt sr wr ok =
    strands_nothing _ (law_of_the_code code keeps table roles room wt sr wr ok) (k13_by_any_arm_of_the_code code keeps table roles room wt sr wr ok)

pub never_stray : (code : Code) → Promises code → NeverStray code
never_stray code keeps table roles room wt sr wr ok cs ms p q m =
    let c = law_of_the_code code keeps table roles room wt sr wr ok in
    let (G, r) = c.comes cs ms in
    (c.follows cs G ms r).never_stray p q m

-- ---- the promises leave the rest open: code that answers otherwise where no value of its types is keeps them too

abbrev pub elsewhere : Code → Code
elsewhere code = record {
  verdict = λ t roles room. cond (ltb roles (2 ^ 64)) (code.verdict t roles room) (says 9 9);
  filled = code.filled;
  fresh = code.fresh;
  send = λ s ts roles p q l v. cond (ltb v (2 ^ 32)) (code.send s ts roles p q l v) (answers base 9 s);
  receive = code.receive;
  awaited = code.awaited;
}

payload_fits : {p q l v : ℕ} → Fits (sends p q l v) → v < 2 ^ 32
payload_fits (fits_send i j k h) = h

pub elsewhere_promises : (code : Code) → Promises code → Promises (elsewhere code)
elsewhere_promises code keeps = record {
  opening = λ t roles room i j k. (rw (lt-ltb roles (2 ^ 64) j) (keeps.opening t roles room i j k).0, (keeps.opening t roles room i j k).1);
  fresh = keeps.fresh;
  send = λ s ts roles p q l v i j k m. rw (lt-ltb v (2 ^ 32) (payload_fits m)) (keeps.send s ts roles p q l v i j k m);
  receive = keeps.receive;
  awaited = keeps.awaited;
}

-- the specification itself
abbrev pub spec : Code
spec = record {
  verdict = λ t roles room. open_of base t roles (length room);
  filled = λ t roles room. room_of base t roles room;
  fresh = λ ts roles. fresh_of base ts roles;
  send = λ s ts roles p q l v. send_of base ts roles p q l v s;
  receive = λ s ts roles p q. receive_of base ts roles p q s;
  awaited = λ s ts roles. awaited_of base ts roles s;
}

pub spec_promises : Promises spec
spec_promises = record {
  opening = λ t roles room i j k. (refl, refl);
  fresh = λ ts roles i j. refl;
  send = λ s ts roles p q l v i j k m. refl;
  receive = λ s ts roles p q i j k m. refl;
  awaited = λ s ts roles i j k. refl;
}

-- and is other code
pub elsewhere_other : elsewhere spec ≢ spec
unfolding open_of
elsewhere_other e = let z : ◌≡◌ {A = ℕ} 9 1 = ap (λ c. (c.verdict [] (2 ^ 64) []).number) e in omega arith
