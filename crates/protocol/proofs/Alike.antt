-- Two engines that give the same answers wherever they come. Assumes nothing.
use Prim.Native.Nat.{ℕ}
use mathlib.Core.List.{List, [], ◌∷◌, ◌++◌}
use mathlib.Core.Path.{◌≡◌, refl, sym, ◌∙◌, ap, subst}
use lib.ListN.{length}
use Rattle.table.specs.Limits.{Limits}
use Rattle.table.specs.Tree.{Global, Arms, tree_of}
use Rattle.protocol.specs.Each.{Each, each_nil, each_cons}
use Rattle.protocol.specs.Engine.{Call, sends, receives, Engine}
use Rattle.protocol.specs.Left.{unread}
use Rattle.protocol.specs.Demand3.{after, ComesTo, no_call, accepted_call, refused_call, Finished, Follows, Conforms}
use Rattle.protocol.specs.Stranded.{Place, AllAccepted, all_made, then, IsReceived, Acts, Advanced, ByAnyArm}
use Rattle.protocol.proofs.Sessions.Runs.{comes_once}

-- to the calls that may be made, in the good states, which such calls keep
module _ {S : Type 0} (may : Call → Type 0) (good : S → Type 0) (e f : Engine S)
    (same : (c : Call) (s : S) → may c → good s → f.answer c s ≡ e.answer c s)
    (keeps : (c : Call) (s : S) → may c → good s → good (e.answer c s).state) where
  pub good_after : (cs : List Call) (s : S) → Each may cs → good s → good (after e cs s)
  unfolding after
  good_after [] s each_nil g = g
  good_after (c ∷ cs) s (each_cons m ms) g = good_after cs (e.answer c s).state ms (keeps c s m g)

  pub same_after : (cs : List Call) (s : S) → Each may cs → good s → after f cs s ≡ after e cs s
  unfolding after
  same_after [] s each_nil g = refl
  same_after (c ∷ cs) s (each_cons m ms) g = rw (same c s m g) (same_after cs (e.answer c s).state ms (keeps c s m g))

  pub same_unread : (cs : List Call) (p q : ℕ) (s : S) (w : List (ℕ × ℕ)) → Each may cs → good s → unread f p q cs s w ≡ unread e p q cs s w
  unfolding unread
  same_unread [] p q s w each_nil g = refl
  same_unread (c ∷ cs) p q s w (each_cons m ms) g = rw (same c s m g) (same_unread cs p q (e.answer c s).state _ ms (keeps c s m g))

  pub forth : {cs : List Call} {s : S} {G H : Global ℕ} → Each may cs → good s → ComesTo e s G cs H → ComesTo f s G cs H
  forth each_nil g no_call = no_call
  forth {s = s} (each_cons {x = c} m ms) g (accepted_call n t r) =
      let i = sym (same c s m g) in accepted_call (rw i at n) (rw i at t) (rw i at (forth ms (keeps c s m g) r))
  forth {s = s} (each_cons {x = c} m ms) g (refused_call n r) =
      let i = sym (same c s m g) in refused_call (rw i at n) (rw i at (forth ms (keeps c s m g) r))

  pub fore : {cs : List Call} {s : S} {G H : Global ℕ} → Each may cs → good s → ComesTo f s G cs H → ComesTo e s G cs H
  fore each_nil g no_call = no_call
  fore {s = s} (each_cons {x = c} m ms) g (accepted_call n t r) =
      let i = same c s m g in accepted_call (rw i at n) (rw i at t) (fore ms (keeps c s m g) (rw i at r))
  fore {s = s} (each_cons {x = c} m ms) g (refused_call n r) =
      let i = same c s m g in refused_call (rw i at n) (fore ms (keeps c s m g) (rw i at r))

  -- ---- continuations of the one are those of the other

  all_accepted_too : {cs : List Call} {s : S} → Each may cs → good s → AllAccepted e s cs → AllAccepted f s cs
  all_accepted_too each_nil g all_made = all_made
  all_accepted_too {s = s} (each_cons {x = c} m ms) g (then n r) =
      let i = sym (same c s m g) in then (rw i at n) (rw i at (all_accepted_too ms (keeps c s m g) r))

  -- the answer to a call behind them
  same_behind : (cs : List Call) (s : S) (c : Call) → Each may cs → good s → may c → f.answer c (after f cs s) ≡ e.answer c (after e cs s)
  same_behind cs s c ms g m = ap (f.answer c) (same_after cs s ms g) ∙ same c (after e cs s) m (good_after cs s ms g)

  received_too : {s : S} {p q k : ℕ} {m : ℕ × ℕ} (P : List Call → Type 0) → good s → (c : IsReceived may e s p q k m) × P c.before
      → (c : IsReceived may f s p q k m) × P c.before
  received_too {s} {p} {q} P g (c, h) =
      let last = same_behind c.before s (receives p q) c.may_be_made g c.may_be_last in (
        record {
          before = c.before;
          may_be_made = c.may_be_made;
          all_accepted = all_accepted_too c.may_be_made g c.all_accepted;
          receives_before = c.receives_before;
          may_be_last = c.may_be_last;
          last_accepted = ap (λ a. a.number) last ∙ c.last_accepted;
          label = ap (λ a. a.label) last ∙ c.label;
          payload = ap (λ a. a.payload) last ∙ c.payload;
        },
        h,
      )

  acts_too : {s : S} {r : ℕ} (P : List Call → Type 0) → good s → (c : Acts may e s r) × P (c.before ++ (c.call.0 ∷ []))
      → (c : Acts may f s r) × P (c.before ++ (c.call.0 ∷ []))
  acts_too {s} P g (c, h) =
      let (d, m, by, ok) = c.call in (
        record {
          before = c.before;
          may_be_made = c.may_be_made;
          all_accepted = all_accepted_too c.may_be_made g c.all_accepted;
          call = (d, m, by, ap (λ a. a.number) (same_behind c.before s d c.may_be_made g m) ∙ ok);
        },
        h,
      )

  -- from the fresh state on
  module _ (first : f.fresh ≡ e.fresh) (g : good e.fresh.state) where
    start : f.fresh.state ≡ e.fresh.state
    start = ap (λ a. a.state) first

    came : (cs : List Call) → Each may cs → after f cs f.fresh.state ≡ after e cs e.fresh.state
    came cs ms = ap (λ s. after f cs s) start ∙ same_after cs e.fresh.state ms g

    left_unread : (cs : List Call) (p q : ℕ) → Each may cs → unread f p q cs f.fresh.state [] ≡ unread e p q cs e.fresh.state []
    left_unread cs p q ms = ap (λ s. unread f p q cs s []) start ∙ same_unread cs p q e.fresh.state [] ms g

    pub any_arm_too : {t : List ℕ} {roles : ℕ} {pick : Arms ℕ → ℕ} → f.ended ≡ e.ended → ByAnyArm may e t roles pick → ByAnyArm may f t roles pick
    any_arm_too {t} {roles} {pick} same_ended b = record {
      received = λ cs G ms r p q k m i.
          let r' = fore ms g (subst (λ s. ComesTo f s (tree_of t) cs G) start r) in
          let x = b.received cs G ms r' p q k m (subst (λ w. Place w k m) (left_unread cs p q ms) i) in
          subst (λ s. (c : IsReceived may f s p q k m) × Advanced pick 0 G (c.before ++ (receives p q ∷ []))) (sym (came cs ms))
          (received_too (λ ds. Advanced pick 0 G (ds ++ (receives p q ∷ []))) (good_after cs e.fresh.state ms g) x);
      acts = λ cs G ms r r' h n.
          let x = b.acts cs G ms (fore ms g (subst (λ s. ComesTo f s (tree_of t) cs G) start r)) r' h
          (λ y. n (subst (λ s. f.ended s r') (sym (came cs ms)) (rw same_ended y))) in
          subst (λ s. (c : Acts may f s r') × Advanced pick 0 G (c.before ++ (c.call.0 ∷ []))) (sym (came cs ms))
          (acts_too (λ ds. Advanced pick 0 G ds) (good_after cs e.fresh.state ms g) x);
    }

  module _ (awaits : (s : S) → good s → f.awaited s ≡ e.awaited s) (same_held : f.held ≡ e.held) (same_ended : f.ended ≡ e.ended) where
    finished_e : {roles : ℕ} {s : S} → Finished f roles s → Finished e roles s
    finished_e d = record { ended = rw same_ended at d.ended; empty = rw same_held at d.empty }

    finished_f : {roles : ℕ} {s : S} → Finished e roles s → Finished f roles s
    finished_f d = record { ended = rw same_ended d.ended; empty = rw same_held d.empty }

    follows_too : {lim : Limits} {roles : ℕ} {s : S} {G : Global ℕ} → good s → Follows lim may e roles s G → Follows lim may f roles s G
    follows_too {s = s} g d = record {
      send_exactly = λ p q l v m. rw (same (sends p q l v) s m g, same_held) (d.send_exactly p q l v m);
      receive_exactly = λ p q m. rw (same (receives p q) s m g) (d.receive_exactly p q m);
      receive_returns = λ p q l v m. rw (same (receives p q) s m g) (d.receive_returns p q l v m);
      never_stray = λ p q m. rw (same (receives p q) s m g) (d.never_stray p q m);
      never_tables = λ c m. rw (same c s m g) (d.never_tables c m);
      never_state = λ c m. rw (same c s m g) (d.never_state c m);
      send_offers = λ p q l v m. rw (same (sends p q l v) s m g) (d.send_offers p q l v m);
      else_offers = λ c m. rw (same c s m g) (d.else_offers c m);
      awaited = d.awaited;
      awaited_exactly = λ r h. (
        λ t. let (c, m, by, ok) = (d.awaited_exactly r h).0 t in (c, m, by, rw (same c s m g) ok),
        λ t. (d.awaited_exactly r h).1 (t.0, t.1, t.2, rw (same t.0 s t.1 g) at t.3),
      );
      awaited_number = rw (awaits s g) d.awaited_number;
      awaited_set = rw (awaits s g) d.awaited_set;
      awaited_count = rw (awaits s g) d.awaited_count;
      awaited_least = rw (awaits s g) d.awaited_least;
      awaited_none = rw (awaits s g) d.awaited_none;
      ended_exactly = rw same_ended d.ended_exactly;
      until_finished = λ n. rw (awaits s g) (d.until_finished (λ t. n (finished_f t)));
      when_finished = λ t. rw (awaits s g) (d.when_finished (finished_e t));
    }

    -- if one conforms, so does the other
    pub conforms_too : {lim : Limits} {t : List ℕ} {roles : ℕ} → f.fresh ≡ e.fresh → good e.fresh.state
        → Conforms lim may e t roles → Conforms lim may f t roles
    conforms_too {lim} {t} {roles} first g d = record {
      fresh_accepted = ap (λ a. a.number) first ∙ d.fresh_accepted;
      comes = λ cs ms. let (G, r) = d.comes cs ms in (G, subst (λ s. ComesTo f s (tree_of t) cs G) (sym (start first g)) (forth ms g r));
      comes_once = λ cs G H a b. comes_once a b;
      follows = λ cs G ms a.
          let r = d.follows cs G ms (fore ms g (subst (λ s. ComesTo f s (tree_of t) cs G) (start first g) a)) in
          subst (λ s. Follows lim may f roles s G) (sym (came first g cs ms)) (follows_too (good_after cs e.fresh.state ms g) r);
      held_exactly = λ cs p q ms h i.
          ap (λ s. f.held s p q) (came first g cs ms)
          ∙ (rw same_held (d.held_exactly cs p q ms h i)
          ∙ ap length (sym (left_unread first g cs p q ms)));
    }
