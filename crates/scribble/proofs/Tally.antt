-- The log of a reader, sorted: names, last statements, choices, rows past the limit, labels past the limit. What each act adds to which. Assumes nothing.
use Prim.Native.Nat.{ℕ, ◌*◌, ◌/◌}
use mathlib.Core.Bool.{Bool, true, false, cond, ◌&&◌}
use mathlib.Core.List.{List, [], ◌∷◌, ◌++◌, append_assoc, append-nil}
use mathlib.Core.Path.{◌≡◌, refl, sym, subst, ◌∙◌, ap}
use native.Mathlib.Omega.{arith}
use native.Mathlib.Nat.{mul-div_cancel}
use lib.Dec.{leb}
use lib.ListN.{length, drop, length-append}
use Rattle.table.specs.Limits.{Limits}
use Rattle.scribble.specs.Grammar.{Name, name_at}
use Rattle.scribble.specs.Names.{spelled, stands_at, is_in, index_of, firsts, spellings}
use Rattle.scribble.specs.Refusals.{too_many, too_long_among, unknown_role, Fault, blame, fault_when, shown_before, Finding, deciding, CHOICE, LAST, MANY, too_long}
use Rattle.scribble.specs.mirror.Reader.{ReaderState, Form, Frame, frame, top, is_chosen, logged, add_row, statement_begun, label_met, label_as, name_met, role_met, special, rows_made}
use Rattle.scribble.specs.mirror.Acts.{names_met}
use Rattle.scribble.proofs.Meet.{meet, meet_assoc, meet_comm, deciding_append}
use Rattle.scribble.proofs.Cut.{shown_append}
use Rattle.scribble.proofs.Firsts.{spellings_append, spellings_length, firsts_more, drop_more, too_many_more}

-- the earliest of the faults that are shown before a place
abbrev pub earliest : ℕ → List Fault → Finding
earliest e fs = deciding (shown_before e fs)

pub earliest_append : (e : ℕ) (xs ys : List Fault) → earliest e (xs ++ ys) ≡ meet (earliest e xs) (earliest e ys)
earliest_append e xs ys = ap deciding (shown_append e xs ys) ∙ deciding_append (shown_before e xs) (shown_before e ys)

-- of six kinds
unfoldable pub total : Finding → Finding → Finding → Finding → Finding → Finding → Finding
total h n l c r b = meet h (meet n (meet l (meet c (meet r b))))

swap : (x y z : Finding) → meet (meet x y) z ≡ meet (meet x z) y
swap x y z = meet_assoc x y z ∙ (ap (meet x) (meet_comm y z) ∙ sym (meet_assoc x z y))

-- one more of a kind
module _ (h n l c r b x y : Finding) where
  pub more_n : meet n x ≡ y → meet (total h n l c r b) x ≡ total h y l c r b
  unfolding total
  more_n e =
      meet_assoc h _ x ∙ ap (meet h) (swap n _ x)
      ∙ ap (λ (z : Finding). total h z l c r b) e

  pub more_l : meet l x ≡ y → meet (total h n l c r b) x ≡ total h n y c r b
  unfolding total
  more_l e =
      meet_assoc h _ x ∙ ap (meet h) (meet_assoc n _ x ∙ ap (meet n) (swap l _ x))
      ∙ ap (λ (z : Finding). total h n z c r b) e

  pub more_c : meet c x ≡ y → meet (total h n l c r b) x ≡ total h n l y r b
  unfolding total
  more_c e =
      meet_assoc h _ x ∙ ap (meet h) (meet_assoc n _ x ∙ ap (meet n) (meet_assoc l _ x ∙ ap (meet l) (swap c _ x)))
      ∙ ap (λ (z : Finding). total h n l z r b) e

  pub more_r : meet r x ≡ y → meet (total h n l c r b) x ≡ total h n l c y b
  unfolding total
  more_r e =
      meet_assoc h _ x ∙ ap (meet h) (meet_assoc n _ x ∙ ap (meet n) (meet_assoc l _ x ∙ ap (meet l) (meet_assoc c _ x ∙ ap (meet c) (swap r b x))))
      ∙ ap (λ (z : Finding). total h n l c z b) e

  pub more_b : meet b x ≡ y → meet (total h n l c r b) x ≡ total h n l c r y
  unfolding total
  more_b e =
      meet_assoc h _ x ∙ ap (meet h) (meet_assoc n _ x ∙ ap (meet n) (meet_assoc l _ x ∙ ap (meet l) (meet_assoc c _ x ∙ ap (meet c) (meet_assoc r b x))))
      ∙ ap (λ (z : Finding). total h n l c r z) e

-- a reader's roles, labels, number of words and log, when these names, last statements, choices, rows and labels have been met;
-- h is what was found before the body
pub record Tallied (lim : Limits) (e : ℕ) (h : Finding) (roles : List (List ℕ)) (rs ls : List (List ℕ)) (size : ℕ) (log N L C R : List Fault) (ns : List Name) : Type 0 where
  pub roles_are : rs ≡ roles
  pub labels_are : ls ≡ spellings ns
  pub rows_are : size ≡ length R * 4
  pub log_is : earliest e log ≡ total h (earliest e N) (earliest e L) (earliest e C) (earliest e (drop lim.rows R)) (earliest e (too_many (drop lim.labels ns)))

module _ (lim : Limits) (e : ℕ) (h : Finding) (roles : List (List ℕ)) where
  abbrev pub At : ReaderState → List Fault → List Fault → List Fault → List Fault → List Name → Type 0
  At s N L C R ns = Tallied lim e h roles s.roles s.labels (length s.rows) s.log N L C R ns

  -- the log with faults of one kind more
  logs : (s : ReaderState) (fs : List Fault) (a b : Finding) → earliest e s.log ≡ a → meet a (earliest e fs) ≡ b → earliest e (s.log ++ fs) ≡ b
  logs s fs a b p q = earliest_append e s.log fs ∙ (ap (λ (x : Finding). meet x (earliest e fs)) p ∙ q)

  module _ (s : ReaderState) {N L C R : List Fault} {ns : List Name} (a : At s N L C R ns) where
    pub at_name : (fs : List Fault) → At (logged fs s) (N ++ fs) L C R ns
    at_name fs = record {
      roles_are = a.roles_are;
      labels_are = a.labels_are;
      rows_are = a.rows_are;
      log_is = logs s fs _ _ a.log_is (more_n h _ _ _ _ _ (earliest e fs) _ (sym (earliest_append e N fs)));
    }

    pub at_last : (fs : List Fault) → At (logged fs s) N (L ++ fs) C R ns
    at_last fs = record {
      roles_are = a.roles_are;
      labels_are = a.labels_are;
      rows_are = a.rows_are;
      log_is = logs s fs _ _ a.log_is (more_l h _ _ _ _ _ (earliest e fs) _ (sym (earliest_append e L fs)));
    }

    pub at_choice : (fs : List Fault) → At (logged fs s) N L (C ++ fs) R ns
    at_choice fs = record {
      roles_are = a.roles_are;
      labels_are = a.labels_are;
      rows_are = a.rows_are;
      log_is = logs s fs _ _ a.log_is (more_c h _ _ _ _ _ (earliest e fs) _ (sym (earliest_append e C fs)));
    }

    pub at_count : rows_made s ≡ length R
    at_count = ap (λ (n : ℕ). n / 4) a.rows_are ∙ mul-div_cancel (length R) {n = 4} (omega arith)

    pub at_row : (at shown x y z u : ℕ) → At (add_row lim at shown x y z u s) N L C (R ++ (blame at MANY shown ∷ [])) ns
    at_row at shown x y z u =
        let f = blame at MANY shown in
        let k = leb lim.rows (rows_made s) in
        let m = length-append s.rows (x ∷ y ∷ z ∷ u ∷ []) in
        let n = length-append R (f ∷ []) in
        let o = a.rows_are in
        record {
          roles_are = a.roles_are;
          labels_are = a.labels_are;
          rows_are = omega arith;
          log_is = logs s (fault_when k f) _ _ a.log_is
              (more_r h _ _ _ _ _ (earliest e (fault_when k f)) _
              (sym (earliest_append e (drop lim.rows R) (fault_when k f))
              ∙ ap (earliest e) (ap (λ (n : ℕ). drop lim.rows R ++ fault_when (leb lim.rows n) f) at_count ∙ sym (drop_more lim.rows R f))));
        }

    pub at_label_as : (l : Name) (t : Bool) (k : ℕ) → At (label_as lim t (stands_at l) (spelled l) k s) N L C R (ns ++ cond t [] (l ∷ []))
    at_label_as l true k = subst (λ (x : List Name). Tallied lim e h roles s.roles s.labels (length s.rows) s.log N L C R x) (sym (append-nil ns)) a
    at_label_as l false k =
        let f = blame (stands_at l) MANY (stands_at l) in
        let t = leb lim.labels (length s.labels) in
        record {
          roles_are = a.roles_are;
          labels_are = ap (λ (x : List (List ℕ)). x ++ (spelled l ∷ [])) a.labels_are ∙ sym (spellings_append ns (l ∷ []));
          rows_are = a.rows_are;
          log_is = logs s (fault_when t f) _ _ a.log_is
              (more_b h _ _ _ _ _ (earliest e (fault_when t f)) _
              (sym (earliest_append e (too_many (drop lim.labels ns)) (fault_when t f))
              ∙ ap (earliest e)
              (ap (λ (n : ℕ). too_many (drop lim.labels ns) ++ fault_when (leb lim.labels n) f) (ap length a.labels_are ∙ spellings_length ns) ∙ sym (too_many_more lim.labels ns l))));
        }

  -- the same, said otherwise
  pub at_as : {rs ls : List (List ℕ)} {size : ℕ} {log N N' L L' C C' R R' : List Fault} {ns ns' : List Name}
      → Tallied lim e h roles rs ls size log N L C R ns → N ≡ N' → L ≡ L' → C ≡ C' → R ≡ R' → ns ≡ ns' → Tallied lim e h roles rs ls size log N' L' C' R' ns'
  at_as {rs} {ls} {size} {log} {N} {N'} {L} {L'} {C} {C'} {R} {R'} {ns} {ns'} a n l c r b =
      subst (λ (x : List Fault). Tallied lim e h roles rs ls size log x L' C' R' ns') n
      (subst (λ (x : List Fault). Tallied lim e h roles rs ls size log N x C' R' ns') l
      (subst (λ (x : List Fault). Tallied lim e h roles rs ls size log N L x R' ns') c
      (subst (λ (x : List Fault). Tallied lim e h roles rs ls size log N L C x ns') r
      (subst (λ (x : List Name). Tallied lim e h roles rs ls size log N L C R x) b a))))

-- long names are logged, and nothing else is done
relog : List Fault → ReaderState → ReaderState
relog fs s = record { control = s.control; roles = s.roles; labels = s.labels; frames = s.frames; pending = s.pending; since = s.since; label = s.label; sender = s.sender; receiver = s.receiver; rows = s.rows; log = fs }

pub names_log : (ns : List Name) (s : ReaderState) → names_met ns s ≡ logged (too_long_among ns) s
unfolding names_met too_long_among relog
names_log [] s = ap (λ (l : List Fault). relog l s) (sym (append-nil s.log))
names_log (name_at b x ∷ ns) s = names_log ns (name_met b x s) ∙ ap (λ (l : List Fault). relog l s) (append_assoc s.log (too_long (name_at b x)) (too_long_among ns))

module _ (lim : Limits) where
  -- a label is met: its block and its place stay
  label_as_keeps : (t : Bool) (b : ℕ) (x : List ℕ) (k : ℕ) (s : ReaderState) → ((label_as lim t b x k s).frames ≡ s.frames) × ((label_as lim t b x k s).since ≡ s.since)
  label_as_keeps true b x k s = (refl, refl)
  label_as_keeps false b x k s = (refl, refl)

  pub label_met_keeps : (b : ℕ) (x : List ℕ) (s : ReaderState) → ((label_met lim b x s).frames ≡ s.frames) × ((label_met lim b x s).since ≡ s.since)
  unfolding label_met
  label_met_keeps b x s = label_as_keeps (is_in x s.labels) b x (index_of x s.labels) s

  pub special_frames : (s : ReaderState) (c : ℕ) (f : Form) (x d : Bool) (fs : List Frame) → s.frames ≡ frame f x d ∷ fs → (special lim c s).frames ≡ frame f false true ∷ fs
  unfolding special
  special_frames s c f x d fs p = rw p

module _ (lim : Limits) (e : ℕ) (h : Finding) (roles : List (List ℕ)) (s : ReaderState) {N L C R : List Fault} where
  pub at_names : {ns : List Name} → At lim e h roles s N L C R ns → (xs : List Name) → At lim e h roles (names_met xs s) (N ++ too_long_among xs) L C R ns
  at_names {ns} a xs = subst (λ (z : ReaderState). At lim e h roles z (N ++ too_long_among xs) L C R ns) (sym (names_log xs s)) (at_name lim e h roles s a (too_long_among xs))

  pub at_role : {ns : List Name} → At lim e h roles s N L C R ns → (p : Name) → At lim e h roles (role_met lim (stands_at p) (spelled p) s) (N ++ (too_long p ++ unknown_role roles p)) L C R ns
  unfolding role_met unknown_role
  at_role {ns} a p =
      let s₁ = name_met (stands_at p) (spelled p) s in
      at_as lim e h roles (at_name lim e h roles s₁ (at_name lim e h roles s a (too_long p)) (unknown_role s.roles p))
      (append_assoc N (too_long p) (unknown_role s.roles p) ∙ ap (λ (rs : List (List ℕ)). N ++ (too_long p ++ unknown_role rs p)) a.roles_are) refl refl refl refl

  pub at_labels : (ns : List Name) → At lim e h roles s N L C R (firsts [] ns) → (l : Name) → At lim e h roles (label_met lim (stands_at l) (spelled l) s) N L C R (firsts [] (ns ++ (l ∷ [])))
  unfolding label_met
  at_labels ns a l =
      at_as lim e h roles (at_label_as lim e h roles s a l (is_in (spelled l) s.labels) (index_of (spelled l) s.labels)) refl refl refl refl
      (ap (λ (ls : List (List ℕ)). firsts [] ns ++ cond (is_in (spelled l) ls) [] (l ∷ [])) a.labels_are ∙ sym (firsts_more [] ns l))

  pub at_begins : {ns : List Name} → At lim e h roles s N L C R ns → (c : ℕ) (f : Form) (x d : Bool) (fs : List Frame) → s.frames ≡ frame f x d ∷ fs
      → At lim e h roles (statement_begun lim c s) N (L ++ fault_when d (blame c LAST c)) C R ns
  at_begins {ns} a c f x d fs p =
      at_as lim e h roles (at_last lim e h roles s a (fault_when (top s.frames).done (blame c LAST c)))
      refl (ap (λ (z : List Frame). L ++ fault_when (top z).done (blame c LAST c)) p) refl refl refl

  pub at_special : {ns : List Name} → At lim e h roles s N L C R ns → (c : ℕ) (f : Form) (x d : Bool) (fs : List Frame) → s.frames ≡ frame f x d ∷ fs
      → At lim e h roles (special lim c s) N (L ++ fault_when d (blame c LAST c)) (C ++ fault_when (is_chosen f && x) (blame c CHOICE c)) R ns
  unfolding special
  at_special {ns} a c f x d fs p =
      at_as lim e h roles
      (at_choice lim e h roles (statement_begun lim c s) (at_begins a c f x d fs p) (fault_when (is_chosen (top s.frames).form && (top s.frames).unbegun) (blame c CHOICE c)))
      refl refl (ap (λ (z : List Frame). C ++ fault_when (is_chosen (top z).form && (top z).unbegun) (blame c CHOICE c)) p) refl refl
