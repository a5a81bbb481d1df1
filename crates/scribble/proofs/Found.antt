-- A reader finds the faults of the tree: of what it has logged the earliest is the earliest of `faults_of`, whatever place it is shown before. Assumes nothing.
use Prim.Native.Nat.{ℕ, suc}
use mathlib.Core.Bool.{and-false, Bool, true, false, not, ◌&&◌, ◌||◌}
use mathlib.Core.List.{List, [], ◌∷◌, ◌++◌, append_assoc, append-nil}
use mathlib.Core.Option.{Option, none}
use mathlib.Core.Path.{◌≡◌, refl, sym, subst, ◌∙◌, ap, ap₂}
use Rattle.table.specs.Limits.{Limits}
use Rattle.scribble.specs.Grammar.{Name, Stmt, message, choice, recursion, continue, Block, ends, then, Blocks, no_more, or}
use Rattle.scribble.specs.Names.{spelled, stands_at, is_in, index_of, firsts}
use Rattle.scribble.specs.Meaning.{labels_of, labels_in, labels_among}
use Rattle.scribble.specs.Refusals.{unknown_role, start_of, is_last, last_faults, last_faults_in, last_faults_among, other_start, message_start, beginning_of, beginning_in, beginnings_among, choice_receiver, choice_faults, choice_faults_in, choice_faults_among, name_faults, name_faults_in, name_faults_among, rows_met, rows_met_in, rows_met_among, Fault, blame, fault_when, Finding, NAME, CHOICE, LAST, MANY, wrong_start, too_long}
use Rattle.scribble.specs.mirror.Reader.{ReaderState, Form, looped, chosen, Frame, frame, top, around, is_chosen, added, recs_in, logged, name_met, role_met, special, rows_made, message_in, chooser_met, rec_met, continue_met, block_opened}
use Rattle.scribble.specs.mirror.Acts.{message_read, do_stmt, do_block, do_blocks}
use Rattle.scribble.proofs.Tally.{At, at_name, at_row, at_as, at_role, at_special, special_frames}
use Rattle.scribble.proofs.Blames.{hearing, hears, hears_on, hears_so, Waited, spoken, spoken_keeps, sent_as, sent_plain, closes_keeps, Read, at_spoken, at_exchanged, at_closes, armed_frames, at_armed}

-- a statement that is no message does not begin a block of a choice
abbrev pub strange : Bool → Stmt → List Fault
strange t (message l xs p q b) = []
strange t (choice c p first others) = fault_when t (blame c CHOICE c)
strange t (recursion c x b) = fault_when t (blame c CHOICE c)
strange t (continue c x) = fault_when t (blame c CHOICE c)

calm : (t : Stmt) → strange false t ≡ []
calm (message l xs p q b) = refl
calm (choice c p first others) = refl
calm (recursion c x b) = refl
calm (continue c x) = refl

-- a message that begins no block of a choice
abbrev pub Plain : Bool → Stmt → Type 0
Plain t (message l xs p q b) = t ≡ false
Plain t (choice c p first others) = Unit {0}
Plain t (recursion c x b) = Unit {0}
Plain t (continue c x) = Unit {0}

pub plain : (t : Stmt) (z : Bool) → z ≡ false → Plain z t
plain (message l xs p q b) z e = e
plain (choice c p first others) z e = tt
plain (recursion c x b) z e = tt
plain (continue c x) z e = tt

three : {A : Type 0} (a b c d : List A) → ((a ++ b) ++ c) ++ d ≡ a ++ (b ++ (c ++ d))
three a b c d = simp append_assoc

four : {A : Type 0} (a b c d f : List A) → ((a ++ b) ++ (c ++ d)) ++ f ≡ a ++ (b ++ (c ++ d ++ f))
four a b c d f = simp append_assoc

four' : {A : Type 0} (a b c d f : List A) → ((a ++ (b ++ c)) ++ d) ++ f ≡ a ++ (b ++ c ++ d ++ f)
four' a b c d f = simp append_assoc

two_one : {A : Type 0} (a b c d : List A) → ((a ++ (b ++ c)) ++ d) ≡ a ++ (b ++ c ++ d)
two_one a b c d = simp append_assoc

two_two : {A : Type 0} (a b c d : List A) → ((a ++ (b ++ c)) ++ d) ≡ a ++ (b ++ (c ++ d))
two_two a b c d = simp append_assoc

module _ (lim : Limits) (e : ℕ) (h : Finding) (roles : List (List ℕ)) where
  abbrev pub StmtTold : Stmt → ReaderState → Form → Bool → Bool → List Frame → List Fault → List Fault → List Fault → List Fault → List Name → Type 0
  StmtTold t s f x d fs N L C R ns =
      Read lim e h roles (do_stmt lim t s) (N ++ name_faults roles t (added f (recs_in fs))) (L ++ (fault_when d (blame (start_of t) LAST (start_of t)) ++ last_faults t))
      (C ++ (strange (is_chosen f && x) t ++ choice_faults t)) (R ++ rows_met t false) (ns ++ labels_of t)
      × ((do_stmt lim t s).frames ≡ frame f false (is_last t || d) ∷ fs)

  -- the statement that begins a block of a choice
  abbrev FirstTold : Stmt → ReaderState → List ℕ → Option (List ℕ) → ℕ → List Frame → List Fault → List Fault → List Fault → List Fault → List Name → Type 0
  FirstTold t s p q r fs N L C R ns =
      Read lim e h roles (do_stmt lim t s) (N ++ name_faults roles t (recs_in fs)) (L ++ last_faults t)
      (C ++ (wrong_start p (hearing q (beginning_of t ∷ [])) (beginning_of t) ++ choice_faults t)) (R ++ rows_met t true) (ns ++ labels_of t)
      × ((a : ℕ) × ((do_stmt lim t s).frames ≡ frame (chosen p (hears q (beginning_of t)) r a) false (is_last t || false) ∷ fs))

  pub message_told : (l : Name) (xs : List Name) (p q : Name) (b : ℕ) (s : ReaderState) (f : Form) (x d : Bool) (fs : List Frame) {N L C R : List Fault} (ns : List Name)
      → s.frames ≡ frame f x d ∷ fs → is_chosen f && x ≡ false → Read lim e h roles s N L C R ns → StmtTold (message l xs p q b) s f x d fs N L C R ns
  unfolding do_stmt message_read name_faults last_faults choice_faults rows_met labels_of
  message_told l xs p q b s f x d fs {N} {L} {C} {R} ns g y a =
      let s₁ = spoken lim l xs p q s in
      let k = spoken_keeps lim l xs p q s in
      let a₁ = at_spoken lim e h roles l xs p q b (added f (recs_in fs)) s f x d fs ns g a in
      let g₁ : s₁.frames ≡ frame f x d ∷ fs = k.0 ∙ g in
      let same = sent_as lim b s₁ f x d fs g₁ ∙ sent_plain lim f x b s₁ y in
      let w = fault_when d (blame (stands_at l) LAST (stands_at l)) in
      let a₂ = at_as lim e h roles (at_exchanged lim e h roles b s₁ a₁.0) refl (ap (λ (z : List Fault). L ++ z) (sym (append-nil w))) (sym (append-nil C))
      (ap (λ (n : ℕ). R ++ (blame n MANY b ∷ blame n MANY b ∷ [])) k.1) refl in (
        subst (λ (z : ReaderState). Read lim e h roles z (N ++ name_faults roles (message l xs p q b) (added f (recs_in fs))) (L ++ (w ++ [])) (C ++ []) (R ++ rows_met (message l xs p q b) false) (ns ++ (l ∷ []))) (sym same) a₂,
        ap (λ (z : ReaderState). z.frames) same ∙ ap (λ (z : List Frame). frame (top z).form false (top z).done ∷ around z) g₁,
      )

  -- a message that begins a block of a choice
  pub armed_told : (l : Name) (xs : List Name) (p' q' : Name) (b : ℕ) (s : ReaderState) (p : List ℕ) (q : Option (List ℕ)) (r y : ℕ) (fs : List Frame) {N L C R : List Fault} (ns : List Name)
      → s.frames ≡ frame (chosen p q r y) true false ∷ fs → Read lim e h roles s N L C R ns
      → Read lim e h roles (do_stmt lim (message l xs p' q' b) s) (N ++ name_faults roles (message l xs p' q' b) (recs_in fs)) (L ++ [])
      (C ++ (wrong_start p (hearing q (message_start (stands_at l) (spelled p') (spelled q') b ∷ [])) (message_start (stands_at l) (spelled p') (spelled q') b) ++ []))
      (R ++ (blame (stands_at l) MANY b ∷ [])) (ns ++ (l ∷ []))
      × ((do_stmt lim (message l xs p' q' b) s).frames
      ≡ frame (chosen p (hears q (message_start (stands_at l) (spelled p') (spelled q') b)) r (rows_made (spoken lim l xs p' q' s))) false false ∷ fs)
  unfolding do_stmt message_read message_in
  armed_told l xs p' q' b s p q r y fs {N} {L} {C} {R} ns g a =
      let s₁ = spoken lim l xs p' q' s in
      let k = spoken_keeps lim l xs p' q' s in
      let f = chosen p q r y in
      let a₁ = at_spoken lim e h roles l xs p' q' b (recs_in fs) s f true false fs ns g a in
      let g₁ : s₁.frames ≡ frame f true false ∷ fs = k.0 ∙ g in
      let same = sent_as lim b s₁ f true false fs g₁ in
      let o = message_start (stands_at l) (spelled p') (spelled q') b in
      let a₂ = at_armed lim e h roles b p q r y (stands_at l) (spelled p') (spelled q') s₁ k.1 a₁.1 a₁.2 a₁.0 in
      let fault = wrong_start p (hearing q (o ∷ [])) o in (
        subst (λ (z : ReaderState). Read lim e h roles z (N ++ name_faults roles (message l xs p' q' b) (recs_in fs)) (L ++ []) (C ++ (fault ++ [])) (R ++ (blame (stands_at l) MANY b ∷ [])) (ns ++ (l ∷ []))) (sym same)
            (at_as lim e h roles a₂ refl refl (ap (λ (z : List Fault). C ++ z) (sym (append-nil fault))) refl refl),
        ap (λ (z : ReaderState). z.frames) same ∙ armed_frames lim e h roles b p q r y (stands_at l) (spelled p') (spelled q') s₁ k.1 a₁.1 a₁.2 false fs g₁,
      )

  first_told : (t : Stmt) (s : ReaderState) (p : List ℕ) (q : Option (List ℕ)) (r y : ℕ) (fs : List Frame) {N L C R : List Fault} (ns : List Name)
      → s.frames ≡ frame (chosen p q r y) true false ∷ fs → Read lim e h roles s N L C R ns
      → (Plain true t → StmtTold t s (chosen p q r y) true false fs N L C R ns) → FirstTold t s p q r fs N L C R ns
  unfolding wrong_start last_faults choice_faults rows_met labels_of
  first_told (message l xs p' q' b) s p q r y fs ns g a other =
      let k = armed_told l xs p' q' b s p q r y fs ns g a in (k.0, (rows_made (spoken lim l xs p' q' s), k.1))
  first_told (choice c n first others) s p q r y fs ns g a other = let k = other tt in (k.0, (y, k.1))
  first_told (recursion c n b) s p q r y fs ns g a other = let k = other tt in (k.0, (y, k.1))
  first_told (continue c n) s p q r y fs ns g a other = let k = other tt in (k.0, (y, k.1))

  -- a choice up to its first `{`
  pub chooser_told : (c : ℕ) (p : Name) (s : ReaderState) (f : Form) (x d : Bool) (fs : List Frame) {N L C R : List Fault} {ns : List Name}
      → s.frames ≡ frame f x d ∷ fs → At lim e h roles s N L C R ns
      → At lim e h roles (block_opened lim (chooser_met lim (stands_at p) (spelled p) (special lim c s))) (N ++ (too_long p ++ unknown_role roles p)) (L ++ fault_when d (blame c LAST c))
      (C ++ fault_when (is_chosen f && x) (blame c CHOICE c)) (R ++ (blame c MANY (stands_at p) ∷ [])) ns
      × ((block_opened lim (chooser_met lim (stands_at p) (spelled p) (special lim c s))).frames
      ≡ frame (chosen (spelled p) none (rows_made s) 0) true false ∷ frame f false true ∷ fs)
  unfolding chooser_met special role_met
  chooser_told c p s f x d fs g a =
      let s₁ = special lim c s in
      let a₂ = at_role lim e h roles s₁ (at_special lim e h roles s a c f x d fs g) p in (
        at_row lim e h roles (role_met lim (stands_at p) (spelled p) s₁) a₂ c (stands_at p) 1 (index_of (spelled p) s.roles) 0 (suc (rows_made s)),
        ap (λ (z : List Frame). frame (chosen (spelled p) none (rows_made s) 0) true false ∷ z) (special_frames lim s c f x d fs g),
      )

  -- a rec up to its `{`
  pub rec_told : (c : ℕ) (n : Name) (s : ReaderState) (f : Form) (x d : Bool) (fs : List Frame) {N L C R : List Fault} {ns : List Name}
      → s.frames ≡ frame f x d ∷ fs → At lim e h roles s N L C R ns
      → At lim e h roles (block_opened lim (rec_met lim (stands_at n) (spelled n) (special lim c s)))
      (N ++ (too_long n ++ fault_when (is_in (spelled n) (added f (recs_in fs))) (blame (stands_at n) NAME (stands_at n)))) (L ++ fault_when d (blame c LAST c))
      (C ++ fault_when (is_chosen f && x) (blame c CHOICE c)) (R ++ (blame c MANY (stands_at n) ∷ [])) ns
      × ((block_opened lim (rec_met lim (stands_at n) (spelled n) (special lim c s))).frames ≡ frame (looped (spelled n)) true false ∷ frame f false true ∷ fs)
  unfolding rec_met special recs_in
  rec_told c n s f x d fs {N} g a =
      let s₁ = special lim c s in
      let again = fault_when (is_in (spelled n) (recs_in s₁.frames)) (blame (stands_at n) NAME (stands_at n)) in
      let k₁ = special_frames lim s c f x d fs g in
      let a₂ = at_name lim e h roles s₁ (at_special lim e h roles s a c f x d fs g) (too_long n) in
      let s₃ = name_met (stands_at n) (spelled n) s₁ in
      let a₃ = at_name lim e h roles s₃ a₂ again in (
        at_as lim e h roles (at_row lim e h roles (logged again s₃) a₃ c (stands_at n) 3 (suc (rows_made s)) 0 0)
            (append_assoc N (too_long n) again ∙ ap (λ (z : List Frame). N ++ (too_long n ++ fault_when (is_in (spelled n) (recs_in z)) (blame (stands_at n) NAME (stands_at n)))) k₁) refl refl refl refl,
        ap (λ (z : List Frame). frame (looped (spelled n)) true false ∷ z) k₁,
      )

  arm_ends : (p : List ℕ) (q : Option (List ℕ)) (c : ℕ) (C : List Fault)
      → C ++ (blame c CHOICE c ∷ []) ≡ C ++ (wrong_start p (hearing q (other_start c ∷ [])) (other_start c) ++ [])
  unfolding wrong_start
  arm_ends p q c C = refl

  mutual
    unfolding do_stmt special chooser_met rec_met continue_met role_met name_faults last_faults choice_faults rows_met labels_of recs_in

    pub stmt_told : (t : Stmt) (s : ReaderState) (f : Form) (x d : Bool) (fs : List Frame) {N L C R : List Fault} (ns : List Name)
        → s.frames ≡ frame f x d ∷ fs → Plain (is_chosen f && x) t → Read lim e h roles s N L C R ns → StmtTold t s f x d fs N L C R ns
    stmt_told (message l xs p q b) s f x d fs ns g y a = message_told l xs p q b s f x d fs ns g y a
    stmt_told (choice c p first others) s f x d fs {N} {L} {C} {R} ns g y a =
        let s₁ = special lim c s in
        let s₂ = chooser_met lim (stands_at p) (spelled p) s₁ in
        let fs₁ = frame f false true ∷ fs in
        let from = spelled p in
        let o = beginning_in first in
        let os = beginnings_among others in
        let w = fault_when d (blame c LAST c) in
        let v = fault_when (is_chosen f && x) (blame c CHOICE c) in
        let o₁ = chooser_told c p s f x d fs g a in
        let k = arm_told first (block_opened lim s₂) from none (rows_made s) 0 fs₁ ns o₁.1 o₁.0 in
        let m = blocks_told others (do_block lim first (block_opened lim s₂)) from (hears none o) (rows_made s) k.2.0 fs₁ (ns ++ labels_in first) k.2.1 k.1 k.0 in
        let to = choice_receiver (o ∷ os) in
        let b₁ = sym (hears_so from none o os) in
        let c₁ = ap (λ (z : List ℕ). choice_faults_among from z others) (sym (hears_on none o os)) in (
          at_as lim e h roles m.0
              (four' N (too_long p) (unknown_role roles p) (name_faults_in roles first (added f (recs_in fs))) (name_faults_among roles others (added f (recs_in fs))))
              (three L w (last_faults_in first false) (last_faults_among others))
              (ap₂ (λ (z z' : List Fault). ((C ++ v) ++ (z ++ choice_faults_in first)) ++ z') b₁ c₁
              ∙ four C v (wrong_start from to o) (choice_faults_in first) (choice_faults_among from to others))
              (three R (blame c MANY (stands_at p) ∷ []) (rows_met_in first true false) (rows_met_among others))
              (ap (firsts []) (append_assoc ns (labels_in first) (labels_among others))),
          m.1,
        )
    stmt_told (recursion c n b) s f x d fs {N} {L} {C} {R} ns g y a =
        let s₁ = special lim c s in
        let s₂ = rec_met lim (stands_at n) (spelled n) s₁ in
        let fs₁ = frame f false true ∷ fs in
        let w = fault_when d (blame c LAST c) in
        let v = fault_when (is_chosen f && x) (blame c CHOICE c) in
        let again = fault_when (is_in (spelled n) (added f (recs_in fs))) (blame (stands_at n) NAME (stands_at n)) in
        let o₁ = rec_told c n s f x d fs g a in
        let k = block_told b (block_opened lim s₂) (looped (spelled n)) true false fs₁ ns o₁.1 refl o₁.0 in (
          at_as lim e h roles k.0
              (two_one N (too_long n) again (name_faults_in roles b (spelled n ∷ added f (recs_in fs))))
              (append_assoc L w (last_faults_in b false))
              (append_assoc C v (choice_faults_in b))
              (append_assoc R (blame c MANY (stands_at n) ∷ []) (rows_met_in b false false))
              refl,
          k.1,
        )
    stmt_told (continue c n) s f x d fs {N} {L} {C} {R} ns g y a =
        let s₁ = special lim c s in
        let w = fault_when d (blame c LAST c) in
        let v = fault_when (is_chosen f && x) (blame c CHOICE c) in
        let nowhere = fault_when (not (is_in (spelled n) (recs_in s₁.frames))) (blame (stands_at n) NAME (stands_at n)) in
        let k₁ = special_frames lim s c f x d fs g in
        let a₁ = at_special lim e h roles s a c f x d fs g in
        let a₂ = at_name lim e h roles s₁ a₁ (too_long n) in
        let s₃ = name_met (stands_at n) (spelled n) s₁ in
        let a₃ = at_name lim e h roles s₃ a₂ nowhere in
        let a₄ = at_row lim e h roles (logged nowhere s₃) a₃ c (stands_at n) 4 (index_of (spelled n) (recs_in s₁.frames)) 0 0 in (
          at_as lim e h roles a₄
              (ap (λ (z : List Frame). (N ++ too_long n) ++ fault_when (not (is_in (spelled n) (recs_in z))) (blame (stands_at n) NAME (stands_at n))) k₁
              ∙ append_assoc N (too_long n) (fault_when (not (is_in (spelled n) (added f (recs_in fs)))) (blame (stands_at n) NAME (stands_at n))))
              (ap (λ (z : List Fault). L ++ z) (sym (append-nil w)))
              (ap (λ (z : List Fault). C ++ z) (sym (append-nil v)))
              refl (ap (firsts []) (sym (append-nil ns))),
          k₁,
        )

    pub block_told : (b : Block) (s : ReaderState) (f : Form) (x d : Bool) (fs : List Frame) {N L C R : List Fault} (ns : List Name)
        → s.frames ≡ frame f x d ∷ fs → is_chosen f && x ≡ false → Read lim e h roles s N L C R ns
        → Read lim e h roles (do_block lim b s) (N ++ name_faults_in roles b (added f (recs_in fs))) (L ++ last_faults_in b d) (C ++ choice_faults_in b) (R ++ rows_met_in b false d) (ns ++ labels_in b)
        × ((do_block lim b s).frames ≡ fs) × Waited f (do_block lim b s).pending
    block_told (ends c) s f x d fs {N} {L} {C} {R} ns g y a =
        let k = closes_keeps lim c s f x d fs g in (
          at_as lim e h roles (at_closes lim e h roles c s f x d fs g a)
              (sym (append-nil N)) (sym (append-nil L)) (ap (λ (z : Bool). C ++ fault_when z (blame c CHOICE c)) y) refl (ap (firsts []) (sym (append-nil ns))),
          k.0,
          k.1,
        )
    block_told (then t b) s f x d fs {N} {L} {C} {R} ns g y a =
        let w = fault_when d (blame (start_of t) LAST (start_of t)) in
        let recs = added f (recs_in fs) in
        let k = stmt_told t s f x d fs ns g (plain t (is_chosen f && x) y) a in
        let m = block_told b (do_stmt lim t s) f false (is_last t || d) fs (ns ++ labels_of t) k.1 (and-false (is_chosen f)) k.0 in (
          at_as lim e h roles m.0
              (append_assoc N (name_faults roles t recs) (name_faults_in roles b recs))
              (two_one L w (last_faults t) (last_faults_in b (is_last t || d)))
              (ap (λ (z : List Fault). (C ++ (z ++ choice_faults t)) ++ choice_faults_in b) (ap (λ (z : Bool). strange z t) y ∙ calm t) ∙ append_assoc C (choice_faults t) (choice_faults_in b))
              (append_assoc R (rows_met t false) (rows_met_in b false (is_last t || d)))
              (ap (firsts []) (append_assoc ns (labels_of t) (labels_in b))),
          m.1,
          m.2,
        )

    -- a block of a choice of p, of whose blocks before it q has heard
    pub arm_told : (b : Block) (s : ReaderState) (p : List ℕ) (q : Option (List ℕ)) (r y : ℕ) (fs : List Frame) {N L C R : List Fault} (ns : List Name)
        → s.frames ≡ frame (chosen p q r y) true false ∷ fs → Read lim e h roles s N L C R ns
        → Read lim e h roles (do_block lim b s) (N ++ name_faults_in roles b (recs_in fs)) (L ++ last_faults_in b false)
        (C ++ (wrong_start p (hearing q (beginning_in b ∷ [])) (beginning_in b) ++ choice_faults_in b)) (R ++ rows_met_in b true false) (ns ++ labels_in b)
        × ((do_block lim b s).frames ≡ fs) × ((a : ℕ) × ((do_block lim b s).pending ≡ chosen p (hears q (beginning_in b)) r a))
    arm_told (ends c) s p q r y fs {N} {L} {C} {R} ns g a =
        let k = closes_keeps lim c s (chosen p q r y) true false fs g in (
          at_as lim e h roles (at_closes lim e h roles c s (chosen p q r y) true false fs g a)
              (sym (append-nil N)) (sym (append-nil L)) (arm_ends p q c C) refl (ap (firsts []) (sym (append-nil ns))),
          k.0,
          (y, k.1),
        )
    arm_told (then t b) s p q r y fs {N} {L} {C} {R} ns g a =
        let o = beginning_of t in
        let k = first_told t s p q r y fs ns g a (λ z. stmt_told t s (chosen p q r y) true false fs ns g z a) in
        let m = block_told b (do_stmt lim t s) (chosen p (hears q o) r k.1.0) false (is_last t || false) fs (ns ++ labels_of t) k.1.1 refl k.0 in (
          at_as lim e h roles m.0
              (append_assoc N (name_faults roles t (recs_in fs)) (name_faults_in roles b (recs_in fs)))
              (append_assoc L (last_faults t) (last_faults_in b (is_last t || false)))
              (two_two C (wrong_start p (hearing q (o ∷ [])) o) (choice_faults t) (choice_faults_in b))
              (append_assoc R (rows_met t true) (rows_met_in b false (is_last t || false)))
              (ap (firsts []) (append_assoc ns (labels_of t) (labels_in b))),
          m.1,
          (k.1.0, m.2),
        )

    pub blocks_told : (bs : Blocks) (s : ReaderState) (p : List ℕ) (q : Option (List ℕ)) (r y : ℕ) (fs : List Frame) {N L C R : List Fault} (ns : List Name)
        → s.pending ≡ chosen p q r y → s.frames ≡ fs → Read lim e h roles s N L C R ns
        → Read lim e h roles (do_blocks lim bs s) (N ++ name_faults_among roles bs (recs_in fs)) (L ++ last_faults_among bs)
        (C ++ choice_faults_among p (hearing q (beginnings_among bs)) bs) (R ++ rows_met_among bs) (ns ++ labels_among bs)
        × ((do_blocks lim bs s).frames ≡ fs)
    blocks_told no_more s p q r y fs {N} {L} {C} {R} ns w g a =
        (at_as lim e h roles a (sym (append-nil N)) (sym (append-nil L)) (sym (append-nil C)) (sym (append-nil R)) (ap (firsts []) (sym (append-nil ns))), g)
    blocks_told (or b bs) s p q r y fs {N} {L} {C} {R} ns w g a =
        let o = beginning_in b in
        let os = beginnings_among bs in
        let to = hearing q (o ∷ os) in
        let g₁ = ap₂ (λ (z : Form) (z' : List Frame). frame z true false ∷ z') w g in
        let k = arm_told b (block_opened lim s) p q r y fs ns g₁ a in
        let m = blocks_told bs (do_block lim b (block_opened lim s)) p (hears q o) r k.2.0 fs (ns ++ labels_in b) k.2.1 k.1 k.0 in (
          at_as lim e h roles m.0
              (append_assoc N (name_faults_in roles b (recs_in fs)) (name_faults_among roles bs (recs_in fs)))
              (append_assoc L (last_faults_in b false) (last_faults_among bs))
              (ap₂ (λ (z z' : List Fault). (C ++ (z ++ choice_faults_in b)) ++ z') (sym (hears_so p q o os)) (ap (λ (z : List ℕ). choice_faults_among p z bs) (sym (hears_on q o os)))
              ∙ two_one C (wrong_start p to o) (choice_faults_in b) (choice_faults_among p to bs))
              (append_assoc R (rows_met_in b true false) (rows_met_among bs))
              (ap (firsts []) (append_assoc ns (labels_in b) (labels_among bs))),
          m.1,
        )
