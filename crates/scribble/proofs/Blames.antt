-- The acts of a message, of a block's end and of a block's start, and what each adds to the faults of names, last statements, choices and rows. Assumes nothing.
use Prim.Native.Nat.{ℕ, suc, ◌+◌, ◌*◌}
use mathlib.Core.Bool.{Bool, true, false, cond, not, ◌&&◌}
use mathlib.Core.List.{List, [], ◌∷◌, ◌++◌, append_assoc, append-nil}
use mathlib.Core.Option.{Option, none, some}
use mathlib.Core.Path.{◌≡◌, refl, sym, subst, ◌∙◌, ap}
use native.Mathlib.Omega.{arith}
use lib.Dec.{eqb}
use lib.ListN.{length, set, length-set}
use Rattle.table.specs.Limits.{Limits}
use Rattle.scribble.specs.Tokens.{spelled_alike}
use Rattle.scribble.specs.Grammar.{Name, message}
use Rattle.scribble.specs.Names.{spelled, stands_at, firsts}
use Rattle.scribble.specs.Refusals.{too_long_among, unknown_role, Beginning, other_start, message_start, choice_receiver, name_faults, Fault, blame, fault_when, Finding, CHOICE, LAST, MANY, wrong_start, too_long}
use Rattle.scribble.specs.mirror.Reader.{ReaderState, Form, body, looped, chosen, Frame, frame, top, around, is_chosen, logged, framed, add_row, statement_begun, label_met, name_met, role_met, rows_made, receiver_of, role_number, exchanged, armed, message_in, message_ends, sender_met, receiver_met, block_behind, block_closes, end_as}
use Rattle.scribble.specs.mirror.Acts.{names_met}
use Rattle.scribble.proofs.Tally.{Tallied, At, at_name, at_choice, at_row, at_as, at_names, at_role, at_labels, at_begins, names_log, label_met_keeps}

-- the receiver of a choice, when q has been heard before these blocks
abbrev pub hearing : Option (List ℕ) → List Beginning → List ℕ
hearing none os = choice_receiver os
hearing (some q) os = q

-- who has been heard when one block more has begun
abbrev pub hears : Option (List ℕ) → Beginning → Option (List ℕ)
hears q (other_start c) = q
hears q (message_start l p q' e) = some (receiver_of q q')

pub hears_on : (q : Option (List ℕ)) (o : Beginning) (os : List Beginning) → hearing q (o ∷ os) ≡ hearing (hears q o) os
unfolding choice_receiver
hears_on none (other_start c) os = refl
hears_on (some q) (other_start c) os = refl
hears_on none (message_start l p q' e) os = refl
hears_on (some q) (message_start l p q' e) os = refl

-- a block begins as it should, whether later blocks are known or not
pub hears_so : (p : List ℕ) (q : Option (List ℕ)) (o : Beginning) (os : List Beginning) → wrong_start p (hearing q (o ∷ os)) o ≡ wrong_start p (hearing q (o ∷ [])) o
unfolding choice_receiver wrong_start
hears_so p q (other_start c) os = refl
hears_so p none (message_start l p' q' e) os = refl
hears_so p (some q) (message_start l p' q' e) os = refl

-- the receiver that a message is compared with
pub hears_this : (q : Option (List ℕ)) (l : ℕ) (p q' : List ℕ) (e : ℕ) → receiver_of q q' ≡ hearing q (message_start l p q' e ∷ [])
unfolding choice_receiver
hears_this none l p q' e = refl
hears_this (some q) l p q' e = refl

six : (N a b c d f g : List Fault) → (((N ++ a) ++ b) ++ (c ++ d)) ++ (f ++ g) ≡ N ++ (a ++ b ++ c ++ d ++ f ++ g)
six N a b c d f g = simp append_assoc

linked_length : (t : Bool) (xs : List ℕ) (i j v w : ℕ) → length (cond t (set xs i v) (set (set xs i v) j w)) ≡ length xs
linked_length true xs i j v w = length-set xs i v
linked_length false xs i j v w = length-set (set xs i v) j w ∙ length-set xs i v

-- what a block of this form leaves to be opened next
abbrev pub Waited : Form → Form → Type 0
Waited body g = Unit {0}
Waited (looped x) g = Unit {0}
Waited (chosen p q r a) g = g ≡ chosen p q r a

module _ (lim : Limits) where
  -- a message up to its `;`
  abbrev pub spoken : Name → List Name → Name → Name → ReaderState → ReaderState
  spoken l xs p q s =
      receiver_met lim (stands_at q) (spelled q) (sender_met lim (stands_at p) (spelled p)
      (names_met xs (label_met lim (stands_at l) (spelled l) (name_met (stands_at l) (spelled l) (statement_begun lim (stands_at l) s)))))

  pub spoken_keeps : (l : Name) (xs : List Name) (p q : Name) (s : ReaderState) → ((spoken l xs p q s).frames ≡ s.frames) × ((spoken l xs p q s).since ≡ stands_at l)
  unfolding sender_met receiver_met role_met
  spoken_keeps l xs p q s =
      let s₂ = name_met (stands_at l) (spelled l) (statement_begun lim (stands_at l) s) in
      let s₃ = label_met lim (stands_at l) (spelled l) s₂ in
      let k = label_met_keeps lim (stands_at l) (spelled l) s₂ in
      let n = names_log xs s₃ in
      (ap (λ (z : ReaderState). z.frames) n ∙ k.0, ap (λ (z : ReaderState). z.since) n ∙ k.1)

  pub sent_as : (b : ℕ) (s : ReaderState) (f : Form) (x d : Bool) (fs : List Frame) → s.frames ≡ frame f x d ∷ fs → message_ends lim b s ≡ message_in lim f x b s
  unfolding message_ends
  sent_as b s f x d fs h = ap (λ (z : List Frame). message_in lim (top z).form (top z).unbegun b s) h

  pub sent_plain : (f : Form) (x : Bool) (b : ℕ) (s : ReaderState) → is_chosen f && x ≡ false → message_in lim f x b s ≡ exchanged lim b s
  unfolding message_in
  sent_plain body x b s e = refl
  sent_plain (looped n) x b s e = refl
  sent_plain (chosen p q r a) true b s e = let k : ◌≡◌ {A = ℕ} 0 1 = cc in let w : ⊥ = omega arith in absurd w
  sent_plain (chosen p q r a) false b s e = refl

  closed_keeps : (f : Form) (t : Bool) (fs : List Frame) (b : ℕ) (s : ReaderState)
      → ((block_behind lim f (framed fs (end_as lim t b s))).frames ≡ fs) × Waited f (block_behind lim f (framed fs (end_as lim t b s))).pending
  closed_keeps body true fs b s = (refl, tt)
  closed_keeps body false fs b s = (refl, tt)
  closed_keeps (looped x) true fs b s = (refl, tt)
  closed_keeps (looped x) false fs b s = (refl, tt)
  closed_keeps (chosen p q r a) true fs b s = (refl, refl)
  closed_keeps (chosen p q r a) false fs b s = (refl, refl)

  pub closes_as : (b : ℕ) (s : ReaderState) (f : Form) (x d : Bool) (fs : List Frame) → s.frames ≡ frame f x d ∷ fs
      → block_closes lim b s ≡ block_behind lim f (framed fs (end_as lim d b (logged (fault_when (is_chosen f && x) (blame b CHOICE b)) s)))
  unfolding block_closes
  closes_as b s f x d fs h =
      ap (λ (z : List Frame). block_behind lim (top z).form (framed (around z) (end_as lim (top z).done b (logged (fault_when (is_chosen (top z).form && (top z).unbegun) (blame b CHOICE b)) s)))) h

  pub closes_keeps : (b : ℕ) (s : ReaderState) (f : Form) (x d : Bool) (fs : List Frame) → s.frames ≡ frame f x d ∷ fs
      → ((block_closes lim b s).frames ≡ fs) × Waited f (block_closes lim b s).pending
  closes_keeps b s f x d fs h =
      subst (λ (z : ReaderState). (z.frames ≡ fs) × Waited f z.pending) (sym (closes_as b s f x d fs h)) (closed_keeps f d fs b (logged (fault_when (is_chosen f && x) (blame b CHOICE b)) s))

module _ (lim : Limits) (e : ℕ) (h : Finding) (roles : List (List ℕ)) where
  abbrev pub Read : ReaderState → List Fault → List Fault → List Fault → List Fault → List Name → Type 0
  Read s N L C R ns = At lim e h roles s N L C R (firsts [] ns)

  pub at_spoken : (l : Name) (xs : List Name) (p q : Name) (b : ℕ) (recs : List (List ℕ)) (s : ReaderState) (f : Form) (x d : Bool) (fs : List Frame) {N L C R : List Fault} (ns : List Name)
      → s.frames ≡ frame f x d ∷ fs → Read s N L C R ns
      → Read (spoken lim l xs p q s) (N ++ name_faults roles (message l xs p q b) recs) (L ++ fault_when d (blame (stands_at l) LAST (stands_at l))) C R (ns ++ (l ∷ []))
      × ((spoken lim l xs p q s).sender ≡ spelled p) × ((spoken lim l xs p q s).receiver ≡ spelled q)
  unfolding sender_met receiver_met name_faults role_met
  at_spoken l xs p q b recs s f x d fs {N} {L} {C} {R} ns g a =
      let s₁ = statement_begun lim (stands_at l) s in
      let s₂ = name_met (stands_at l) (spelled l) s₁ in
      let s₃ = label_met lim (stands_at l) (spelled l) s₂ in
      let s₄ = names_met xs s₃ in
      let s₅ = sender_met lim (stands_at p) (spelled p) s₄ in
      let a₁ = at_begins lim e h roles s a (stands_at l) f x d fs g in
      let a₂ = at_name lim e h roles s₁ a₁ (too_long l) in
      let a₃ = at_labels lim e h roles s₂ ns a₂ l in
      let a₄ = at_names lim e h roles s₃ a₃ xs in
      let a₅ = at_role lim e h roles s₄ a₄ p in
      let a₆ = at_role lim e h roles s₅ a₅ q in (
        at_as lim e h roles a₆ (six N (too_long l) (too_long_among xs) (too_long p) (unknown_role roles p) (too_long q) (unknown_role roles q)) refl refl refl refl,
        refl,
        refl,
      )

  pub at_exchanged : (b : ℕ) (s : ReaderState) {N L C R : List Fault} {ns : List Name} → At lim e h roles s N L C R ns
      → At lim e h roles (exchanged lim b s) N L C (R ++ (blame s.since MANY b ∷ blame s.since MANY b ∷ [])) ns
  at_exchanged b s {R = R} a =
      let n = rows_made s in
      let row = blame s.since MANY b in
      let s₁ = add_row lim s.since b 1 (role_number s.sender s) (role_number s.receiver s) (suc n) s in
      at_as lim e h roles (at_row lim e h roles s₁ (at_row lim e h roles s a s.since b 1 (role_number s.sender s) (role_number s.receiver s) (suc n)) s.since b 2 s.label (n + 2) 0)
      refl refl refl (append_assoc R (row ∷ []) (row ∷ [])) refl

  at_closed : (f : Form) (t : Bool) (fs : List Frame) (b : ℕ) (s : ReaderState) {N L C R : List Fault} {ns : List Name} → At lim e h roles s N L C R ns
      → At lim e h roles (block_behind lim f (framed fs (end_as lim t b s))) N L C (R ++ cond t [] (blame b MANY b ∷ [])) ns
  at_closed body true fs b s {R = R} a = at_as lim e h roles a refl refl refl (sym (append-nil R)) refl
  at_closed body false fs b s a = at_row lim e h roles s a b b 0 0 0 0
  at_closed (looped x) true fs b s {R = R} a = at_as lim e h roles a refl refl refl (sym (append-nil R)) refl
  at_closed (looped x) false fs b s a = at_row lim e h roles s a b b 0 0 0 0
  at_closed (chosen p q r y) true fs b s {R = R} a = at_as lim e h roles a refl refl refl (sym (append-nil R)) refl
  at_closed (chosen p q r y) false fs b s a = at_row lim e h roles s a b b 0 0 0 0

  pub at_closes : (b : ℕ) (s : ReaderState) (f : Form) (x d : Bool) (fs : List Frame) {N L C R : List Fault} {ns : List Name} → s.frames ≡ frame f x d ∷ fs → At lim e h roles s N L C R ns
      → At lim e h roles (block_closes lim b s) N L (C ++ fault_when (is_chosen f && x) (blame b CHOICE b)) (R ++ cond d [] (blame b MANY b ∷ [])) ns
  at_closes b s f x d fs {N} {L} {C} {R} {ns} g a =
      let fault = fault_when (is_chosen f && x) (blame b CHOICE b) in
      subst (λ (z : ReaderState). At lim e h roles z N L (C ++ fault) (R ++ cond d [] (blame b MANY b ∷ [])) ns) (sym (closes_as lim b s f x d fs g))
      (at_closed f d fs b (logged fault s) (at_choice lim e h roles s a fault))

  -- the message that begins a block of a choice
  module _ (b : ℕ) (p : List ℕ) (q : Option (List ℕ)) (r y l : ℕ) (p' q' : List ℕ) (s : ReaderState) (at : s.since ≡ l) (by : s.sender ≡ p') (to : s.receiver ≡ q') where
    armed_fault : fault_when (not (spelled_alike s.sender p && spelled_alike s.receiver (receiver_of q s.receiver))) (blame s.since CHOICE b)
        ≡ wrong_start p (hearing q (message_start l p' q' b ∷ [])) (message_start l p' q' b)
    unfolding wrong_start
    armed_fault =
        ap (λ (n : ℕ). fault s.sender s.receiver (receiver_of q s.receiver) n) at
        ∙ (ap (λ (n : List ℕ). fault s.sender n (receiver_of q n) l) to
        ∙ (ap (λ (n : List ℕ). fault n q' (receiver_of q q') l) by
        ∙ ap (λ (n : List ℕ). fault p' q' n l) (hears_this q l p' q' b)))
      where
        fault : List ℕ → List ℕ → List ℕ → ℕ → List Fault
        fault sender receiver choice_receiver since = fault_when (not (spelled_alike sender p && spelled_alike receiver choice_receiver)) (blame since CHOICE b)

    pub armed_frames : (d : Bool) (fs : List Frame) → s.frames ≡ frame (chosen p q r y) true d ∷ fs
        → (armed lim b p q r y s).frames ≡ frame (chosen p (hears q (message_start l p' q' b)) r (rows_made s)) false d ∷ fs
    unfolding armed
    armed_frames d fs g =
        ap (λ (z : List Frame). frame (chosen p (some (receiver_of q s.receiver)) r (rows_made s)) false (top z).done ∷ around z) g
        ∙ ap (λ (n : List ℕ). frame (chosen p (some (receiver_of q n)) r (rows_made s)) false d ∷ fs) to

    pub at_armed : {N L C R : List Fault} {ns : List Name} → At lim e h roles s N L C R ns
        → At lim e h roles (armed lim b p q r y s) N L (C ++ wrong_start p (hearing q (message_start l p' q' b ∷ [])) (message_start l p' q' b)) (R ++ (blame l MANY b ∷ [])) ns
    unfolding armed
    at_armed {N} {L} {C} {R} {ns} a =
        let n = rows_made s in
        let q'' = receiver_of q s.receiver in
        let wrong = not (spelled_alike s.sender p && spelled_alike s.receiver q'') in
        let s₀ = logged (fault_when wrong (blame s.since CHOICE b)) s in
        let s₁ = add_row lim s.since b 2 s.label (suc n) 0 s₀ in
        let a₀ = at_choice lim e h roles s a (fault_when wrong (blame s.since CHOICE b)) in
        let a₁ = at_row lim e h roles s₀ a₀ s.since b 2 s.label (suc n) 0 in
        at_as lim e h roles
        (subst (λ (z : ℕ). Tallied lim e h roles s.roles s.labels z s₁.log N L (C ++ fault_when wrong (blame s.since CHOICE b)) (R ++ (blame s.since MANY b ∷ [])) ns)
        (sym (linked_length (eqb y 0) s₁.rows (r * 4 + 2) (y * 4 + 3) (role_number q'' s) n)) a₁)
        refl refl (ap (λ (z : List Fault). C ++ z) armed_fault) (ap (λ (z : ℕ). R ++ (blame z MANY b ∷ [])) at) refl
