-- Bytes are cut into lines one behind another. Assumes nothing.
use Prim.Native.Nat.{ℕ, ◌+◌, ◌-◌, ◌^◌, ◌≤◌, ◌<◌}
use mathlib.Core.Bool.{Bool, true, false, cond}
use mathlib.Core.List.{List, [], ◌∷◌, ◌++◌}
use mathlib.Core.Path.{◌≡◌, refl, sym, ◌∙◌, ap}
use native.Mathlib.Numerals.{add-one}
use native.Mathlib.Omega.{arith}
use lib.Dec.{eqb}
use borrow.Author.Tests.{eq-eqb, ne_eqb}
use lib.ListN.{length, length-append, get_or, take, drop, drop_of_length-le}
use lib.Seq.{drop-cons, drop-drop, take_all}
use Rattle.std.proofs.lemmas.List.{length-drop}
use Rattle.std.proofs.Common.{Option, Some, None, Result, Ok, Bor}
use Rattle.std.specs.Io.KnownBytes.{Consumes, IsAtEnd}
use Rattle.std.specs.Bool.{⊤}
use Rattle.std.specs.Fn.{Mut, CalledAt}
use Rattle.lines.specs.Input.{longer, ended, begun, lines_of, Taken, AllTaken, AllAnswered}
use Rattle.lines.specs.mirror.Runs.{lengthened, run}
use Rattle.lines.proofs.Running.{ended-run, begun-run, ended-none as ended-no_newline, begun-none as begun-no_newline}

module _ (room : ℕ) (front line bs : List ℕ) (i : ℕ) where
  -- at a newline a line ends, and the next one is begun
  pub ended-newline : i < length bs → get_or bs i 0 ≡ 10 → ended room front line (drop i bs) ≡ line ∷ ended room front front (drop (i + 1) bs)
  unfolding ended
  ended-newline l e = rw (add-one i, drop-cons bs i 0 l, eq-eqb (get_or bs i 0) 10 e)

  pub begun-newline : i < length bs → get_or bs i 0 ≡ 10 → begun room front line (drop i bs) ≡ begun room front front (drop (i + 1) bs)
  unfolding begun
  begun-newline l e = rw (add-one i, drop-cons bs i 0 l, eq-eqb (get_or bs i 0) 10 e)

  -- another byte lengthens it
  pub ended-byte : i < length bs → (get_or bs i 0 ≡ 10 → ⊥) → ended room front line (drop i bs) ≡ ended room front (longer room line (get_or bs i 0)) (drop (i + 1) bs)
  unfolding ended
  ended-byte l e = rw (add-one i, drop-cons bs i 0 l, ne_eqb (get_or bs i 0) 10 e)

  pub begun-byte : i < length bs → (get_or bs i 0 ≡ 10 → ⊥) → begun room front line (drop i bs) ≡ begun room front (longer room line (get_or bs i 0)) (drop (i + 1) bs)
  unfolding begun
  begun-byte l e = rw (add-one i, drop-cons bs i 0 l, ne_eqb (get_or bs i 0) 10 e)

  -- none is left
  pub ended-none : length bs ≤ i → ended room front line (drop i bs) ≡ []
  unfolding ended
  ended-none l = rw (drop_of_length-le bs l)

  pub begun-none : length bs ≤ i → begun room front line (drop i bs) ≡ line
  unfolding begun
  begun-none l = rw (drop_of_length-le bs l)

-- the bytes that are left end the same lines behind a line and what answers it as all of them behind those at the start
pub record Cut {F : Type 0} (g : F → List ℕ → F → Type 0) (room : ℕ) (bs first line : List ℕ) (f : F) (left front now : List ℕ) (h : F) : Type 0 where
  pub same : front ≡ first
  pub rest : begun room front now left ≡ begun room first line bs
  pub lines : (last : F) → Taken g h (ended room front now left) last → Taken g f (ended room first line bs) last

module _ {F : Type 0} (g : F → List ℕ → F → Type 0) (room : ℕ) (bs first line : List ℕ) (f : F) where
  pub uncut : Cut g room bs first line f bs first line f
  uncut = record { same = refl; rest = refl; lines = λ last a. a }

  -- up to a newline a line ends, and the next one is begun
  pub cut_run : (left some more front now whole front' now' : List ℕ) (h h' : F) (end : ℕ) → end ≡ run left → end < length left → more ≡ drop 1 (drop end left)
      → some ≡ take end left → whole ≡ lengthened room now some → g h whole h' → front' ≡ front → now' ≡ front
      → Cut g room bs first line f left front now h → Cut g room bs first line f more front' now' h'
  cut_run left some more front now whole front' now' h h' end at low m s e call p q cut =
      let l : run left < length left = rw at at low in
      let behind : more ≡ drop (run left + 1) left = rw at at (m ∙ drop-drop 1 end left) in
      let taken : whole ≡ lengthened room now (take (run left) left) = rw (s, at) at e in
      rw (p, q, behind) record {
        same = cut.same;
        rest = sym (begun-run room front now left l) ∙ cut.rest;
        lines = λ last a. cut.lines last (rw (ended-run room front now left l) (h', rw taken at call, a));
      }

  -- where no newline is left, the last line is begun
  pub cut_rest : (left front now now' : List ℕ) (h : F) → run left ≡ length left → now' ≡ lengthened room now left
      → Cut g room bs first line f left front now h → now' ≡ begun room first line bs
  cut_rest left front now now' h e p cut = p ∙ sym (begun-no_newline room front now left e) ∙ cut.rest

  pub cut_lines : (left front now : List ℕ) (h : F) → run left ≡ length left → Cut g room bs first line f left front now h → Taken g f (ended room first line bs) h
  cut_lines left front now h e cut = cut.lines h (rw (ended-no_newline room front now left e) refl)

  -- the same byte by byte: at a newline a line ends, and the next one is begun
  pub cut_newline : (i : ℕ) (front now front' now' : List ℕ) (h h' : F) → i < length bs → get_or bs i 0 ≡ 10
      → g h now h' → front' ≡ front → now' ≡ front → Cut g room bs first line f (drop i bs) front now h → Cut g room bs first line f (drop (i + 1) bs) front' now' h'
  cut_newline i front now front' now' h h' l e call p q cut = rw (p, q) record {
    same = cut.same;
    rest = sym (begun-newline room front now bs i l e) ∙ cut.rest;
    lines = λ last a. cut.lines last (rw (ended-newline room front now bs i l e) (h', call, a));
  }

  -- another byte lengthens it
  pub cut_byte : (i : ℕ) (front now front' now' : List ℕ) (h : F) → i < length bs → (get_or bs i 0 ≡ 10 → ⊥)
      → front' ≡ front → now' ≡ longer room now (get_or bs i 0) → Cut g room bs first line f (drop i bs) front now h → Cut g room bs first line f (drop (i + 1) bs) front' now' h
  cut_byte i front now front' now' h l e p q cut = rw (p, q) record {
    same = cut.same;
    rest = sym (begun-byte room front now bs i l e) ∙ cut.rest;
    lines = λ last a. cut.lines last (rw (ended-byte room front now bs i l e) a);
  }

  -- none is left
  pub none_rest : (i : ℕ) (front now : List ℕ) (h : F) → length bs ≤ i → Cut g room bs first line f (drop i bs) front now h → now ≡ begun room first line bs
  none_rest i front now h l cut = sym (begun-none room front now bs i l) ∙ cut.rest

  pub none_lines : (i : ℕ) (front now : List ℕ) (h : F) → length bs ≤ i → Cut g room bs first line f (drop i bs) front now h → Taken g f (ended room first line bs) h
  none_lines i front now h l cut = cut.lines h (rw (ended-none room front now bs i l) refl)

-- what is behind the newline at `end`
pub behind_newline : (end : ℕ) (left xs : List ℕ) → xs ≡ drop end left → take (length xs - 1) (drop 1 xs) ≡ drop 1 (drop end left)
behind_newline end left xs e = take_all (length xs - 1) (drop 1 xs) (omega (arith, length-drop 1 xs)) ∙ ap (drop 1) e

-- some bytes and those behind them
ended_case : (t : Bool) (line : List ℕ) (x y x' y' : List (List ℕ)) (u v : List ℕ) (k : List ℕ → List (List ℕ)) → x ≡ x' ++ k u → y ≡ y' ++ k v
    → cond t (line ∷ x) y ≡ cond t (line ∷ x') y' ++ k (cond t u v)
ended_case true line x y x' y' u v k e f = ap (λ (l : List (List ℕ)). line ∷ l) e
ended_case false line x y x' y' u v k e f = f

ended-append : (room : ℕ) (front line cs bs : List ℕ) → ended room front line (cs ++ bs) ≡ ended room front line cs ++ ended room front (begun room front line cs) bs
unfolding ended begun
ended-append room front line [] bs = refl
ended-append room front line (c ∷ cs) bs =
    ended_case (eqb c 10) line _ _ _ _ _ _ (λ l. ended room front l bs) (ended-append room front front cs bs) (ended-append room front (longer room line c) cs bs)

begun_case : (t : Bool) (x y u v : List ℕ) (k : List ℕ → List ℕ) → x ≡ k u → y ≡ k v → cond t x y ≡ k (cond t u v)
begun_case true x y u v k e f = e
begun_case false x y u v k e f = f

begun-append : (room : ℕ) (front line cs bs : List ℕ) → begun room front line (cs ++ bs) ≡ begun room front (begun room front line cs) bs
unfolding begun
begun-append room front line [] bs = refl
begun-append room front line (c ∷ cs) bs =
    begun_case (eqb c 10) _ _ _ _ (λ l. begun room front l bs) (begun-append room front front cs bs) (begun-append room front (longer room line c) cs bs)

module _ {F : Type 0} (g : F → List ℕ → F → Type 0) where
  answered-append : (xs ys : List (List ℕ)) (f h last : F) → Taken g f xs h → Taken g h ys last → Taken g f (xs ++ ys) last
  answered-append [] ys f h last a b = rw a b
  answered-append (x ∷ xs) ys f h last a b = (a.0, a.1, answered-append xs ys a.0 h last a.2 b)

  -- so many turns were taken, each with a byte, and what is left of the input ends the same lines as all of it
  pub record Unread (room : ℕ) (front line : List ℕ) (f : F) (bs : List ℕ) (turn : ℕ) (now : List ℕ) (h : F) (left : List ℕ) : Type 0 where
    pub few : turn + length left ≤ length bs
    pub rest : begun room front now left ≡ begun room front line bs
    pub lines : (last : F) → Taken g h (ended room front now left) last → Taken g f (ended room front line bs) last

  -- the same of an input whose bytes may be known
  abbrev pub Left : (room : ℕ) (front line : List ℕ) (f : F) → Option (List ℕ) → ℕ → List ℕ → F → Option (List ℕ) → Type 0
  Left room front line f None turn now h known = Unit {0}
  Left room front line f (Some bs) turn now h None = ⊥
  Left room front line f (Some bs) turn now h (Some left) = Unread room front line f bs turn now h left

  module _ (room : ℕ) (front line : List ℕ) (f : F) where
    pub unread : (known : Option (List ℕ)) → Left room front line f known 0 line f known
    unread None = tt
    unread (Some bs) = record { few = omega arith; rest = refl; lines = λ last a. a }

    -- some of it was read, and its lines answered
    pub read_some : (known was is : Option (List ℕ)) (turn : ℕ) (now now' : List ℕ) (h h' : F) (some : List ℕ) → 0 < length some
        → Consumes was is some → now' ≡ begun room front now some → Taken g h (ended room front now some) h'
        → Left room front line f known turn now h was → Left room front line f known (turn + 1) now' h' is
    read_some None was is turn now now' h h' some l c e a left = tt
    read_some (Some bs) None is turn now now' h h' some l c e a left = absurd left
    read_some (Some bs) (Some xs) None turn now now' h h' some l c e a left = c
    read_some (Some bs) (Some xs) (Some ys) turn now now' h h' some l c e a left = record {
      few = omega (arith, left.few, ap length c, length-append some ys);
      rest = rw e (sym (begun-append room front now some ys) ∙ (rw (← c) left.rest));
      lines = λ last b. left.lines last (rw (c, ended-append room front now some ys) (answered-append (ended room front now some) _ h h' last a (rw (← e) b)));
    }

    nothing_left : (bs now : List ℕ) (turn : ℕ) (h h' : F) (t : Bool) → eqb (length now) (length front) ≡ t → Taken g h (cond t [] (now ∷ [])) h'
        → Unread room front line f bs turn now h [] → Taken g f (lines_of room front line bs) h'
    unfolding lines_of ended begun
    nothing_left bs now turn h h' t e a left =
        rw (← left.rest, e) (answered-append (ended room front line bs) (cond t [] (now ∷ [])) f h h' (left.lines h refl) a)

    -- all of it was read, and its last line answered
    pub read_all : (known was is : Option (List ℕ)) (turn : ℕ) (now : List ℕ) (h h' : F) (t : Bool) → eqb (length now) (length front) ≡ t → Taken g h (cond t [] (now ∷ [])) h'
        → Consumes was is [] → IsAtEnd is → Left room front line f known turn now h was → AllTaken g room front line f known h'
    read_all None was is turn now h h' t e a c end left = tt
    read_all (Some bs) None is turn now h h' t e a c end left = absurd left
    read_all (Some bs) (Some xs) None turn now h h' t e a c end left = absurd c
    read_all (Some bs) (Some xs) (Some ys) turn now h h' t e a c end left =
        let none : xs ≡ [] = c ∙ end in
        λ few. nothing_left bs now turn h h' t e a (rw none at left)

    -- each turn takes a byte, so an input of no more bytes than turns is read to its end
    pub out_of_turns : (known was : Option (List ℕ)) (turn : ℕ) (now : List ℕ) (h : F) → 2 ^ 64 - 1 ≤ turn
        → Left room front line f known turn now h was → AllTaken g room front line f known h
    out_of_turns None was turn now h l left = tt
    out_of_turns (Some bs) None turn now h l left = absurd left
    out_of_turns (Some bs) (Some xs) turn now h l left = λ few. absurd (omega (arith, left.few))

-- where the calls of a closure took each line, it was called at each
pub all_called : {F E : Type 0} (g : Mut F (Bor (List ℕ) × Unit {0}) (Result ⊤ E)) (room : ℕ) (front line : List ℕ) (f : F) (known : Option (List ℕ)) (last : F)
    → AllTaken (λ p x q. CalledAt g p x (Ok tt) q) room front line f known last → AllAnswered g room front line f known
all_called g room front line f None last a = tt
all_called g room front line f (Some bs) last a = λ few. (last, a few)
