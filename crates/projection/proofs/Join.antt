-- What `merge::join` leaves on the stack. Assumes nothing.
use Prim.Native.Nat.{ℕ, ◌+◌, ◌*◌, ◌≤◌}
use mathlib.Core.Bool.{true≢false}
use mathlib.Core.List.{List, ◌++◌, append_assoc}
use mathlib.Core.Option.{Option, none, some}
use mathlib.Core.Path.{◌≡◌, refl, sym, ◌∙◌, ap}
use native.Mathlib.Omega.{arith}
use lib.ListN.{length, take, drop, length-append}
use lib.Seq.{sets, sets-eq, take_at, take-append_seam, drop-append_seam}
use Rattle.parts.specs.Part.{Part}
use Rattle.parts.specs.Merge.{merge}
use Rattle.parts.specs.Layout.{size}
use Rattle.parts.specs.mirror.Codes.{codes}
use Rattle.merge.specs.mirror.Merging.{Join, Joined, joined_of, join_of}
use Rattle.parts.specs.mirror.Rising.{Rising}
use Rattle.projection.specs.mirror.Projects.{Stack, Space, Outcome, fails, puts}
use Rattle.merge.specs.declared.NoMerge.{NoMerge}
use Rattle.std.specs.Prelude.{Result, Ok, Err}
use Rattle.std.specs.Prelude.{Option as Maybe}
use Rattle.std.specs.Result.{result_ok}
use Rattle.parts.proofs.Sizes.{words_twice, merge_words}
use Rattle.parts.proofs.Words.{Stands, stands_slice}
use Rattle.merge.proofs.Joins as join

-- the two last parts of the stack are replaced by their merge
abbrev pub Joins : List ℕ → List ℕ → ℕ → ℕ → List ℕ → Maybe ℕ → Type 0
Joins work spare a b work' res =
    (s : List ℕ) (P Q : Part) (e : ℕ) → Rising P → Rising Q → a ≡ length s → b ≡ length (s ++ codes P)
    → Stack work e (s ++ codes P ++ codes Q) → Space ((size P + size Q) * 2) a work spare → Outcome codes s work' res (merge P Q)

-- words between others
pub between : (s ws rest work : List ℕ) (a : ℕ) → a ≡ length s → work ≡ s ++ ws ++ rest → Stands work a ws
between s ws rest work a e is =
    stands_slice work a ws (rw (is, e, append_assoc s ws rest, drop-append_seam s (ws ++ rest)) (take-append_seam ws rest))

-- words stored behind s
stored : (work s : List ℕ) (a : ℕ) (ws rest : List ℕ) → a ≡ length s → work ≡ s ++ rest → a + length ws ≤ length work
    → Stack (sets work a ws) (a + length ws) (s ++ ws)
stored work s a ws rest e is fits = record {
  rest = drop (a + length ws) work;
  is = sets-eq ws work a fits ∙ ap (λ (x : List ℕ). x ++ ws ++ drop (a + length ws) work) (ap (λ (x : List ℕ). take a x) is ∙ take_at s rest a (sym e));
  height = omega (arith, length-append s ws);
}

outcome : {X : Type 0} (f : X → List ℕ) (work s rest : List ℕ) (a : ℕ) (o : Option X) (j : Join) (r : Result ℕ NoMerge) {work' : List ℕ} → joined_of r ≡ j.res
    → work' ≡ j.work → a ≡ length s → work ≡ s ++ rest → ((x : X) → o ≡ some x → a + length (f x) ≤ length work) → join.Joins f work a o j
    → Outcome f s work' (result_ok r) o
outcome f work s rest a none j (Ok x) er ew e is fits h = absurd (true≢false (ap (λ (x : Joined). x.ok) er ∙ h))
outcome f work s rest a none j (Err m) er ew e is fits h = fails refl
outcome f work s rest a (some y) j (Ok x) er ew e is fits h =
    let k = stored work s a (f y) rest e is (fits y refl) in
    puts {x = y} refl (rw (ew ∙ h.1, ap (λ (x : Joined). x.at) (er ∙ h.0)) k)
outcome f work s rest a (some y) j (Err m) er ew e is fits h = absurd (true≢false (sym (ap (λ (x : Joined). x.ok) (er ∙ h.0))))

-- two lists of words, the last on the stack
module _ (s us vs : List ℕ) {work : List ℕ} {a b e : ℕ} (at : a ≡ length s) (bt : b ≡ length (s ++ us)) (k : Stack work e (s ++ us ++ vs)) where
  first : Stands work a us
  first = between s us (vs ++ k.rest) work a at (k.is ∙ append_assoc (s ++ us) vs k.rest)

  second : Stands work b vs
  second = between (s ++ us) vs k.rest work b bt k.is

  below : work ≡ s ++ (us ++ vs ++ k.rest)
  below = k.is ∙ simp append_assoc

  both_fit : a + (length us + length vs) ≤ length work
  both_fit = omega (arith, ap length k.is, length-append (s ++ us ++ vs) k.rest, length-append (s ++ us) vs, length-append s us)

pub joins_is : {work spare work' spare' : List ℕ} {a b : ℕ} (r : Result ℕ NoMerge) {res : Maybe ℕ}
    → (joined_of r ≡ (join_of work spare a b).res) × (work' ≡ (join_of work spare a b).work) × (spare' ≡ (join_of work spare a b).spare)
    → res ≡ result_ok r → Joins work spare a b work' res
joins_is {work} {spare} {work'} {a = a} {b = b} r (er, ew, es) is s P Q e p q at bt k sp =
    let l = both_fit s (codes P) (codes Q) at bt k in
    let m = words_twice P in
    let n = words_twice Q in
    let z = length-append s (codes P) in
    rw is
    (outcome codes work s (codes P ++ codes Q ++ k.rest) a (merge P Q) (join_of work spare a b) r er ew at (below s (codes P) (codes Q) at bt k)
    (λ M f. omega (arith, merge_words P Q f))
    (join.join_is P Q work spare a b p q (first s (codes P) (codes Q) at bt k) (second s (codes P) (codes Q) at bt k) (omega (arith, sp.few)) (omega (arith, l))
    (omega (arith, sp.spares)) l))
