-- The faults shown before a place are those of the tokens before it. Assumes nothing.
use Prim.Native.Nat.{ℕ, ◌<◌}
use mathlib.Core.Bool.{Bool, true, false, cond}
use mathlib.Core.List.{List, [], ◌∷◌, ◌++◌, append-nil}
use mathlib.Core.Path.{◌≡◌, refl, ap, ap₂, subst, ◌∙◌}
use native.Mathlib.Omega.{arith}
use lib.Dec.{ltb}
use borrow.Author.Tests.{lt-ltb, le-ltb}
use Rattle.table.specs.Limits.{Limits}
use Rattle.scribble.specs.Tokens.{Token, start}
use Rattle.scribble.specs.Refusals.{Fault, shown_before}
use Rattle.scribble.specs.Outcome.{AllAt, none_at, one_at}
use Rattle.scribble.specs.mirror.Reader.{ReaderState, begun, read_at, run}
use Rattle.scribble.proofs.Seen.{AllSeen, none_seen, one_seen, Grew, same, more, g_step}

-- every fault is shown before a place, every token stands before it
pub data SeenBelow (e : ℕ) : List Fault → Type 0 where
  none_below : SeenBelow e []
  one_below : {f : Fault} {fs : List Fault} → f.seen < e → SeenBelow e fs → SeenBelow e (f ∷ fs)

pub data TokensBelow (e : ℕ) : List Token → Type 0 where
  no_token : TokensBelow e []
  one_token : {w : Token} {ws : List Token} → start w < e → TokensBelow e ws → TokensBelow e (w ∷ ws)

below : {P : ℕ → Type 0} {e at : ℕ} {fs : List Fault} → at < e → AllSeen P at fs → SeenBelow e fs
below l none_seen = none_below
below {e = e} l (one_seen {f = f} p c a) = one_below {f = f} (omega arith) (below l a)

both_below : {e : ℕ} {xs ys : List Fault} → SeenBelow e xs → SeenBelow e ys → SeenBelow e (xs ++ ys)
both_below none_below b = b
both_below (one_below l a) b = one_below l (both_below a b)

pub shown_all : {e : ℕ} {fs : List Fault} → SeenBelow e fs → shown_before e fs ≡ fs
unfolding shown_before
shown_all none_below = refl
shown_all {e} (one_below {f = f} l a) = rw (lt-ltb f.seen e l, shown_all a)

pub shown_none : {P : ℕ → Type 0} {e : ℕ} {fs : List Fault} → AllSeen P e fs → shown_before e fs ≡ []
unfolding shown_before
shown_none none_seen = refl
shown_none {e = e} (one_seen {f = f} p c a) = rw (le-ltb f.seen e (omega arith), shown_none a)

keep : (e : ℕ) (t : Bool) (f : Fault) (xs ys zs : List Fault) → xs ≡ ys ++ zs → cond t (f ∷ xs) xs ≡ cond t (f ∷ ys) ys ++ zs
keep e true f xs ys zs p = ap (λ (l : List Fault). f ∷ l) p
keep e false f xs ys zs p = p

pub shown_append : (e : ℕ) (xs ys : List Fault) → shown_before e (xs ++ ys) ≡ shown_before e xs ++ shown_before e ys
unfolding shown_before
shown_append e [] ys = refl
shown_append e (f ∷ xs) ys = keep e (ltb f.seen e) f _ _ _ (shown_append e xs ys)

-- any place
abbrev Any : ℕ → Type 0
Any n = Unit {0}

module _ (lim : Limits) where
  run_below : {e : ℕ} {ws : List Token} → TokensBelow e ws → (s : ReaderState) → SeenBelow e s.log → SeenBelow e (run lim ws s).log
  unfolding run
  run_below no_token s a = a
  run_below (one_token {w = w} l h) s a =
      let g = g_step lim Any w tt s.control s (λ z. tt) in
      run_below h (read_at lim s.control w s) (rw g.1 (both_below a (below l g.2)))

  run_at : {e : ℕ} {ws : List Token} → AllAt e ws → (s₀ s : ReaderState) → Grew Any e s₀ s → Grew Any e s₀ (run lim ws s)
  unfolding run
  run_at none_at s₀ s g = g
  run_at {e} (one_at {w = w} p h) s₀ s g =
      let k = g_step lim Any w tt s.control s (λ z. tt) in
      run_at h s₀ (read_at lim s.control w s) (more Any e s₀ s (read_at lim s.control w s) k.0 g k.1 (subst (λ (x : ℕ). AllSeen Any x k.0) p k.2))

  run_append : (ws vs : List Token) (s : ReaderState) → run lim (ws ++ vs) s ≡ run lim vs (run lim ws s)
  unfolding run
  run_append [] vs s = refl
  run_append (w ∷ ws) vs s = run_append ws vs (read_at lim s.control w s)

  -- of the faults of a completed text those that are shown before the place are those of the tokens before it
  pub shown_before_lem : (e : ℕ) (ws vs : List Token) → TokensBelow e ws → AllAt e vs → shown_before e (run lim (ws ++ vs) begun).log ≡ (run lim ws begun).log
  shown_before_lem e ws vs b a =
      let s = run lim ws begun in
      let g = run_at a s s (same Any e s s refl) in
      ap (λ (x : ReaderState). shown_before e x.log) (run_append ws vs begun)
      ∙ (ap (shown_before e) g.1
      ∙ (shown_append e s.log g.0
      ∙ (ap₂ (λ (x y : List Fault). x ++ y) (shown_all (run_below b begun none_below)) (shown_none g.2) ∙ append-nil s.log)))
