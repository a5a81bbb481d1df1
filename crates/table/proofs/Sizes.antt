-- Rules 1 and 2: what is known of a table that they accept, and that a refusal by them does not look at the rules after them. Assumes nothing.
use Prim.Native.Nat.{ℕ, ◌*◌, ◌%◌, ◌≤◌, ◌<◌}
use mathlib.Core.Bool.{Bool, true, false, not, ◌||◌}
use mathlib.Core.List.{List}
use mathlib.Core.Logic.{◌≢◌}
use mathlib.Core.Path.{◌≡◌, refl, ◌∙◌}
use lib.Dec.{ltb, eqb}
use lib.ListN.{length}
use native.Mathlib.Omega.{arith}
use borrow.Author.Tests.{ltb-false, eqb-true, eqb-false, not-false}
use Rattle.words.specs.Rows.{rows_of}
use Rattle.table.specs.Limits.{Limits}
use Rattle.table.specs.Numbers.{WORDS, ROLES}
use Rattle.table.specs.Rules.{words_broken, roles_broken}
use Rattle.table.specs.Check.{says, accepted, refused, sized}
use Rattle.table.specs.Check.{Verdict}
use Rattle.table.proofs.Tests.{neither}

-- what each of the two tests answers
pub says_words : (lim : Limits) (t : List ℕ) (roles : ℕ) (rest : Verdict) → words_broken lim t ≡ true → says WORDS 0 ≡ sized lim t roles rest
says_words lim t roles rest e = rw e

pub says_roles : (lim : Limits) (t : List ℕ) (roles : ℕ) (rest : Verdict) → words_broken lim t ≡ false → roles_broken lim roles ≡ true
    → says ROLES 0 ≡ sized lim t roles rest
says_roles lim t roles rest e f = rw (e, f)

-- rules 1 and 2 are kept
pub record Sized (lim : Limits) (t : List ℕ) (roles : ℕ) : Type 0 where
  pub words : words_broken lim t ≡ false
  pub count : roles_broken lim roles ≡ false

-- what that says of the table and of its roles
pub record Measured (lim : Limits) (t : List ℕ) (roles : ℕ) : Type 0 where
  pub some : 0 < rows_of t
  pub whole : length t ≡ rows_of t * 4
  pub few : rows_of t ≤ lim.rows
  pub least : 2 ≤ roles
  pub most : roles ≤ lim.roles

pub measured : (lim : Limits) (t : List ℕ) (roles : ℕ) → Sized lim t roles → Measured lim t roles
measured lim t roles s =
    let (ab, c) = neither (eqb (length t) 0 || not (eqb (length t % 4) 0)) (ltb (lim.rows * 4) (length t)) s.words in
    let (a, b) = neither (eqb (length t) 0) (not (eqb (length t % 4) 0)) ab in
    let (d, e) = neither (ltb roles 2) (ltb lim.roles roles) s.count in
    let nonempty = eqb-false (length t) 0 a in
    let fours = eqb-true (length t % 4) 0 (not-false (eqb (length t % 4) 0) b) in
    let short = ltb-false (lim.rows * 4) (length t) c in
    record {
      some = omega arith;
      whole = omega arith;
      few = omega arith;
      least = ltb-false roles 2 d;
      most = ltb-false lim.roles roles e;
    }

kept : (a b : Bool) → (refused WORDS a (refused ROLES b accepted)).number ≡ 0 → (a ≡ false) × (b ≡ false)
kept true b e = absurd (omega arith)
kept false true e = absurd (omega arith)
kept false false e = (refl, refl)

-- accepted by number
pub sizes_kept : (lim : Limits) (t : List ℕ) (roles : ℕ) (v : Verdict) → v ≡ sized lim t roles accepted → v.number ≡ 0 → Sized lim t roles
sizes_kept lim t roles v e z =
    let (a, b) = kept (words_broken lim t) (roles_broken lim roles) (rw e at z) in
    record { words = a; count = b }

-- what comes after is then the answer
pub sizes_pass : (lim : Limits) (t : List ℕ) (roles : ℕ) (rest : Verdict) → Sized lim t roles → sized lim t roles rest ≡ rest
sizes_pass lim t roles rest s = rw (s.words, s.count)

stops : (a b : Bool) (rest : Verdict) → (refused WORDS a (refused ROLES b accepted)).number ≢ 0
    → refused WORDS a (refused ROLES b accepted) ≡ refused WORDS a (refused ROLES b rest)
stops true b rest h = refl
stops false true rest h = refl
stops false false rest h = absurd (h refl)

-- refused by number: what comes after does not matter
pub sizes_stop : (lim : Limits) (t : List ℕ) (roles : ℕ) (rest : Verdict) (v : Verdict) → v ≡ sized lim t roles accepted → v.number ≢ 0
    → v ≡ sized lim t roles rest
sizes_stop lim t roles rest v e h = e ∙ stops (words_broken lim t) (roles_broken lim roles) rest (rw e at h)
