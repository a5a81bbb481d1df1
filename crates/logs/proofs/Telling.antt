-- The numbers of a report in one line, and the line's bytes. Assumes nothing.
use Prim.Native.Nat.{ℕ, zero, suc, ◌+◌, ◌*◌, ◌/◌, ◌%◌, ◌≤◌, min}
use mathlib.Core.Bool.{Bool, true, false, cond}
use mathlib.Core.List.{List, [], ◌∷◌, ◌++◌}
use mathlib.Core.Path.{◌≡◌, refl, ap, ◌∙◌}
use native.Mathlib.Omega.{arith}
use lib.Dec.{ltb}
use lib.ListN.{replicate, drop}
use borrow.Rule.Slice.PartMut.{put_mid}
use lib.ListN.{length, take, length-append}
use lib.Seq.{take_at, drop_at}
use borrow.Author.Tests.{ltb-false}
use Rattle.words.specs.Below.{lowest}
use Rattle.words.proofs.Below.{lowest_le}
use Rattle.lines.specs.Over.{overlaid}
use Rattle.lines.specs.Text.{digits_of, decimal, text_of}
use Rattle.table.specs.Limits.{Limits}
use Rattle.table.specs.Rules.{roles_broken}
use Rattle.hours.specs.Report.{MOST, earlier, stray, refusal, figures, report_of}
use Rattle.hours.specs.declared.Record.{Record}
use Rattle.logs.specs.Lines.{told_of, answer_of}
use Rattle.std.proofs.Common.{Some, None}
use Rattle.logs.specs.Logs.{records, kept_by, keeps, roles_of}
use Rattle.logs.specs.declared.State.{State}
use Rattle.logs.specs.declared.State.TheVariants.{Fresh, Faulty, Begun}
use Rattle.logs.specs.declared.Log.{Log}
use Rattle.lines.proofs.Putting.{over_front}

-- a number has at most ten digits
digits_long : (k n : ℕ) → length (digits_of k n) ≤ k
unfolding digits_of
digits_long zero n = omega arith
digits_long (suc k) n = by (ltb n 10) (digits_long k (n / 10))
  where
    by : (b : Bool) → length (digits_of k (n / 10)) ≤ k → length (cond b ((48 + n) ∷ []) (digits_of k (n / 10) ++ ((48 + n % 10) ∷ []))) ≤ suc k
    by true l = omega arith
    by false l = simp length-append (omega arith)

decimal_long : (n : ℕ) → length (decimal n) ≤ 10
unfolding decimal
decimal_long n = digits_long 10 n

-- a number has at most ten digits, and one byte behind it
text_long : (ns : List ℕ) → length (text_of ns) ≤ length ns * 11
unfolding text_of
text_long [] = omega arith
text_long (n ∷ []) = simp length-append (omega (arith, decimal_long n))
text_long (n ∷ m ∷ ns) = simp length-append (omega (arith, decimal_long n, text_long (m ∷ ns)))

pub text_put : (ns old out : List ℕ) (r : ℕ) → length ns * 11 ≤ length old → r ≡ min (length (text_of ns)) (length old) → out ≡ overlaid 0 (text_of ns) old
    → (take r out ≡ text_of ns) × (r ≡ length (text_of ns))
text_put ns old out r room e f =
    let all : length (text_of ns) ≤ length old = omega (arith, text_long ns) in
    let long : r ≡ length (text_of ns) = omega arith in
    (rw (long, f) (over_front (text_of ns) old all), long)

-- ---- the answer

-- a record that is named is one of those that may be
pub place_le : (lim : Limits) (rs : List Record) (roles : ℕ) → (report_of lim rs roles).place ≤ MOST
unfolding report_of
place_le lim rs roles = by_tests (roles_broken lim roles) (ltb MOST n) (ltb i n) (ltb j n) refl
  where
    n : ℕ
    n = length rs

    i : ℕ
    i = lowest (earlier rs) n

    j : ℕ
    j = lowest (stray roles rs) n

    by_tests : (a b c d : Bool) → ltb MOST n ≡ b
        → (cond a (refusal lim 2 0) (cond b (refusal lim 27 0) (cond c (refusal lim 28 i) (cond d (refusal lim 29 j) (figures lim rs))))).place ≤ MOST
    by_tests true b c d e = omega arith
    by_tests false true c d e = omega arith
    by_tests false false true d e = omega (arith, lowest_le (earlier rs) n, ltb-false MOST n e)
    by_tests false false false true e = omega (arith, lowest_le (stray roles rs) n, ltb-false MOST n e)
    by_tests false false false false e = omega arith

module _ (lim : Limits) (log : Log) where
  pub asks : roles_of (keeps log) ≡ None → answer_of lim (keeps log) ≡ 63 ∷ 10 ∷ []
  unfolding answer_of
  asks = by log.state
    where
      by : (s : State) → roles_of (kept_by s (records log)) ≡ None → answer_of lim (kept_by s (records log)) ≡ 63 ∷ 10 ∷ []
      by Fresh e = refl
      by (Faulty n) e = refl
      by (Begun roles) e = absurd (grind (arith, e))

  pub tells : (roles : ℕ) → roles_of (keeps log) ≡ Some roles → answer_of lim (keeps log) ≡ text_of (told_of (report_of lim (records log) roles))
  unfolding answer_of report_of text_of
  tells roles = by log.state
    where
      by : (s : State) → roles_of (kept_by s (records log)) ≡ Some roles → answer_of lim (kept_by s (records log)) ≡ text_of (told_of (report_of lim (records log) roles))
      by Fresh e = absurd (grind (arith, e))
      by (Faulty n) e = absurd (grind (arith, e))
      by (Begun n) e = let q : n ≡ roles = grind (arith, e) in ap (λ (k : ℕ). text_of (told_of (report_of lim (records log) k))) q

-- ---- the numbers of a line, put into an array part by part

pub parts_put : (a b c d e : ℕ) (alone : List ℕ) (m n : ℕ) → length alone ≡ 8
    → put_mid 13 2 (put_mid 5 8 (a ∷ b ∷ c ∷ d ∷ e ∷ replicate 10 0) alone) (m ∷ n ∷ []) ≡ a ∷ b ∷ c ∷ d ∷ e ∷ alone ++ (m ∷ n ∷ [])
parts_put a b c d e alone m n long =
    ap (λ (xs : List ℕ). a ∷ b ∷ c ∷ d ∷ e ∷ take 8 (alone ++ (0 ∷ 0 ∷ [])) ++ (m ∷ n ∷ drop 2 xs)) (drop_at alone (0 ∷ 0 ∷ []) 8 long)
    ∙ ap (λ (xs : List ℕ). a ∷ b ∷ c ∷ d ∷ e ∷ xs ++ (m ∷ n ∷ [])) (take_at alone (0 ∷ 0 ∷ []) 8 long)
