-- The writing of rows, one code at a time: what the code does at each step is what its mirror says. Assumes nothing.
use Prim.Native.Nat.{ℕ, zero, suc, ◌+◌, ◌-◌, ◌<◌, ◌≤◌}
use mathlib.Core.Bool.{Bool, true, false}
use mathlib.Core.List.{List}
use mathlib.Core.Logic.{◌⊎◌, inl, inr}
use mathlib.Core.Path.{◌≡◌, refl, sym, ◌∙◌}
use native.Mathlib.Omega.{arith}
use native.Mathlib.Numerals.{sub-one, add-one}
use lib.ListN.{get_or, set}
use borrow.Author.Tests.{lt-ltb, le-ltb, le-leb}
use Rattle.std.specs.Prelude.{Option, Some, None}
use Rattle.words.specs.Rows.{word, put_row}
use Rattle.parts.specs.declared.Code.{Code}
use Rattle.parts.specs.declared.Code.TheVariants.{End, Mark, Arm, Loop, Back, Send, Receive, Other}
use Rattle.parts.specs.mirror.Kinds.{code_of, kind_of, argument_of}
use Rattle.layout.specs.mirror.Lay.{LIMIT, inside, InRange, step_at, loop_row, close_arm, resume, waits, waiting, Lay, turn_body, run_s, rest, end_s, clear_s, lay_out}
use Rattle.layout.specs.declared.Walk.{Walk}
use Rattle.std.specs.Prelude.{unwrap_or}

-- ---- the code at a place

range_in : (n i from row depth : ℕ) → InRange n i from row depth → inside n i from row depth ≡ true
range_in n i from row depth h =
    rw (lt-ltb 0 n h.some_left, lt-ltb i LIMIT h.code_in, le-leb from LIMIT h.from_in, lt-ltb row LIMIT h.row_in, lt-ltb depth LIMIT h.depth_in)

step_out_lem : (n : ℕ) (s : List ℕ) (i from row depth : ℕ) → inside n i from row depth ≡ false → Other ≡ step_at n s i from row depth
unfolding step_at
step_out_lem n s i from row depth e = rw e

pub step_in : (n : ℕ) (s : List ℕ) (i from row depth w : ℕ) → InRange n i from row depth → w ≡ get_or s i 0 → code_of w ≡ step_at n s i from row depth
unfolding step_at
step_in n s i from row depth w h ew = rw (range_in n i from row depth h, ew)

-- ---- the end of a part

waits_back : (n : ℕ) → waits (waiting n) ≡ n
waits_back zero = refl
waits_back (suc n) = refl

-- no more is left than before
resume_left : (out : List ℕ) (from code row depth left : ℕ) (wait : Option ℕ)
    → (resume out from (record { code = code; row = row; depth = depth; wait = wait; left = left })).left ≤ left
resume_left out from code row depth left None = omega arith
resume_left out from code row depth left (Some arm) = omega arith

-- ---- the zeros

pub clear_none : (out : List ℕ) (first n : ℕ) → n ≡ 0 → out ≡ clear_s out first n
unfolding clear_s
clear_none out first n e = rw e

-- one row of zeros more
pub clear_more : (out : List ℕ) (first n m row : ℕ) (o o' : List ℕ) → o ≡ clear_s out first n → o' ≡ put_row o row 0 0 0 0 → row ≡ first + n → m ≡ suc n
    → o' ≡ clear_s out first m
unfolding clear_s
clear_more out first n m row o o' eo eo' er em = eo' ∙ rw (er, em, eo)

-- ---- a call

run_eq : (n : ℕ) (s : List ℕ) (from i : ℕ) (out : List ℕ) (row : ℕ) (loops : List ℕ) (depth wait : ℕ)
    → run_s n s from i out row loops depth wait ≡ turn_body (λ j o r l d w. run_s (n - 1) s from j o r l d w) (step_at n s i from row depth) s from i out row
    loops depth wait
unfolding run_s step_at
run_eq zero s from i out row loops depth wait = refl
run_eq (suc n) s from i out row loops depth wait = rw (sub-one (suc n))

pub run_at : (n : ℕ) (s : List ℕ) (from i : ℕ) (out : List ℕ) (row : ℕ) (loops : List ℕ) (depth wait : ℕ) (c : Code) → c ≡ step_at n s i from row depth
    → run_s n s from i out row loops depth wait ≡ turn_body (λ j o r l d w. run_s (n - 1) s from j o r l d w) c s from i out row loops depth wait
run_at n s from i out row loops depth wait c ec = rw ec (run_eq n s from i out row loops depth wait)

-- the end of a part, as the code goes on behind it
end_eq : (s : List ℕ) (from code row depth left : ℕ) (wait : Option ℕ) (out loops : List ℕ)
    → end_s left s from code out row loops (waits wait)
    ≡ rest s from (resume out from (record { code = code; row = row; depth = depth; wait = wait; left = left })) (close_arm s out from code row (waits wait)) loops
unfolding run_s
end_eq s from code row depth left None out loops = refl
end_eq s from code row depth left (Some arm) out loops = rw (waits_back (word out (from + arm) 3))

-- after the last turn; b: what the code found of its range
pub lay_done : (s : List ℕ) (from : ℕ) (at : Walk) (out loops : List ℕ) (b : Bool) (m : Lay) → m ≡ rest s from at out loops
    → b ≡ inside at.left at.code from at.row at.depth → b ≡ false
    → (at.code ≡ m.res.code) × (at.row ≡ m.res.row) × (out ≡ m.out) × (loops ≡ m.loops)
lay_done s from at out loops b m em eb e =
    let out_of : Other ≡ step_at at.left s at.code from at.row at.depth = step_out_lem at.left s at.code from at.row at.depth (sym eb ∙ e) in
    rw (em, run_at at.left s from at.code out at.row loops at.depth (waits at.wait) Other out_of) (refl, refl, refl, refl)

-- a turn at the word w
module _ (s : List ℕ) (from : ℕ) (at : Walk) (out loops : List ℕ) (h : InRange at.left at.code from at.row at.depth × (waits at.wait ≤ LIMIT))
    (w : ℕ) (ew : w ≡ get_or s at.code 0) (c : Code) (ec : c ≡ code_of w) where
  -- what `turn` promises of its answer and both slices
  abbrev Goes : Walk → List ℕ → List ℕ → Type 0
  Goes r o l = (rest s from at out loops ≡ rest s from r o l) × (r.left < at.left) × (waits r.wait ≤ LIMIT)

  step : (d : Code) → c ≡ d
      → rest s from at out loops
      ≡ turn_body (λ j o r l d x. run_s (at.left - 1) s from j o r l d x) d s from at.code out at.row loops at.depth (waits at.wait)
  step d e = run_at at.left s from at.code out at.row loops at.depth (waits at.wait) d (sym e ∙ ec ∙ step_in at.left s at.code from at.row at.depth w h.0 ew)

  -- behind a part that ends before row r, with the words o
  abbrev Behind : ℕ → List ℕ → Type 0
  Behind r o =
      (q : Walk) (o' : List ℕ)
      → (q ≡ resume o from (record { code = at.code + 1; row = r; depth = at.depth; wait = at.wait; left = at.left - 1 })) × (waits q.wait ≤ LIMIT)
      × (o' ≡ close_arm s o from (at.code + 1) r (waits at.wait))
      → Goes q o' loops

  ended : (r : ℕ) (o : List ℕ) → rest s from at out loops ≡ end_s (at.left - 1) s from (at.code + 1) o r loops (waits at.wait) → Behind r o
  ended r o e q o' (eq, hq, eo) = (
    e ∙ end_eq s from (at.code + 1) r at.depth (at.left - 1) at.wait o loops ∙ rw (eq, eo),
    omega (arith, h.0, rw (← eq) at (resume_left o from (at.code + 1) r at.depth (at.left - 1) at.wait)),
    hq,
  )

  pub turn_end : c ≡ End → (k : ℕ) → k ≡ kind_of c → {o : List ℕ} → o ≡ put_row out (from + at.row) k 0 0 0 → {q : Walk} {o' : List ℕ}
      → (q ≡ resume o from (record { code = at.code + 1; row = at.row + 1; depth = at.depth; wait = at.wait; left = at.left - 1 })) × (waits q.wait ≤ LIMIT)
      × (o' ≡ close_arm s o from (at.code + 1) (at.row + 1) (waits at.wait))
      → Goes q o' loops
  turn_end e k ek {o} eo {q} {o'} b = ended (at.row + 1) o (step End e ∙ rw (eo, ek, e)) q o' b

  pub turn_mark : c ≡ Mark → {q : Walk} {o' : List ℕ}
      → (q ≡ resume out from (record { code = at.code + 1; row = at.row; depth = at.depth; wait = at.wait; left = at.left - 1 })) × (waits q.wait ≤ LIMIT)
      × (o' ≡ close_arm s out from (at.code + 1) at.row (waits at.wait))
      → Goes q o' loops
  turn_mark e {q} {o'} b = ended at.row out (step Mark e) q o' b

  pub turn_back : {d : ℕ} → c ≡ Back d → (k home : ℕ) → k ≡ kind_of c → home ≡ unwrap_or (loop_row d loops at.depth) 0 → {o : List ℕ}
      → o ≡ put_row out (from + at.row) k home 0 0 → {q : Walk} {o' : List ℕ}
      → (q ≡ resume o from (record { code = at.code + 1; row = at.row + 1; depth = at.depth; wait = at.wait; left = at.left - 1 })) × (waits q.wait ≤ LIMIT)
      × (o' ≡ close_arm s o from (at.code + 1) (at.row + 1) (waits at.wait))
      → Goes q o' loops
  turn_back {d} e k home ek eh {o} eo {q} {o'} b = ended (at.row + 1) o (step (Back d) e ∙ rw (eo, ek, e, eh)) q o' b

  pub turn_arm : {l : ℕ} → c ≡ Arm l → (k x : ℕ) → k ≡ kind_of c → x ≡ waits at.wait → {o : List ℕ} → o ≡ put_row out (from + at.row) k l at.depth x
      → Goes (record { code = at.code + 1; row = at.row + 1; depth = at.depth; wait = Some at.row; left = at.left - 1 }) o loops
  turn_arm {l} e k x ek ex eo = (step (Arm l) e ∙ rw (eo, ek, e, ex, add-one at.row), omega (arith, h.0), omega (arith, h.0))

  pub turn_loop : c ≡ Loop → (k : ℕ) → k ≡ kind_of c → {o l : List ℕ} → o ≡ put_row out (from + at.row) k (at.row + 1) 0 0 → l ≡ set loops at.depth at.row
      → Goes (record { code = at.code + 1; row = at.row + 1; depth = at.depth + 1; wait = at.wait; left = at.left - 1 }) o l
  turn_loop e k ek eo el = (step Loop e ∙ rw (eo, ek, e, el), omega (arith, h.0), h.1)

  pub turn_send : {q : ℕ} → c ≡ Send q → (k x : ℕ) → k ≡ kind_of c → x ≡ argument_of c → {o : List ℕ} → o ≡ put_row out (from + at.row) k x (at.row + 1) 0
      → Goes (record { code = at.code + 1; row = at.row + 1; depth = at.depth; wait = at.wait; left = at.left - 1 }) o loops
  turn_send {q} e k x ek ex eo = (step (Send q) e ∙ rw (eo, ek, ex, e), omega (arith, h.0), h.1)

  pub turn_receive : {q : ℕ} → c ≡ Receive q → (k x : ℕ) → k ≡ kind_of c → x ≡ argument_of c → {o : List ℕ} → o ≡ put_row out (from + at.row) k x (at.row + 1) 0
      → Goes (record { code = at.code + 1; row = at.row + 1; depth = at.depth; wait = at.wait; left = at.left - 1 }) o loops
  turn_receive {q} e k x ek ex eo = (step (Receive q) e ∙ rw (eo, ek, ex, e), omega (arith, h.0), h.1)

  pub turn_other : c ≡ Other → Goes (record { code = at.code; row = at.row; depth = at.depth; wait = at.wait; left = 0 }) out loops
  unfolding run_s
  turn_other e = (step Other e, h.0.some_left, h.1)

-- the block: what `lay` and `clear` leave
pub laid_out : (s : List ℕ) (i : ℕ) (out : List ℕ) (from rows : ℕ) (loops : List ℕ) (code row : ℕ) (o l o' : List ℕ) → from ≤ LIMIT → rows ≤ LIMIT
    → (code ≡ (run_s LIMIT s from i out 0 loops 0 0).res.code) × (row ≡ (run_s LIMIT s from i out 0 loops 0 0).res.row)
    × (o ≡ (run_s LIMIT s from i out 0 loops 0 0).out) × (l ≡ (run_s LIMIT s from i out 0 loops 0 0).loops)
    → o' ≡ clear_s o (from + row) (rows - row)
    → (code ≡ (lay_out s i out from rows loops).res.code) × (o' ≡ (lay_out s i out from rows loops).out) × (l ≡ (lay_out s i out from rows loops).loops)
unfolding lay_out
laid_out s i out from rows loops code row o l o' p q (ec, er, eo, el) f =
    rw (le-ltb LIMIT from p, le-ltb LIMIT rows q) (ec, f ∙ rw (eo, er), el)

pub laid_nothing : (s : List ℕ) (i : ℕ) (out : List ℕ) (from rows : ℕ) (loops : List ℕ) → (LIMIT < from) ⊎ ((from ≤ LIMIT) × (LIMIT < rows))
    → (i ≡ (lay_out s i out from rows loops).res.code) × (out ≡ (lay_out s i out from rows loops).out) × (loops ≡ (lay_out s i out from rows loops).loops)
unfolding lay_out
laid_nothing s i out from rows loops (inl h) = rw (lt-ltb LIMIT from h) (refl, refl, refl)
laid_nothing s i out from rows loops (inr (h, k)) = rw (le-ltb LIMIT from h, lt-ltb LIMIT rows k) (refl, refl, refl)
