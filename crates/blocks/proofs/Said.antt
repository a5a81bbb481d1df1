-- What a row says determines the row, and for a row of no kind its words do. Assumes nothing.
use Prim.Native.Nat.{ℕ}
use mathlib.Core.List.{List}
use mathlib.Core.Path.{◌≡◌, refl, sym, ◌∙◌, ap}
use lib.ListN.{get_or}
use Rattle.blocks.specs.Block as part
use Rattle.blocks.specs.Block.{PartRow}
use Rattle.blocks.specs.mirror.Rows.{said, four_of}
use Rattle.blocks.specs.declared.rows.Row.{Row}
use Rattle.blocks.specs.declared.rows.Row.TheVariants.{End, Arm, Loop, Back, Send, Receive, Other}

-- the row that says it; of these words where it is of no kind
row_of : PartRow → List ℕ → Row
row_of (part.End a b c) ws = End a b c
row_of (part.Arm l c n) ws = Arm l c n
row_of (part.Loop b x y) ws = Loop b x y
row_of (part.Back j x y) ws = Back j x y
row_of (part.Send q f x) ws = Send q f x
row_of (part.Receive q f x) ws = Receive q f x
row_of part.Other ws = Other (get_or ws 0 0) (get_or ws 1 0) (get_or ws 2 0) (get_or ws 3 0)

said_row : (w : Row) → row_of (said w) (four_of w) ≡ w
unfolding row_of
said_row (End a b c) = refl
said_row (Arm l c n) = refl
said_row (Loop b x y) = refl
said_row (Back j x y) = refl
said_row (Send q f x) = refl
said_row (Receive q f x) = refl
said_row (Other kind a b c) = refl

-- the words count for a row of no kind alone
of_words : (p : PartRow) (xs ys : List ℕ) → (p ≡ part.Other → xs ≡ ys) → row_of p xs ≡ row_of p ys
unfolding row_of
of_words (part.End a b c) xs ys e = refl
of_words (part.Arm l c n) xs ys e = refl
of_words (part.Loop b x y) xs ys e = refl
of_words (part.Back j x y) xs ys e = refl
of_words (part.Send q f x) xs ys e = refl
of_words (part.Receive q f x) xs ys e = refl
of_words part.Other xs ys e = ap (row_of part.Other) (e refl)

pub said_same : (v w : Row) → said v ≡ said w → (said v ≡ part.Other → four_of v ≡ four_of w) → v ≡ w
said_same v w e f =
    sym (said_row v) ∙ of_words (said v) (four_of v) (four_of w) f ∙ ap (λ (p : PartRow). row_of p (four_of w)) e ∙ said_row w

-- any two rows that meet the promise of `Block::row`, or of `row_at`, are equal
pub one_row : (says : PartRow) (words : List ℕ) (v w : Row) → (said v ≡ says) × (four_of v ≡ words) → (said w ≡ says) × (four_of w ≡ words) → v ≡ w
one_row says words v w a b = said_same v w (a.0 ∙ sym b.0) (λ none. a.1 ∙ sym b.1)
