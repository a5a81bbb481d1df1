-- `rows::row_at` meets its contract: a sum of its numbers that is past the end of the tables is held, and its words are 0 all the same. Assumes
-- nothing.
use Rattle.std.proofs.Common.{◌≡◌, ◌+◌, ◌≤◌, refl, ◌∙◌, ap, length}
use native.Mathlib.Omega.{arith}
use Rattle.words.specs.Rows.{row_words}
use Rattle.blocks.proofs.Held.{row_held}
use Rattle.blocks.proofs.rows.row_at.Goals as goal

pub returns : goal.returns
returns c =
    let tables = c.args.tables.now in
    let short : length tables ≤ 18446744073709551615 = omega arith in
    let four : c.row.result ≡ row_words tables (c.args.start + c.args.row) =
    c.row.ensures ∙ ap (row_words tables) c.saturating_add.ensures ∙ row_held tables _ short _ in
    (c.from.ensures.0 ∙ rw four refl, c.from.ensures.1 ∙ four)
