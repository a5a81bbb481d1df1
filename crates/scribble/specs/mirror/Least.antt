-- The fault that decides as two numbers: number 0 is none. Assumes nothing.
use Rattle.std.specs.Prelude.{ℕ, zero, suc, Bool, cond, ◌&&◌, ◌||◌, ltb, eqb}
use Rattle.scribble.specs.Refusals.{Finding, faultless, faulty}

-- a place and a number
pub record Blamed : Type 0 where
  pub place : ℕ
  pub number : ℕ

abbrev pub finding_of : ℕ → ℕ → Finding
finding_of place zero = faultless
finding_of place (suc n) = faulty place (suc n)

-- one fault more, where the test holds and the number is not 0: that it is the one that decides is proofs/Noting.note_decides
unfoldable pub noted : Blamed → Bool → ℕ → ℕ → Blamed
noted least test place number =
    let sooner = ltb place least.place || (eqb place least.place && ltb number least.number) in
    cond ((ltb 0 number && test) && (eqb least.number 0 || sooner)) (record { place = place; number = number }) least
