-- The answers of fresh and awaited, where they are refused and where not. Assumes nothing.
use Prim.Native.Nat.{ℕ}
use mathlib.Core.Bool.{Bool, true, false, cond, not}
use mathlib.Core.List.{List}
use mathlib.Core.Path.{◌≡◌, refl, sym}
use lib.Count.{ones, count_trailing_zeros}
use Rattle.std.specs.Prelude.{Ok, Err}
use Rattle.words.specs.Below.{set_of}
use Rattle.table.specs.Limits.{base}
use Rattle.blocks.specs.Block.{block_rows}
use Rattle.blocks.specs.Tables.{tables_good}
use Rattle.state.specs.declared.Refusal.{Refusal}
use Rattle.state.specs.declared.Refusal.TheVariants.{Tables, State}
use Rattle.state.specs.mirror.Judged.{waiting_of}
use Rattle.session.specs.State.{listed, state_good, nothing}
use Rattle.session.specs.declared.Session.{Session}
use Rattle.session.specs.Results.{answered, told}
use Rattle.session.specs.Calls.{first_heads, fresh_of}
use Rattle.session.specs.Awaited.{is_awaited, role_set, nobody_awaited, awaited_of}
use Rattle.blocks.proofs.Good.{sized_bounds}
use Rattle.blocks.proofs.Sound.{good_sized}
use Rattle.state.proofs.Sets.{set_count, set_least}
use Rattle.state.proofs.Judging.{grounded_ok, ok≢err, same_ok, same_err}

-- a fresh session
module _ (ts : List ℕ) (roles : ℕ) where
  pub fresh_refused : tables_good base ts roles ≡ false → answered base (record { result = Err Tables; state = nothing base }) ≡ fresh_of base ts roles
  unfolding fresh_of
  fresh_refused bad = rw bad

  pub fresh_accepted : {hs : List ℕ} → tables_good base ts roles ≡ true → hs ≡ first_heads ts roles 8
      → answered base (record {
        result = Ok tt;
        state = record { heads = hs; counts = (nothing base).counts; labels = (nothing base).labels; payloads = (nothing base).payloads };
      }) ≡ fresh_of base ts roles
  unfolding fresh_of
  fresh_accepted good heads = rw (good, heads)

-- what was found of the awaited roles, as it is told
module _ (ts : List ℕ) (roles : ℕ) (s : Session) where
  -- a set was found: how many it holds, and the least of it
  pub set_told : {set : ℕ} → Ok set ≡ waiting_of base ts roles (listed s) → told base (record { result = Ok (record { set = set }); state = s }) ≡ awaited_of base ts roles s
  unfolding awaited_of waiting_of
  set_told {set} read =
      let (st, same) = grounded_ok ts roles (listed s) (Ok (set_of (is_awaited base ts roles s) roles)) (sym read) in
      let b = sized_bounds ts roles (block_rows ts roles) (good_sized ts roles st.tables_hold) in
      rw (st.tables_hold, st.state_holds, ← same_ok same, set_count (is_awaited base ts roles s) roles, set_least 8 (is_awaited base ts roles s) roles b.1)

  pub none_told : {e : Refusal} → Err e ≡ waiting_of base ts roles (listed s) → told base (record { result = Err e; state = s }) ≡ awaited_of base ts roles s
  unfolding awaited_of waiting_of ones count_trailing_zeros
  none_told {e} read = decide (not (tables_good base ts roles)) (not (state_good base ts roles s)) read
    where
      decide : (a b : Bool) → Err e ≡ cond a (Err Tables) (cond b (Err State) (Ok (set_of (is_awaited base ts roles s) roles)))
          → told base (record { result = Err e; state = s }) ≡ cond a (nobody_awaited base 12 s) (cond b (nobody_awaited base 13 s) (role_set 0 (is_awaited base ts roles s) roles 8 s))
      decide true b f = rw (same_err f) refl
      decide false true f = rw (same_err f) refl
      decide false false f = absurd (ok≢err f)
