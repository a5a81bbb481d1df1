-- Over lent slices: a refused call leaves the slices as they were, with the customer's values. For slices of any lengths.
-- Assumes nothing.
use Rattle.std.specs.Prelude.{ℕ, cond, List}
use Rattle.table.specs.Limits.{Limits}
use Rattle.session.specs.State.{nothing}
use Rattle.session.specs.Refused.{HandsBack, NamesNobody}
use Rattle.lent.specs.Slices.{is_state, lent}
use Rattle.embed.specs.Lent.{fresh_lent, send_lent, receive_lent, awaited_lent}

pub record RefusedLeaves (lim : Limits) : Type 0 where
  -- a fresh state for bad tables is all zeros; slices of other lengths are left as they are
  pub fresh : (tables : List ℕ) (roles : ℕ) (heads counts labels payloads : List ℕ)
      → HandsBack lim (cond (is_state lim heads counts labels payloads) (nothing lim) (lent heads counts labels payloads)) (fresh_lent lim tables roles heads counts labels payloads)
  pub send : (tables : List ℕ) (roles sender receiver label payload : ℕ) (heads counts labels payloads : List ℕ)
      → HandsBack lim (lent heads counts labels payloads) (send_lent lim tables roles sender receiver label payload heads counts labels payloads)
  pub receive : (tables : List ℕ) (roles sender receiver : ℕ) (heads counts labels payloads : List ℕ)
      → HandsBack lim (lent heads counts labels payloads) (receive_lent lim tables roles sender receiver heads counts labels payloads)
  pub awaited : (tables : List ℕ) (roles : ℕ) (heads counts labels payloads : List ℕ)
      → NamesNobody lim (awaited_lent lim tables roles heads counts labels payloads)
