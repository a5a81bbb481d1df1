-- A refused call over lent slices leaves them as they were. Assumes nothing.
use Prim.Native.Nat.{ℕ}
use mathlib.Core.Bool.{Bool, true, false, cond}
use mathlib.Core.Path.{refl}
use Rattle.table.specs.Limits.{Limits}
use Rattle.session.specs.State.{nothing}
use Rattle.session.specs.Calls.{answers}
use Rattle.session.specs.Awaited.{nobody_awaited}
use Rattle.session.specs.Refused.{HandsBack, NamesNobody}
use Rattle.session.specs.declared.Session.{Session}
use Rattle.session.specs.Answers.{Answer, Awaiting}
use Rattle.session.proofs.Refused.{refused_keeps}
use Rattle.lent.specs.Slices.{is_state, lent}
use Rattle.embed.specs.Leaves.{RefusedLeaves}

-- where the slices are a state's, as the call does; else the state is what they hold
lent_back : (lim : Limits) (whole : Bool) (n : ℕ) (s t : Session) (a : Answer) → HandsBack lim t a
    → HandsBack lim (cond whole t s) (cond whole a (answers lim n s))
lent_back lim true n s t a h = h
lent_back lim false n s t a h = λ r. (refl, refl, refl, λ l m. refl)

-- the same state either way
lent_same : (lim : Limits) (whole : Bool) (n : ℕ) (s : Session) (a : Answer) → HandsBack lim s a
    → HandsBack lim s (cond whole a (answers lim n s))
lent_same lim true n s a h = h
lent_same lim false n s a h = λ r. (refl, refl, refl, λ l m. refl)

lent_nobody : (lim : Limits) (whole : Bool) (n : ℕ) (s : Session) (a : Awaiting) → NamesNobody lim a
    → NamesNobody lim (cond whole a (nobody_awaited lim n s))
lent_nobody lim true n s a h = h
lent_nobody lim false n s a h = λ r. (refl, refl, refl)

pub refused_leaves : (lim : Limits) → RefusedLeaves lim
refused_leaves lim = record {
  fresh = λ ts roles h c l v. lent_back lim (is_state lim h c l v) _ (lent h c l v) (nothing lim) _ ((refused_keeps lim).fresh ts roles);
  send = λ ts roles p q l v hs cs ls vs. lent_same lim (is_state lim hs cs ls vs) _ (lent hs cs ls vs) _ ((refused_keeps lim).send (lent hs cs ls vs) ts roles p q l v);
  receive = λ ts roles p q hs cs ls vs. lent_same lim (is_state lim hs cs ls vs) _ (lent hs cs ls vs) _ ((refused_keeps lim).receive (lent hs cs ls vs) ts roles p q);
  awaited = λ ts roles hs cs ls vs. lent_nobody lim (is_state lim hs cs ls vs) _ (lent hs cs ls vs) _ ((refused_keeps lim).awaited (lent hs cs ls vs) ts roles);
}
