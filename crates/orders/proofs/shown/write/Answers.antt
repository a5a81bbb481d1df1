-- `orders::shown::write` meets its contract. Assumes nothing.
use Prim.Native.Nat.{ℕ}
use native.Mathlib.Omega.{arith}
use lib.ListN.{length-take, length-replicate}
use Rattle.orders.proofs.Showing.{put_room, put_text, fits_told}
use Rattle.orders.proofs.shown.write.Goals as goal

pub slice_bounds-answer-end : goal.slice_bounds-answer-end
slice_bounds-answer-end c =
    let fits = fits_told _ _ _ _ _ c.as_slice-told.ensures.value c.cut.ensures.items c.requires.some c.as_slice-told.ensures.fits c.requires.short in
    put_room _ _ _ _ _ _ fits.0 (omega (arith, fits.1, length-replicate {A = ℕ} 8201 0)) c.copy.ensures c.wide-end.ensures.1 c.wide-end.ensures.0

pub slice_bounds-text-end : goal.slice_bounds-text-end
slice_bounds-text-end c =
    let fits = fits_told _ _ _ _ _ c.as_slice-told.ensures.value c.cut.ensures.items c.requires.some c.as_slice-told.ensures.fits c.requires.short in
    let room = put_room _ _ _ _ _ _ fits.0 (omega (arith, fits.1, length-replicate {A = ℕ} 8201 0)) c.copy.ensures c.wide-end.ensures.1 c.wide-end.ensures.0 in
    rw (length-take c.wide-end.result c.wide-end.new.out) (omega (arith, room))

pub returns : goal.returns
returns c =
    let fits = fits_told _ _ _ _ _ c.as_slice-told.ensures.value c.cut.ensures.items c.requires.some c.as_slice-told.ensures.fits c.requires.short in
    rw (← c.as_slice-told.ensures.value, ← c.cut.ensures.items)
    (put_text _ _ _ _ _ _ fits.0 (omega (arith, fits.1, length-replicate {A = ℕ} 8201 0)) c.copy.ensures c.wide-end.ensures.1 c.wide-end.ensures.0 _ _ _
    (omega (arith, fits.1, c.requires.room)) c.text.ensures.1 c.text.ensures.2)
