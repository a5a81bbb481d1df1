-- `rules::repeated` meets its contract. Assumes nothing.
use mathlib.Core.Path.{◌∙◌, refl}
use native.Mathlib.Omega.{arith}
use borrow.Author.Count.{below_none, below_more}
use borrow.Author.Tests.{eq-eqb, ne_eqb}
use Rattle.rules.specs.mirror.Chain.{nth}
use Rattle.rules.proofs.Chain.{next_row, ended, found, goes_on, same_is}
use Rattle.rules.proofs.repeated.Goals as goal

pub chain-init : goal.chain-init
unfolding nth
chain-init c = (refl, omega arith, below_none _)

pub loop-init : goal.loop-init
unfolding nth
loop-init c = (refl, below_none _)

pub loop-preserved : goal.loop-preserved
loop-preserved c = (
  next_row _ _ _ _ c.loop.invariant.0 _ (c.from-earlier.ensures ∙ c.word-in-loop.ensures),
  below_more _ _ c.loop.invariant.1
      (same_is c.args.words.now c.args.first _ _ _ _ _ _ c.chain.invariant.0 c.loop.invariant.0 c.word.ensures c.word-label.ensures
      ∙ ne_eqb _ _ c.if-word-label.false),
)

pub chain-preserved : goal.chain-preserved
chain-preserved c = (
  next_row _ _ _ _ c.chain.invariant.0 _ (c.from-row.ensures ∙ c.word-in-chain.ensures),
  omega arith,
  below_more _ _ c.chain.invariant.2
      (goes_on _ _ _ _ c.chain.invariant.0 c.if-row-eq0.false (λ m l. c.loop.invariant.1 m (omega arith))),
)

pub returns-then-row-eq0 : goal.returns-then-row-eq0
returns-then-row-eq0 c = ended _ _ _ _ c.chain.invariant.0 c.chain.invariant.2 c.chain.invariant.1 c.then-row-eq0.either

pub returns-then-word-label : goal.returns-then-word-label
returns-then-word-label c = found _ _ _ _ c.chain.invariant.0 c.chain.invariant.2 _ c.if-row-eq0.false c.if-rows-passed.false c.loop-test.true
    (same_is c.args.words.now c.args.first _ _ _ _ _ _ c.chain.invariant.0 c.loop.invariant.0 c.word.ensures c.word-label.ensures
    ∙ eq-eqb _ _ c.if-word-label.true)
