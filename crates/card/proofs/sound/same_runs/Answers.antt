-- `card::sound::same_runs` meets its contract. Assumes nothing.
use Rattle.inplace.specs.Lists.{selector_at}
use Rattle.card.proofs.Same.{same_among-none, same_among-more, same_among-all}
use borrow.Author.Rules.{rules}
use Rattle.card.proofs.sound.same_runs.Goals as goal

pub loop-at-init : goal.loop-at-init
loop-at-init c = (search rules, search same_among-none)

pub loop-at-preserved : goal.loop-at-preserved
loop-at-preserved c =
    let loop = c.loop-at in
    let args = c.args in (
      search rules,
      same_among-more (selector_at args.times.now args.small.now args.wider.now).inputs
          (selector_at args.later.now args.after.now args.wider.now).inputs
          loop.at
          loop.same
          c.also_same-same.result
          c.input_at-one.result
          c.input_at-other.result
          loop.invariant.1
          c.input_at-one.ensures
          c.input_at-other.ensures
          c.also_same-same.ensures,
    )

pub returns : goal.returns
returns c = search same_among-all
