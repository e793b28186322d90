-- `inplace::put_fresh` meets its contract. Assumes nothing.
use mathlib.Core.Path.{refl}
use Rattle.input.specs.declared.Input.{Input}
use Rattle.input.specs.Record.{fresh_input}
use Rattle.inplace.specs.Lists.{selector_at}
use Rattle.inplace.proofs.Turn.{turn, fresh-done, inputs-length}
use Rattle.inplace.proofs.put_fresh.Goals as goal

pub loop-at-init : goal.loop-at-init
loop-at-init c = refl

pub loop-at-preserved : goal.loop-at-preserved
loop-at-preserved c =
    let args = c.args in
    let loop = c.loop-at in
    turn (λ (one : Input). fresh_input)
    (selector_at args.times.now args.small.now args.wider.now)
    loop.times
    loop.small
    loop.wider
    (selector_at c.put_in.new.times c.put_in.new.small c.put_in.new.wider)
    loop.at
    c.fresh.result
    (inputs-length args.times.now args.small.now args.wider.now)
    loop.invariant
    c.put_in.ensures
    c.fresh.ensures
    c.loop-at-test.true

pub returns : goal.returns
returns c =
    let args = c.args in
    let loop = c.loop-at in
    fresh-done args.times.now args.small.now args.wider.now
    (selector_at loop.times loop.small loop.wider)
    loop.at
    loop.invariant
    loop.auto.at-end
    c.loop-at-test.false
