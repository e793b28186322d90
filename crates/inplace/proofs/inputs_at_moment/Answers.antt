-- `inplace::inputs_at_moment` meets its contract: a turn of the loop brings one input to the moment.
-- Assumes nothing.
use mathlib.Core.Bool.{false}
use mathlib.Core.Path.{refl}
use Rattle.input.specs.declared.Input.{Input}
use Rattle.input.specs.Record.{input_at_moment, with_run}
use Rattle.inplace.specs.Lists.{input_at, selector_at}
use Rattle.inplace.proofs.Turn.{turn, done, momentary, inputs-length}
use Rattle.inplace.proofs.inputs_at_moment.Goals as goal

pub loop-at-init : goal.loop-at-init
loop-at-init c = refl

pub loop-at-preserved : goal.loop-at-preserved
loop-at-preserved c =
    let args = c.args in
    let loop = c.loop-at in
    turn (λ (input : Input). input_at_moment input args.time args.mode false)
    (selector_at args.times.now args.small.now args.wider.now)
    loop.times
    loop.small
    args.wider.now
    (selector_at c.put_run.new.times c.put_run.new.small args.wider.now)
    loop.at
    (with_run (input_at loop.times loop.small args.wider.now loop.at) c.at_moment-after.result.run)
    (inputs-length args.times.now args.small.now args.wider.now)
    loop.invariant
    (c.put_run.ensures args.wider.now)
    (momentary (input_at loop.times loop.small args.wider.now loop.at) c.input_in.result
    c.at_moment-after.result
    args.time
    args.mode
    false
    c.input_in.ensures
    c.at_moment-after.ensures)
    c.loop-at-test.true

pub returns : goal.returns
returns c =
    let args = c.args in
    let loop = c.loop-at in
    done (λ (input : Input). input_at_moment input args.time args.mode false)
    (selector_at args.times.now args.small.now args.wider.now)
    (selector_at loop.times loop.small args.wider.now)
    loop.at
    (inputs-length args.times.now args.small.now args.wider.now)
    loop.invariant
    loop.auto.at-end
    c.loop-at-test.false
