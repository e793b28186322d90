-- `inplace::are_timely` meets its contract: in the loop the first `at` inputs are timely. Assumes nothing.
use Rattle.inplace.proofs.Own.{timely_one-more, timely_all, timely_one_not}
use Rattle.inplace.proofs.are_timely.Goals as goal

pub loop-at-preserved : goal.loop-at-preserved
loop-at-preserved c =
    let args = c.args in
    timely_one-more args.times.now args.small.now args.wider.now args.mode c.loop-at.at _ _
    c.input_in.ensures
    c.is_timely.ensures
    c.if-not-is_timely.false
    c.loop-at.invariant

pub returns-then-not-is_timely : goal.returns-then-not-is_timely
returns-then-not-is_timely c =
    let args = c.args in
    timely_one_not args.times.now args.small.now args.wider.now args.mode c.loop-at.at _ _
    c.input_in.ensures
    c.is_timely.ensures
    c.if-not-is_timely.true
    c.loop-at-test.true

pub returns : goal.returns
returns c =
    let args = c.args in
    timely_all args.times.now args.small.now args.wider.now args.mode c.loop-at.at
    c.loop-at-test.false
    c.loop-at.invariant
