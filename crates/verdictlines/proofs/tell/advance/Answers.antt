-- `verdictlines::tell::advance` meets its contract: what is left of the spans leads to what all of them lead to.
-- Assumes nothing.
use native.Mathlib.Omega.{arith}
use Rattle.verdictlines.proofs.StoppedLaws.{stays_same, stays_then}
use Rattle.verdictlines.proofs.ToldLaws.{going_start, going-lane, going-room, going-end-lane, going-end-room, going_on, next-made}
use Rattle.verdictlines.proofs.tell.advance.Goals as goal

pub loop-init : goal.loop-init
loop-init c = (going_start _ _ _ _ _ _ _ _ c.span_end-to.ensures, stays_same _)

pub returns-then-until-to : goal.returns-then-until-to
returns-then-until-to c = (
  going-end-lane _ _ _ _ _ _ _ _ c.loop.invariant.0 _ c.value_of-value.ensures (omega arith) _ _
      c.push-lane.ensures.0 c.push-lane.ensures.1 c.if-until-to.true,
  going-end-room _ _ _ _ _ _ _ _ c.loop.invariant.0 _ c.value_of-value.ensures (omega arith) _ _
      c.push-lane.ensures.0 c.push-lane.ensures.1 c.if-until-to.true,
  stays_then _ _ _ c.loop.invariant.1 c.push-lane.ensures.2,
)

pub loop-preserved : goal.loop-preserved
loop-preserved c = (
  going_on _ _ _ _ _ _ _ _ c.loop.invariant.0 _ c.value_of-value.ensures (omega arith) _ _
      c.push-lane.ensures.0 c.push-lane.ensures.1 _ _ (omega arith)
      (next-made _ _ c.loop.from _ _ _ _ c.next_span-to.ensures.0 c.next_span-to.ensures.1 (c.time_at-from.ensures c.next_span-to.new.small c.args.wider.now))
      c.if-until-to.false,
  stays_then _ _ _ c.loop.invariant.1 c.push-lane.ensures.2,
)

pub returns : goal.returns
returns c = (
  going-lane _ _ _ _ _ _ _ _ c.loop.invariant.0 (omega arith),
  going-room _ _ _ _ _ _ _ _ c.loop.invariant.0 (omega arith),
  c.loop.invariant.1,
)
