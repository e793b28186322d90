-- `verdictlines::tell::advance_all` meets its contract: what is left of the spans leads to what all of them lead to.
-- Assumes nothing.
use native.Mathlib.Omega.{arith}
use Rattle.verdictlines.proofs.StoppedLaws.{stays_same, stays_then}
use Rattle.verdictlines.proofs.ToldLaws.{going_start_all, going-lanes, going-places, going-end-lanes, going-end-places, going-on-all, next-made}
use Rattle.verdictlines.proofs.tell.advance_all.Goals as goal

pub loop-init : goal.loop-init
loop-init c = (going_start_all _ _ _ _ _ _ _ c.span_end-to.ensures, stays_same _)

pub returns-then-until-to : goal.returns-then-until-to
returns-then-until-to c = (
  going-end-lanes _ _ _ _ _ _ _ c.loop.invariant.0 (omega arith) _ _ c.push_all-next.ensures.0
      c.push_all-next.ensures.1 c.if-until-to.true,
  going-end-places _ _ _ _ _ _ _ c.loop.invariant.0 (omega arith) _ _ c.push_all-next.ensures.0
      c.push_all-next.ensures.1 c.if-until-to.true,
  stays_then _ _ _ c.loop.invariant.1 c.push_all-next.ensures.2,
)

pub loop-preserved : goal.loop-preserved
loop-preserved c = (
  going-on-all _ _ _ _ _ _ _ c.loop.invariant.0 (omega arith) _ _
      c.push_all-next.ensures.0 c.push_all-next.ensures.1 _ _ (omega arith)
      (next-made _ _ c.loop.from _ _ _ _ c.next_span-to.ensures.0 c.next_span-to.ensures.1 (c.time_at-from.ensures c.next_span-to.new.small c.args.wider.now))
      c.if-until-to.false,
  stays_then _ _ _ c.loop.invariant.1 c.push_all-next.ensures.2,
)

pub returns : goal.returns
returns c = (
  going-lanes _ _ _ _ _ _ _ c.loop.invariant.0 (omega arith),
  going-places _ _ _ _ _ _ _ c.loop.invariant.0 (omega arith),
  c.loop.invariant.1,
)
