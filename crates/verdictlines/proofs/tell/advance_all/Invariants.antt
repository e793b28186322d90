-- `verdictlines::tell::advance_all` meets its contract: what is left of the spans leads to what all of them lead to.
-- Assumes nothing.
use Prim.Native.Nat.{◌-◌}
use Rattle.inplace.specs.Lists.{selector_at}
use Rattle.verdictlines.specs.Stopped.{StaysStopped}
use Rattle.verdictlines.specs.Told.{span_from, spans_since, spans_told_all}
use Rattle.verdictlines.proofs.ToldLaws.{GoingAll}
use Rattle.verdictlines.proofs.tell.advance_all.Given as goal

abbrev pub invariant-loop : goal.invariant-loop
invariant-loop l =
    GoingAll l.question l.until
    (spans_told_all l.question (spans_since (selector_at l.times l.small l.wider) l.since l.until) l.initial.lanes l.initial.room)
    (49 - l.counter)
    (span_from (selector_at l.later l.after l.wider) l.from l.to)
    l.lanes
    l.room ×
    StaysStopped l.initial.stopped l.stopped
