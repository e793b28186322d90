-- `onestep::late_at` meets its contract: each way is a law. Assumes nothing.
use Rattle.std.specs.Prelude.{None}
use Rattle.events.proofs.EventLaws.{late-judged, late-never}
use Rattle.inplace.specs.Lists.{selector_at}
use Rattle.inplace.proofs.Turn.{inputs-length}
use Rattle.onestep.proofs.late_at.Goals as goal

pub returns-then-not-is_judged_late : goal.returns-then-not-is_judged_late
returns-then-not-is_judged_late c = search late-never

pub returns : goal.returns
returns c =
    let args = c.args in
    late-judged (selector_at args.times.now args.small.now args.wider.now) args.event
    c.switch_at.result c.candidate_at-own.result c.leader_at.result c.late_refusal.result None
    (c.switch_at.ensures args.times.now args.wider.now)
    c.candidate_at-own.ensures
    c.leader_at.ensures
    (inputs-length args.times.now args.small.now args.wider.now)
    c.late_refusal.ensures
