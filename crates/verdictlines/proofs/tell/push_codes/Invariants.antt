-- `verdictlines::tell::push_codes` meets its contract: what is left of the ports leads to what all of them lead to.
-- Assumes nothing.
use Rattle.verdictlines.specs.Stopped.{StaysStopped}
use Rattle.verdictlines.specs.Told.{ports_told}
use Rattle.verdictlines.proofs.ToldLaws.{Ports}
use Rattle.verdictlines.proofs.tell.push_codes.Given as goal

abbrev pub invariant-loop-number : goal.invariant-loop-number
invariant-loop-number l = Ports l.question l.from l.to l.codes (ports_told l.question l.from l.to l.codes 16 0 l.initial.lanes l.initial.room) l.number l.lanes l.room × StaysStopped l.initial.stopped l.stopped
