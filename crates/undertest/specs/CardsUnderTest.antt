-- Document 02, L14, of what C holds: a line under test shows in nothing that C reads of a card, nor of a unit. It is
-- stated after any two sequences, so it holds after every event. Assumes nothing.
use Rattle.std.specs.Prelude.{◌≡◌}
use Rattle.selector.specs.Answer.{outgoing_codes, outgoing_words}
use Rattle.quickstep.specs.Watch.{Watch}
use Rattle.unitcard.specs.Lent.{LentUnit}

-- "all answer lines, both selectors' switches and all sixteen outgoing codes": the switch is in the answer, and the
-- words of option II go out beside the codes; the count is L4's, and is left out
pub record NothingShowsInCards (one other : Watch) : Type 0 where
  pub answer : one.answer ≡ other.answer
  pub codes : outgoing_codes one.state ≡ outgoing_codes other.state
  pub words : outgoing_words one.state ≡ outgoing_words other.state

-- the same of both halves of a unit, and what the station output sends
pub record NothingShowsInUnits (one other : LentUnit) : Type 0 where
  pub equipment : NothingShowsInCards one.equipment other.equipment
  pub station : NothingShowsInCards one.station other.station
  pub sent : one.sent ≡ other.sent
