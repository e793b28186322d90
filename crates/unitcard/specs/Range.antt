-- What C may index by: after every event, whatever the arrays held. And what no answer depends on. Not cited by the code.
-- Assumes nothing.
use Rattle.std.specs.Prelude.{ℕ, ◌≤◌, List, ◌≢◌, ◌≡◌}
use Rattle.numbers.specs.Kind.{kind_frame}
use Rattle.card.specs.Range.{IsInput, InRange}
use Rattle.unitcard.specs.Lent.{LentUnit, squelched_in, source_in, lent_at, step_lent_unit}

-- after a call on what is held
pub record InRangeAfter (lent : LentUnit) (half kind time input argument : ℕ) (frame : List ℕ) : Type 0 where
  pub equipment : InRange (step_lent_unit lent half kind time input argument frame).equipment.answer
  pub station : InRange (step_lent_unit lent half kind time input argument frame).station.answer
  pub source : IsInput (source_in (step_lent_unit lent half kind time input argument frame))
  pub squelched : squelched_in (step_lent_unit lent half kind time input argument frame) ≤ 1
  -- a frame is looked at for a frame event alone: for any other, what is lent changes nothing
  pub unread : kind ≢ kind_frame
      → (other : List ℕ)
      → step_lent_unit lent half kind time input argument frame ≡ step_lent_unit lent half kind time input argument other

-- after any call, on any numbers at all
pub record AnyLentUnit
    (times small wider due told stationTimes stationSmall stationWider stationDue stationTold sent : List ℕ)
    (half kind time input argument : ℕ) (frame : List ℕ)
    : Type 0 where
  pub in_range : InRangeAfter
      (lent_at times small wider due told stationTimes stationSmall stationWider stationDue stationTold sent)
      half kind time input argument frame
