-- What the code says of an input is what has happened, after any sequence of events. Assumes nothing.
use Rattle.std.specs.Prelude.{ℕ, ◌<◌, ◌≡◌}
use Rattle.numbers.specs.Inputs.{input_count}
use Rattle.events.specs.Sequence.{Sequence, state_after}
use Rattle.events.specs.Past.{recorded}
use Rattle.status.specs.Status.{status_by}
use Rattle.status.specs.Kept.{input_status}

-- each of the sixteen inputs
pub record StatusRight (sequence : Sequence) : Type 0 where
  pub each : (number : ℕ) → number < input_count
      → input_status (state_after sequence) number ≡ status_by (recorded sequence) number
