-- Demand 2 for one input: the record passes what the recorded events define, and ticks add nothing.
-- Assumes nothing.
use Rattle.std.specs.Prelude.{ℕ, ◌≡◌}
use Rattle.numbers.specs.declared.quality.Quality.{Quality}
use Rattle.numbers.specs.From.{◌following◌}
use Rattle.input.specs.Recorded.{History, tick_event, mode_on, time_of, PassedAt, passed_at}
use Rattle.input.specs.Record.{input_brought_to, passed_of, record_after}

-- after the recorded events, brought to a time, the record passes what document 01 says, and document 01 says no other
-- quality
pub record PassesWhatIsRecorded (input : ℕ) (history : History) (time : ℕ) : Type 0 where
  pub passes : PassedAt input history time (passed_of (input_brought_to (record_after input history) time (mode_on history)))
  pub only : (quality : Quality) → PassedAt input history time quality
      → quality ≡ passed_of (input_brought_to (record_after input history) time (mode_on history))

-- at the time of the last event no tick is needed
pub record PassesAtOnce (input : ℕ) (history : History) : Type 0 where
  pub passes : PassedAt input history (time_of history) (passed_of (record_after input history))

-- time going by in two pieces is time going by in one
abbrev pub TwoPieces : ℕ → History → ℕ → ℕ → Type 0
TwoPieces input history time later =
    input_brought_to (input_brought_to (record_after input history) time (mode_on history)) later (mode_on history) ≡
    input_brought_to (record_after input history) later (mode_on history)

-- a tick in between changes no later passed quality
abbrev pub TickAddsNothing : ℕ → History → ℕ → ℕ → Type 0
TickAddsNothing input history time later =
    passed_at input (tick_event time following history) later ≡ passed_at input history later
