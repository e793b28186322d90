-- Document 02, L7: "after any sequence of events a standing manual switch is on an eligible input".
-- Assumes nothing.
use Rattle.std.specs.Prelude.{ℕ, ◌≡◌}
use Rattle.switch.specs.Choices.{manual_on, choices_ago}
use Rattle.events.specs.Sequence.{Sequence, state_after}
use Rattle.events.specs.Past.{decided_by, recorded, made_in}
use Rattle.events.specs.Demand3.{Eligible, Latest}

-- after a sequence of events, and after each choice made in it
pub record ManualEligible (sequence : Sequence) : Type 0 where
  pub state : (on : ℕ) → (state_after sequence).switch ≡ manual_on on
      → Eligible (recorded sequence) (state_after sequence).time on
  pub each : (back on : ℕ) → (decided_by (choices_ago back (made_in sequence))).switch ≡ manual_on on
      → Latest (λ choice. Eligible choice.history choice.time on) (choices_ago back (made_in sequence))
