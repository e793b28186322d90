-- A watch after any sequence of events from a fresh start, refused ones included; and that its state, its answers and
-- its counts are those of the plain step.
-- Assumes nothing.
use Rattle.std.specs.Prelude.{◌≤◌, ◌≡◌}
use Rattle.numbers.specs.From.{started, ◌following◌}
use Rattle.frame.specs.Read.{read_code}
use Rattle.selector.specs.Answer.{answer_of}
use Rattle.due.specs.Next.{next_due}
use Rattle.events.specs.Given.{Given, Sequence}
use Rattle.events.specs.Sequence.{state_after, number_after, count_after}
use Rattle.quickstep.specs.Watch.{Watch, fresh_watch, watch_step}

-- the watch after a sequence of events
unfoldable pub watch_after : Sequence → Watch
watch_after (started profile) = fresh_watch profile
watch_after (given following earlier) = watch_step (watch_after earlier) given.event (read_code given.frame)

-- after a sequence of events, and at any event after it, the watch has the state, the answer and the count of the plain
-- step; and nothing is due before the time that it has for that
pub record WatchRight (sequence : Sequence) : Type 0 where
  pub state : (watch_after sequence).state ≡ state_after sequence
  pub due : (watch_after sequence).due ≤ next_due (state_after sequence)
  pub answer : (given : Given)
      → (watch_after (given following sequence)).answer
      ≡ answer_of (number_after given sequence) (state_after (given following sequence))
  pub count : (given : Given) → (watch_after (given following sequence)).count ≡ count_after given sequence
