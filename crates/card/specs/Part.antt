-- A tick in portions: at most so many due moments a call, each by a tick at its own time, and then the tick itself.
-- Cited by `src/part.rt` and `src/exports.rt`, but for `PartRight`. Assumes nothing.
use Rattle.std.specs.Prelude.{ℕ, zero, suc, ◌≤◌, ◌<◌, cond, [], ◌≡◌, eqb, leb}
use Rattle.numbers.specs.From.{◌following◌}
use Rattle.numbers.specs.Inputs.{time_limit}
use Rattle.numbers.specs.Kind.{flag, kind_tick}
use Rattle.numbers.specs.Refusal.{accepted}
use Rattle.frame.specs.Read.{read_code}
use Rattle.due.specs.Next.{next_due}
use Rattle.events.specs.Given.{Given, Sequence, tick_at}
use Rattle.events.specs.Step.{early_number}
use Rattle.events.specs.Sequence.{state_after, number_after}
use Rattle.quickstep.specs.Watch.{Watch}
use Rattle.card.specs.Lent.{step_lent}
use Rattle.card.specs.Calls.{lent_after}

-- a tick
abbrev pub tick_lent : Watch → ℕ → Watch
tick_lent watch time = step_lent watch kind_tick time 0 0 []

-- one moment at least
unfoldable pub at_least_one : ℕ → ℕ
at_least_one most = cond (eqb most 0) 1 most

-- at most so many of the moments that are due by a time, each by a tick at its own time
unfoldable pub part_served : ℕ → Watch → ℕ → Watch
part_served zero watch time = watch
part_served (suc left) watch time =
    cond (leb (next_due watch.state) time) (part_served left (tick_lent watch (next_due watch.state)) time) watch

-- what one call leaves: such a portion, and where none is left the tick at the time
unfoldable pub part_lent : ℕ → Watch → ℕ → Watch
part_lent most watch time =
    let part = part_served (at_least_one most) watch time in
    cond (leb time_limit time) (tick_lent watch time)
    (cond (leb (next_due part.state) time) part (tick_lent part time))

-- 1 where more is to come
unfoldable pub more_lent : ℕ → Watch → ℕ → ℕ
more_lent most watch time =
    let part = part_served (at_least_one most) watch time in
    cond (leb time_limit time) 0 (flag (leb (next_due part.state) time))

-- the calls that a portion is: ticks at what is next due
unfoldable pub part_sequence : ℕ → Sequence → ℕ → Sequence
part_sequence zero sequence time = sequence
part_sequence (suc left) sequence time =
    cond (leb (next_due (state_after sequence)) time)
    (part_sequence left (tick_at (next_due (state_after sequence)) following sequence) time)
    sequence

-- portions of a tick after calls in a row
pub record PartRight (most : ℕ) (sequence : Sequence) (time : ℕ) : Type 0 where
  -- what is served is what ticks at the due moments leave
  pub ticks : part_served most (lent_after sequence) time ≡ lent_after (part_sequence most sequence time)
  -- the tick itself, made then, leaves the state and the answer of the tick made at once
  pub state : (state_after sequence).time ≤ time → time < time_limit
      → (lent_after (tick_at time following part_sequence most sequence time)).state
      ≡ (lent_after (tick_at time following sequence)).state
  pub answer : (state_after sequence).time ≤ time → time < time_limit
      → (lent_after (tick_at time following part_sequence most sequence time)).answer
      ≡ (lent_after (tick_at time following sequence)).answer
  -- and so does any event no earlier than that time which nothing refuses before its tick, with and without portions
  pub event : (state_after sequence).time ≤ time → time < time_limit → (given : Given) → time ≤ given.event.time
      → early_number (state_after sequence) given.event (read_code given.frame) ≡ accepted
      → early_number (state_after (part_sequence most sequence time)) given.event (read_code given.frame) ≡ accepted
      → (state_after (given following part_sequence most sequence time) ≡ state_after (given following sequence))
      × (number_after given (part_sequence most sequence time) ≡ number_after given sequence)
