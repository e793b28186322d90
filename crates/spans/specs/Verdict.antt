-- A lane that is told what the spans of the events show is judged by the law: its stretches are exactly the
-- milliseconds at which something stands that was right, by the events, at no millisecond within the tolerance.
-- Assumes nothing.
use Rattle.std.specs.Prelude.{ℕ, ◌+◌, ◌≤◌, ◌<◌, ◌↔◌}
use Rattle.numbers.specs.Inputs.{time_limit}
use Rattle.events.specs.Given.{Sequence}
use Rattle.events.specs.Sequence.{state_after}
use Rattle.lane.specs.declared.Tolerance.{Tolerance}
use Rattle.lane.specs.Shown.{Wrong, ShownWithin}
use Rattle.lane.specs.History.{Happenings, RightIn, tellings, stretches_after, reached_by, Orderly, Near}
use Rattle.lane.specs.Exact.{InAny}
use Rattle.lanes.specs.declared.View.{View}
use Rattle.spans.specs.Spans.{RightBy, InParts}

-- up to EARLY behind the end a lane is told that a value is right exactly where a span of the events shows it
abbrev pub ToldSpans : Tolerance → View → ℕ → Sequence → Happenings → Type 0
ToldSpans tolerance view lane events happenings =
    (moment value : ℕ) → moment ≤ tolerance.end + tolerance.early
    → RightIn happenings moment value
    ↔ InParts view lane (tolerance.end + tolerance.early) events moment value

-- a lane that is told so, in order, and to beyond EARLY behind the end
pub record Told (tolerance : Tolerance) (view : View) (lane : ℕ) (events : Sequence) (happenings : Happenings)
    : Type 0 where
  pub near : Near tolerance
  pub orderly : Orderly tolerance happenings
  pub whole : tolerance.end + tolerance.early < reached_by happenings
  pub spans : ToldSpans tolerance view lane events happenings
  -- the end, and EARLY behind it, are times of events, and no event comes behind them
  pub below : tolerance.end + tolerance.early < time_limit
  pub last : (state_after events).time ≤ tolerance.end + tolerance.early

pub record JudgedByLaw (tolerance : Tolerance) (view : View) (lane : ℕ) (events : Sequence) (happenings : Happenings)
    : Type 0 where
  -- no wrong card passes and no right one is accused
  pub wrong : (time : ℕ)
      → ((time ≤ tolerance.end) × Wrong tolerance (RightBy view lane events) (tellings happenings) time)
      ↔ InAny (stretches_after tolerance happenings) time
  -- a lane has no stretch exactly if it is shown within the tolerance
  pub passes : ((time : ℕ) → InAny (stretches_after tolerance happenings) time → ⊥)
      ↔ ShownWithin tolerance (RightBy view lane events) (tellings happenings)
