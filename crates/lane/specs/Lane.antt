-- What the code keeps of a lane, and what it answers. Cited by `src/lib.rt`. Assumes nothing.
use Rattle.std.specs.Prelude.{ℕ, ◌+◌, ◌-◌, min, max, Bool, ◌&&◌, cond, eqb, leb, ltb}
use Rattle.lane.specs.declared.Tolerance.{Tolerance}
use Rattle.lane.specs.declared.Stretch.{Stretch}
use Rattle.lane.specs.declared.Lane.{Lane}
use Rattle.lane.specs.declared.Judged.{Judged}

-- the largest number of 64 bits
abbrev pub largest : ℕ
largest = 18446744073709551615

-- a sum, or the largest number where it is larger
abbrev pub capped : ℕ → ℕ → ℕ
capped one other = min (one + other) largest

-- no stretch
abbrev pub none : Stretch
none = record { from = 0; until = 0; value = 0 }

-- a lane of which nothing is known
abbrev pub fresh_lane : Lane
fresh_lane = record { first = 0; after = 0; value = 0; reached = 0; stretch = none; wrongms = 0 }

-- the first millisecond at which a value is not good any more: 0 where it never was right
unfoldable pub bad_from : ℕ → ℕ → ℕ
bad_from late last = cond (eqb last 0) 0 (capped last late)

-- where the wrong milliseconds from `start` on begin
abbrev pub wrong_from : Tolerance → ℕ → ℕ → ℕ
wrong_from tolerance last start = max start (bad_from tolerance.late last)

-- where they are over
abbrev pub wrong_until : Tolerance → ℕ → ℕ
wrong_until tolerance limit = min limit (capped tolerance.end 1)

-- wrong milliseconds from here on go on with a stretch
unfoldable pub goes_on : Stretch → ℕ → Bool
goes_on stretch from = ltb stretch.from stretch.until && leb from stretch.until

-- a stretch that goes on
abbrev pub longer : Stretch → ℕ → Stretch
longer stretch until = record { from = stretch.from; until = max stretch.until until; value = stretch.value }

-- a lane with another latest stretch
abbrev pub with_stretch : Lane → Stretch → ℕ → Lane
with_stretch lane stretch wrongms =
    record {
      first = lane.first;
      after = lane.after;
      value = lane.value;
      reached = lane.reached;
      stretch = stretch;
      wrongms = wrongms;
    }

-- how many milliseconds are wrong, the latest stretch included
abbrev pub wrong_count : Lane → ℕ
wrong_count lane = capped lane.wrongms (lane.stretch.until - lane.stretch.from)

-- a lane after wrong milliseconds from `from` to before `until`
unfoldable pub marked : Lane → ℕ → ℕ → ℕ → Judged
marked lane from until value =
    cond (leb until from) (record { lane = lane; ended = none })
    (cond (goes_on lane.stretch from)
    (record { lane = with_stretch lane (longer lane.stretch until) lane.wrongms; ended = none })
    (record {
      lane = with_stretch lane (record { from = from; until = until; value = value }) (wrong_count lane);
      ended = lane.stretch;
    }))

-- the millisecond of the first thing shown, after one more
unfoldable pub first_after : Lane → ℕ → ℕ
first_after lane time = cond (eqb lane.after 0) time lane.first

-- a lane after a value was shown, before that is judged
abbrev pub told_lane : Lane → ℕ → ℕ → ℕ → Lane
told_lane lane time after value =
    record {
      first = first_after lane time;
      after = after;
      value = value;
      reached = lane.reached;
      stretch = lane.stretch;
      wrongms = lane.wrongms;
    }

-- a lane after a value was shown; `last` is that value's
unfoldable pub shown_next : Tolerance → Lane → ℕ → ℕ → ℕ → Judged
shown_next tolerance lane last time value =
    marked (told_lane lane time (capped time 1) value) (wrong_from tolerance last time)
    (wrong_until tolerance (capped time 1)) value

-- a lane once it is known what is right up to a millisecond, before the value that stands is judged
abbrev pub known_lane : Lane → ℕ → Lane
known_lane lane to =
    record {
      first = lane.first;
      after = lane.after;
      value = lane.value;
      reached = to;
      stretch = lane.stretch;
      wrongms = lane.wrongms;
    }

-- up to where the value that stands can be wrong: to where it is right itself
unfoldable pub over_at : ℕ → ℕ → ℕ → ℕ → ℕ
over_at standing from to value = cond (eqb standing value) from to

-- a lane after it is known that a value is right from here to there; `last` is of the value that stands
unfoldable pub right_next : Tolerance → Lane → ℕ → ℕ → ℕ → ℕ → Judged
right_next tolerance lane last from to value =
    cond (eqb lane.after 0) (record { lane = known_lane lane to; ended = none })
    (marked (known_lane lane to)
    (wrong_from tolerance last (max lane.after (lane.reached - tolerance.early)))
    (wrong_until tolerance (over_at lane.value from to value - tolerance.early))
    lane.value)
