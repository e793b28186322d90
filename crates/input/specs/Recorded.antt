-- Document 01, "The sixteen inputs", "Raw quality" and "Passed quality", by the recorded events alone: no timer and no
-- state. Assumes nothing.
use Rattle.std.specs.Prelude.{ℕ, ◌+◌, ◌-◌, ◌*◌, ◌≤◌, Bool, false, not, ◌&&◌, ◌||◌, cond, List, [], ◌∷◌, ltb, eqb}
use Rattle.numbers.specs.Recorded.{Recorded}
use Rattle.numbers.specs.From.{From, started, ◌following◌, profile_of}
use Rattle.numbers.specs.Profile.{limits_of, floor_in}
use Rattle.numbers.specs.declared.kind.InputKind.{InputKind}
use Rattle.numbers.specs.declared.quality.Quality.{Quality}
use Rattle.numbers.specs.Quality.{quality, not_told, failed}
use Rattle.numbers.specs.Inputs.{minute, fresh_holdoff, fresh_wait, frame_life}
use Rattle.numbers.specs.Kind.{kind_signal, kind_priority, kind_lockout, kind_holdoff, kind_wait, kind_fixed_quality, kind_clear_wait, kind_quality_mode, kind_sending, kind_tick, kind_input_kind, kind_floor, input_kind_of, takes_frames, is_counted, is_frame}
use Rattle.run.specs.Moments.{Moment, Moments, Passed, each_millisecond}
use Rattle.run.specs.Passed.{passed}

-- the recorded events from a fresh start, the latest first, with kind and argument as in the log; a frame's argument is
-- the code that it carried, and a report has the quality that it says
abbrev pub History : Type 0
History = From Recorded

-- a tick at a time
abbrev pub tick_event : ℕ → Recorded
tick_event time = record { kind = kind_tick; time = time; input = 0; argument = 0; said = not_told }

-- the event is of a kind, on an input
unfoldable pub is_on : ℕ → ℕ → Recorded → Bool
is_on input kind event = eqb event.input input && eqb event.kind kind

-- a setting: the argument of the last event of its kind on the input; `fresh` before any
unfoldable pub last_argument : ℕ → ℕ → ℕ → History → ℕ
last_argument input kind fresh (started profile) = fresh
last_argument input kind fresh (event following earlier) =
    cond (is_on input kind event) event.argument (last_argument input kind fresh earlier)

-- "quality mode (input 0)", fresh on
abbrev pub mode_on : History → Bool
mode_on history = not (eqb (last_argument 0 kind_quality_mode 1 history) 0)

-- the signal is good, fresh failing
abbrev pub signal_good : ℕ → History → Bool
signal_good input history = eqb (last_argument input kind_signal 1 history) 0

-- "kind (line or Ethernet)", and words; fresh line
abbrev pub input_kind : ℕ → History → InputKind
input_kind input history = input_kind_of (last_argument input kind_input_kind 0 history)

-- "priority 1 to 16 (1 best) or 0 = off", fresh 0
abbrev pub priority_of : ℕ → History → ℕ
priority_of input history = last_argument input kind_priority 0 history

-- "lockout", fresh not locked
abbrev pub is_locked_out : ℕ → History → Bool
is_locked_out input history = not (eqb (last_argument input kind_lockout 0 history) 0)

-- "hold-off 300 to 1,800 ms", fresh 300 ms
abbrev pub holdoff_of : ℕ → History → ℕ
holdoff_of input history = last_argument input kind_holdoff fresh_holdoff history

-- "wait 0 to 12 minutes", fresh 5; in ms
abbrev pub wait_of : ℕ → History → ℕ
wait_of input history = last_argument input kind_wait fresh_wait history * minute

-- "fixed quality 1 to 5 or none", fresh none, which is 0
abbrev pub fixed_of : ℕ → History → ℕ
fixed_of input history = last_argument input kind_fixed_quality 0 history

-- L9: "Each input gets a floor", "set by new kind 11"; 0 while none is set
abbrev pub floor_set : ℕ → History → ℕ
floor_set input history = last_argument input kind_floor 0 history

-- the floor in force: as set, or "fresh value 4", in option II "fresh value 6"
abbrev pub floor_of : ℕ → History → ℕ
floor_of input history = floor_in (limits_of (profile_of history)).freerunning (floor_set input history)

-- "SSM sending on or off", fresh on
abbrev pub is_sending : ℕ → History → Bool
is_sending input history = not (eqb (last_argument input kind_sending 1 history) 0)

-- "A signal-fail report on an input with good signal, and any event setting its kind, forget"
abbrev pub forgets : ℕ → Recorded → Bool → Bool
forgets input event signal =
    is_on input kind_input_kind event || (is_on input kind_signal event && not (eqb event.argument 0) && signal)

-- the reports of some kinds that the input has recorded and not forgotten, the latest first; "While the signal fails,
-- reports of codes and frames are checked and accepted but not recorded"
unfoldable pub heard : ℕ → (ℕ → Bool) → History → List Recorded
heard input kinds (started profile) = []
heard input kinds (event following earlier) =
    cond (forgets input event (signal_good input earlier)) []
    (cond (eqb event.input input && kinds event.kind && signal_good input earlier)
    (event ∷ heard input kinds earlier)
    (heard input kinds earlier))

-- this report and the two before it carry the same code, or the same word
unfoldable pub is_third : Recorded → List Recorded → Bool
is_third report [] = false
is_third report (before ∷ []) = false
is_third report (before ∷ (first ∷ earlier)) =
    eqb report.argument before.argument && eqb before.argument first.argument

-- "Line: the last code that came in three consecutive code reports; before any such code, 7"; words likewise
unfoldable pub line_quality : List Recorded → Quality
line_quality [] = failed
line_quality (report ∷ earlier) = cond (is_third report earlier) report.said (line_quality earlier)

-- "Ethernet: the code of the last accepted frame, if it came less than 5,000 ms ago; otherwise 7"
unfoldable pub frame_quality : List Recorded → ℕ → Quality
frame_quality [] time = failed
frame_quality (report ∷ earlier) time =
    cond (ltb time (report.time + frame_life)) report.said failed

-- "In this order: signal failing gives 7; quality mode off gives 0; a fixed quality gives itself; otherwise what was
-- heard"
unfoldable pub raw_quality_at : ℕ → History → ℕ → Quality
raw_quality_at input history time =
    cond (not (signal_good input history)) failed
    (cond (not (mode_on history)) not_told
    (cond (not (eqb (fixed_of input history) 0)) (quality (fixed_of input history))
    (cond (takes_frames (input_kind input history)) (frame_quality (heard input is_frame history) time)
    (line_quality (heard input is_counted history)))))

-- the moment at a time with these events recorded; `clears` where the last of them is a clear-wait on the input, at
-- this moment
unfoldable pub moment_of : ℕ → History → Bool → ℕ → Moment
moment_of input history clears time =
    record {
      time = time;
      raw = raw_quality_at input history time;
      holdoff = holdoff_of input history;
      wait = wait_of input history;
      clears = clears;
    }

-- the time of the last event
abbrev pub time_of : History → ℕ
time_of (started profile) = 0
time_of (event following earlier) = event.time

-- all moments up to the last event: each millisecond since the event before, up to and with this event's, by the old
-- events ("an expired frame comes first"); then the event's own
unfoldable pub moments : ℕ → History → Moments
moments input (started profile) = []
moments input (event following earlier) =
    moment_of input (event following earlier) (is_on input kind_clear_wait event) event.time ∷
    each_millisecond (moment_of input earlier false) (time_of earlier) (event.time - time_of earlier)
    (moments input earlier)

-- all moments up to a time, if no further event comes
unfoldable pub moments_until : ℕ → History → ℕ → Moments
moments_until input history time =
    each_millisecond (moment_of input history false) (time_of history) (time - time_of history) (moments input history)

-- the passed quality of an input at a time, as stated
abbrev pub PassedAt : ℕ → History → ℕ → Quality → Type 0
PassedAt input history time passes = Passed (moments_until input history time) passes

-- the same, computed
unfoldable pub passed_at : ℕ → History → ℕ → Quality
passed_at input history time = passed (moments_until input history time)

-- "time before that of the state" is refused, so times of recorded events do not fall
abbrev pub Ordered : History → Type 0
Ordered (started profile) = Unit {0}
Ordered (event following earlier) = (time_of earlier ≤ event.time) × Ordered earlier
