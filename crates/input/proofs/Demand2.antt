-- DEMAND 2 for one input. No premise but that the times of the recorded events do not fall. Assumes nothing.
use Prim.Native.Nat.{ℕ, ◌+◌, ◌-◌, ◌≤◌}
use mathlib.Core.Bool.{Bool, false}
use mathlib.Core.Path.{◌≡◌, refl, sym, ◌∙◌, ap, subst}
use native.Mathlib.Omega.{arith}
use lib.Dec.{eqb}
use Rattle.numbers.specs.Recorded.{Recorded}
use Rattle.numbers.specs.From.{started, ◌following◌}
use Rattle.numbers.specs.Quality.{is_failed}
use Rattle.numbers.specs.Kind.{kind_clear_wait}
use Rattle.run.specs.declared.Forecast.{Forecast}
use Rattle.run.specs.declared.Run.{Run}
use Rattle.run.specs.Moments.{Moment, each_millisecond}
use Rattle.run.specs.Run.{at_moment, brought_to, passed_quality}
use Rattle.numbers.proofs.Truth.{by_bool}
use Rattle.run.proofs.Kept.{taken, kept, passed-defined, at_moment-taken, Settled, brought_to-settled, at_moment-settled, settled-at_moment, settled-fresh, kept-each, settled-brought_to, brought_to-brought_to}
use Rattle.run.proofs.Exact.{passed_unique, passed-exact}
use Rattle.input.specs.declared.Input.{Input}
use Rattle.input.specs.Recorded.{tick_event, History, is_on, last_argument, mode_on, time_of, moment_of, moments, moments_until, passed_at, Ordered}
use Rattle.input.specs.Record.{heard_after, settings_after, forecast, with_run, input_at_moment, input_brought_to, after_event, passed_of, takes, record_after}
use Rattle.input.specs.Demand2.{PassesWhatIsRecorded, PassesAtOnce, TwoPieces, TickAddsNothing}
use Rattle.input.proofs.Recalled.{raw_recalled, moment_recalled, raw-fresh}

-- the forecast after the recorded events
abbrev pub forecast_after : ℕ → History → Forecast
forecast_after input history = forecast (record_after input history) (mode_on history)

-- ---- the run kept is that of the moments

pub settled-moments : (input : ℕ) (history : History)
    → Settled (forecast_after input history) (kept (moments input history)) (time_of history)
unfolding kept moments
settled-moments input (started profile) =
    settled-fresh (forecast_after input (started profile))
    (ap is_failed (sym (raw_recalled input (started profile) 0) ∙ raw-fresh input profile))
settled-moments input (event following earlier) =
    rw (moment_recalled, ← at_moment-taken)
    (settled-at_moment _ (forecast_after input (event following earlier)) event.time (is_on input kind_clear_wait event))

-- no event until a time: one step comes to every moment in between
pub kept_until : (input : ℕ) (history : History) (time : ℕ) → time_of history ≤ time
    → kept (each_millisecond (moment_of input history false) (time_of history) (time - time_of history)
    (moments input history)) ≡
    brought_to (kept (moments input history)) (forecast_after input history) time
kept_until input history time later =
    let z : time_of history + (time - time_of history) ≡ time = omega arith in
    rw moment_recalled
    (kept-each (forecast_after input history) (time_of history) (time - time_of history) (moments input history)
    (settled-moments input history) ∙
    rw z)

-- whichever input the event is on, its moment is taken with the forecast after it
takes_run : (input : ℕ) (event : Recorded) (mode : Bool) (before : Input)
    → (takes input event mode before).run ≡
    at_moment before.run (forecast (takes input event mode before) mode) event.time
    (is_on input kind_clear_wait event)
unfolding takes after_event input_at_moment is_on forecast
takes_run input event mode before = by_bool (eqb event.input input) (λ e. rw e) (λ e. rw e)

-- a tick brings the run to its time
input_brought_to_run : (input : Input) (time : ℕ) (mode : Bool)
    → (input_brought_to input time mode).run ≡ brought_to input.run (forecast input mode) time
unfolding input_brought_to
input_brought_to_run input time mode = refl

pub run_moments : (input : ℕ) (history : History) → Ordered history
    → (record_after input history).run ≡ kept (moments input history)
unfolding record_after kept moments
run_moments input (started profile) ordered = refl
run_moments input (event following earlier) ordered =
    let clears = is_on input kind_clear_wait event in
    let forecasts = forecast_after input (event following earlier) in
    takes_run input event (mode_on (event following earlier))
    (input_brought_to (record_after input earlier) event.time (mode_on earlier)) ∙
    ap (λ (run : Run). at_moment run forecasts event.time clears)
    (input_brought_to_run (record_after input earlier) event.time (mode_on earlier) ∙
    ap (λ (run : Run). brought_to run (forecast_after input earlier) event.time)
    (run_moments input earlier ordered.1) ∙
    sym (kept_until input earlier event.time ordered.0)) ∙
    at_moment-taken _ forecasts event.time clears ∙
    ap (λ (shown : ℕ → Moment). taken (shown event.time)
    (kept (each_millisecond (moment_of input earlier false) (time_of earlier) (event.time - time_of earlier)
    (moments input earlier))))
    (sym (moment_recalled input (event following earlier) clears))

-- nothing is due at the time of the last event
pub settled_record : (input : ℕ) (history : History) → Ordered history
    → Settled (forecast_after input history) (record_after input history).run (time_of history)
settled_record input history ordered =
    subst (λ (run : Run). Settled (forecast_after input history) run (time_of history))
    (sym (run_moments input history ordered))
    (settled-moments input history)

-- the record's passed quality is the one computed of the recorded events
pub passed-input_brought_to : (input : ℕ) (history : History) (time : ℕ) → Ordered history → time_of history ≤ time
    → passed_of (input_brought_to (record_after input history) time (mode_on history)) ≡ passed_at input history time
unfolding passed_at moments_until
passed-input_brought_to input history time ordered later =
    ap passed_quality
    (input_brought_to_run (record_after input history) time (mode_on history) ∙
    ap (λ (run : Run). brought_to run (forecast_after input history) time) (run_moments input history ordered) ∙
    sym (kept_until input history time later)) ∙
    passed-defined (moments_until input history time)

-- the record brought to a time, and no further where nothing is due
with_run_same : (input : Input) (run : Run) → run ≡ input.run → with_run input run ≡ input
with_run_same input run e = rw e

pub input_brought_to-now : (input : ℕ) (history : History) → Ordered history
    → input_brought_to (record_after input history) (time_of history) (mode_on history) ≡ record_after input history
unfolding input_brought_to
input_brought_to-now input history ordered =
    with_run_same (record_after input history) _
    (brought_to-settled (record_after input history).run (forecast_after input history) (time_of history)
    (settled_record input history ordered))

pub passed-now : (input : ℕ) (history : History) → Ordered history
    → passed_of (record_after input history) ≡ passed_at input history (time_of history)
passed-now input history ordered =
    ap passed_of (sym (input_brought_to-now input history ordered)) ∙
    passed-input_brought_to input history (time_of history) ordered (omega arith)

-- ---- an event that the input does not hear

forecast_with_run : (input : Input) (run : Run) (mode : Bool) → forecast (with_run input run) mode ≡ forecast input mode
unfolding forecast
forecast_with_run input run mode = refl

-- the record brought to a time, and then one moment more there
input_at_moment-input_brought_to : (input : ℕ) (history : History) (time : ℕ) → Ordered history → time_of history ≤ time
    → input_at_moment (input_brought_to (record_after input history) time (mode_on history)) time (mode_on history) false ≡
    input_brought_to (record_after input history) time (mode_on history)
unfolding input_at_moment input_brought_to forecast
input_at_moment-input_brought_to input history time ordered later =
    ap (with_run (record_after input history))
    (at_moment-settled (brought_to (record_after input history).run (forecast_after input history) time)
    (forecast_after input history) time
    (settled-brought_to (record_after input history).run (forecast_after input history) (time_of history) time later
    (settled_record input history ordered)))

-- an event on another input that leaves the mode as it is
pub takes-other : (input : ℕ) (event : Recorded) (history : History) → Ordered history → time_of history ≤ event.time
    → eqb event.input input ≡ false → mode_on (event following history) ≡ mode_on history
    → record_after input (event following history)
    ≡ input_brought_to (record_after input history) event.time (mode_on history)
unfolding record_after takes
takes-other input event history ordered later other mode =
    rw (other, mode) (input_at_moment-input_brought_to input history event.time ordered later)

-- a tick is an event that nothing hears
pub takes_tick : (input : ℕ) (history : History) (time : ℕ) → Ordered history → time_of history ≤ time
    → record_after input (tick_event time following history)
    ≡ input_brought_to (record_after input history) time (mode_on history)
unfolding record_after takes after_event heard_after settings_after last_argument is_on
takes_tick input history time ordered later =
    by_bool (eqb 0 input)
    (λ e. rw e (input_at_moment-input_brought_to input history time ordered later))
    (λ e. rw e (input_at_moment-input_brought_to input history time ordered later))

-- ---- what is shown

-- DEMAND 2: after any recorded events, and at any later time, the record passes the quality that they define, and no
-- other is defined.
pub demand_2_passed-quality : (input : ℕ) (history : History) (time : ℕ) → Ordered history → time_of history ≤ time
    → PassesWhatIsRecorded input history time
unfolding passed_at
demand_2_passed-quality input history time ordered later =
    record {
      passes =
          rw (passed-input_brought_to input history time ordered later) (passed-exact (moments_until input history time));
      only = λ quality says.
          passed_unique (moments_until input history time) quality says ∙
          sym (passed-input_brought_to input history time ordered later);
    }

pub demand_2_passed-at_once : (input : ℕ) (history : History) → Ordered history → PassesAtOnce input history
unfolding passed_at
demand_2_passed-at_once input history ordered =
    record {
      passes = rw (passed-now input history ordered) (passed-exact (moments_until input history (time_of history)));
    }

-- DEMAND 2: time going by in two pieces equals one piece.
pub demand_2_two-pieces : (input : ℕ) (history : History) (time later : ℕ) → Ordered history → time_of history ≤ time
    → time ≤ later
    → TwoPieces input history time later
unfolding input_brought_to forecast
demand_2_two-pieces input history time later ordered i j =
    ap (with_run (record_after input history))
    (brought_to-brought_to (record_after input history).run (forecast_after input history) (time_of history) time later i j
    (settled_record input history ordered))

-- DEMAND 2: a tick in between changes no later passed quality.
pub demand_2_tick_adds_nothing : (input : ℕ) (history : History) (time later : ℕ) → Ordered history
    → time_of history ≤ time
    → time ≤ later → TickAddsNothing input history time later
unfolding last_argument is_on
demand_2_tick_adds_nothing input history time later ordered i j =
    sym (passed-input_brought_to input (tick_event time following history) later (i, ordered) j) ∙
    ap (λ (after : Input). passed_of (input_brought_to after later (mode_on (tick_event time following history))))
    (takes_tick input history time ordered i) ∙
    ap passed_of (demand_2_two-pieces input history time later ordered i j) ∙
    passed-input_brought_to input history later ordered (omega arith)
