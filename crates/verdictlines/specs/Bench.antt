-- What the program carries from line to line, and what an event does to it. Cited by `src/bench.rt`. Assumes nothing.
use Rattle.std.specs.Prelude.{ℕ, ◌<◌, max, Bool, true, false, not, ◌&&◌, ◌||◌, cond, List, ◌≡◌, eqb, leb, ltb, Option, Some, None}
use Rattle.numbers.specs.Kind.{kind_sending}
use Rattle.eventlog.specs.declared.LineRead.{LineRead}
use Rattle.selector.specs.declared.Selector.{Selector}
use Rattle.selector.specs.Answer.{answer_of, outgoing_codes}
use Rattle.due.specs.Next.{next_due}
use Rattle.logline.specs.Plain.{no_option, meant_read}
use Rattle.logline.specs.Watched.{LogWatch, watch_for, logged_of, is_made_anew, log_in}
use Rattle.lane.specs.declared.Tolerance.{Tolerance}
use Rattle.lane.specs.declared.Lane.{Lane}
use Rattle.lane.specs.Lane.{capped}
use Rattle.lanes.specs.declared.View.{View}
use Rattle.lanes.specs.Value.{answer_value, code_value}
use Rattle.verdictlines.specs.declared.Question.{Question}
use Rattle.verdictlines.specs.declared.Shows.{Shows}
use Rattle.verdictlines.specs.declared.BenchHeld.{BenchHeld}
use Rattle.verdictlines.specs.Told.{AllTold, pushed, spans_since, spans_told, spans_told_all}

-- what is carried from line to line: the log; the lanes; from when on they have not been told what is right, and what
-- the state has shown since then; whether an event has come that leaves its time; the millisecond behind which events
-- have to come, 0 where nothing was shown; how many lines have come; and whether one of them is trouble
pub record Bench : Type 0 where
  pub log : LogWatch
  pub lanes : List Lane
  pub since : ℕ
  pub shows : Shows
  pub happened : Bool
  pub closed : ℕ
  pub line : ℕ
  pub trouble : Bool

-- the same, with the log in five arrays
abbrev pub bench_in : BenchHeld → Bench
bench_in held =
    record {
      log = log_in held.log;
      lanes = held.lanes;
      since = held.kept.since;
      shows = held.kept.shows;
      happened = held.kept.happened;
      closed = held.kept.closed;
      line = held.kept.line;
      trouble = held.kept.trouble;
    }

-- what a state shows: the codes of its ports, and what is judged of its answer
abbrev pub shown_by : View → Selector → Shows
shown_by view state = record { codes = outgoing_codes state; value = answer_value view (answer_of 0 state) }

-- what is shown in a lane
unfoldable pub right_at : View → Shows → ℕ → ℕ
right_at view shows number = cond view.codes (code_value shows.codes number) shows.value

-- a lane is told what is right up to EARLY behind what is shown in it, before that
abbrev pub border_of : Tolerance → ℕ → ℕ
border_of tolerance time = capped time tolerance.early

-- something may be shown at a time: not before what was shown last
unfoldable pub may_show : Lane → ℕ → Bool
may_show lane time = leb lane.after time || eqb (capped time 1) lane.after

-- a shown line is no trouble: an option was said, it comes not before what was shown last, and, once an event has come
-- that leaves its time, EARLY behind it is not before that
unfoldable pub is_sound : ℕ → Lane → ℕ → ℕ → Bool → ℕ → Bool
is_sound option lane time border happened last =
    not (eqb option no_option) && may_show lane time && (not happened || leb last border)

-- the millisecond behind which events have to come
unfoldable pub closed_after : ℕ → ℕ → ℕ
closed_after closed border = cond (leb closed border) (capped border 1) closed

-- refused, and the state left: 1 to 13
unfoldable pub is_early : ℕ → Bool
is_early number = not (eqb number 0) && leb number 13

-- a line says an event that sets what a port sends
unfoldable pub sets_sending : Option LineRead → Bool
sets_sending (Some line) = eqb line.event.kind kind_sending
sets_sending None = false

-- a line, as the log means it, may change what shows: it is the first that says an option, its answer is made anew, or
-- it sets what a port sends
unfoldable pub may_change_by : Bool → Bool → Option LineRead → Bool
may_change_by first anew line = first || anew || sets_sending line

-- a line of a log may change what shows
abbrev pub may_change : LogWatch → Option LineRead → Bool
may_change log read =
    let line = meant_read log.option read in
    may_change_by (eqb log.option no_option) (is_made_anew (watch_for log line) line) line

-- what is shown after an event line: what was shown before, where that may not have changed
unfoldable pub shows_after : View → Bool → Shows → Selector → Shows
shows_after view changes shows state = cond changes (shown_by view state) shows

-- an event has come that leaves its time: one that is not refused at once
unfoldable pub happened_after : Bool → ℕ → Bool
happened_after happened number = cond (is_early number) happened true

-- such an event is trouble where it comes before what was shown and EARLY behind that
unfoldable pub is_late : ℕ → ℕ → ℕ → Bool
is_late number time closed = not (is_early number) && ltb time closed

-- the lanes are told what was right up to an event that may change what shows, is not refused at once, and is no trouble
unfoldable pub is_told : Bool → ℕ → Bool → Bool
is_told changes number late = not (is_early number) && not late && changes

-- the state that a line finds: of the profile that it says where none was said before
abbrev pub state_found : LogWatch → Option LineRead → Selector
state_found log read = (watch_for log (meant_read log.option read)).state

-- what is carried, and when each value of each lane was right last
pub record Taken : Type 0 where
  pub bench : Bench
  pub room : List ℕ

abbrev pub bench_of : Taken → Bench
bench_of taken = taken.bench

abbrev pub places_in : Taken → List ℕ
places_in taken = taken.room

-- what the lanes are told of the spans up to a log's time
abbrev pub told_up_to : Question → Bench → Option LineRead → LogWatch → List ℕ → AllTold
told_up_to question bench read after room =
    spans_told_all question (spans_since (state_found bench.log read) bench.since after.watch.state.time)
    bench.lanes
    room

-- what is carried after an event line that left a log, with the lanes and since when they have not been told
abbrev pub bench_stepped : Question → Bench → Option LineRead → LogWatch → List Lane → ℕ → Bench
bench_stepped question bench read after lanes since =
    let number = after.watch.answer.number in
    let state = after.watch.state in
    record {
      log = after;
      lanes = lanes;
      since = since;
      shows = shows_after question.view (may_change bench.log read) bench.shows state;
      happened = happened_after bench.happened number;
      closed = bench.closed;
      line = bench.line;
      trouble = is_late number state.time bench.closed;
    }

-- what an event line does: the lanes are told what was right up to it, where that may change
unfoldable pub event_taken : Question → Bench → Option LineRead → List ℕ → Taken
event_taken question bench read room =
    let after = logged_of bench.log read in
    let number = after.watch.answer.number in
    let time = after.watch.state.time in
    let told = told_up_to question bench read after room in
    cond (is_told (may_change bench.log read) number (is_late number time bench.closed))
    (record { bench = bench_stepped question bench read after told.lanes time; room = told.room })
    (record { bench = bench_stepped question bench read after bench.lanes bench.since; room = room })

-- the millisecond up to which it has to be known what is right: EARLY and one more behind the end, or the log's time
-- where that is later
abbrev pub whole_to : Tolerance → ℕ → ℕ
whole_to tolerance time = max (capped (capped tolerance.end tolerance.early) 1) time

-- what the lanes are told up to there, where no event comes
unfoldable pub whole_told : Question → Bench → List ℕ → AllTold
whole_told question bench room =
    let state = bench.log.watch.state in
    spans_told_all question (spans_since state bench.since (whole_to question.tolerance state.time)) bench.lanes room

-- a shown line while nothing is due: one thing is told, what the state has shown since, in the place of all spans
pub record QuickRight
    (question : Question) (number : ℕ) (state : Selector) (since until : ℕ) (lane : Lane) (room : List ℕ)
    : Type 0 where
  pub told : until < next_due state
      → pushed question number lane room since until
      (right_at question.view (shown_by question.view state) number) ≡
      spans_told question number (spans_since state since until) lane room
