-- Document 02, L13, the station clock unit: which selector an event goes to, the events that each selector has had of
-- its own, the unit's one time, and when the station output squelches. By what has happened alone. Cited by
-- `src/lib.rt`. Assumes nothing.
use Rattle.std.specs.Prelude.{ℕ, ◌<◌, Bool, true, false, not, ◌&&◌, ◌||◌, cond, List, [], ◌∷◌, eqb, leb, ltb}
use Rattle.numbers.specs.declared.Answer.{Answer}
use Rattle.numbers.specs.declared.profile.Limits.{Limits}
use Rattle.numbers.specs.declared.profile.Profile.{Profile}
use Rattle.numbers.specs.declared.quality.Quality.{Quality}
use Rattle.numbers.specs.From.{From, started, ◌following◌, profile_of}
use Rattle.numbers.specs.Inputs.{time_limit}
use Rattle.numbers.specs.Kind.{kind_signal, kind_frame, kind_line_code, kind_word, kind_input_kind, kind_tick}
use Rattle.numbers.specs.Profile.{limits_of, prov_place_of, profile_in, start_number}
use Rattle.numbers.specs.Rows.{refusal, first_that_applies}
use Rattle.numbers.specs.Refusal.{accepted, time_too_large, time_before_state, argument_out_of_range}
use Rattle.input.specs.Recorded.{mode_on}
use Rattle.choice.specs.Rank.{rank_of}
use Rattle.selector.specs.Clock.{no_input, selected_number}
use Rattle.events.specs.Given.{Given, Sequence, tick_at}
use Rattle.events.specs.Past.{Past, decided_by, number_by, past_of}
use Rattle.events.specs.Told.{candidate_selected, answer_by, codes_by, words_by}
use Rattle.events.specs.Usable.{SelectedPasses}
use Rattle.unit.specs.declared.Half.{Half}
use Rattle.unit.specs.declared.Half.TheVariants as H

-- ---- the start

-- "a minimum set at the start (1 to 4, option II 1 to 8 ..)": as floors run
abbrev pub is_minimum : Profile → Quality → Bool
is_minimum profile minimum = leb 1 minimum.0 && leb minimum.0 (limits_of profile).floor

-- "otherwise 6 and no start": the number that a start with an option's number, a place's and a minimum is answered
-- with; the place of PROV has its own range
unfoldable pub unit_start_number : ℕ → ℕ → Quality → ℕ
unit_start_number option provplace minimum =
    cond (is_minimum (profile_in option provplace 0) minimum) (start_number option provplace) argument_out_of_range

-- ---- which selector an event goes to

-- an event, with the selector that it is for where it is a command
pub record Addressed : Type 0 where
  pub to : Half
  pub given : Given

-- a sequence of the unit's events from a fresh start of a profile, the latest first
abbrev pub UnitSequence : Type 0
UnitSequence = From Addressed

-- "Reports (signal, frame, code, word)"; in option I a word "stays unknown"
abbrev pub is_report : Limits → ℕ → Bool
is_report limits kind =
    eqb kind kind_signal || eqb kind kind_frame || eqb kind kind_line_code || (eqb kind kind_word && limits.words)

-- "Reports .., input kinds and ticks go to both"
unfoldable pub goes_to_both : Limits → ℕ → Bool
goes_to_both limits kind = is_report limits kind || eqb kind kind_input_kind || eqb kind kind_tick

-- what is for one selector is for this one
unfoldable pub is_to : Half → Half → Bool
is_to H.Equipment H.Equipment = true
is_to H.Equipment H.Station = false
is_to H.Station H.Equipment = false
is_to H.Station H.Station = true

-- "any other event is a command, goes to one"
unfoldable pub goes_to : Limits → ℕ → Half → Half → Bool
goes_to limits kind to half = goes_to_both limits kind || is_to to half

-- an event of the unit goes to a selector
abbrev pub is_for : Half → Addressed → UnitSequence → Bool
is_for half addressed earlier =
    goes_to (limits_of (profile_of earlier)) addressed.given.event.kind addressed.to half

-- ---- each selector after a sequence of its own events

-- the time of an event
abbrev pub time_in : Addressed → ℕ
time_in addressed = addressed.given.event.time

-- "Any event whose time passes, of unknown kind too, first ticks both selectors"; a tick whose time does not pass is
-- itself refused with 3 or 4 and leaves all
abbrev pub tick_first : Addressed → Sequence → Sequence
tick_first addressed own = tick_at (time_in addressed) following own

-- what one selector has had: of each event of the unit a tick at its time, and then the event where it goes there; a
-- command "reaches the other as a tick of that time"
unfoldable pub own_events : Half → UnitSequence → Sequence
own_events half (started profile) = started profile
own_events half (addressed following earlier) =
    cond (is_for half addressed earlier) (addressed.given following tick_first addressed (own_events half earlier))
    (tick_first addressed (own_events half earlier))

-- what has happened to one selector
abbrev pub own_past : Half → UnitSequence → Past
own_past half sequence = past_of (own_events half sequence)

-- the number that one selector answers an event of the unit with: the event's own where it goes there, otherwise the
-- tick's
unfoldable pub own_number : Half → Addressed → UnitSequence → ℕ
own_number half addressed earlier =
    cond (is_for half addressed earlier)
    (number_by (past_of (tick_first addressed (own_events half earlier))) addressed.given)
    (number_by (own_past half earlier) (tick_at (time_in addressed)))

-- what one selector tells after an event: its answer, and the sixteen codes and words that go out
pub record Telling : Type 0 where
  pub answer : Answer
  pub codes : List ℕ
  pub words : List ℕ

-- the same by a number and what has happened
abbrev pub telling_by : ℕ → Past → Telling
telling_by number past = record { answer = answer_by number past; codes = codes_by past; words = words_by past }

-- what one selector tells after each event, the latest first
unfoldable pub own_tellings : Half → UnitSequence → List Telling
own_tellings half (started profile) = []
own_tellings half (addressed following earlier) =
    telling_by (own_number half addressed earlier) (own_past half (addressed following earlier)) ∷ own_tellings half earlier

-- ---- one time

-- the number that a time is refused with, against the unit's, by rows 3 and 4; 0 where it passes
unfoldable pub time_number : ℕ → ℕ → ℕ
time_number unit time =
    first_that_applies (refusal time_too_large (leb time_limit time) ∷ refusal time_before_state (ltb time unit) ∷ [])

-- "The unit keeps one time": that of the last event whose time passed
unfoldable pub unit_time : UnitSequence → ℕ
unit_time (started profile) = 0
unit_time (addressed following earlier) =
    cond (eqb (time_number (unit_time earlier) (time_in addressed)) accepted) (time_in addressed) (unit_time earlier)

-- ---- the station output, as statements

-- how a quality ranks, PROV where the profile places it
abbrev pub rank_in : Past → Quality → ℕ
rank_in past told = (rank_of (prov_place_of (profile_of past.history)) told).0

-- "the selected input's passed quality is worse than a minimum", by the ranking
pub record WorseThan (minimum : Quality) (past : Past) : Type 0 where
  pub number : ℕ
  pub passed : Quality
  pub is_selected : SelectedPasses past number passed
  pub worse : rank_in past minimum < rank_in past passed

-- ---- the same, computed

-- what the station output sends: AIS or not, and its source identifier
pub record Output : Type 0 where
  pub squelched : Bool
  pub source : ℕ

-- "squelches (AIS) with quality mode off when nothing usable is selected, and with it on also when the selected input's
-- passed quality is worse than a minimum"
unfoldable pub squelched_by : Quality → Past → Bool
squelched_by minimum past =
    not (candidate_selected past).usable ||
    (mode_on past.history && ltb (rank_in past minimum) (rank_in past (candidate_selected past).quality))

-- "Squelched, its source identifier is none; otherwise that of the selected input"
abbrev pub output_by : Quality → Past → Output
output_by minimum past =
    record {
      squelched = squelched_by minimum past;
      source = cond (squelched_by minimum past) no_input (selected_number (decided_by past.made).selection);
    }

-- what the station output sends after each event, the latest first
unfoldable pub own_outputs : Quality → UnitSequence → List Output
own_outputs minimum (started profile) = []
own_outputs minimum (addressed following earlier) =
    output_by minimum (own_past H.Station (addressed following earlier)) ∷ own_outputs minimum earlier
