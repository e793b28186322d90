-- What the lanes are told by the program: what is right from when to when, span by span, and what is shown; and when
-- each value was right last, in the places of an array. Cited by `src/tell.rt`. Assumes nothing.
use Rattle.std.specs.Prelude.{ℕ, zero, suc, max, cond, List, [], ◌∷◌, eqb, ltb, get_or, set}
use Rattle.selector.specs.declared.Selector.{Selector}
use Rattle.selector.specs.Answer.{outgoing_codes}
use Rattle.lane.specs.declared.Tolerance.{Tolerance}
use Rattle.lane.specs.declared.Lane.{Lane}
use Rattle.lane.specs.declared.Judged.{Judged}
use Rattle.lane.specs.Lane.{capped, fresh_lane, shown_next, right_next}
use Rattle.lanes.specs.Value.{index_count, value_index, value_of}
use Rattle.lanes.specs.Span.{Span, span_of}
use Rattle.spans.specs.Spans.{spans_from}
use Rattle.verdictlines.specs.declared.Question.{Question}

-- a lane, and when each value was right last
pub record Told : Type 0 where
  pub lane : Lane
  pub room : List ℕ

abbrev pub lane_of : Told → Lane
lane_of told = told.lane

abbrev pub room_of : Told → List ℕ
room_of told = told.room

-- the millisecond behind the last at which the value at an index was right; 0 for a value that never is
unfoldable pub last_at : List ℕ → ℕ → ℕ
last_at room index = cond (ltb index index_count) (get_or room index 0) 0

-- the places after a value was right up to a millisecond
unfoldable pub placed_at : List ℕ → ℕ → ℕ → List ℕ
placed_at room index to = cond (ltb index index_count) (set room index (capped to 1)) room

-- from when on it is new to a lane what is right: what is right up to EARLY behind the last thing shown it knows
unfoldable pub new_from : Tolerance → Lane → ℕ → ℕ
new_from tolerance lane from = cond (eqb lane.after 0) from (max from (capped lane.after tolerance.early))

-- a lane is told that a value is right from one millisecond to another, as far as that is new to it
unfoldable pub pushed : Question → ℕ → Lane → List ℕ → ℕ → ℕ → ℕ → Told
pushed question number lane room from to value =
    let start = new_from question.tolerance lane from in
    let judged =
    right_next question.tolerance lane (last_at room (value_index question.view number lane.value)) start to value
    in
    cond (ltb to start) (record { lane = lane; room = room })
    (record { lane = judged.lane; room = placed_at room (value_index question.view number value) to })

-- a lane is told that a value is shown
unfoldable pub shown_in : Question → ℕ → Lane → List ℕ → ℕ → ℕ → Judged
shown_in question number lane room time value =
    shown_next question.tolerance lane (last_at room (value_index question.view number value)) time value

-- a span of a state
abbrev pub span_from : Selector → ℕ → ℕ → Span
span_from state from to = record { state = state; from = from; to = to }

-- the first span of a state that has shown the same since a time
abbrev pub since_span : Selector → ℕ → ℕ → Span
since_span state since until = span_from state since (span_of state until).to

-- the spans of a state that has shown the same since a time, up to a millisecond, with the most due moments that there
-- can be
unfoldable pub spans_since : Selector → ℕ → ℕ → List Span
spans_since state since until = spans_from 48 (since_span state since until) until

-- what is told of spans, one after another
unfoldable pub over_spans : {S : Type 0} → (Span → S → S) → List Span → S → S
over_spans tell [] told = told
over_spans tell (span ∷ spans) told = over_spans tell spans (tell span told)

-- a lane is told what a span shows
abbrev pub lane_told : Question → ℕ → Span → Told → Told
lane_told question number span told =
    pushed question number told.lane told.room span.from span.to
    (value_of question.view span.state number)

-- a lane is told what spans show
abbrev pub spans_told : Question → ℕ → List Span → Lane → List ℕ → Told
spans_told question number spans lane room =
    over_spans (lane_told question number) spans (record { lane = lane; room = room })

-- what a lane is told before a value is shown in it: what is right up to a border, of a state that has shown the same
-- since a time; in one thing where nothing is due by then
unfoldable pub known_to : Question → ℕ → Lane → List ℕ → Selector → ℕ → ℕ → ℕ → ℕ → Told
known_to question number lane room state due since right border =
    cond (ltb border due) (pushed question number lane room since border right)
    (spans_told question number (spans_since state since border) lane room)

-- and the value shown
abbrev pub with_shown : Question → ℕ → ℕ → ℕ → Told → Told
with_shown question number time value known =
    record { lane = (shown_in question number known.lane known.room time value).lane; room = known.room }

-- a lane is told that a value is shown, and what is right up to a border before that
unfoldable pub shown_told : Question → ℕ → Lane → List ℕ → Selector → ℕ → ℕ → ℕ → ℕ → ℕ → ℕ → Told
shown_told question number lane room state due since right border time value =
    with_shown question number time value (known_to question number lane room state due since right border)

-- all lanes, and when each value of each was right last
pub record AllTold : Type 0 where
  pub lanes : List Lane
  pub room : List ℕ

abbrev pub lanes_of : AllTold → List Lane
lanes_of told = told.lanes

abbrev pub places_of : AllTold → List ℕ
places_of told = told.room

-- the lanes of so many ports from one on are told that their codes are right from one millisecond to another
unfoldable pub ports_told : Question → ℕ → ℕ → List ℕ → ℕ → ℕ → List Lane → List ℕ → AllTold
ports_told question from to codes zero number lanes room = record { lanes = lanes; room = room }
ports_told question from to codes (suc left) number lanes room =
    let told = pushed question number (get_or lanes number fresh_lane) room from to (get_or codes number 0) in
    ports_told question from to codes left (suc number) (set lanes number told.lane) told.room

-- the first lane is told what is judged of the answer
unfoldable pub answer_told : Question → Span → List Lane → List ℕ → AllTold
answer_told question span lanes room =
    let told =
    pushed question 0 (get_or lanes 0 fresh_lane) room span.from span.to (value_of question.view span.state 0) in
    record { lanes = set lanes 0 told.lane; room = told.room }

-- all lanes are told what a span shows
unfoldable pub all_told : Question → Span → AllTold → AllTold
all_told question span told =
    cond question.view.codes
    (ports_told question span.from span.to (outgoing_codes span.state) 16 0 told.lanes told.room)
    (answer_told question span told.lanes told.room)

-- the same of lanes and places
abbrev pub span_told : Question → Span → List Lane → List ℕ → AllTold
span_told question span lanes room = all_told question span (record { lanes = lanes; room = room })

-- all lanes are told what spans show
abbrev pub spans_told_all : Question → List Span → List Lane → List ℕ → AllTold
spans_told_all question spans lanes room = over_spans (all_told question) spans (record { lanes = lanes; room = room })
