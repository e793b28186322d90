-- What is right at a millisecond, by what has happened: what the law answers after some first part of the events and a
-- tick then. And the spans of a state, which have it from when to when till an event comes. Assumes nothing.
use Rattle.std.specs.Prelude.{ℕ, zero, suc, ◌≤◌, cond, List, [], ◌∷◌, ◌⊎◌, ◌↔◌, ◌≡◌, leb}
use Rattle.numbers.specs.From.{started, ◌following◌}
use Rattle.selector.specs.declared.Selector.{Selector}
use Rattle.events.specs.Given.{Sequence, tick_at}
use Rattle.events.specs.Past.{Past, past_of}
use Rattle.events.specs.Sequence.{state_after}
use Rattle.events.specs.Told.{answer_by, codes_by}
use Rattle.input.specs.Recorded.{time_of}
use Rattle.lane.specs.Shown.{Rightness}
use Rattle.lanes.specs.declared.View.{View}
use Rattle.lanes.specs.Value.{answer_value, code_value, value_of}
use Rattle.lanes.specs.Span.{Span, span_of, next_span}

-- what has to be shown in a lane after what has happened: a port's code, or what is judged of the answer
abbrev pub value_by : View → Past → ℕ → ℕ
value_by view past lane = cond view.codes (code_value (codes_by past) lane) (answer_value view (answer_by 0 past))

-- right at a millisecond after a part of the events: its time is not later, the next event, if any, is not before, and
-- the value is what the law answers for that part followed by a tick then
abbrev pub RightAfter : View → ℕ → (ℕ → Type 0) → Sequence → Rightness
RightAfter view lane NotBefore part moment value =
    (time_of (past_of part).history ≤ moment) × NotBefore moment ×
    (value ≡ value_by view (past_of (tick_at moment following part)) lane)

-- the same after this part or one that it begins with
abbrev pub RightUpTo : View → ℕ → (ℕ → Type 0) → Sequence → Rightness
RightUpTo view lane NotBefore (started profile) moment value =
    RightAfter view lane NotBefore (started profile) moment value
RightUpTo view lane NotBefore (given following earlier) moment value =
    RightAfter view lane NotBefore (given following earlier) moment value
    ⊎ RightUpTo view lane (λ (time : ℕ). time ≤ time_of (past_of (given following earlier)).history) earlier moment value

-- which value is right when, by the events
abbrev pub RightBy : View → ℕ → Sequence → Rightness
RightBy view lane events = RightUpTo view lane (λ (time : ℕ). Unit {0}) events

-- the spans from one on, up to a millisecond: one for each due moment on the way, at most so many
abbrev pub spans_from : ℕ → Span → ℕ → List Span
spans_from zero span until = span ∷ []
spans_from (suc left) span until = span ∷ cond (leb until span.to) [] (spans_from left (next_span span until) until)

-- a millisecond is in a span that is among some
abbrev pub InSpans : List Span → ℕ → (Selector → Type 0) → Type 0
InSpans [] time Has = ⊥
InSpans (span ∷ spans) time Has = ((span.from ≤ time) × (time ≤ span.to) × Has span.state) ⊎ InSpans spans time Has

-- the spans of the state after some events, up to a millisecond, with the most due moments that there can be
abbrev pub spans_after : Sequence → ℕ → List Span
spans_after events until = spans_from 48 (span_of (state_after events) until) until

-- till the next event comes, the spans are what the law answers
pub record SpansRight (view : View) (lane : ℕ) (events : Sequence) (until : ℕ) : Type 0 where
  -- what a span shows at a millisecond is right then
  pub sound : (time value : ℕ) → time ≤ until
      → InSpans (spans_after events until) time (λ (state : Selector). value ≡ value_of view state lane)
      → RightAfter view lane (λ (moment : ℕ). Unit {0}) events time value
  -- and what is right then is what a span shows
  pub whole : (time value : ℕ) → time ≤ until → RightAfter view lane (λ (moment : ℕ). Unit {0}) events time value
      → InSpans (spans_after events until) time (λ (state : Selector). value ≡ value_of view state lane)

-- the spans of each part of the events, each up to where the next event comes, and the last up to a millisecond: which
-- value they show when
abbrev pub InParts : View → ℕ → ℕ → Sequence → Rightness
InParts view lane until (started profile) moment value =
    InSpans (spans_after (started profile) until) moment (λ (state : Selector). value ≡ value_of view state lane)
InParts view lane until (given following earlier) moment value =
    InSpans (spans_after (given following earlier) until) moment (λ (state : Selector). value ≡ value_of view state lane)
    ⊎ InParts view lane (state_after (given following earlier)).time earlier moment value

-- the spans show at a millisecond exactly what is right then
pub record RightExactly (view : View) (lane : ℕ) (events : Sequence) (until : ℕ) : Type 0 where
  pub exact : (moment value : ℕ) → moment ≤ until
      → RightBy view lane events moment value ↔ InParts view lane until events moment value
