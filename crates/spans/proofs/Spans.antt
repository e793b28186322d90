-- The spans of a state are right: `specs/Spans`. Between two due moments a tick changes the time alone, and from the
-- next on it is the tick of the state that was ticked there. Assumes nothing.
use Prim.Native.Nat.{ℕ, zero, suc, ◌+◌, ◌-◌, ◌≤◌, ◌<◌, min}
use mathlib.Core.List.{List, [], ◌∷◌}
use mathlib.Core.Logic.{inl, inr, ⊎_elim, ◌↔◌}
use mathlib.Core.Path.{◌≡◌, refl, sym, ◌∙◌, ap, subst}
use native.Mathlib.Omega.{arith}
use borrow.Author.Tests.{lt-leb, leb-true, leb-false}
use lib.Dec.{leb}
use Rattle.numbers.proofs.Truth.{by_bool}
use Rattle.numbers.specs.From.{started, ◌following◌}
use Rattle.numbers.specs.Inputs.{time_limit}
use Rattle.selector.specs.declared.Selector.{Selector}
use Rattle.selector.specs.Answer.{answer_of, outgoing_codes}
use Rattle.selector.specs.State.{ticked_once, decided}
use Rattle.due.specs.Next.{never, next_due}
use Rattle.due.specs.Served.{ticked}
use Rattle.due.specs.Each.{each, due_in}
use Rattle.due.proofs.Calm.{moved_to, Calm, calm-ticked_once}
use Rattle.due.proofs.Each.{each-each, due_in-each, due_in-most}
use Rattle.due.proofs.Jump.{next_due-later, each-before, each_next, due_in-next}
use Rattle.due.proofs.ServesEachDue.{ticked-each}
use Rattle.input.specs.Recorded.{time_of}
use Rattle.numbers.specs.declared.Event.{Event}
use Rattle.numbers.specs.Profile.{limits_of}
use Rattle.frame.specs.Read.{read_code}
use Rattle.events.specs.Step.{Stepped, kind_at, early_number, late_number, at_its_moment, step_read, step}
use Rattle.events.specs.Given.{Given, Sequence, tick_at}
use Rattle.events.specs.Past.{past_of, recorded}
use Rattle.events.specs.Sequence.{state_after}
use Rattle.events.proofs.Calm.{accepted_or_not, step_read-refused, step_read_barred, step_read-taken, brought-time, sequence-calm}
use Rattle.events.proofs.Refused.{accepted_limit, accepted-time}
use Rattle.events.proofs.Demand1.{tick_state}
use Rattle.events.proofs.Demand2.{demand_2_answers}
use Rattle.events.proofs.Happened.{happened}
use Rattle.lanes.specs.declared.View.{View}
use Rattle.lanes.specs.Value.{value_of}
use Rattle.lanes.specs.Span.{Span, span_of, next_span}
use Rattle.spans.specs.Spans.{value_by, RightUpTo, RightBy, spans_from, InSpans, spans_after, SpansRight, InParts, RightExactly}

-- what a state shows does not depend on its time
value-moved : (view : View) (state : Selector) (lane time : ℕ)
    → value_of view (moved_to state state.inputs time) lane ≡ value_of view state lane
unfolding value_of answer_of outgoing_codes
value-moved view state lane time = refl

ticked_once-time : (state : Selector) (time : ℕ) → (ticked_once state time).time ≡ time
unfolding ticked_once decided
ticked_once-time state time = refl

module _ (state : Selector) (time : ℕ) (calm : Calm state) (later : state.time ≤ time) (ever : time < never) where
  -- before the next due moment
  value_before : (view : View) (lane : ℕ) → time < next_due state
      → value_of view (ticked state time) lane ≡ value_of view state lane
  value_before view lane lt =
      let z : state.time + (time - state.time) ≡ time = omega arith in
      ap (λ (s : Selector). value_of view s lane)
      (ticked-each state time calm later ever
      ∙ each-before state calm (time - state.time) (omega arith)
      ∙ ap (moved_to state state.inputs) z)
      ∙ value-moved view state lane time

  -- from it on
  module _ (due : next_due state ≤ time) where
    gap : ℕ
    gap = next_due state - suc state.time

    is : next_due state ≡ suc (state.time + gap)
    unfolding gap
    is = omega (arith, next_due-later state (omega arith))

    all : suc gap + (time - next_due state) ≡ time - state.time
    unfolding gap
    all = omega (arith, next_due-later state (omega arith))

    calm-next : Calm (ticked_once state (next_due state))
    calm-next = calm-ticked_once state (next_due state) calm (omega (arith, next_due-later state (omega arith)))

    few-next : (left : ℕ) → due_in (time - state.time) state ≤ suc left
        → due_in (time - next_due state) (ticked_once state (next_due state)) ≤ left
    few-next left few =
        let more : due_in (time - state.time) state
        ≡ 1 + due_in (time - next_due state) (ticked_once state (next_due state)) =
        ap (λ (count : ℕ). due_in count state) (sym all)
        ∙ due_in-each (time - next_due state) (suc gap) state
        ∙ rw (due_in-next state calm gap is (omega arith), each_next state calm gap is (omega arith)) in
        omega arith

    some-due : due_in (time - state.time) state ≤ 0 → ⊥
    some-due few =
        let more : due_in (time - state.time) state
        ≡ 1 + due_in (time - next_due state) (ticked_once state (next_due state)) =
        ap (λ (count : ℕ). due_in count state) (sym all)
        ∙ due_in-each (time - next_due state) (suc gap) state
        ∙ rw (due_in-next state calm gap is (omega arith), each_next state calm gap is (omega arith)) in
        omega arith

    ticked-on : ticked state time ≡ ticked (ticked_once state (next_due state)) time
    ticked-on =
        let t = ticked_once-time state (next_due state) in
        ticked-each state time calm later ever
        ∙ ap (λ (count : ℕ). each count state) (sym all)
        ∙ sym (each-each (time - next_due state) (suc gap) state)
        ∙ ap (each (time - next_due state)) (each_next state calm gap is (omega arith))
        ∙ ap (λ (from : ℕ). each (time - from) (ticked_once state (next_due state))) (sym t)
        ∙ sym (ticked-each (ticked_once state (next_due state)) time calm-next (omega arith) ever)

-- the span behind one begins with the tick that is due
next-state : (state : Selector) (until : ℕ) → until < never → state.time < next_due state
    → min until (next_due state - 1) < until
    → next_span (span_of state until) until ≡ span_of (ticked_once state (next_due state)) until
next-state state until ever later less =
    let same : min (min until (next_due state - 1) + 1) 18446744073709551615 ≡ next_due state = omega arith in
    ap (λ (time : ℕ). span_of (ticked_once state time) until) same

in_spans : (view : View) (lane : ℕ) (spans : List Span) (time one other : ℕ) → other ≡ one
    → InSpans spans time (λ (s : Selector). one ≡ value_of view s lane)
    → InSpans spans time (λ (s : Selector). other ≡ value_of view s lane)
in_spans view lane [] time one other e i = i
in_spans view lane (span ∷ spans) time one other e (inl i) = inl (i.0, i.1, e ∙ i.2)
in_spans view lane (span ∷ spans) time one other e (inr i) = inr (in_spans view lane spans time one other e i)

module _ (view : View) (lane until : ℕ) (ever : until < never) where
  -- what a span shows is what a tick leaves
  sound-from : (left : ℕ) (state : Selector) → Calm state → state.time < never → (time value : ℕ) → time ≤ until
      → InSpans (spans_from left (span_of state until) until) time (λ (s : Selector). value ≡ value_of view s lane)
      → (state.time ≤ time) × (value ≡ value_of view (ticked state time) lane)
  sound-from zero state calm past time value most (inl i) =
      let from = i.0 in
      let to = i.1 in
      let later = next_due-later state past in
      (from, i.2 ∙ sym (value_before state time calm from (omega arith) view lane (omega arith)))
  sound-from zero state calm past time value most (inr i) = absurd i
  sound-from (suc left) state calm past time value most (inl i) =
      let from = i.0 in
      let to = i.1 in
      let later = next_due-later state past in
      (from, i.2 ∙ sym (value_before state time calm from (omega arith) view lane (omega arith)))
  sound-from (suc left) state calm past time value most (inr i) =
      let later = next_due-later state past in
      by_bool (leb until (min until (next_due state - 1)))
      (λ t. absurd (rw t at i))
      (λ t. let less = leb-false until (min until (next_due state - 1)) t in
      let due : next_due state ≤ until = omega arith in
      let there = ticked_once-time state (next_due state) in
      let calm-then = calm-next state until calm (omega arith) ever due in
      let j : InSpans (spans_from left (next_span (span_of state until) until) until) time
      (λ (s : Selector). value ≡ value_of view s lane) = rw t at i in
      let k = sound-from left (ticked_once state (next_due state)) calm-then (omega arith) time value most
      (subst (λ (span : Span). InSpans (spans_from left span until) time (λ (s : Selector). value ≡ value_of view s lane))
      (next-state state until ever later less) j) in
      let since = k.0 in (
        omega arith,
        k.1 ∙ sym (ap (λ (s : Selector). value_of view s lane)
            (ticked-on state time calm (omega arith) (omega arith) (omega arith))),
      ))

  -- and there is a span for each millisecond
  whole_from : (left : ℕ) (state : Selector) → Calm state → state.time < never
      → due_in (until - state.time) state ≤ left
      → (time : ℕ) → state.time ≤ time → time ≤ until
      → InSpans (spans_from left (span_of state until) until) time
      (λ (s : Selector). value_of view (ticked state time) lane ≡ value_of view s lane)
  whole_from zero state calm past few time from most =
      let later = next_due-later state past in
      by_bool (leb (next_due state) time)
      (λ t. let due = leb-true (next_due state) time t in
      absurd (some-due state until calm (omega arith) ever (omega arith) few))
      (λ t. let before = leb-false (next_due state) time t in
      inl (from, omega arith, value_before state time calm from (omega arith) view lane before))
  whole_from (suc left) state calm past few time from most =
      let later = next_due-later state past in
      by_bool (leb (next_due state) time)
      (λ t. let due = leb-true (next_due state) time t in
      let less : min until (next_due state - 1) < until = omega arith in
      let there = ticked_once-time state (next_due state) in
      let calm-then = calm-next state until calm (omega arith) ever (omega arith) in
      let few-then : due_in (until - (ticked_once state (next_due state)).time) (ticked_once state (next_due state)) ≤ left =
      subst (λ (n : ℕ). due_in (until - n) (ticked_once state (next_due state)) ≤ left) (sym there)
      (few-next state until calm (omega arith) ever (omega arith) left few) in
      let rest = whole_from left (ticked_once state (next_due state)) calm-then (omega arith)
      few-then time (omega arith) most in
      let on = ap (λ (s : Selector). value_of view s lane)
      (ticked-on state time calm from (omega arith) due) in
      inr (rw (lt-leb until (min until (next_due state - 1)) less)
      (subst (λ (span : Span). InSpans (spans_from left span until) time
      (λ (s : Selector). value_of view (ticked state time) lane ≡ value_of view s lane))
      (sym (next-state state until ever later less))
      (in_spans view lane (spans_from left (span_of (ticked_once state (next_due state)) until) until) time _ _ on rest))))
      (λ t. let before = leb-false (next_due state) time t in
      inl (from, omega arith, value_before state time calm from (omega arith) view lane before))

-- what a state shows is what the law answers
value-by : (view : View) (sequence : Sequence) (lane : ℕ)
    → value_of view (state_after sequence) lane ≡ value_by view (past_of sequence) lane
unfolding value_of
value-by view sequence lane =
    let demand = demand_2_answers sequence in
    rw (demand.outgoing, demand.answer 0)

-- THE SPANS ARE WHAT THE LAW ANSWERS, after any sequence of events, till the next.
pub spans-right : (view : View) (lane : ℕ) (events : Sequence) (until : ℕ) → until < time_limit
    → (state_after events).time ≤ until
    → SpansRight view lane events until
spans-right view lane events until below after =
    let state = state_after events in
    let calm = sequence-calm events in
    let same : (state_after events).time ≡ time_of (recorded events) = (happened events).time in
    let by : (time : ℕ) → (state_after events).time ≤ time → time ≤ until
    → value_of view (ticked (state_after events) time) lane
    ≡ value_by view (past_of (tick_at time following events)) lane =
    λ time from most.
    ap (λ (s : Selector). value_of view s lane) (sym (tick_state events time from (omega arith)))
    ∙ value-by view (tick_at time following events) lane in
    record {
      sound = λ time value most i.
          let k = sound-from view lane until (omega arith) 48 (state_after events) calm (omega arith)
          time value most i in
          (rw (← same) k.0, tt, k.1 ∙ by time k.0 most);
      whole = λ time value most r.
          let from : (state_after events).time ≤ time = rw same r.0 in
          in_spans view lane (spans_after events until) time _ value (r.2 ∙ sym (by time from most))
          (whole_from view lane until (omega arith) 48 (state_after events) calm (omega arith)
          (due_in-most (until - (state_after events).time) (state_after events) calm)
          time
          from
          most);
    }

-- ---- the times of states

-- an event brings the time no further back, and not to the limit
record Brought (before : ℕ) (after : Selector) : Type 0 where
  later : before ≤ after.time
  below : after.time < time_limit

step-brought : (sequence : Sequence) (event : Event) (frame : List ℕ) → (state_after sequence).time < time_limit
    → Brought (state_after sequence).time (step_read (state_after sequence) event (read_code frame)).state
unfolding at_its_moment decided
step-brought sequence event frame below =
    let state = state_after sequence in
    accepted_or_not (early_number (state_after sequence) event (read_code frame))
    (λ none.
    let calm = sequence-calm sequence in
    let limit : event.time < time_limit =
    accepted_limit (limits_of (state_after sequence).profile) (state_after sequence).time
    (kind_at (state_after sequence).inputs event.input) event (read_code frame) none in
    let from : (state_after sequence).time ≤ event.time =
    accepted-time (limits_of (state_after sequence).profile) (state_after sequence).time
    (kind_at (state_after sequence).inputs event.input) event (read_code frame) none in
    let there : (ticked (state_after sequence) event.time).time ≡ event.time =
    brought-time (state_after sequence) event (read_code frame) calm none in
    accepted_or_not (late_number (ticked (state_after sequence) event.time) event)
    (λ later. subst (λ (after : Stepped). Brought (state_after sequence).time after.state)
    (sym (step_read-taken (state_after sequence) event (read_code frame) none later))
    (record { later = omega (arith, there, from); below = omega (arith, there, limit) }))
    (λ given. subst (λ (after : Stepped). Brought (state_after sequence).time after.state)
    (sym (step_read_barred (state_after sequence) event (read_code frame) none given))
    (record { later = omega (arith, there, from); below = omega (arith, there, limit) })))
    (λ given. subst (λ (after : Stepped). Brought (state_after sequence).time after.state)
    (sym (step_read-refused (state_after sequence) event (read_code frame) given))
    (record { later = omega arith; below = below }))

sequence-below : (sequence : Sequence) → (state_after sequence).time < time_limit
unfolding state_after step
sequence-below (started profile) = omega arith
sequence-below (given following earlier) =
    (step-brought earlier given.event given.frame (sequence-below earlier)).below

sequence-later : (given : Given) (earlier : Sequence)
    → (state_after earlier).time ≤ (state_after (given following earlier)).time
unfolding state_after step
sequence-later given earlier = (step-brought earlier given.event given.frame (sequence-below earlier)).later

-- ---- all parts

spans-most : (Has : Selector → Type 0) (left : ℕ) (span : Span) (until time : ℕ) → span.to ≤ until
    → InSpans (spans_from left span until) time Has
    → time ≤ until
spans-most Has zero span until time t (inl i) = let to = i.1 in omega arith
spans-most Has zero span until time t (inr i) = absurd i
spans-most Has (suc left) span until time t (inl i) = let to = i.1 in omega arith
spans-most Has (suc left) span until time t (inr i) =
    by_bool (leb until span.to)
    (λ e. absurd (rw e at i))
    (λ e. let j : InSpans (spans_from left (next_span span until) until) time Has = rw e at i in
    spans-most Has left (next_span span until) until time (omega arith) j)

parts-right : (view : View) (lane : ℕ) (events : Sequence) (until : ℕ) → until < time_limit
    → (state_after events).time ≤ until
    → (moment value : ℕ)
    → RightUpTo view lane (λ (time : ℕ). time ≤ until) events moment value
    ↔ InParts view lane until events moment value
parts-right view lane (started profile) until below after moment value =
    let right = spans-right view lane (started profile) until below after in (
      λ r. right.whole moment value r.1 (r.0, tt, r.2),
      λ i. let most = spans-most (λ (state : Selector). value ≡ value_of view state lane) 48
          (span_of (state_after (started profile)) until) until moment (omega arith) i in
          let k = right.sound moment value most i in
          (k.0, most, k.2),
    )
parts-right view lane (given following earlier) until below after moment value =
    let right = spans-right view lane (given following earlier) until below after in
    let same : (state_after (given following earlier)).time ≡ time_of (recorded (given following earlier)) =
    (happened (given following earlier)).time in
    let rest =
    parts-right view lane earlier (state_after (given following earlier)).time
    (sequence-below (given following earlier))
    (sequence-later given earlier) moment value in (
      ⊎_elim
          (λ r. inl (right.whole moment value r.1 (r.0, tt, r.2)))
          (λ r. inr (rest.0 (rw same r))),
      ⊎_elim
          (λ i. let most = spans-most (λ (state : Selector). value ≡ value_of view state lane) 48
          (span_of (state_after (given following earlier)) until) until moment (omega arith) i in
          let k = right.sound moment value most i in
          inl (k.0, most, k.2))
          (λ i. inr (rw (← same) (rest.1 i))),
    )

-- up to a millisecond, and with no next event
until_now : (view : View) (lane : ℕ) (events : Sequence) (until moment value : ℕ) → moment ≤ until
    → RightBy view lane events moment value
    → RightUpTo view lane (λ (time : ℕ). time ≤ until) events moment value
until_now view lane (started profile) until moment value most r = (r.0, most, r.2)
until_now view lane (given following earlier) until moment value most (inl r) = inl (r.0, most, r.2)
until_now view lane (given following earlier) until moment value most (inr r) = inr r

until_ever : (view : View) (lane : ℕ) (events : Sequence) (until moment value : ℕ)
    → RightUpTo view lane (λ (time : ℕ). time ≤ until) events moment value
    → RightBy view lane events moment value
until_ever view lane (started profile) until moment value r = (r.0, tt, r.2)
until_ever view lane (given following earlier) until moment value (inl r) = inl (r.0, tt, r.2)
until_ever view lane (given following earlier) until moment value (inr r) = inr r

-- WHAT IS RIGHT BY THE EVENTS IS EXACTLY WHAT THE SPANS SHOW.
pub right-exactly : (view : View) (lane : ℕ) (events : Sequence) (until : ℕ) → until < time_limit
    → (state_after events).time ≤ until
    → RightExactly view lane events until
right-exactly view lane events until below after =
    record {
      exact = λ moment value most.
          let parts = parts-right view lane events until below after moment value in (
            λ r. parts.0 (until_now view lane events until moment value most r),
            λ i. until_ever view lane events until moment value (parts.1 i),
          );
    }
