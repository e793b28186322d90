-- A tick in portions: a law for each way through the functions that make it, and that it ends in the same state.
-- Assumes nothing.
use Prim.Native.Nat.{ℕ, zero, suc, ◌+◌, ◌-◌, ◌≤◌, ◌<◌}
use mathlib.Core.List.{[]}
use mathlib.Core.Path.{◌≡◌, refl, sym, ◌∙◌, ap, subst}
use native.Mathlib.Omega.{arith}
use lib.Dec.{leb}
use borrow.Author.Tests.{le-leb, lt-leb, leb-true}
use Rattle.numbers.specs.From.{◌following◌}
use Rattle.numbers.specs.Inputs.{time_limit}
use Rattle.numbers.specs.Kind.{kind_tick}
use Rattle.numbers.specs.Refusal.{accepted}
use Rattle.numbers.proofs.Truth.{by_bool}
use Rattle.frame.specs.declared.FrameRead.TheVariants.{Code}
use Rattle.frame.specs.Read.{read_code}
use Rattle.selector.specs.declared.Selector.{Selector}
use Rattle.selector.specs.Answer.{answer_of}
use Rattle.due.specs.Next.{never, next_due}
use Rattle.due.specs.Served.{ticked}
use Rattle.due.proofs.Jump.{next_due-later}
use Rattle.due.proofs.ServesEachDue.{ticked-twice, served-time}
use Rattle.events.specs.Given.{Given, Sequence, tick_at}
use Rattle.events.specs.Step.{Stepped, recorded_event, at_its_moment, early_number, late_number, step}
use Rattle.events.specs.Sequence.{state_after, number_after}
use Rattle.events.proofs.Calm.{accepted_or_not, step_read-taken, step_read_barred, sequence-calm, not_never}
use Rattle.events.proofs.Agrees.{step-accepted}
use Rattle.events.proofs.EventLaws.{late_refusal-other}
use Rattle.events.proofs.Demand1.{tick_early, tick_state}
use Rattle.events.proofs.Extra.{sequence-ever}
use Rattle.quickstep.specs.Watch.{Watch, watch_step}
use Rattle.card.specs.Lent.{event_of, read_for, ranged_watch, event_lent, step_lent}
use Rattle.card.specs.Calls.{lent_after, latest_number}
use Rattle.card.specs.Part.{tick_lent, at_least_one, part_served, part_lent, more_lent, part_sequence, PartRight}
use Rattle.card.proofs.Calls.{lent-right}

-- ---- a tick

pub tick_called : (watch ranged after : Watch) (time : ℕ) → ranged ≡ ranged_watch watch
    → after ≡ watch_step ranged (event_of kind_tick time 0 0) (Code 0)
    → after ≡ tick_lent watch time
unfolding step_lent event_lent read_for
tick_called watch ranged after time e a =
    a ∙ ap (λ (one : Watch). watch_step one (event_of kind_tick time 0 0) (Code 0)) e

-- ---- part_served: the loop of `serve_part`

-- what is left to serve, with what was served, is the whole
abbrev pub Parted : ℕ → Watch → ℕ → Watch → ℕ → Type 0
Parted most first time now count = part_served (most - count) now time ≡ part_served most first time

pub parted_none : (most : ℕ) (first : Watch) (time : ℕ) → Parted most first time first 0
parted_none most first time =
    let z : most - 0 ≡ most = omega arith in ap (λ (left : ℕ). part_served left first time) z

pub parted_turn : (most : ℕ) (first : Watch) (time : ℕ) (now after : Watch) (count next : ℕ)
    → Parted most first time now count
    → next ≡ next_due now.state → next ≤ time → count < most → after ≡ tick_lent now next
    → Parted most first time after (count + 1)
unfolding part_served
parted_turn most first time now after count next p n due few a =
    let z : most - count ≡ suc (most - (count + 1)) = omega arith in
    let soon : next_due now.state ≤ time = omega (arith, n) in
    let here : part_served (suc (most - (count + 1))) now time
    ≡ part_served (most - (count + 1)) (tick_lent now (next_due now.state)) time = rw (le-leb _ _ soon) in
    ap (λ (one : Watch). part_served (most - (count + 1)) one time) (a ∙ ap (tick_lent now) n) ∙
    sym here ∙
    ap (λ (left : ℕ). part_served left now time) (sym z) ∙
    p

parted_still : (left : ℕ) (now : Watch) (time : ℕ) → time < next_due now.state → part_served left now time ≡ now
unfolding part_served
parted_still zero now time late = refl
parted_still (suc left) now time late = rw (lt-leb _ _ late)

pub parted_late : (most : ℕ) (first : Watch) (time : ℕ) (now : Watch) (count next : ℕ)
    → Parted most first time now count
    → next ≡ next_due now.state → time < next
    → now ≡ part_served most first time
parted_late most first time now count next p n late =
    sym (parted_still (most - count) now time (omega (arith, n))) ∙ p

pub parted_full : (most : ℕ) (first : Watch) (time : ℕ) (now : Watch) (count : ℕ)
    → Parted most first time now count → most ≤ count
    → now ≡ part_served most first time
unfolding part_served
parted_full most first time now count p full =
    let z : 0 ≡ most - count = omega arith in ap (λ (left : ℕ). part_served left now time) z ∙ p

-- ---- part_lent, more_lent

module _ (most : ℕ) (watch : Watch) (time : ℕ) where
  pub part_limit : (after : Watch) → time_limit ≤ time → after ≡ tick_lent watch time
      → (after ≡ part_lent most watch time) × (0 ≡ more_lent most watch time)
  unfolding part_lent more_lent
  part_limit after above a = (a ∙ (rw (le-leb _ _ above)), rw (le-leb _ _ above))

  module _ (limit next : ℕ) (part : Watch) (below : time < time_limit) (l : limit ≡ at_least_one most)
      (p : part ≡ part_served limit watch time) (n : next ≡ next_due part.state) where
    whole : part ≡ part_served (at_least_one most) watch time
    whole = p ∙ ap (λ (count : ℕ). part_served count watch time) l

    pub part-more : next ≤ time → (part ≡ part_lent most watch time) × (1 ≡ more_lent most watch time)
    unfolding part_lent more_lent
    part-more due =
        let soon : next_due (part_served (at_least_one most) watch time).state ≤ time =
        subst (λ (one : Watch). next_due one.state ≤ time) whole (omega (arith, n)) in
        (whole ∙ (rw (lt-leb _ _ below, le-leb _ _ soon)), rw (lt-leb _ _ below, le-leb _ _ soon))

    pub part-done : (after : Watch) → time < next → after ≡ tick_lent part time
        → (after ≡ part_lent most watch time) × (0 ≡ more_lent most watch time)
    unfolding part_lent more_lent
    part-done after late a =
        let then : time < next_due (part_served (at_least_one most) watch time).state =
        subst (λ (one : Watch). time < next_due one.state) whole (omega (arith, n)) in (
          a ∙ ap (λ (one : Watch). tick_lent one time) whole ∙ (rw (lt-leb _ _ below, lt-leb _ _ then)),
          rw (lt-leb _ _ below, lt-leb _ _ then),
        )

-- ---- the same state

part-ticks : (left : ℕ) (sequence : Sequence) (time : ℕ)
    → part_served left (lent_after sequence) time ≡ lent_after (part_sequence left sequence time)
unfolding part_served part_sequence lent_after
part-ticks zero sequence time = refl
part-ticks (suc left) sequence time =
    let same : next_due (lent_after sequence).state ≡ next_due (state_after sequence) =
    ap next_due (lent-right sequence).state in
    by_bool (leb (next_due (state_after sequence)) time)
    (λ y. rw (same, y) (part-ticks left (tick_at (next_due (state_after sequence)) following sequence) time))
    (λ n. rw (same, n))

-- a tick no earlier than the portions' time
part-ticked : (left : ℕ) (sequence : Sequence) (time later : ℕ) → (state_after sequence).time ≤ time → time < time_limit
    → time ≤ later → later < never
    → ((state_after (part_sequence left sequence time)).time ≤ time)
    × (ticked (state_after (part_sequence left sequence time)) later ≡ ticked (state_after sequence) later)
unfolding part_sequence
part-ticked zero sequence time later h below k ever = (h, refl)
part-ticked (suc left) sequence time later h below k ever =
    by_bool (leb (next_due (state_after sequence)) time)
    (λ y.
    let state = state_after sequence in
    let due : next_due state ≤ time = leb-true (next_due state) time y in
    let next : state.time < next_due state = next_due-later state (sequence-ever sequence) in
    let there : state_after (tick_at (next_due state) following sequence) ≡ ticked state (next_due state) =
    tick_state sequence (next_due state) (omega arith) (omega arith) in
    let at : (state_after (tick_at (next_due state) following sequence)).time ≤ time =
    omega (arith, due, tick_time sequence (next_due state) (omega arith) (omega arith)) in
    let rest = part-ticked left (tick_at (next_due state) following sequence) time later at below k ever in
    rw y (
      rest.0,
      rest.1 ∙
          ap (λ (one : Selector). ticked one later) there ∙
          ticked-twice state (next_due state) later (sequence-calm sequence) (omega arith) (omega arith) ever,
    ))
    (λ n. rw n (h, refl))
  where
    tick_time : (sequence : Sequence) (time : ℕ) → (state_after sequence).time ≤ time → time < time_limit
        → (state_after (tick_at time following sequence)).time ≡ time
    tick_time sequence time later below =
        ap (λ (one : Selector). one.time) (tick_state sequence time later below) ∙
        served-time (state_after sequence) time (sequence-calm sequence) later (omega arith)

tick_accepted : (sequence : Sequence) (time : ℕ) → (state_after sequence).time ≤ time → time < time_limit
    → number_after (tick_at time) sequence ≡ accepted
unfolding number_after
tick_accepted sequence time later below =
    ap (λ (after : Stepped). after.number)
    (step-accepted (state_after sequence) (tick_at time).event []
    (tick_early (state_after sequence) time (read_code []) later below)
    (sym (late_refusal-other _ _ _ _ (λ k. omega arith) (λ k. omega arith))))

tick_answer : (sequence : Sequence) (time : ℕ) → (state_after sequence).time ≤ time → time < time_limit
    → (lent_after (tick_at time following sequence)).answer ≡ answer_of accepted (state_after (tick_at time following sequence))
unfolding latest_number
tick_answer sequence time later below =
    (lent-right (tick_at time following sequence)).answer ∙
    ap (λ (number : ℕ). answer_of number (state_after (tick_at time following sequence)))
    (tick_accepted sequence time later below)

module _ (left : ℕ) (sequence : Sequence) (time : ℕ) (h : (state_after sequence).time ≤ time) (below : time < time_limit)
  where
    abbrev parts : Sequence
    parts = part_sequence left sequence time

    -- the tick itself
    part-state : state_after (tick_at time following parts) ≡ state_after (tick_at time following sequence)
    part-state =
        let same = part-ticked left sequence time time h below (omega arith) (omega arith) in
        tick_state parts time same.0 below ∙ same.1 ∙ sym (tick_state sequence time h below)

    part-answer : (lent_after (tick_at time following parts)).answer ≡ (lent_after (tick_at time following sequence)).answer
    part-answer =
        let same = part-ticked left sequence time time h below (omega arith) (omega arith) in
        tick_answer parts time same.0 below ∙
        ap (answer_of accepted) part-state ∙
        sym (tick_answer sequence time h below)

    -- any event
    part-event : (given : Given) → time ≤ given.event.time
        → early_number (state_after sequence) given.event (read_code given.frame) ≡ accepted
        → early_number (state_after parts) given.event (read_code given.frame) ≡ accepted
        → (state_after (given following parts) ≡ state_after (given following sequence))
        × (number_after given parts ≡ number_after given sequence)
    unfolding state_after number_after step
    part-event given k none free =
        let event = given.event in
        let read = read_code given.frame in
        let one = state_after parts in
        let other = state_after sequence in
        let same : ticked one event.time ≡ ticked other event.time =
        (part-ticked left sequence time event.time h below k
        (not_never other event read (sequence-calm sequence) none)).1 in
        let late : late_number (ticked one event.time) event ≡ late_number (ticked other event.time) event =
        ap (λ (state : Selector). late_number state event) same in
        accepted_or_not (late_number (ticked other event.time) event)
        (λ later. (
          ap (λ (after : Stepped). after.state) (step_read-taken one event read free (late ∙ later)) ∙
              ap (λ (state : Selector). at_its_moment state (recorded_event state.profile event read)) same ∙
              sym (ap (λ (after : Stepped). after.state) (step_read-taken other event read none later)),
          ap (λ (after : Stepped). after.number) (step_read-taken one event read free (late ∙ later)) ∙
              sym (ap (λ (after : Stepped). after.number) (step_read-taken other event read none later)),
        ))
        (λ barred. (
          ap (λ (after : Stepped). after.state) (step_read_barred one event read free (λ e. barred (sym late ∙ e))) ∙
              same ∙
              sym (ap (λ (after : Stepped). after.state) (step_read_barred other event read none barred)),
          ap (λ (after : Stepped). after.number) (step_read_barred one event read free (λ e. barred (sym late ∙ e))) ∙
              late ∙
              sym (ap (λ (after : Stepped). after.number) (step_read_barred other event read none barred)),
        ))

-- A TICK IN PORTIONS ends in the state of the tick at once, and so does what follows.
pub part_right : (most : ℕ) (sequence : Sequence) (time : ℕ) → PartRight most sequence time
part_right most sequence time =
    record {
      ticks = part-ticks most sequence time;
      state = λ h below.
          (lent-right (tick_at time following part_sequence most sequence time)).state ∙
          part-state most sequence time h below ∙
          sym (lent-right (tick_at time following sequence)).state;
      answer = part-answer most sequence time;
      event = part-event most sequence time;
    }
