-- Before anything is due, an event that commands nothing: the plain step serves nothing, its own input takes it, and a
-- choice is made; where it says again what was said before, next to nothing changes. Assumes nothing.
use Prim.Native.Nat.{ℕ, ◌+◌, ◌-◌, ◌≤◌, ◌<◌}
use mathlib.Core.Bool.{Bool, true, false, ◌||◌, true≢false}
use mathlib.Core.List.{List}
use mathlib.Core.Path.{◌≡◌, refl, sym, ◌∙◌, ap, subst}
use native.Mathlib.Omega.{arith}
use lib.Dec.{eqb}
use lib.ListN.{get_or, set, get_or-map}
use lib.Seq.{map-set_same}
use borrow.Author.Tests.{eqb-false}
use Rattle.std.specs.Prelude.{Option, Some, None}
use Rattle.numbers.specs.declared.InputNumber.{InputNumber}
use Rattle.numbers.specs.declared.Event.{Event}
use Rattle.numbers.specs.declared.profile.Profile.{Profile}
use Rattle.numbers.specs.Kind.{kind_forced, kind_manual, kind_clear_switch, kind_quality_mode}
use Rattle.numbers.specs.Profile.{limits_of, prov_place_of, floor_in}
use Rattle.numbers.specs.Refusal.{accepted}
use Rattle.frame.specs.declared.FrameRead.{FrameRead}
use Rattle.input.specs.declared.Input.{Input}
use Rattle.input.specs.Record.{fresh_input}
use Rattle.choice.specs.declared.Candidate.{Candidate}
use Rattle.choice.specs.declared.Seen.{Seen}
use Rattle.choice.specs.Candidate.{candidate_of}
use Rattle.choice.proofs.Ranks.{is_like-same}
use Rattle.switch.specs.Choices.{commanded}
use Rattle.selector.specs.declared.Selector.{Selector}
use Rattle.selector.specs.State.{seen_of, candidate_for, candidates_of, decided}
use Rattle.selector.specs.Answer.{candidate_at, selected_candidate, answer_of}
use Rattle.due.specs.Next.{never, next_due}
use Rattle.due.specs.Served.{served, ticked}
use Rattle.due.proofs.Every.{every-at}
use Rattle.due.proofs.Millisecond.{SettledAt}
use Rattle.due.proofs.Calm.{Calm, decided-moved}
use Rattle.due.proofs.Jump.{each-before, due_in-before}
use Rattle.due.proofs.ServesEachDue.{ticked-each, served-count}
use Rattle.events.specs.Given.{recorded_event}
use Rattle.events.specs.Step.{Stepped, input_after, inputs_after, mode_after, at_its_moment, stepped, early_number, late_number, step_read}
use Rattle.events.proofs.EventLaws.{late_refusal-other}
use Rattle.events.proofs.Refused.{accepted-input}
use Rattle.events.proofs.Calm.{accepted_or_not, step_read_barred, step_read-taken, not_before, not_never, calm-brought, brought-time}
use Rattle.quickstep.specs.Again.{is_again, again_input}
use Rattle.quickstep.specs.Own.{is_command, seen_alike}
use Rattle.quickstep.specs.Watch.{moved_to}
use Rattle.quickstep.proofs.Again.{again-input, again-seen, again-free}

-- ---- an event's own input

-- before it, by its own number
abbrev pub own_before : Selector → Event → Input
own_before state event = get_or state.inputs event.input fresh_input

-- after it
abbrev pub own_after : Selector → Event → FrameRead → Input
own_after state event read =
    input_after (own_before state event) (recorded_event state.profile event read) state.mode

-- the state with another input of the event's number, at the event's time
abbrev pub own_with : Selector → Event → Input → Selector
own_with state event input = moved_to state (set state.inputs event.input input) event.time

-- the state with the event's own input taken, and no choice made
abbrev pub own_taken : Selector → Event → FrameRead → Selector
own_taken state event read = own_with state event (own_after state event read)

-- the state with an event taken that says again what was said before
abbrev pub again_taken : Selector → Event → Selector
again_taken state event = own_with state event (again_input (own_before state event) event.kind event.time)

-- ---- inputs that a choice sees alike

candidate-alike : (profile : Profile) (before after : Input) (mode : Bool) → seen_alike before after ≡ true
    → candidate_for profile mode after ≡ candidate_for profile mode before
unfolding seen_alike candidate_for
candidate-alike profile before after mode e =
    ap
    (λ (seen : Seen). candidate_of (prov_place_of profile) (floor_in (limits_of profile).freerunning seen.floor) seen.passed
    seen.priority seen.locked mode)
    (sym (is_like-same (seen_of before) (seen_of after) e))

module _ (state : Selector) (event : Event) (input : Input) where
  -- the event's own input is seen as it was
  abbrev pub SeenSame : Type 0
  SeenSame =
      candidate_for state.profile state.mode input ≡
      candidate_for state.profile state.mode (own_before state event)

  module _ (same : SeenSame) where
    candidates-same :
        candidates_of state.profile (set state.inputs event.input input) state.mode
        ≡ candidates_of state.profile state.inputs state.mode
    candidates-same =
        map-set_same (candidate_for state.profile state.mode) state.inputs event.input input fresh_input same

    -- a choice then comes to what it came to
    pub decided-same : Calm state → decided (own_with state event input) ≡ own_with state event input
    decided-same calm =
        decided-moved state (set state.inputs event.input input) event.time calm.chosen candidates-same

    candidate-same : (number : ℕ)
        → candidate_at state.profile (set state.inputs event.input input) state.mode number
        ≡ candidate_at state.profile state.inputs state.mode number
    candidate-same number =
        sym (get_or-map (candidate_for state.profile state.mode) (set state.inputs event.input input)
        number fresh_input)
        ∙
        ap (λ (candidates : List Candidate). get_or candidates number
        (candidate_for state.profile state.mode fresh_input))
        candidates-same
        ∙ get_or-map (candidate_for state.profile state.mode) state.inputs number fresh_input

    selected-same : (selection : Option InputNumber)
        → selected_candidate state.profile (set state.inputs event.input input) state.mode selection
        ≡ selected_candidate state.profile state.inputs state.mode selection
    unfolding selected_candidate
    selected-same None = refl
    selected-same (Some number) = candidate-same number.0

    -- and so does what is answered
    pub answer-same : (number : ℕ) → answer_of number (own_with state event input) ≡ answer_of number state
    unfolding answer_of
    answer-same number = rw (selected-same state.selection)

pub taken-seen : (state : Selector) (event : Event) (read : FrameRead)
    → seen_alike (own_before state event) (own_after state event read) ≡ true
    → SeenSame state event (own_after state event read)
taken-seen state event read =
    candidate-alike state.profile (own_before state event) (own_after state event read) state.mode

pub again-same : (state : Selector) (event : Event)
    → SeenSame state event (again_input (own_before state event) event.kind event.time)
again-same state event =
    again-seen (own_before state event) state.profile event.kind event.time state.mode

-- ---- the plain step comes to the same

none_of_four : (a b c d : Bool) → (a || b || c || d) ≡ false
    → (a ≡ false) × (b ≡ false) × (c ≡ false) × (d ≡ false)
none_of_four true b c d e = absurd (true≢false e)
none_of_four false true c d e = absurd (true≢false e)
none_of_four false false true d e = absurd (true≢false e)
none_of_four false false false d e = (refl, refl, refl, e)

module _ (kind : ℕ) (free : is_command kind ≡ false) where
  uncommanding : (eqb kind kind_forced ≡ false) × (eqb kind kind_manual ≡ false) × (eqb kind kind_clear_switch ≡ false) ×
      (eqb kind kind_quality_mode ≡ false)
  unfolding is_command
  uncommanding =
      none_of_four (eqb kind kind_forced) (eqb kind kind_manual) (eqb kind kind_clear_switch)
      (eqb kind kind_quality_mode) free

module _ (state : Selector) (event : Event) (read : FrameRead) (due : ℕ) (calm : Calm state)
    (bound : due ≤ next_due state)
    (none : early_number state event read ≡ accepted) where
  pub later : state.time ≤ event.time
  later = not_before state event read calm none

  pub ever : event.time < never
  ever = not_never state event read calm none

  pub inside : event.input < 16
  inside = accepted-input (limits_of state.profile) state.time _ event read none

  module _ (sooner : event.time < due) (free : is_command event.kind ≡ false) where
    here : state.time + (event.time - state.time) ≡ event.time
    here = omega (arith, later)

    brought : ticked state event.time ≡ moved_to state state.inputs event.time
    brought =
        ticked-each state event.time calm later ever
        ∙ each-before state calm (event.time - state.time) (omega (arith, here))
        ∙ ap (moved_to state state.inputs) here

    none-served : (served state event.time).count ≡ 0
    none-served =
        served-count state event.time calm later ever
        ∙ due_in-before state calm (event.time - state.time) (omega (arith, here))

    unbarred : late_number (ticked state event.time) event ≡ accepted
    unbarred =
        sym
        (late_refusal-other _ _ event.kind event.input
        (eqb-false event.kind kind_forced (uncommanding event.kind free).0)
        (eqb-false event.kind kind_manual (uncommanding event.kind free).1))

    at_its_moment-own :
        at_its_moment (moved_to state state.inputs event.time) (recorded_event state.profile event read)
        ≡ decided (own_taken state event read)
    unfolding at_its_moment inputs_after mode_after commanded
    at_its_moment-own =
        let four = uncommanding event.kind free in rw (four.0, four.1, four.2, four.3)

    -- COMMANDS NOTHING, and nothing is due: the plain step serves nothing, the own input takes the event, a choice is
    -- made.
    pub step_read-own : step_read state event read ≡ stepped accepted 0 (decided (own_taken state event read))
    step_read-own =
        step_read-taken state event read none unbarred
        ∙ ap
        (λ (count : ℕ). stepped accepted count
        (at_its_moment (ticked state event.time) (recorded_event (ticked state event.time).profile event read)))
        none-served
        ∙
        ap (λ (then : Selector). stepped accepted 0 (at_its_moment then (recorded_event then.profile event read)))
        brought
        ∙ ap (stepped accepted 0) at_its_moment-own

    -- the event's own input leaves nothing to be done at its time
    pub settled : SettledAt state.mode event.time (own_before state event)
    settled =
        every-at (SettledAt state.mode event.time) state.inputs event.input fresh_input
        (subst Calm brought (calm-brought state event read calm none)).settled
        (omega (arith, inside, calm.count))

  -- SAID AGAIN: the plain step serves nothing and leaves what the quick way leaves.
  pub step_read-again : event.time < due → is_again (own_before state event) state.profile event read ≡ true
      → step_read state event read ≡ stepped accepted 0 (again_taken state event)
  step_read-again sooner again =
      let free = again-free (own_before state event) state.profile event read again in
      step_read-own sooner free
      ∙ ap (λ (input : Input). stepped accepted 0 (decided (own_with state event input)))
      (again-input (own_before state event) state.profile event state.mode (settled sooner free) read again)
      ∙ ap (stepped accepted 0)
      (decided-same state event (again_input (own_before state event) event.kind event.time)
      (again-same state event) calm)

-- ---- the time after any event that is not refused at once

pub step_read-time : (state : Selector) (event : Event) (read : FrameRead) → Calm state
    → early_number state event read ≡ accepted
    → (step_read state event read).state.time ≡ event.time
unfolding at_its_moment decided
step_read-time state event read calm none =
    let there : (ticked state event.time).time ≡ event.time = brought-time state event read calm none in
    accepted_or_not (late_number (ticked state event.time) event)
    (λ taken. ap (λ (after : Stepped). after.state.time) (step_read-taken state event read none taken) ∙ there)
    (λ given. ap (λ (after : Stepped). after.state.time) (step_read_barred state event read none given) ∙ there)
