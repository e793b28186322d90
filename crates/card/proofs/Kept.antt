-- Every card that events lead to passes the test for a kept card, and one that passes answers in range. Assumes
-- nothing.
use Prim.Native.Nat.{ℕ, zero, suc, ◌-◌, ◌≤◌, ◌<◌}
use mathlib.Core.Bool.{Bool, true, false, ◌&&◌, true≢false}
use mathlib.Core.List.{List}
use mathlib.Core.Path.{◌≡◌, refl, sym, ◌∙◌, ap, subst}
use native.Mathlib.Omega.{arith}
use lib.Dec.{eqb, leb, ltb}
use borrow.Author.Tests.{eq-eqb, eqb-true, lt-ltb, le-leb}
use Rattle.numbers.specs.declared.Event.{Event}
use Rattle.numbers.specs.From.{started, ◌following◌}
use Rattle.numbers.specs.Profile.{limits_of}
use Rattle.numbers.specs.Inputs.{time_limit}
use Rattle.numbers.specs.Kind.{flag}
use Rattle.numbers.specs.Refusal.{accepted}
use Rattle.frame.specs.Read.{read_code}
use Rattle.input.specs.declared.Input.{Input}
use Rattle.selector.specs.declared.Selector.{Selector}
use Rattle.selector.specs.Answer.{answer_of}
use Rattle.selector.specs.State.{decided}
use Rattle.due.specs.Next.{next_due}
use Rattle.due.specs.Served.{ticked}
use Rattle.due.specs.Each.{each}
use Rattle.due.proofs.Calm.{Calm}
use Rattle.due.proofs.ServesEachDue.{ticked-each}
use Rattle.events.specs.Given.{Sequence}
use Rattle.events.specs.Step.{Stepped, at_its_moment, kind_at, early_number, late_number, step_read, step}
use Rattle.events.specs.Sequence.{state_after}
use Rattle.events.proofs.Refused.{accepted_limit}
use Rattle.events.proofs.Calm.{accepted_or_not, step_read-refused, step_read_barred, step_read-taken, brought-time, sequence-calm}
use Rattle.events.proofs.Extra.{sequence-ever}
use Rattle.quickstep.specs.Watch.{Watch}
use Rattle.onestep.specs.Watched.{answer_in, watch_at}
use Rattle.inplace.specs.Lists.{selector_at}
use Rattle.card.specs.Sound.{same_among, same_runs, same_once, same_answer, is_sound}
use Rattle.card.specs.Calls.{lent_after, latest_number}
use Rattle.card.specs.Range.{IsInput, InRange, SoundRight}
use Rattle.card.proofs.Calls.{lent-right}
use Rattle.card.proofs.Range.{selector_at_named, answer_in_range}

-- ---- a card is the same as itself

same : (number : ℕ) → eqb number number ≡ true
same number = eq-eqb number number refl

same_among_itself : (inputs : List Input) (count : ℕ) → same_among inputs inputs count ≡ true
unfolding same_among
same_among_itself inputs zero = refl
same_among_itself inputs (suc count) = rw (same_among_itself inputs count) (simp same)

same_once_itself : (state : Selector) → same_once state state ≡ true
unfolding same_once
same_once_itself state = simp same

-- whatever number is answered
same_answer_itself : (number other : ℕ) (state : Selector)
    → same_answer (answer_of number state) (answer_of other state) ≡ true
unfolding same_answer answer_of
same_answer_itself number other state = simp same

-- ---- a card that events lead to

-- a state's time is below 2^48
step_read-below : (state : Selector) (event : Event) (frame : List ℕ) → (sequence : Sequence)
    → state ≡ state_after sequence
    → state.time < time_limit
    → (step_read state event (read_code frame)).state.time < time_limit
unfolding at_its_moment decided
step_read-below state event frame sequence is below =
    accepted_or_not (early_number state event (read_code frame))
    (λ none.
    let calm = subst Calm (sym is) (sequence-calm sequence) in
    let limit : event.time < time_limit =
    accepted_limit (limits_of state.profile) state.time (kind_at state.inputs event.input) event
    (read_code frame) none in
    let there : (ticked state event.time).time ≡ event.time = brought-time state event (read_code frame) calm none in
    accepted_or_not (late_number (ticked state event.time) event)
    (λ later. subst (λ (after : Stepped). after.state.time < time_limit)
    (sym (step_read-taken state event (read_code frame) none later))
    (omega (arith, there, limit)))
    (λ given. subst (λ (after : Stepped). after.state.time < time_limit)
    (sym (step_read_barred state event (read_code frame) none given))
    (omega (arith, there, limit))))
    (λ given. subst (λ (after : Stepped). after.state.time < time_limit)
    (sym (step_read-refused state event (read_code frame) given))
    below)

sequence-below : (sequence : Sequence) → (state_after sequence).time < time_limit
unfolding state_after step
sequence-below (started profile) = omega arith
sequence-below (given following earlier) =
    step_read-below (state_after earlier) given.event given.frame earlier refl (sequence-below earlier)

-- a tick at its own time leaves it
stays : (sequence : Sequence) → ticked (state_after sequence) (state_after sequence).time ≡ state_after sequence
unfolding each
stays sequence =
    let state = state_after sequence in
    let none : state.time - state.time ≡ 0 = omega arith in
    ticked-each state state.time (sequence-calm sequence) (omega arith) (sequence-ever sequence) ∙
    ap (λ (count : ℕ). each count state) none

-- whatever holds the state after a sequence, with an answer of it and a time before which nothing is due
pub sound-held : (sequence : Sequence) (watch : Watch) (number : ℕ) → watch.state ≡ state_after sequence
    → watch.answer ≡ answer_of number (state_after sequence)
    → watch.state.time < watch.due
    → watch.due ≤ next_due watch.state
    → is_sound watch ≡ 1
unfolding is_sound
sound-held sequence watch number is answer ahead due =
    let state = watch.state in
    let here : ticked state state.time ≡ state =
    subst (λ (one : Selector). ticked one one.time ≡ one) (sym is) (stays sequence) in
    let below : state.time < time_limit =
    subst (λ (one : Selector). one.time < time_limit) (sym is) (sequence-below sequence) in
    let told : same_answer watch.answer (answer_of accepted state) ≡ true =
    (λ j. same_answer (answer j) (answer_of accepted (is j))) ∙
    same_answer_itself number accepted (state_after sequence) in
    rw (
      lt-ltb _ _ below,
      here,
      same_among_itself state.inputs 16,
      same_once_itself state,
      lt-ltb _ _ ahead,
      le-leb _ _ due,
      told,
    )

sound-reached : (sequence : Sequence) → is_sound (lent_after sequence) ≡ 1
sound-reached sequence =
    let right = lent-right sequence in
    sound-held sequence (lent_after sequence) (latest_number sequence) right.state right.answer right.ahead
    right.due

-- ---- a card that passes

flag_one : (test : Bool) → flag test ≡ 1 → test ≡ true
flag_one true is = refl
flag_one false is = absurd (omega arith)

each-alike : (a b c d e : Bool) → (a && b && c && d && e) ≡ true
    → (a ≡ true) × (b ≡ true) × (d ≡ true) × (e ≡ true)
each-alike false b c d e is = absurd (true≢false (sym is))
each-alike true false c d e is = absurd (true≢false (sym is))
each-alike true true false d e is = absurd (true≢false (sym is))
each-alike true true true false e is = absurd (true≢false (sym is))
each-alike true true true true e is = (refl, refl, refl, is)

answer-alike : (a b c d e f : Bool) → (a && b && c && d && e && f) ≡ true → f ≡ true
answer-alike false b c d e f is = absurd (true≢false (sym is))
answer-alike true false c d e f is = absurd (true≢false (sym is))
answer-alike true true false d e f is = absurd (true≢false (sym is))
answer-alike true true true false e f is = absurd (true≢false (sym is))
answer-alike true true true true false f is = absurd (true≢false (sym is))
answer-alike true true true true true f is = is

sound_in_range : (times small wider due told : List ℕ) → is_sound (watch_at times small wider due told) ≡ 1
    → InRange (answer_in told)
unfolding is_sound same_answer watch_at
sound_in_range times small wider due told sound =
    let watch = watch_at times small wider due told in
    let state = selector_at times small wider in
    let answer = answer_of accepted state in
    let range = answer_in_range accepted state (selector_at_named times small wider) in
    let alike = answer-alike (ltb state.time time_limit)
    (same_runs state.inputs (ticked state state.time).inputs)
    (same_once state (ticked state state.time))
    (ltb state.time watch.due)
    (leb watch.due (next_due state))
    (same_answer (answer_in told) answer)
    (flag_one _ sound) in
    let each = each-alike (eqb (answer_in told).selected answer.selected)
    (eqb (answer_in told).clockstate answer.clockstate) (eqb (answer_in told).clockquality answer.clockquality)
    (eqb (answer_in told).switchkind answer.switchkind) (eqb (answer_in told).switchinput answer.switchinput) alike in
    record {
      selected = subst IsInput (sym (eqb-true _ _ each.0)) range.selected;
      clockstate = subst (λ (number : ℕ). number ≤ 2) (sym (eqb-true _ _ each.1)) range.clockstate;
      switchkind = subst (λ (number : ℕ). number ≤ 2) (sym (eqb-true _ _ each.2)) range.switchkind;
      switchinput = subst IsInput (sym (eqb-true _ _ each.3)) range.switchinput;
    }

-- Every card that events lead to passes, and one that passes answers in range.
pub lent-sound-right : SoundRight
lent-sound-right = record { reached = sound-reached; in_range = sound_in_range }
