-- The definitions of `specs/`, a law for each way through the function that meets it. Assumes nothing.
use Prim.Native.Nat.{ℕ, ◌≤◌, ◌<◌}
use mathlib.Core.Bool.{Bool, true, false}
use mathlib.Core.List.{List}
use mathlib.Core.Path.{◌≡◌, sym, ◌∙◌, ap}
use lib.ListN.{get_or}
use borrow.Author.Tests.{eq-eqb, ne_eqb, lt-ltb, le-ltb}
use Rattle.numbers.specs.declared.Answer.{Answer}
use Rattle.numbers.specs.declared.Event.{Event}
use Rattle.numbers.specs.declared.profile.Limits.{Limits}
use Rattle.numbers.specs.declared.profile.Profile.{Profile}
use Rattle.numbers.specs.Quality.{quality}
use Rattle.numbers.specs.Refusal.{accepted, argument_out_of_range}
use Rattle.numbers.specs.Profile.{limits_of, profile_in}
use Rattle.frame.specs.declared.FrameRead.{FrameRead}
use Rattle.selector.specs.declared.Selector.{Selector}
use Rattle.selector.specs.State.{fresh_selector}
use Rattle.selector.specs.Answer.{answer_of}
use Rattle.due.specs.Next.{next_due}
use Rattle.quickstep.specs.Watch.{Watch, watch_of}
use Rattle.unit.specs.declared.Half.{Half}
use Rattle.unit.specs.declared.Half.TheVariants as H
use Rattle.unit.specs.Unit.{unit_start_number, goes_to}
use Rattle.unit.specs.Kept.{Unit, fresh_unit, half_step, step_unit_read}
use Rattle.card.specs.Lent.{with_number, names_option, event_of, read_for}
use Rattle.unitcard.specs.Lent.{LentUnit, station_half, half_in, half_held, stepped_held, sent_by, unit_in, unit_held, with_numbers, start_lent_unit, step_lent_unit}

-- ---- half_held

-- what is told of a state is what is held of it
pub half-told : (number : ℕ) (state : Selector) (next : ℕ) (answer : Answer) (held : Watch) → next ≡ next_due state
    → answer ≡ answer_of number state
    → held ≡ watch_of state next answer 0
    → held ≡ half_held number state
half-told number state next answer held n a h = h ∙ (λ j. watch_of state (n j) (a j) 0)

-- ---- a unit held

abbrev pub held : Watch → Watch → List ℕ → LentUnit
held equipment station sent = record { equipment = equipment; station = station; sent = sent }

-- a unit held by its parts
pub held_same : (one two : Watch) (sent : List ℕ) (unit : Unit) (equipment station : ℕ)
    → one ≡ half_held equipment unit.equipment
    → two ≡ half_held station unit.station
    → sent ≡ sent_by unit.station unit.minimum
    → held one two sent ≡ unit_held equipment station unit
unfolding unit_held
held_same one two sent unit equipment station o t s = λ j. held (o j) (t j) (s j)

-- ---- start_lent_unit

module _ (one two : Watch) (sent : List ℕ) (option provplace marks minimum : ℕ) (named : Bool)
    (is : named ≡ names_option option) (after other : Watch) where
  abbrev started-from : LentUnit
  started-from = start_lent_unit (held one two sent) option provplace marks minimum

  pub start_neither : named ≡ false → after ≡ with_number one argument_out_of_range
      → other ≡ with_number two argument_out_of_range
      → held after other sent ≡ started-from
  unfolding start_lent_unit
  start_neither not_named a o = (λ j. held (a j) (o j) sent) ∙ (rw (← is, not_named))

  module _ (chosen : named ≡ true) (profile : Profile) (p : profile ≡ profile_in option provplace marks) (number : ℕ)
      (n : number ≡ unit_start_number option provplace (quality minimum)) where
    pub start_refused : (number ≡ accepted → ⊥) → after ≡ with_number one number → other ≡ with_number two number
        → held after other sent ≡ started-from
    unfolding start_lent_unit
    start_refused not_taken a o =
        (λ j. held (a j) (o j) sent) ∙ ap (with_numbers (held one two sent)) n ∙
        (rw (
          ← is,
          chosen,
          ne_eqb (unit_start_number option provplace (quality minimum)) accepted (λ e. not_taken (n ∙ e)),
        ))

    pub start_fresh : (new : List ℕ) → number ≡ accepted → after ≡ half_held accepted (fresh_selector profile)
        → other ≡ half_held accepted (fresh_selector profile)
        → new ≡ sent_by other.state (quality minimum)
        → held after other new ≡ started-from
    unfolding start_lent_unit
    start_fresh new taken a o s =
        held_same after other new (fresh_unit profile (quality minimum)) accepted accepted a o
        (s ∙ ap (λ (watch : Watch). sent_by watch.state (quality minimum)) o) ∙
        ap (λ (start : Profile). unit_held accepted accepted (fresh_unit start (quality minimum))) p ∙
        (rw (
          ← is,
          chosen,
          eq-eqb (unit_start_number option provplace (quality minimum)) accepted (sym n ∙ taken),
        ))

-- ---- step_lent_unit

module _ (one two : Watch) (sent new : List ℕ) (half kind time input argument : ℕ) (frame : List ℕ) (after other : Watch)
    (s : new ≡ sent_by other.state (quality (get_or sent 0 0))) where
  abbrev stepped-from : LentUnit
  stepped-from = step_lent_unit (held one two sent) half kind time input argument frame

  pub step-neither : station_half < half → after ≡ half_held argument_out_of_range one.state
      → other ≡ half_held argument_out_of_range two.state
      → held after other new ≡ stepped-from
  unfolding step_lent_unit
  step-neither above a o =
      held_same after other new (unit_in (held one two sent)) argument_out_of_range argument_out_of_range a o
      (s ∙ ap (λ (watch : Watch). sent_by watch.state (quality (get_or sent 0 0))) o) ∙
      (rw (lt-ltb station_half half above))

  module _ (event : Event) (read : FrameRead) (to : Half) (profile : Profile) (limits : Limits) (goes gone : Bool)
      (e : event ≡ event_of kind time input argument) (r : read ≡ read_for kind frame) (t : to ≡ half_in half)
      (p : profile ≡ one.state.profile) (l : limits ≡ limits_of profile)
      (g : goes ≡ goes_to limits kind to H.Equipment) (h : gone ≡ goes_to limits kind to H.Station) where
    limits_are : limits ≡ limits_of one.state.profile
    limits_are = l ∙ ap limits_of p

    pub step-taken : half ≤ station_half → after ≡ stepped_held (half_step one.state goes event read)
        → other ≡ stepped_held (half_step two.state gone event read)
        → held after other new ≡ stepped-from
    unfolding step_lent_unit step_unit_read
    step-taken within a o =
        let ours : goes ≡ goes_to (limits_of one.state.profile) kind (half_in half) H.Equipment =
        g ∙ (λ j. goes_to (limits_are j) kind (t j) H.Equipment) in
        let theirs : gone ≡ goes_to (limits_of one.state.profile) kind (half_in half) H.Station =
        h ∙ (λ j. goes_to (limits_are j) kind (t j) H.Station) in
        let first = a ∙ (λ j. stepped_held (half_step one.state (ours j) (e j) (r j))) in
        let second = o ∙ (λ j. stepped_held (half_step two.state (theirs j) (e j) (r j))) in
        held_same after other new
        (step_unit_read (unit_in (held one two sent)) (half_in half) (event_of kind time input argument) (read_for kind frame)
        ).unit
        _
        _
        first
        second
        (s ∙ ap (λ (watch : Watch). sent_by watch.state (quality (get_or sent 0 0))) second)
        ∙ (rw (le-ltb station_half half within))
