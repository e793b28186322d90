-- The quick step in place, a law for each way through it. Assumes nothing.
use Prim.Native.Nat.{ℕ, ◌%◌, ◌<◌, ◌≤◌}
use mathlib.Core.Bool.{Bool, true, false, true≢false}
use mathlib.Core.List.{List, [], ◌∷◌}
use mathlib.Core.Path.{◌≡◌, refl, sym, ap, ◌∙◌}
use native.Mathlib.Omega.{arith}
use native.Mathlib.Nat.{mod-eq_of_lt}
use lib.Dec.{eqb}
use lib.ListN.{get_or, set, length}
use lib.Seq.{get_or-set_same, set-get_or}
use borrow.Author.Tests.{eqb-true, lt-ltb, le-ltb}
use Rattle.numbers.specs.declared.Answer.{Answer}
use Rattle.numbers.specs.declared.Event.{Event}
use Rattle.numbers.specs.declared.profile.Profile.{Profile}
use Rattle.numbers.specs.Inputs.{input_count}
use Rattle.numbers.specs.Kind.{kind_frame}
use Rattle.numbers.specs.Profile.{limits_of}
use Rattle.numbers.specs.Refusal.{accepted}
use Rattle.numbers.proofs.Truth.{by_bool}
use Rattle.frame.specs.declared.FrameRead.{FrameRead}
use Rattle.input.specs.declared.Input.{Input}
use Rattle.input.specs.Record.{fresh_input}
use Rattle.selector.specs.declared.Selector.{Selector}
use Rattle.selector.specs.State.{fresh_selector, decided}
use Rattle.selector.specs.Answer.{answer_of}
use Rattle.due.specs.Next.{next_due}
use Rattle.inplace.specs.Lists.{framed_at, with_framed, with_time}
use Rattle.inplace.proofs.Once.{onces-rest}
use Rattle.events.specs.Refusals.{early_refusal}
use Rattle.events.specs.Step.{Stepped, input_after, stepped, early_number, step_read}
use Rattle.events.specs.Given.{recorded_event}
use Rattle.events.proofs.Refused.{accepted-input}
use Rattle.quickstep.specs.declared.Left.{Left}
use Rattle.quickstep.specs.declared.Left.TheVariants.{Nothing, Choice, Service}
use Rattle.quickstep.specs.declared.Own.{Own}
use Rattle.quickstep.specs.Again.{own_of, says_again, again_input, again_own}
use Rattle.quickstep.specs.Own.{is_served, seen_alike, own_take, own_step, is_left}
use Rattle.quickstep.specs.Watch.{Watch, watch_of, fresh_watch, numbered, moved_to, due_anew, due_after, served_watch, completed, own_index, own_put, own_at, own_from, take_with, due_at, take_step, is_put_at_once, watch_step, is_anew}
use Rattle.onestep.specs.Watched.{six_values, answer_in, watch_held}

-- ---- what was answered

pub told-number : (due told : List ℕ) (next number : ℕ) → length due ≡ 1 → length told ≡ 7
    → (state : Selector)
    → watch_held state (set due 0 next) (set (set told 0 number) 6 0)
    ≡ watch_of state next (numbered number (answer_in told)) 0
told-number due told next number one seven state =
    let ss : List (ℕ × ℕ) = (0, number) ∷ (6, 0) ∷ [] in
    let same = onces-rest 0 7 ss told refl (omega arith) in
    λ j. watch_of state (get_or-set_same due 0 next 0 (omega arith) j) (six_values (same j)) (same j 6)

pub told-answer : (due told : List ℕ) (next : ℕ) (answer : Answer) (count : ℕ) → length due ≡ 1 → length told ≡ 7
    → (state : Selector)
    → watch_held state (set due 0 next)
    (set (set (set (set (set (set (set told 0 answer.number) 1 answer.selected) 2 answer.clockstate) 3
    answer.clockquality)
    4
    answer.switchkind)
    5
    answer.switchinput)
    6
    count)
    ≡ watch_of state next answer count
told-answer due told next answer count one seven state =
    let ss : List (ℕ × ℕ) =
    (0, answer.number) ∷ (1, answer.selected) ∷ (2, answer.clockstate) ∷ (3, answer.clockquality) ∷ (4, answer.switchkind) ∷
    (5, answer.switchinput) ∷
    (6, count) ∷
    [] in
    let same = onces-rest 0 7 ss told refl (omega arith) in
    λ j. watch_of state (get_or-set_same due 0 next 0 (omega arith) j) (six_values (same j)) (same j 6)

-- ---- a start

pub fresh-told : (profile : Profile) (state : Selector) (next : ℕ) (answer : Answer) (held : Watch)
    → state ≡ fresh_selector profile → next ≡ next_due state → answer ≡ answer_of accepted state
    → held ≡ watch_of state next answer 0
    → held ≡ fresh_watch profile
fresh-told profile state next answer held s n a h =
    h ∙
    (λ j. watch_of state (n j) (a j) 0) ∙
    ap (λ (one : Selector). watch_of one (next_due one) (answer_of accepted one) 0) s

-- ---- a choice made

pub chosen-told : (state after : Selector) (next number : ℕ) (answer : Answer) (held : Watch)
    → after ≡ decided state → answer ≡ answer_of number after → held ≡ watch_of after next answer 0
    → held ≡ watch_of (decided state) next (answer_of number (decided state)) 0
chosen-told state after next number answer held a r h =
    h ∙
    ap (λ (told : Answer). watch_of after next told 0) r ∙
    ap (λ (chosen : Selector). watch_of chosen next (answer_of number chosen) 0) a

-- ---- the plain step

pub served-told : (state after : Selector) (next later number count : ℕ) (answer : Answer) (event : Event)
    (read : FrameRead) (held : Watch)
    → stepped number count after ≡ step_read state event read
    → later ≡ due_after next event.time after
    → answer ≡ answer_of number after
    → held ≡ watch_of after later answer count
    → held ≡ served_watch state next event read
unfolding served_watch
served-told state after next later number count answer event read held s l a h =
    h ∙
    (λ j. watch_of after (l j) (a j) count) ∙
    ap
    (λ (one : Stepped). watch_of one.state (due_after next event.time one.state)
    (answer_of one.number one.state) one.count)
    s

-- ---- what is left

is_service : Left → Bool
is_service Nothing = false
is_service Choice = false
is_service Service = true

-- what is left to serve took nothing, and was not refused
service_own : (before : Input) (profile : Profile) (mode : Bool) (time due : ℕ) (event : Event) (read : FrameRead)
    → is_service (own_step before profile mode time due event read).left ≡ true
    → (own_step before profile mode time due event read ≡ own_of before time due accepted Service)
    × (early_refusal (limits_of profile) time before.settings.kind event read ≡ accepted)
unfolding own_step own_take is_service
service_own before profile mode time due event read is =
    let early = early_refusal (limits_of profile) time before.settings.kind event read in
    by_bool (eqb early accepted)
    (λ none.
    by_bool (is_served due event.kind event.time)
    (λ serves. (rw (none, serves), eqb-true early accepted none))
    (λ other.
    by_bool (seen_alike before (input_after before (recorded_event profile event read) mode))
    (λ alike. absurd (true≢false (sym (rw (none, other, alike) at is))))
    (λ seen. absurd (true≢false (sym (rw (none, other, seen) at is))))))
    (λ refused. absurd (true≢false (sym (rw refused at is))))

-- what was read of a state, and what an event makes of its own input
pub record Taking (watch : Watch) (next : ℕ) (event : Event) (read : FrameRead) : Type 0 where
  pub before : Input
  pub profile : Profile
  pub mode : Bool
  pub time : ℕ
  pub own : Own
  pub is_before : before ≡ own_at watch.state event
  pub is_profile : profile ≡ watch.state.profile
  pub is_mode : mode ≡ watch.state.mode
  pub is_time : time ≡ watch.state.time
  pub is_own : own ≡ own_step before profile mode time next event read

module _ (watch : Watch) (next : ℕ) (event : Event) (read : FrameRead) (taking : Taking watch next event read) where
  -- the event's own input as it is taken
  abbrev own : Own
  own = taking.own

  -- the state with that input in it
  abbrev moved : Selector
  moved = moved_to watch.state (set watch.state.inputs (own_index event) own.input) own.time

  -- the answer with the event's number
  abbrev told : Answer
  told = numbered own.number watch.answer

  own-from : own ≡ own_from watch.state next event read
  own-from =
      taking.is_own ∙
      (λ j. own_step (taking.is_before j) (taking.is_profile j) (taking.is_mode j) (taking.is_time j) next event read)

  -- whether the answer was made anew
  take_left : (left : Left) → own.left ≡ left → is_left left ≡ is_left (own_from watch.state next event read).left
  take_left left l = ap is_left (sym l) ∙ ap (λ (one : Own). is_left one.left) own-from

  -- what is left is done
  take-completed : (left : Left) → own.left ≡ left
      → completed moved own.due told left event read ≡ take_with watch next event read
  unfolding own_put
  take-completed left l =
      ap (λ (one : Left). completed moved own.due told one event read) (sym l) ∙
      ap (λ (one : Own). own_put watch one event read) own-from

  -- what a way leaves, and whether the answer was made anew
  abbrev pub Took : Watch → Bool → Type 0
  Took held anew =
      (held ≡ take_with watch next event read) × (anew ≡ is_left (own_from watch.state next event read).left)

  pub take-nothing : (after : Selector) (held : Watch) → own.left ≡ Nothing → after ≡ moved
      → held ≡ watch_of after own.due told 0
      → Took held false
  unfolding completed is_left
  take-nothing after held l a h = (
    h ∙ ap (λ (state : Selector). watch_of state own.due told 0) a ∙ take-completed Nothing l,
    take_left Nothing l,
  )

  pub take-choice : (after : Selector) (held : Watch) → own.left ≡ Choice → after ≡ moved
      → held ≡ watch_of (decided after) own.due (answer_of own.number (decided after)) 0
      → Took held true
  unfolding completed is_left
  take-choice after held l a h = (
    h ∙
        ap
        (λ (state : Selector). watch_of (decided state) own.due (answer_of own.number (decided state)) 0)
        a ∙
        take-completed Choice l,
    take_left Choice l,
  )

  module _ (l : own.left ≡ Service) where
    is : is_service
        (own_step taking.before taking.profile taking.mode taking.time next event read).left
        ≡ true
    unfolding is_service
    is = ap (λ (one : Own). is_service one.left) (sym taking.is_own) ∙ ap is_service l

    kept : (own_step taking.before taking.profile taking.mode taking.time next event read
        ≡ own_of taking.before taking.time next accepted Service)
        × (early_refusal (limits_of taking.profile) taking.time taking.before.settings.kind event read
        ≡ accepted)
    kept = service_own taking.before taking.profile taking.mode taking.time next event read is

    -- nothing refuses it before its tick
    pub service_accepted : early_number watch.state event read ≡ accepted
    service_accepted =
        let few : event.input < input_count =
        accepted-input (limits_of taking.profile) taking.time taking.before.settings.kind event read
        kept.1 in
        let here : event.input % input_count ≡ event.input = mod-eq_of_lt few in
        (λ j. early_refusal (limits_of (sym taking.is_profile j)) (sym taking.is_time j)
        ((ap (λ (index : ℕ). get_or watch.state.inputs index fresh_input) (sym here) ∙ sym taking.is_before) j
        ).settings.kind
        event read) ∙
        kept.1

    -- and its own input is as it was
    untouched : moved ≡ watch.state
    untouched =
        let whole : own ≡ own_of taking.before taking.time next accepted Service =
        taking.is_own ∙ kept.0 in
        (λ j. moved_to watch.state
        (set watch.state.inputs (own_index event)
        ((ap (λ (one : Own). one.input) whole ∙ taking.is_before) j))
        ((ap (λ (one : Own). one.time) whole ∙ taking.is_time) j)) ∙
        (λ j. moved_to watch.state (set-get_or watch.state.inputs (own_index event) fresh_input j)
        watch.state.time)

    pub take_service : (held : Watch) → held ≡ served_watch watch.state own.due event read → Took held true
    unfolding completed is_left
    take_service held h = (
      h ∙
          ap (λ (state : Selector). served_watch state own.due event read) (sym untouched) ∙
          take-completed Service l,
      take_left Service l,
    )

-- ---- what is said again

framed-again : (before : Input) (kind time : ℕ)
    → framed_at before (again_input before kind time).heard.framed ≡ again_input before kind time
unfolding again_input
framed-again before kind time = by_bool (eqb kind kind_frame) (λ e. rw e) (λ e. rw e)

framed-own : (there before : Input) (due : ℕ) (event : Event) (own : Own) → before ≡ there
    → own ≡ again_own before due event
    → framed_at there own.input.heard.framed ≡ own.input
unfolding again_own
framed-own there before due event own b o =
    (λ j. framed_at (sym b j) (o j).input.heard.framed) ∙
    framed-again before event.kind event.time ∙
    ap (λ (one : Own). one.input) (sym o)

-- ---- any event

-- what was read of a state, nothing being due before the time that the watch has for that; whether an event says again
pub record Asking (watch : Watch) (event : Event) (read : FrameRead) : Type 0 where
  pub before : Input
  pub profile : Profile
  pub time : ℕ
  pub again : Bool
  pub is_before : before ≡ own_at watch.state event
  pub is_profile : profile ≡ watch.state.profile
  pub is_time : time ≡ watch.state.time
  pub is_again : again ≡ says_again before profile time watch.due event read

-- what a step leaves, and whether the answer was made anew
abbrev pub StepDone : Watch → Event → FrameRead → Watch → Bool → Type 0
StepDone watch event read held anew = (held ≡ watch_step watch event read) × (anew ≡ is_anew watch event read)

module _ (watch : Watch) (event : Event) (read : FrameRead) (asking : Asking watch event read) where
  says : asking.again ≡ is_put_at_once watch event read
  says =
      asking.is_again ∙
      (λ j. says_again (asking.is_before j) (asking.is_profile j) (asking.is_time j) watch.due event read)

  -- of the own input only the time of the last frame is stored
  pub step-again : (own : Own) (after : Selector) (held : Watch) → asking.again ≡ true
      → own ≡ again_own asking.before watch.due event
      → after ≡ with_time (with_framed watch.state (own_index event) own.input.heard.framed) own.time
      → held ≡ watch_of after own.due (numbered own.number watch.answer) 0
      → StepDone watch event read held false
  unfolding watch_step is_anew own_put completed again_own
  step-again own after held y o a h =
      let moved : after ≡ moved_to watch.state (set watch.state.inputs (own_index event) own.input) own.time =
      a ∙
      ap
      (λ (input : Input). moved_to watch.state (set watch.state.inputs (own_index event) input) own.time)
      (framed-own (own_at watch.state event) asking.before watch.due event own asking.is_before o) in (
        h ∙
            ap (λ (state : Selector). watch_of state own.due (numbered own.number watch.answer) 0) moved ∙
            ap
            (λ (one : Own). watch_of
            (moved_to watch.state (set watch.state.inputs (own_index event) one.input) one.time) one.due
            (numbered one.number watch.answer) 0)
            (o ∙ ap (λ (input : Input). again_own input watch.due event) asking.is_before) ∙
            rw (← says, y),
        rw (← says, y),
      )

  -- one that does not say again is taken
  pub step-taken : (held : Watch) (anew : Bool) → asking.again ≡ false → event.time < watch.due
      → (held ≡ take_with watch watch.due event read)
      × (anew ≡ is_left (own_from watch.state watch.due event read).left)
      → StepDone watch event read held anew
  unfolding watch_step take_step is_anew due_anew
  step-taken held anew n early taken = (
    taken.0 ∙ rw (← says, n, lt-ltb event.time watch.due early),
    taken.1 ∙ rw (← says, n, lt-ltb event.time watch.due early),
  )

-- once the time has come before which nothing was due, nothing is said again, and what is due is made anew
module _ (watch : Watch) (event : Event) (read : FrameRead) (next : ℕ)
    (n : next ≡ next_due watch.state) (late : watch.due ≤ event.time) where
  not_again : (before : Input) (profile : Profile) (time : ℕ)
      → says_again before profile time watch.due event read ≡ false
  unfolding says_again
  not_again before profile time =
      by_bool (eqb (early_refusal (limits_of profile) time before.settings.kind event read) accepted)
      (λ e. rw (e, le-ltb event.time watch.due late))
      (λ e. rw e)

  due-is : next ≡ due_at watch event
  unfolding due_anew
  due-is = n ∙ rw (le-ltb event.time watch.due late)

  pub step-late : (held : Watch) (anew : Bool)
      → (held ≡ take_with watch next event read)
      × (anew ≡ is_left (own_from watch.state next event read).left)
      → StepDone watch event read held anew
  unfolding watch_step take_step is_anew
  step-late held anew taken =
      let none : is_put_at_once watch event read ≡ false =
      not_again (own_at watch.state event) watch.state.profile watch.state.time in (
        taken.0 ∙ ap (λ (due : ℕ). take_with watch due event read) due-is ∙ rw none,
        taken.1 ∙ ap (λ (due : ℕ). is_left (own_from watch.state due event read).left) due-is ∙ rw none,
      )
