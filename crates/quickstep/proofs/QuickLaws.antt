-- The definitions of `specs/`, a law for each way through the function that meets it. Assumes nothing.
use Prim.Native.Nat.{ℕ, ◌≤◌, ◌<◌}
use mathlib.Core.Bool.{Bool, true, false, ◌&&◌}
use mathlib.Core.List.{List}
use mathlib.Core.Path.{◌≡◌, refl, sym, ◌∙◌}
use native.Mathlib.Omega.{arith}
use lib.Dec.{eqb, leb, ltb}
use borrow.Author.Tests.{eqb-true, eqb-false, ne_eqb, le-leb, lt-leb, lt-ltb, le-ltb, ltb-true, ltb-false}
use Rattle.numbers.specs.declared.Answer.{Answer}
use Rattle.numbers.specs.declared.Event.{Event}
use Rattle.numbers.specs.declared.profile.Profile.{Profile}
use Rattle.numbers.specs.Profile.{limits_of}
use Rattle.numbers.specs.Inputs.{last_input, time_limit}
use Rattle.numbers.specs.Kind.{kind_frame, kind_line_code, kind_tick, known_row_of, is_argument_out, is_input_out, takes_codes, takes_frames}
use Rattle.numbers.specs.Refusal.{accepted}
use Rattle.numbers.specs.Rows.{first_that_applies}
use Rattle.numbers.proofs.Truth.{by_bool}
use Rattle.frame.specs.declared.FrameRead.{FrameRead}
use Rattle.frame.specs.declared.FrameRead.TheVariants.{Code, Refused}
use Rattle.input.specs.declared.Input.{Input}
use Rattle.selector.specs.declared.Selector.{Selector}
use Rattle.due.specs.Served.{most_served}
use Rattle.events.specs.Refusals.{early_refusal, is_wrong_kind, frame_refusal}
use Rattle.events.proofs.EventLaws.{step_read-most}
use Rattle.events.proofs.Refused.{accepted_limit, accepted-time}
use Rattle.quickstep.specs.declared.Left.{Left}
use Rattle.quickstep.specs.declared.Left.TheVariants.{Nothing, Choice, Service}
use Rattle.quickstep.specs.Again.{read_again, is_again, says_again, repeats}
use Rattle.quickstep.specs.Own.{OwnIndex}
use Rattle.quickstep.specs.Watch.{Watch, due_anew, served_watch, completed, own_put, own_at, take_step, watch_step}

-- ---- due_anew

module _ (inputs : List Input) (mode : Bool) (last due time : ℕ) where
  pub due_anew-before : time < due → due ≡ due_anew inputs mode last due time
  unfolding due_anew
  due_anew-before h = rw (lt-ltb _ _ h)

-- ---- says_again

and_no : (test : Bool) → false ≡ (test && false)
and_no true = refl
and_no false = refl

module _ (before : Input) (profile : Profile) (time due : ℕ) (event : Event) (read : FrameRead) where
  abbrev early_own : ℕ
  early_own = early_refusal (limits_of profile) time before.settings.kind event read

  -- what is refused does not say again
  pub says_again_not : (early_own ≡ accepted → ⊥) → false ≡ says_again before profile time due event read
  unfolding says_again
  says_again_not n = rw (ne_eqb _ _ n)

  pub says_again-earlier : event.time < time → false ≡ says_again before profile time due event read
  says_again-earlier h =
      says_again_not
      (λ e. omega (arith, h, accepted-time (limits_of profile) time before.settings.kind event read e))

  pub says_again-due : due ≤ event.time → false ≡ says_again before profile time due event read
  unfolding says_again
  says_again-due h = by_bool (eqb early_own accepted) (λ y. rw (y, le-ltb _ _ h)) (λ n. rw n)

  pub says_again-late : time_limit ≤ event.time → false ≡ says_again before profile time due event read
  says_again-late h =
      says_again_not
      (λ e. omega (arith, h, accepted_limit (limits_of profile) time before.settings.kind event read e))

  -- the tests by kind are those of the rows, and of what is said again
  module _ (later : time ≤ event.time) (sooner : event.time < due) (below : event.time < time_limit) where
    asked-code : event.kind ≡ kind_line_code
        → repeats before profile event read ≡ says_again before profile time due event read
    unfolding repeats says_again is_again early_refusal first_that_applies known_row_of is_argument_out is_input_out is_wrong_kind
        frame_refusal
    asked-code k =
        by_bool (ltb 15 event.input)
        (λ y. rw (
          k,
          lt-leb time_limit event.time below,
          le-ltb event.time time later,
          y,
          lt-leb _ _ (ltb-true _ _ y),
        ))
        (λ inside. by_bool (ltb 15 event.argument)
        (λ y. rw (
          k,
          lt-leb time_limit event.time below,
          le-ltb event.time time later,
          inside,
          le-leb _ _ (ltb-false _ _ inside),
          le-ltb event.argument 0 (omega arith),
          y,
          lt-leb _ _ (ltb-true _ _ y),
        ))
        (λ small. by_bool (takes_codes before.settings.kind)
        (λ y. rw (
          k,
          lt-leb time_limit event.time below,
          le-ltb event.time time later,
          lt-ltb event.time due sooner,
          inside,
          le-leb _ _ (ltb-false _ _ inside),
          le-ltb event.argument 0 (omega arith),
          small,
          le-leb _ _ (ltb-false _ _ small),
          y,
        ))
        (λ n. rw (
          k,
          lt-leb time_limit event.time below,
          le-ltb event.time time later,
          inside,
          le-leb _ _ (ltb-false _ _ inside),
          le-ltb event.argument 0 (omega arith),
          small,
          le-leb _ _ (ltb-false _ _ small),
          n,
        ))))

    -- a frame that is refused says nothing
    asked-refused : event.kind ≡ kind_frame → (number : ℕ) → read ≡ Refused number
        → repeats before profile event read ≡ says_again before profile time due event read
    unfolding repeats says_again is_again read_again
    asked-refused k number r =
        rw (k, r)
        (sym
        (and_no (leb event.input last_input && eqb event.argument 0 && takes_frames before.settings.kind))
        ∙ and_no
        (eqb
        (early_refusal (limits_of profile) time before.settings.kind
        (record { kind = kind_frame; time = event.time; input = event.input; argument = event.argument })
        (Refused number))
        accepted &&
        ltb event.time due))

    asked-read : event.kind ≡ kind_frame → (told : FrameRead) → read ≡ told → ltb 15 event.input ≡ false
        → event.argument ≡ 0
        → takes_frames before.settings.kind ≡ true
        → repeats before profile event read ≡ says_again before profile time due event read
    unfolding repeats says_again is_again read_again early_refusal first_that_applies known_row_of is_argument_out is_input_out
        is_wrong_kind frame_refusal
    asked-read k (Code code) r inside none y =
        rw (
          k,
          lt-leb time_limit event.time below,
          le-ltb event.time time later,
          lt-ltb event.time due sooner,
          inside,
          le-leb _ _ (ltb-false _ _ inside),
          none,
          y,
          r,
        )
    asked-read k (Refused number) r inside none y = asked-refused k number r

    asked-frame : event.kind ≡ kind_frame
        → repeats before profile event read ≡ says_again before profile time due event read
    unfolding repeats says_again is_again early_refusal first_that_applies known_row_of is_argument_out is_input_out is_wrong_kind
        frame_refusal
    asked-frame k =
        by_bool (ltb 15 event.input)
        (λ y. rw (
          k,
          lt-leb time_limit event.time below,
          le-ltb event.time time later,
          y,
          lt-leb _ _ (ltb-true _ _ y),
        ))
        (λ inside. by_bool (eqb event.argument 0)
        (λ none. by_bool (takes_frames before.settings.kind)
        (λ y. asked-read k read refl inside (eqb-true event.argument 0 none) y)
        (λ n. rw (
          k,
          lt-leb time_limit event.time below,
          le-ltb event.time time later,
          inside,
          le-leb _ _ (ltb-false _ _ inside),
          eqb-true event.argument 0 none,
          n,
        )))
        (λ some. rw (
          k,
          lt-leb time_limit event.time below,
          le-ltb event.time time later,
          inside,
          le-leb _ _ (ltb-false _ _ inside),
          some,
          le-ltb event.argument 0 (omega arith),
          lt-ltb 0 event.argument (omega (arith, eqb-false event.argument 0 some)),
        )))

    asked_tick : event.kind ≡ kind_tick
        → repeats before profile event read ≡ says_again before profile time due event read
    unfolding repeats says_again is_again early_refusal first_that_applies known_row_of is_argument_out is_input_out is_wrong_kind
        frame_refusal
    asked_tick k =
        by_bool (eqb event.input 0)
        (λ inside. by_bool (eqb event.argument 0)
        (λ none. rw (
          k,
          lt-leb time_limit event.time below,
          le-ltb event.time time later,
          lt-ltb event.time due sooner,
          inside,
          eqb-true event.argument 0 none,
        ))
        (λ some. rw (
          k,
          lt-leb time_limit event.time below,
          le-ltb event.time time later,
          inside,
          some,
          le-ltb event.argument 0 (omega arith),
          lt-ltb 0 event.argument (omega (arith, eqb-false event.argument 0 some)),
        )))
        (λ out. rw (k, lt-leb time_limit event.time below, le-ltb event.time time later, out))

    pub says_again-repeats : (answer : Bool) → answer ≡ repeats before profile event read
        → answer ≡ says_again before profile time due event read
    unfolding repeats says_again is_again
    says_again-repeats answer a =
        a ∙
        by_bool (eqb event.kind kind_tick) (λ t. asked_tick (eqb-true _ _ t))
        (λ t. by_bool (eqb event.kind kind_line_code) (λ c. asked-code (eqb-true _ _ c))
        (λ c. by_bool (eqb event.kind kind_frame) (λ f. asked-frame (eqb-true _ _ f))
        (λ f. other t c f)))
      where
        other : eqb event.kind kind_tick ≡ false → eqb event.kind kind_line_code ≡ false
            → eqb event.kind kind_frame ≡ false
            → repeats before profile event read ≡ says_again before profile time due event read
        other t c f =
            by_bool (eqb early_own accepted) (λ y. rw (t, c, f, y, lt-ltb event.time due sooner))
            (λ n. rw (t, c, f, n))

-- ---- own_put

-- the promise admits one index
pub own_index_unique : (inputs : List Input) (number one other : ℕ) → OwnIndex inputs number one
    → OwnIndex inputs number other
    → one ≡ other
own_index_unique inputs number one other first second = first.own ∙ sym second.own

-- ---- the count

completed-most : (state : Selector) (due : ℕ) (answer : Answer) (left : Left) (event : Event) (read : FrameRead)
    → (completed state due answer left event read).count ≤ most_served
unfolding completed served_watch
completed-most state due answer Nothing event read = omega arith
completed-most state due answer Choice event read = omega arith
completed-most state due answer Service event read = step_read-most state event read

-- never more moments are served than a tick serves, whatever the watch
pub watch_step-most : (watch : Watch) (event : Event) (read : FrameRead) → (watch_step watch event read).count ≤ most_served
unfolding watch_step take_step own_put
watch_step-most watch event read =
    by_bool
    (says_again (own_at watch.state event) watch.state.profile watch.state.time watch.due event read)
    (λ y. rw y (completed-most _ _ _ _ event read))
    (λ n. rw n (completed-most _ _ _ _ event read))
