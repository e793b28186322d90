-- A watch has the state, the answers and the counts of the plain step, after any sequence of events. Assumes nothing.
use Prim.Native.Nat.{ℕ, ◌≤◌, ◌<◌}
use mathlib.Core.Bool.{Bool, true, false, not, ◌&&◌, true≢false}
use mathlib.Core.Path.{◌≡◌, refl, sym, ◌∙◌, ap, subst}
use native.Mathlib.Omega.{arith}
use native.Mathlib.Nat.{mod-lt, mod-eq_of_lt}
use lib.Dec.{eqb, leb, ltb}
use lib.ListN.{length, get_or, set}
use lib.Seq.{set-get_or}
use borrow.Author.Tests.{eqb-true, ne_eqb, leb-false, lt-leb, ltb-true, ltb-false}
use Rattle.numbers.specs.declared.Answer.{Answer}
use Rattle.numbers.specs.declared.Event.{Event}
use Rattle.numbers.specs.declared.profile.Profile.{Profile}
use Rattle.numbers.specs.From.{started, ◌following◌}
use Rattle.numbers.specs.Inputs.{input_count}
use Rattle.numbers.specs.Kind.{kind_frame}
use Rattle.numbers.specs.Profile.{limits_of}
use Rattle.numbers.specs.Refusal.{accepted}
use Rattle.numbers.proofs.Truth.{by_bool, or_first, or_second, both_first, both-second}
use Rattle.frame.specs.declared.FrameRead.{FrameRead}
use Rattle.frame.specs.declared.FrameRead.TheVariants.{Code, Refused}
use Rattle.frame.specs.Read.{read_code}
use Rattle.input.specs.declared.Input.{Input}
use Rattle.input.specs.Record.{fresh_input}
use Rattle.selector.specs.declared.Selector.{Selector}
use Rattle.selector.specs.State.{fresh_selector, decided}
use Rattle.selector.specs.Answer.{answer_of}
use Rattle.due.specs.Next.{lesser, next_of, next_due}
use Rattle.due.proofs.Every.{every-at, every_replicate}
use Rattle.due.proofs.Millisecond.{lesser-one, lesser-other}
use Rattle.due.proofs.Calm.{Calm, calm-fresh}
use Rattle.events.specs.Given.{Sequence}
use Rattle.events.specs.Refusals.{early_refusal}
use Rattle.events.specs.Sequence.{state_after, number_after, count_after}
use Rattle.events.specs.Step.{Stepped, stepped, early_number, step_read, step}
use Rattle.events.proofs.Calm.{accepted_or_not, step_read-refused, calm-step_read}
use Rattle.events.proofs.Refused.{early_refusal-outside}
use Rattle.quickstep.specs.Again.{frame_again, read_again, is_again, says_again, again_input, again_due, again_own}
use Rattle.quickstep.specs.Own.{is_command, is_served, seen_alike, own_take, own_step}
use Rattle.quickstep.specs.Watch.{Watch, watch_of, numbered, fresh_watch, due_anew, due_after, served_watch, completed, own_index, own_put, own_at, take_step, watch_step}
use Rattle.quickstep.specs.Sequence.{watch_after, WatchRight}
use Rattle.quickstep.proofs.Again.{again-input, again-free}
use Rattle.quickstep.proofs.Due.{lesser-same, put-due, again-due, again_due-least, again_due-other, due_anew-bound, due_after-bound}
use Rattle.quickstep.proofs.Step.{own_before, own_after, own_taken, again_taken, decided-same, answer-same, taken-seen, again-same, later, inside, settled, step_read-own, step_read-again}
use Rattle.quickstep.proofs.QuickLaws.{due_anew-before, says_again_not}

-- ---- what is answered

pub numbered-answer : (number other : ℕ) (state : Selector)
    → numbered number (answer_of other state) ≡ answer_of number state
unfolding answer_of
numbered-answer number other state = refl

-- ---- a watch

-- its state leaves nothing to be done, nothing is due before its time, and its answer, but for the number, is the
-- state's
pub record Kept (watch : Watch) : Type 0 where
  pub calm : Calm watch.state
  pub due : watch.due ≤ next_due watch.state
  pub told : (number : ℕ) → numbered number watch.answer ≡ answer_of number watch.state

-- it has the state, the answer and the count of a plain step, and keeps what it kept
pub record Right (plain : Stepped) (watch : Watch) : Type 0 where
  pub state : watch.state ≡ plain.state
  pub answer : watch.answer ≡ answer_of plain.number plain.state
  pub count : watch.count ≡ plain.count
  pub kept : Kept watch

-- a watch whose parts are those of a plain step
right_by : (plain : Stepped) (state : Selector) (due number count : ℕ) (answer : Answer) → Calm state
    → due ≤ next_due state
    → answer ≡ answer_of number state
    → plain ≡ stepped number count state
    → Right plain (watch_of state due answer count)
right_by plain state due number count answer calm bound told is =
    record {
      state = sym (ap (λ (after : Stepped). after.state) is);
      answer = told ∙ sym (ap (λ (after : Stepped). answer_of after.number after.state) is);
      count = sym (ap (λ (after : Stepped). after.count) is);
      kept =
          record {
            calm = calm;
            due = bound;
            told = λ other. ap (numbered other) told ∙ numbered-answer other number state;
          };
    }

module _ (watch : Watch) (event : Event) (read : FrameRead) (kept : Kept watch) where
  abbrev state : Selector
  state = watch.state

  abbrev plain : Stepped
  plain = step_read state event read

  -- what is due, where it has been made anew
  abbrev due : ℕ
  due = due_anew state.inputs state.mode state.time watch.due event.time

  bound : due ≤ next_due state
  bound = due_anew-bound state watch.due event.time kept.due

  abbrev early_at : Input → ℕ
  early_at input = early_refusal (limits_of state.profile) state.time input.settings.kind event read

  -- one of the sixteen stands at its own number
  pub own-here : event.input < input_count → own_at state event ≡ own_before state event
  own-here few = ap (λ (index : ℕ). get_or state.inputs index fresh_input) (mod-eq_of_lt few)

  pub own-early : early_at (own_at state event) ≡ early_number state event read
  own-early =
      by_bool (ltb event.input input_count)
      (λ few. ap early_at (own-here (ltb-true _ _ few)))
      (λ out. early_refusal-outside (limits_of state.profile) state.time event read (ltb-false _ _ out) _ _)

  pub put_back : set state.inputs (own_index event) (own_at state event) ≡ state.inputs
  put_back = set-get_or state.inputs (own_index event) fresh_input

  -- refused at once
  right-refused : (early_number state event read ≡ accepted → ⊥) → Right plain (take_step watch event read)
  unfolding take_step own_put completed own_step
  right-refused given =
      rw (own-early, ne_eqb _ _ given, put_back)
      (right_by plain state due (early_number state event read) 0
      (numbered (early_number state event read) watch.answer)
      kept.calm
      bound
      (kept.told (early_number state event read))
      (step_read-refused state event read given))

  -- what is refused does not say again
  again_not : (early_number state event read ≡ accepted → ⊥) → watch_step watch event read ≡ take_step watch event read
  unfolding watch_step
  again_not given =
      rw
      (sym
      (says_again_not (own_at state event) state.profile state.time watch.due event read
      (λ e. given (sym own-early ∙ e))))

  module _ (none : early_number state event read ≡ accepted) where
    few : event.input < input_count
    few = inside state event read watch.due kept.calm kept.due none

    early-none : early_at (own_before state event) ≡ accepted
    early-none = ap early_at (sym (own-here few)) ∙ own-early ∙ none

    calm-after : Calm plain.state
    calm-after = calm-step_read state event read kept.calm none

    here : own_index event ≡ event.input
    here = mod-eq_of_lt few

    room : event.input < length state.inputs
    room = omega (arith, few, kept.calm.count)

    abbrev says : Bool
    says = says_again (own_at state event) state.profile state.time watch.due event read

    says-parts : says ≡ (ltb event.time watch.due && is_again (own_before state event) state.profile event read)
    unfolding says_again
    says-parts = rw (own-here few, early-none)

    -- said again
    module _ (y : says ≡ true) where
      both : (ltb event.time watch.due && is_again (own_before state event) state.profile event read) ≡ true
      both = sym says-parts ∙ y

      sooner : event.time < watch.due
      sooner = ltb-true _ _ (both_first (ltb event.time watch.due) _ both)

      again : is_again (own_before state event) state.profile event read ≡ true
      again = both-second (ltb event.time watch.due) _ both

      stays : plain ≡ stepped accepted 0 (again_taken state event)
      stays = step_read-again state event read watch.due kept.calm kept.due none sooner again

      right-again : Right plain (watch_step watch event read)
      unfolding watch_step own_put completed again_own
      right-again =
          let next = again_due watch.due event.kind event.time in
          rw (y, own-here few, here)
          (right_by plain (again_taken state event) next accepted 0 (numbered accepted watch.answer)
          (subst Calm (ap (λ (after : Stepped). after.state) stays) calm-after)
          (put-due state watch.due event.time kept.due
          (later state event read watch.due kept.calm kept.due none)
          event.input
          next
          (again_input (own_before state event) event.kind event.time)
          room
          (again_due-least watch.due event.kind event.time)
          (again-due state watch.due event.time kept.due
          (later state event read watch.due kept.calm kept.due none)
          event.kind
          event.input
          few))
          (kept.told accepted ∙ sym (answer-same state event _ (again-same state event) accepted))
          stays)

    -- served
    right-served : is_served due event.kind event.time ≡ true → Right plain (take_step watch event read)
    unfolding take_step own_put completed served_watch own_step
    right-served serves =
        rw (own-early, none, serves, put_back)
        (right_by plain plain.state (due_after due event.time plain.state) plain.number
        plain.count _ calm-after
        (due_after-bound due event.time plain.state)
        refl
        refl)

    -- taken
    module _ (waits : is_served due event.kind event.time ≡ false) where
      soon : event.time < due
      unfolding is_served
      soon = leb-false due event.time (or_first (leb due event.time) (is_command event.kind) waits)

      free : is_command event.kind ≡ false
      unfolding is_served
      free = or_second (leb due event.time) (is_command event.kind) waits

      taken : plain ≡ stepped accepted 0 (decided (own_taken state event read))
      taken = step_read-own state event read due kept.calm bound none soon free

      abbrev next : ℕ
      next = lesser due (next_of (own_after state event read) state.mode event.time)

      next-due : next ≤ next_due (own_taken state event read)
      next-due =
          put-due state due event.time bound (later state event read due kept.calm bound none) event.input next
          (own_after state event read)
          room
          (lesser-one due _)
          (lesser-other due _)

      calm-taken : Calm (decided (own_taken state event read))
      calm-taken = subst Calm (ap (λ (after : Stepped). after.state) taken) calm-after

      taken-due : next ≤ next_due (decided (own_taken state event read))
      unfolding decided
      taken-due = next-due

      right-taken : Right plain (take_step watch event read)
      unfolding take_step own_put completed own_step own_take
      right-taken =
          by_bool (seen_alike (own_before state event) (own_after state event read))
          (λ alike.
          let same = taken-seen state event read alike in
          let stays = decided-same state event (own_after state event read) same kept.calm in
          rw (own-early, none, waits, own-here few, alike, here)
          (right_by plain (own_taken state event read) next accepted 0 (numbered accepted watch.answer)
          (subst Calm stays calm-taken)
          next-due
          (kept.told accepted ∙ sym (answer-same state event _ same accepted))
          (taken ∙ ap (stepped accepted 0) stays)))
          (λ unlike.
          rw (own-early, none, waits, own-here few, unlike, here)
          (right_by plain (decided (own_taken state event read)) next accepted 0 _ calm-taken taken-due refl taken))

    take-accepted : Right plain (take_step watch event read)
    take-accepted = by_bool (is_served due event.kind event.time) right-served right-taken

    -- taken or said again, the watch is the same, where it is no frame
    module _ (y : says ≡ true) (other : eqb event.kind kind_frame ≡ false) where
      kept-due : watch.due ≡ due
      kept-due = due_anew-before state.inputs state.mode state.time watch.due event.time (sooner y)

      unserved : is_served due event.kind event.time ≡ false
      unfolding is_served
      unserved =
          rw (
            lt-leb due event.time (subst (λ (when : ℕ). event.time < when) kept-due (sooner y)),
            again-free (own_before state event) state.profile event read (again y),
          )

      own-again : own_after state event read ≡ again_input (own_before state event) event.kind event.time
      own-again =
          again-input (own_before state event) state.profile event state.mode
          (settled state event read watch.due kept.calm kept.due none (sooner y)
          (again-free (own_before state event) state.profile event read (again y)))
          read
          (again y)

      no_sooner : due ≤ next_of (own_after state event read) state.mode event.time
      no_sooner =
          let least =
          again-due state watch.due event.time kept.due
          (later state event read watch.due kept.calm kept.due none)
          event.kind
          event.input
          few
          in
          rw (own-again, ← kept-due, ← again_due-other watch.due event.kind event.time other) least

      same-due : (take_step watch event read).due ≡ (watch_step watch event read).due
      unfolding watch_step take_step own_put completed own_step own_take again_own
      same-due =
          let dues : lesser due (next_of (own_after state event read) state.mode event.time)
          ≡ again_due watch.due event.kind event.time =
          lesser-same due _ no_sooner ∙ sym kept-due
          ∙ sym (again_due-other watch.due event.kind event.time other)
          in
          by_bool (seen_alike (own_before state event) (own_after state event read))
          (λ alike. rw (y, own-early, none, unserved, own-here few, alike) dues)
          (λ unlike. rw (y, own-early, none, unserved, own-here few, unlike) dues)

    unsaid : says ≡ false → watch_step watch event read ≡ take_step watch event read
    unfolding watch_step
    unsaid n = rw n

    step-accepted : Right plain (watch_step watch event read)
    step-accepted = by_bool says right-again (λ n. subst (Right plain) (sym (unsaid n)) take-accepted)

  -- AN EVENT TAKEN BY ITS OWN INPUT: the watch has the state, the answer and the count of the plain step.
  pub take_step-right : Right (step_read watch.state event read) (take_step watch event read)
  take_step-right = accepted_or_not (early_number state event read) take-accepted right-refused

  -- ANY EVENT: likewise.
  pub watch_step-right : Right (step_read watch.state event read) (watch_step watch event read)
  watch_step-right =
      accepted_or_not (early_number state event read) step-accepted
      (λ given. subst (Right plain) (sym (again_not given)) (right-refused given))

-- what leaves the same state, answer and count, and the same time before which nothing is due, is the same watch
same-watch : (plain : Stepped) (one other : Watch) → Right plain one → Right plain other → one.due ≡ other.due
    → one ≡ other
same-watch plain one other first second dues =
    λ j.
    watch_of ((first.state ∙ sym second.state) j) (dues j) ((first.answer ∙ sym second.answer) j)
    ((first.count ∙ sym second.count) j)

-- ---- from a fresh start

pub fresh_kept : (profile : Profile) → Kept (fresh_watch profile)
fresh_kept profile =
    record {
      calm = calm-fresh profile;
      due = omega arith;
      told = λ number. numbered-answer number accepted (fresh_selector profile);
    }

-- a fresh input has no good signal, so only a tick says again
fresh-failing : (profile : Profile) (event : Event) → (own_at (fresh_selector profile) event).heard.signal ≡ false
fresh-failing profile event =
    every-at (λ (input : Input). input.heard.signal ≡ false) (fresh_selector profile).inputs
    (own_index event) fresh_input
    (every_replicate (λ (input : Input). input.heard.signal ≡ false) 16 fresh_input refl)
    (mod-lt event.input (omega arith))

fresh-frame : (input : Input) (profile : Profile) (read : FrameRead) → input.heard.signal ≡ false
    → read_again input profile read ≡ false
unfolding read_again frame_again
fresh-frame input profile (Code code) failing =
    by_bool (not input.run.failed) (λ y. rw (failing, y)) (λ n. rw (failing, n))
fresh-frame input profile (Refused number) failing = refl

fresh-said : (input : Input) (profile : Profile) (time due : ℕ) (event : Event) (read : FrameRead)
    → input.heard.signal ≡ false
    → says_again input profile time due event read ≡ true
    → eqb event.kind kind_frame ≡ false
unfolding says_again is_again
fresh-said input profile time due event read failing says =
    by_bool (eqb event.kind kind_frame)
    (λ f.
    let k = eqb-true event.kind kind_frame f in
    let is : read_again input profile read ≡ true =
    rw k at
    (both-second
    (eqb (early_refusal (limits_of profile) time input.settings.kind event read) accepted && ltb event.time due)
    (is_again input profile event read)
    says)
    in
    absurd (true≢false (sym is ∙ fresh-frame input profile read failing)))
    (λ n. n)

-- the line that opens a log is taken: from fresh that is the whole step
pub fresh-taken : (profile : Profile) (event : Event) (read : FrameRead)
    → take_step (fresh_watch profile) event read ≡ watch_step (fresh_watch profile) event read
unfolding watch_step
fresh-taken profile event read =
    let watch = fresh_watch profile in
    let state = watch.state in
    let says = says_again (own_at state event) profile 0 watch.due event read in
    accepted_or_not (early_number state event read)
    (λ none. by_bool says
    (λ y. same-watch (step_read state event read) (take_step watch event read) (watch_step watch event read)
    (take_step-right watch event read (fresh_kept profile))
    (watch_step-right watch event read (fresh_kept profile))
    (same-due watch event read (fresh_kept profile) none y
    (fresh-said (own_at state event) profile 0 watch.due event read (fresh-failing profile event) y)))
    (λ n. rw n))
    (λ given. sym (again_not watch event read (fresh_kept profile) given))

-- ---- any sequence of events

sequence-right : (sequence : Sequence) → ((watch_after sequence).state ≡ state_after sequence) × Kept (watch_after sequence)
unfolding watch_after state_after step
sequence-right (started profile) = (refl, fresh_kept profile)
sequence-right (given following earlier) =
    let before = sequence-right earlier in
    let right = watch_step-right (watch_after earlier) given.event (read_code given.frame) before.1 in (
      right.state ∙
          ap (λ (state : Selector). (step_read state given.event (read_code given.frame)).state) before.0,
      right.kept,
    )

-- after any sequence of events from a fresh start, refused ones included, a watch has the state, the answer and the
-- count of the plain step
pub watch-right : (sequence : Sequence) → WatchRight sequence
unfolding watch_after state_after number_after count_after step
watch-right sequence =
    let before = sequence-right sequence in
    record {
      state = before.0;
      due = subst (λ (state : Selector). (watch_after sequence).due ≤ next_due state) before.0 before.1.due;
      answer = λ given.
          (watch_step-right (watch_after sequence) given.event (read_code given.frame) before.1).answer ∙
          ap
          (λ (state : Selector).
          let after = step_read state given.event (read_code given.frame) in
          answer_of after.number after.state)
          before.0;
      count = λ given.
          (watch_step-right (watch_after sequence) given.event (read_code given.frame) before.1).count ∙
          ap (λ (state : Selector). (step_read state given.event (read_code given.frame)).count) before.0;
    }
