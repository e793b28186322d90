-- One selector: what a tick and an event are answered with, and what they leave of its time. Cites `happened` and
-- `demand_1_events`; of a second tick at one time `tick_state` and `ticked-twice`. Assumes nothing.
use Prim.Native.Nat.{ℕ, ◌≤◌, ◌<◌}
use mathlib.Core.Bool.{true, false, cond, true≢false}
use mathlib.Core.Logic.{◌≢◌}
use mathlib.Core.Path.{◌≡◌, refl, sym, ◌∙◌, ap, subst}
use native.Mathlib.Omega.{arith}
use lib.Dec.{eqb, leb, ltb}
use borrow.Author.Tests.{leb-false, ltb-false, ne_eqb, le-ltb, eqb-true, eqb-false}
use Rattle.numbers.specs.From.{◌following◌, profile_of}
use Rattle.numbers.specs.Inputs.{time_limit}
use Rattle.numbers.specs.Kind.{known_row_of, is_known, is_input_out, is_argument_out}
use Rattle.numbers.specs.Profile.{limits_of}
use Rattle.numbers.specs.Refusal.{accepted, kind_unknown, time_too_large, time_before_state}
use Rattle.numbers.specs.Rows.{RowApplies, first_that_applies}
use Rattle.input.specs.Recorded.{time_of}
use Rattle.numbers.proofs.Truth.{by_bool}
use Rattle.numbers.proofs.Rows.{test_of, row-exact}
use Rattle.selector.specs.declared.Selector.{Selector}
use Rattle.due.specs.Served.{ticked}
use Rattle.due.proofs.ServesEachDue.{ticked-twice}
use Rattle.events.specs.Refusals.{is_wrong_kind}
use Rattle.events.specs.Given.{Given, Sequence, tick_at}
use Rattle.events.specs.Step.{step}
use Rattle.events.specs.Sequence.{state_after, number_after}
use Rattle.events.specs.Past.{Past, early_by, late_by, number_by, past_of, recorded}
use Rattle.events.specs.Demand1.{rows_of, OneToThirteen}
use Rattle.events.proofs.Calm.{accepted_or_not, sequence-calm}
use Rattle.events.proofs.Happened.{happened}
use Rattle.events.proofs.Demand1.{tick_state, rows-rising, demand_1_events}
use Rattle.unit.specs.Unit.{time_number}

-- ---- time_number

-- a time is refused with 3 or 4
pub time_number-within : (unit time : ℕ) → time_number unit time ≢ accepted → OneToThirteen (time_number unit time)
unfolding time_number first_that_applies
time_number-within unit time refused =
    by_bool (leb time_limit time)
    (λ l. rw l (record { least = omega arith; most = omega arith }))
    (λ l. by_bool (ltb time unit)
    (λ e. rw (l, e) (record { least = omega arith; most = omega arith }))
    (λ e. absurd (refused (rw (l, e)))))

-- a time that passes is neither too large nor too early
time_number_limit : (unit time : ℕ) → time_number unit time ≡ accepted → leb time_limit time ≡ false
unfolding time_number first_that_applies
time_number_limit unit time passes =
    by_bool (leb time_limit time)
    (λ l. let k : time_too_large ≡ accepted = rw l at passes in absurd (omega arith))
    (λ l. l)

time_number-before : (unit time : ℕ) → time_number unit time ≡ accepted → ltb time unit ≡ false
unfolding time_number first_that_applies
time_number-before unit time passes =
    by_bool (ltb time unit)
    (λ e.
    let k : time_before_state ≡ accepted = rw (time_number_limit unit time passes, e) at passes in
    absurd (omega arith))
    (λ e. e)

-- it passes again
pub time_number-again : (unit time : ℕ) → time_number unit time ≡ accepted → time_number time time ≡ accepted
unfolding time_number first_that_applies
time_number-again unit time passes = rw (time_number_limit unit time passes, le-ltb time time (omega arith))

-- ---- the rows, by what has happened

-- a refusal before the tick is the number
number_by-early : (past : Past) (given : Given) (number : ℕ) → early_by past given ≡ number → number ≢ accepted
    → number_by past given ≡ number
unfolding number_by
number_by-early past given number e refused = rw (e, ne_eqb number accepted refused)

module _ (past : Past) (time : ℕ) where
  tick_early : early_by past (tick_at time) ≡ time_number (time_of past.history) time
  unfolding first_that_applies known_row_of is_input_out is_argument_out is_wrong_kind time_number
  tick_early = refl

  tick_late : late_by past (tick_at time) ≡ accepted
  unfolding first_that_applies
  tick_late = refl

  -- a tick meets rows 3 and 4 alone
  pub number_by_tick : number_by past (tick_at time) ≡ time_number (time_of past.history) time
  unfolding number_by
  number_by_tick =
      accepted_or_not (time_number (time_of past.history) time)
      (λ passes. rw (tick_early, passes, tick_late))
      (λ refused. number_by-early past (tick_at time) _ tick_early refused)

module _ (past : Past) (given : Given) where
  abbrev refused_as : ℕ
  refused_as =
      cond (is_known (limits_of (profile_of past.history)) given.event.kind)
      (time_number (time_of past.history) given.event.time)
      kind_unknown

  -- an event whose time does not pass: 2 where its kind is unknown, otherwise 3 or 4
  untimely_early : time_number (time_of past.history) given.event.time ≢ accepted → early_by past given ≡ refused_as
  unfolding first_that_applies time_number
  untimely_early refused =
      by_bool (is_known (limits_of (profile_of past.history)) given.event.kind)
      (λ k. by_bool (leb time_limit given.event.time)
      (λ l. rw (k, l))
      (λ l. by_bool (ltb given.event.time (time_of past.history))
      (λ e. rw (k, l, e))
      (λ e. absurd (refused (rw (l, e))))))
      (λ k. rw k)

  refused_as-within : time_number (time_of past.history) given.event.time ≢ accepted → OneToThirteen refused_as
  refused_as-within refused =
      by_bool (is_known (limits_of (profile_of past.history)) given.event.kind)
      (λ k. rw k (time_number-within _ _ refused))
      (λ k. rw k (record { least = omega arith; most = omega arith }))

  pub number_by_untimely : time_number (time_of past.history) given.event.time ≢ accepted
      → number_by past given ≡ refused_as
  number_by_untimely refused =
      number_by-early past given refused_as (untimely_early refused)
      (λ e. omega (arith, (refused_as-within refused).least))

-- ---- a selector after a sequence of events

abbrev pub time_after : Sequence → ℕ
time_after own = time_of (recorded own)

-- an event is answered, and leaves what it leaves, by the state alone
module _ (given : Given) (own other : Sequence) (same : state_after own ≡ state_after other) where
  pub state_as : state_after (given following own) ≡ state_after (given following other)
  unfolding state_after
  state_as = ap (λ (state : Selector). (step state given.event given.frame).state) same

  pub number_as : number_after given own ≡ number_after given other
  unfolding number_after
  number_as = ap (λ (state : Selector). (step state given.event given.frame).number) same

module _ (own : Sequence) (time : ℕ) where
  pub tick_number : number_after (tick_at time) own ≡ time_number (time_after own) time
  tick_number = (happened own).number (tick_at time) ∙ number_by_tick (past_of own) time

  -- a tick whose time passes moves the time
  pub tick_passes : time_number (time_after own) time ≡ accepted → time_after (tick_at time following own) ≡ time
  tick_passes passes =
      ap (λ (past : Past). time_of past.history) ((demand_1_events own (tick_at time)).taken (tick_number ∙ passes))

  tick_refused : time_number (time_after own) time ≢ accepted → OneToThirteen (number_after (tick_at time) own)
  tick_refused refused = subst OneToThirteen (sym tick_number) (time_number-within (time_after own) time refused)

  -- any other leaves all
  pub tick_keeps-past : time_number (time_after own) time ≢ accepted → past_of (tick_at time following own) ≡ past_of own
  tick_keeps-past refused = ((demand_1_events own (tick_at time)).before (tick_refused refused)).1

  pub tick_keeps : time_number (time_after own) time ≢ accepted → state_after (tick_at time following own) ≡ state_after own
  tick_keeps refused = ((demand_1_events own (tick_at time)).before (tick_refused refused)).0

  -- a second tick at that time does nothing
  pub tick_again : time_number (time_after own) time ≡ accepted
      → state_after (tick_at time following tick_at time following own) ≡ state_after (tick_at time following own)
  tick_again passes =
      let below : time < time_limit = leb-false time_limit time (time_number_limit _ _ passes) in
      let before : time_after own ≤ time = ltb-false time (time_after own) (time_number-before _ _ passes) in
      let later : (state_after own).time ≤ time = omega (arith, (happened own).time) in
      let here : (state_after (tick_at time following own)).time ≡ time =
      (happened (tick_at time following own)).time ∙ tick_passes passes
      in
      let once : state_after (tick_at time following own) ≡ ticked (state_after own) time =
      tick_state own time later below
      in
      tick_state (tick_at time following own) time (omega arith) below ∙
      ap (λ (state : Selector). ticked state time) once ∙
      ticked-twice (state_after own) time time (sequence-calm own) later (omega arith) (omega arith) ∙
      sym once

  -- whether its time passes or not
  pub twice-state :
      state_after (tick_at time following tick_at time following own) ≡ state_after (tick_at time following own)
  twice-state =
      accepted_or_not (time_number (time_after own) time)
      tick_again
      (λ refused. state_as (tick_at time) (tick_at time following own) own (tick_keeps refused))

  -- and is answered as the first
  pub twice-number : number_after (tick_at time) (tick_at time following own) ≡ number_after (tick_at time) own
  twice-number =
      (happened (tick_at time following own)).number (tick_at time) ∙
      number_by_tick (past_of (tick_at time following own)) time ∙
      accepted_or_not (time_number (time_after own) time)
      (λ passes. ap (λ (at : ℕ). time_number at time) (tick_passes passes) ∙
      time_number-again (time_after own) time passes ∙
      sym passes)
      (λ refused. ap (λ (past : Past). time_number (time_of past.history) time) (tick_keeps-past refused)) ∙
      sym tick_number

module _ (own : Sequence) (given : Given) where
  abbrev passing : ℕ
  passing = time_number (time_after own) given.event.time

  pub untimely_number : passing ≢ accepted → number_after given own ≡ refused_as (past_of own) given
  untimely_number refused = (happened own).number given ∙ number_by_untimely (past_of own) given refused

  pub untimely_refused : passing ≢ accepted → OneToThirteen (number_after given own)
  untimely_refused refused =
      subst OneToThirteen (sym (untimely_number refused)) (refused_as-within (past_of own) given refused)

  pub untimely_keeps-past : passing ≢ accepted → past_of (given following own) ≡ past_of own
  untimely_keeps-past refused = ((demand_1_events own given).before (untimely_refused refused)).1

  pub untimely_keeps : passing ≢ accepted → state_after (given following own) ≡ state_after own
  untimely_keeps refused = ((demand_1_events own given).before (untimely_refused refused)).0

  -- where the time passes, neither 3 nor 4 is given
  module _ (passes : passing ≡ accepted) where
    -- row 3 and row 4, by their tests
    row : (number : ℕ) → RowApplies number (rows_of (past_of own) given)
        → test_of number (rows_of (past_of own) given) ≡ true
    row number = (row-exact kind_unknown number (rows_of (past_of own) given) (rows-rising (past_of own) given)).0

    not_large : RowApplies time_too_large (rows_of (past_of own) given) → ⊥
    not_large applies = true≢false (sym (row time_too_large applies) ∙ time_number_limit _ _ passes)

    not_early : RowApplies time_before_state (rows_of (past_of own) given) → ⊥
    not_early applies = true≢false (sym (row time_before_state applies) ∙ time_number-before _ _ passes)

    never : (number : ℕ) → time_too_large ≤ number → number ≤ time_before_state
        → RowApplies number (rows_of (past_of own) given) → ⊥
    never number least most applies =
        by_bool (eqb number time_too_large)
        (λ e. not_large (subst (λ (n : ℕ). RowApplies n (rows_of (past_of own) given)) (eqb-true _ _ e) applies))
        (λ e.
        let four : number ≡ time_before_state = omega (arith, eqb-false number time_too_large e) in
        not_early (subst (λ (n : ℕ). RowApplies n (rows_of (past_of own) given)) four applies))

    pub timely_number : (number : ℕ) → time_too_large ≤ number → number ≤ time_before_state → number_after given own ≢ number
    timely_number number least most is =
        never number least most (((demand_1_events own given).smallest number (λ e. omega arith)).0 is).applies
