-- An event that goes to both selectors is answered with one number: their profile, their time and the kinds of their
-- inputs are the same, and it meets none of rows 14 to 17. Cites `happened` and `demand_1_events`. Assumes nothing.
use Prim.Native.Nat.{ℕ}
use mathlib.Core.Bool.{Bool, true, false, not, cond, true≢false}
use mathlib.Core.List.{◌++◌}
use mathlib.Core.Logic.{⊎_elim, ◌≢◌}
use mathlib.Core.Path.{◌≡◌, refl, sym, ◌∙◌, ap, subst}
use native.Mathlib.Omega.{arith}
use lib.Dec.{eqb}
use borrow.Author.Tests.{ne_eqb}
use Rattle.numbers.specs.declared.kind.InputKind.{InputKind}
use Rattle.numbers.specs.declared.profile.Limits.{Limits}
use Rattle.numbers.specs.declared.profile.Profile.{Profile}
use Rattle.numbers.specs.declared.quality.Quality.{Quality}
use Rattle.numbers.specs.From.{started, ◌following◌, profile_of}
use Rattle.numbers.specs.Kind.{kind_forced, kind_manual, kind_input_kind}
use Rattle.numbers.specs.Profile.{limits_of}
use Rattle.numbers.specs.Recorded.{Recorded}
use Rattle.numbers.specs.Refusal.{accepted}
use Rattle.numbers.specs.Rows.{first_that_applies}
use Rattle.input.specs.Recorded.{History, is_on, last_argument, input_kind}
use Rattle.numbers.proofs.Truth.{by_bool}
use Rattle.events.specs.Refusals.{early_rows, frame_event_rows}
use Rattle.events.specs.Given.{Given, Sequence, tick_at, as_recorded}
use Rattle.events.specs.Sequence.{number_after}
use Rattle.events.specs.Past.{Past, early_by, late_by, number_by, past_of, recorded}
use Rattle.events.specs.Demand1.{OneToThirteen, FourteenToSeventeen}
use Rattle.events.proofs.Happened.{happened}
use Rattle.events.proofs.Demand1.{demand_1_events}
use Rattle.unit.specs.declared.Half.{Half}
use Rattle.unit.specs.declared.Half.TheVariants as H
use Rattle.unit.specs.Unit.{Addressed, UnitSequence, goes_to_both, goes_to, is_for, time_in, tick_first, own_events, own_number, time_number, unit_time}
use Rattle.unit.specs.Claims.{NumbersAgree}
use Rattle.unit.proofs.Ticks.{time_after}
use Rattle.unit.proofs.Halves.{with_own, own-profile, half-number-own}
use Rattle.unit.proofs.Times.{with-time, own-time}

-- ---- the kind of an input

-- the kinds of inputs after a sequence of events
abbrev kinds_after : Sequence → ℕ → InputKind
kinds_after own number = input_kind number (recorded own)

-- an event of another kind sets none
other-kind : (number : ℕ) (event : Recorded) (history : History) → event.kind ≢ kind_input_kind
    → input_kind number (event following history) ≡ input_kind number history
unfolding last_argument is_on
other-kind number event history other =
    by_bool (eqb event.input number)
    (λ e. rw (e, ne_eqb event.kind kind_input_kind other))
    (λ e. rw e)

kind-kept : (own : Sequence) (given : Given) (number : ℕ) → given.event.kind ≢ kind_input_kind
    → kinds_after (given following own) number ≡ kinds_after own number
kind-kept own given number other =
    ⊎_elim (λ none. at ((demand_1_events own given).taken none) ∙ other-kind number _ (recorded own) other)
    (⊎_elim (λ low. at ((demand_1_events own given).before low).1)
    (λ high. at ((demand_1_events own given).after high).1 ∙ other-kind number _ (recorded own) (λ e. omega arith)))
    (demand_1_events own given).one
  where
    at : {past : Past} → past_of (given following own) ≡ past
        → kinds_after (given following own) number ≡ input_kind number past.history
    at e = ap (λ (past : Past). input_kind number past.history) e

-- a tick sets none
tick_kinds : (own : Sequence) (time number : ℕ) → kinds_after (tick_at time following own) number ≡ kinds_after own number
tick_kinds own time number = kind-kept own (tick_at time) number (λ e. omega arith)

with-kinds : (goes : Bool) (own : Sequence) (given : Given) (number : ℕ) → given.event.kind ≢ kind_input_kind
    → kinds_after (with_own goes given own) number ≡ kinds_after own number
with-kinds true own given number other =
    kind-kept (tick_at given.event.time following own) given number other ∙
    tick_kinds own given.event.time number
with-kinds false own given number other = tick_kinds own given.event.time number

-- an event that is recorded in both leaves them the same
recorded-kinds : (given : Given) (number : ℕ) (profile start : Profile) (one other : History)
    → input_kind number one ≡ input_kind number other
    → input_kind number (as_recorded profile given following one) ≡
    input_kind number (as_recorded start given following other)
unfolding last_argument is_on
recorded-kinds given number profile start one other same =
    by_bool (eqb given.event.input number)
    (λ i. by_bool (eqb given.event.kind kind_input_kind) (λ k. rw (i, k)) (λ k. rw (i, k) same))
    (λ i. rw i same)

-- ---- two selectors

-- of one profile and time, with inputs of the same kinds
record Alike (one other : Sequence) : Type 0 where
  profile : profile_of (recorded one) ≡ profile_of (recorded other)
  time : time_after one ≡ time_after other
  kinds : (number : ℕ) → kinds_after one number ≡ kinds_after other number

module _ (given : Given)
    (notForced : given.event.kind ≢ kind_forced) (notManual : given.event.kind ≢ kind_manual) where
  none-late : (past : Past) → late_by past given ≡ accepted
  unfolding first_that_applies
  none-late past =
      rw (ne_eqb given.event.kind kind_forced notForced, ne_eqb given.event.kind kind_manual notManual)

  number-alike : (one other : Sequence) → Alike one other → number_by (past_of one) given ≡ number_by (past_of other) given
  unfolding number_by
  number-alike one other alike =
      let early : early_by (past_of one) given ≡ early_by (past_of other) given = λ j.
      first_that_applies
      (early_rows (limits_of (alike.profile j)) (alike.time j) (alike.kinds given.event.input j) given.event
      ++ frame_event_rows given.event.kind given.frame)
      in
      let late : late_by (past_of one) given ≡ late_by (past_of other) given =
      none-late (past_of one) ∙ sym (none-late (past_of other))
      in
      λ j. cond (not (eqb (early j) accepted)) (early j) (late j)

  -- after it the kinds of inputs are the same again
  kinds-alike : (one other : Sequence) → Alike one other → (number : ℕ)
      → kinds_after (given following one) number ≡ kinds_after (given following other) number
  kinds-alike one other alike number =
      ⊎_elim
      (λ none.
      at one ((demand_1_events one given).taken none) ∙
      recorded-kinds given number _ _ (recorded one) (recorded other) (alike.kinds number) ∙
      sym (at other ((demand_1_events other given).taken (sym same ∙ none))))
      (⊎_elim
      (λ low.
      at one ((demand_1_events one given).before low).1 ∙
      alike.kinds number ∙
      sym (at other ((demand_1_events other given).before (subst OneToThirteen same low)).1))
      (λ high.
      at one ((demand_1_events one given).after high).1 ∙
      other-kind number _ (recorded one) (λ e. omega arith) ∙
      alike.kinds number ∙
      sym (other-kind number _ (recorded other) (λ e. omega arith)) ∙
      sym (at other ((demand_1_events other given).after (subst FourteenToSeventeen same high)).1)))
      (demand_1_events one given).one
    where
      same : number_after given one ≡ number_after given other
      same = (happened one).number given ∙ number-alike one other alike ∙ sym ((happened other).number given)

      at : (own : Sequence) {past : Past} → past_of (given following own) ≡ past
          → kinds_after (given following own) number ≡ input_kind number past.history
      at own e = ap (λ (past : Past). input_kind number past.history) e

-- ---- what goes to both

module _ (limits : Limits) (kind : ℕ) where
  -- is no switch
  both_not_forced : goes_to_both limits kind ≡ true → kind ≢ kind_forced
  unfolding goes_to_both
  both_not_forced both e = let k : false ≡ true = rw e at both in true≢false (sym k)

  both_not_manual : goes_to_both limits kind ≡ true → kind ≢ kind_manual
  unfolding goes_to_both
  both_not_manual both e = let k : false ≡ true = rw e at both in true≢false (sym k)

  -- and what does not sets no kind of input
  command_no_kind : goes_to_both limits kind ≡ false → kind ≢ kind_input_kind
  unfolding goes_to_both
  command_no_kind command e = let k : true ≡ false = rw e at command in true≢false k

  both-goes : (to half : Half) → goes_to_both limits kind ≡ true → goes_to limits kind to half ≡ true
  unfolding goes_to
  both-goes to half both = rw both

-- the two selectors after the tick of an event, if the kinds of their inputs are the same before it
module _ (addressed : Addressed) (earlier : UnitSequence)
    (kinds : (number : ℕ)
    → kinds_after (own_events H.Equipment earlier) number ≡ kinds_after (own_events H.Station earlier) number) where
  abbrev first : Half → Sequence
  first half = tick_first addressed (own_events half earlier)

  first-profile : (half : Half) → profile_of (recorded (first half)) ≡ profile_of earlier
  first-profile half = (happened (first half)).recorded_profile ∙ own-profile half earlier

  first-time : (half : Half)
      → time_after (first half) ≡
      cond (eqb (time_number (unit_time earlier) (time_in addressed)) accepted) (time_in addressed) (unit_time earlier)
  first-time half =
      with-time (own_events half earlier) addressed.given false ∙
      ap (λ (unit : ℕ). cond (eqb (time_number unit (time_in addressed)) accepted) (time_in addressed) unit)
      (own-time half earlier)

  first_alike : Alike (first H.Equipment) (first H.Station)
  first_alike =
      record {
        profile = first-profile H.Equipment ∙ sym (first-profile H.Station);
        time = first-time H.Equipment ∙ sym (first-time H.Station);
        kinds = λ number.
            tick_kinds (own_events H.Equipment earlier) (time_in addressed) number ∙
            kinds number ∙
            sym (tick_kinds (own_events H.Station earlier) (time_in addressed) number);
      }

  abbrev limits : Limits
  limits = limits_of (profile_of earlier)

  abbrev kind : ℕ
  kind = addressed.given.event.kind

  -- the kinds of their inputs are the same after it
  kinds_following : (number : ℕ)
      → kinds_after (own_events H.Equipment (addressed following earlier)) number ≡
      kinds_after (own_events H.Station (addressed following earlier)) number
  unfolding own_events
  kinds_following number =
      by_bool (goes_to_both limits kind)
      (λ both.
      rw (both-goes limits kind addressed.to H.Equipment both, both-goes limits kind addressed.to H.Station both)
      (kinds-alike addressed.given (both_not_forced limits kind both) (both_not_manual limits kind both)
      (first H.Equipment)
      (first H.Station)
      first_alike
      number))
      (λ command.
      with-kinds (is_for H.Equipment addressed earlier) (own_events H.Equipment earlier) addressed.given number
      (command_no_kind limits kind command) ∙
      kinds number ∙
      sym (with-kinds (is_for H.Station addressed earlier) (own_events H.Station earlier) addressed.given number
      (command_no_kind limits kind command)))

  number-both : goes_to_both limits kind ≡ true
      → own_number H.Equipment addressed earlier ≡ own_number H.Station addressed earlier
  unfolding own_number
  number-both both =
      rw (both-goes limits kind addressed.to H.Equipment both, both-goes limits kind addressed.to H.Station both)
      (number-alike addressed.given (both_not_forced limits kind both) (both_not_manual limits kind both)
      (first H.Equipment)
      (first H.Station)
      first_alike)

kinds-same : (sequence : UnitSequence) (number : ℕ)
    → kinds_after (own_events H.Equipment sequence) number ≡ kinds_after (own_events H.Station sequence) number
unfolding own_events
kinds-same (started profile) number = refl
kinds-same (addressed following earlier) number = kinds_following addressed earlier (kinds-same earlier) number

-- THE NUMBERS AGREE where an event goes to both selectors.
pub numbers-agree : (minimum : Quality) (addressed : Addressed) (earlier : UnitSequence)
    → NumbersAgree minimum addressed earlier
numbers-agree minimum addressed earlier =
    record {
      agree = λ both.
          half-number-own minimum H.Equipment addressed earlier ∙
          number-both addressed earlier (kinds-same earlier) both ∙
          sym (half-number-own minimum H.Station addressed earlier);
    }
