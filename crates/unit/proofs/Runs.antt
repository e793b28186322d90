-- Two runs that differ only in commands given to one selector: the other is in the same state, and tells the same.
-- Assumes nothing.
use Prim.Native.Nat.{ℕ}
use mathlib.Core.Bool.{Bool, true, false}
use mathlib.Core.List.{◌∷◌}
use mathlib.Core.Logic.{inl, inr}
use mathlib.Core.Path.{◌≡◌, refl, sym, ◌∙◌, ap, subst}
use native.Mathlib.Omega.{arith}
use Rattle.numbers.specs.declared.profile.Profile.{Profile}
use Rattle.numbers.specs.declared.quality.Quality.{Quality}
use Rattle.numbers.specs.From.{◌following◌, profile_of}
use Rattle.numbers.specs.Profile.{limits_of}
use Rattle.numbers.proofs.Truth.{by_bool}
use Rattle.events.specs.Given.{Given, Sequence, tick_at}
use Rattle.events.specs.Sequence.{state_after, number_after}
use Rattle.unit.specs.declared.Half.{Half}
use Rattle.unit.specs.declared.Half.TheVariants as H
use Rattle.unit.specs.Unit.{Addressed, UnitSequence, goes_to_both, is_to, goes_to, is_for, time_in, own_events}
use Rattle.unit.specs.Kept.{Unit, is_squelched, source_of}
use Rattle.unit.specs.Sequence.{unit_after, half_after, half_number, telling_of, tellings, station_output, outputs}
use Rattle.unit.specs.Claims.{other_half, addressed_to, SentAlike, CommandOrNone, TwoCommands, DifferOnlyIn, begun, same, commands, SameOf}
use Rattle.unit.proofs.Halves.{with_own, number_with, own_following, half-after, half-number-with, minimum-after}
use Rattle.unit.proofs.Ticks.{state_as, number_as, twice-state, twice-number}

-- the runs are of one profile
same-profile : {half : Half} {one two : UnitSequence} → DifferOnlyIn half one two → profile_of one ≡ profile_of two
same-profile (begun profile) = refl
same-profile (same given to other alike earlier) = same-profile earlier
same-profile (commands first second two earlier) = same-profile earlier

-- ---- a command does not go to the other

not_to-other : (half : Half) → is_to half (other_half half) ≡ false
unfolding is_to
not_to-other H.Equipment = refl
not_to-other H.Station = refl

command_not_for : (half : Half) (addressed : Addressed) (earlier : UnitSequence) → addressed.to ≡ half
    → goes_to_both (limits_of (profile_of earlier)) addressed.given.event.kind ≡ false
    → is_for (other_half half) addressed earlier ≡ false
unfolding goes_to
command_not_for half addressed earlier to command = rw (command, to) (not_to-other half)

-- ---- one selector after one event more of the unit

-- by its state before
module _ (given : Given) (own other : Sequence) (same : state_after own ≡ state_after other) where
  with-state : (goes : Bool) → state_after (with_own goes given own) ≡ state_after (with_own goes given other)
  with-state true = state_as given _ _ (state_as (tick_at given.event.time) own other same)
  with-state false = state_as (tick_at given.event.time) own other same

  with_number : (goes : Bool) → number_with goes given own ≡ number_with goes given other
  with_number true = number_as given _ _ (state_as (tick_at given.event.time) own other same)
  with_number false = number_as (tick_at given.event.time) own other same

-- a tick that goes to it is the tick that it has of any event
module _ (own : Sequence) (time : ℕ) where
  ticked-state : (goes : Bool) → state_after (with_own goes (tick_at time) own) ≡ state_after (tick_at time following own)
  ticked-state true = twice-state own time
  ticked-state false = refl

  ticked-number : (goes : Bool) → number_with goes (tick_at time) own ≡ number_after (tick_at time) own
  ticked-number true = twice-number own time
  ticked-number false = refl

-- ---- one event more of two runs

-- an event goes to a selector in both runs, or in neither
pub goes-alike : (profile : Profile) (given : Given) (to other half : Half) → SentAlike profile given to other
    → goes_to (limits_of profile) given.event.kind to half ≡ goes_to (limits_of profile) given.event.kind other half
unfolding goes_to
goes-alike profile given to other half alike =
    by_bool (goes_to_both (limits_of profile) given.event.kind) (λ both. rw both) (λ command. rw (alike command))

-- the same event
module _ (half : Half) (given : Given) (to other : Half) (one two : UnitSequence)
    (alike : SentAlike (profile_of one) given to other) (profile : profile_of one ≡ profile_of two)
    (state : state_after (own_events half one) ≡ state_after (own_events half two)) where
  goes_same : is_for half (addressed_to to given) one ≡ is_for half (addressed_to other given) two
  goes_same =
      goes-alike (profile_of one) given to other half alike ∙
      ap (λ (start : Profile). goes_to (limits_of start) given.event.kind other half) profile

  state-same : state_after (own_events half (addressed_to to given following one)) ≡
      state_after (own_events half (addressed_to other given following two))
  state-same =
      ap state_after (own_following half (addressed_to to given) one) ∙
      with-state given _ _ state (is_for half (addressed_to to given) one) ∙
      ap (λ (goes : Bool). state_after (with_own goes given (own_events half two))) goes_same ∙
      sym (ap state_after (own_following half (addressed_to other given) two))

  number_same : (minimum : Quality)
      → half_number minimum half (addressed_to to given) one ≡ half_number minimum half (addressed_to other given) two
  number_same minimum =
      half-number-with minimum half (addressed_to to given) one ∙
      with_number given _ _ state (is_for half (addressed_to to given) one) ∙
      ap (λ (goes : Bool). number_with goes given (own_events half two)) goes_same ∙
      sym (half-number-with minimum half (addressed_to other given) two)

-- a command to one half, or none: the other has a tick
module _ (half : Half) (addressed : Addressed) (earlier : UnitSequence)
    (is : CommandOrNone half (profile_of earlier) addressed) where
  abbrev own : Sequence
  own = own_events (other_half half) earlier

  command-state : state_after (own_events (other_half half) (addressed following earlier)) ≡
      state_after (tick_at (time_in addressed) following own)
  command-state = ap state_after (own_following (other_half half) addressed earlier) ∙ go is
    where
      go : CommandOrNone half (profile_of earlier) addressed
          → state_after (with_own (is_for (other_half half) addressed earlier) addressed.given own) ≡
          state_after (tick_at (time_in addressed) following own)
      go (inl command) = rw (command_not_for half addressed earlier command.to command.command) refl
      go (inr tick) =
          ap (λ (given : Given). state_after (with_own (is_for (other_half half) addressed earlier) given own)) tick ∙
          ticked-state own (time_in addressed) (is_for (other_half half) addressed earlier)

  command-number : (minimum : Quality)
      → half_number minimum (other_half half) addressed earlier ≡ number_after (tick_at (time_in addressed)) own
  command-number minimum = half-number-with minimum (other_half half) addressed earlier ∙ go is
    where
      go : CommandOrNone half (profile_of earlier) addressed
          → number_with (is_for (other_half half) addressed earlier) addressed.given own ≡
          number_after (tick_at (time_in addressed)) own
      go (inl command) = rw (command_not_for half addressed earlier command.to command.command) refl
      go (inr tick) =
          ap (λ (given : Given). number_with (is_for (other_half half) addressed earlier) given own) tick ∙
          ticked-number own (time_in addressed) (is_for (other_half half) addressed earlier)

-- two of them, at one time
module _ (half : Half) (first second : Addressed) (one two : UnitSequence) (profile : profile_of one ≡ profile_of two)
    (pair : TwoCommands half (profile_of one) first second)
    (state : state_after (own_events (other_half half) one) ≡ state_after (own_events (other_half half) two)) where
  in_second : CommandOrNone half (profile_of two) second
  in_second = subst (λ (start : Profile). CommandOrNone half start second) profile pair.in_two

  state-commands : state_after (own_events (other_half half) (first following one)) ≡
      state_after (own_events (other_half half) (second following two))
  state-commands =
      command-state half first one pair.in_one ∙
      state_as (tick_at (time_in first)) _ _ state ∙
      ap (λ (time : ℕ). state_after (tick_at time following own_events (other_half half) two)) pair.times ∙
      sym (command-state half second two in_second)

  number-commands : (minimum : Quality)
      → half_number minimum (other_half half) first one ≡ half_number minimum (other_half half) second two
  number-commands minimum =
      command-number half first one pair.in_one minimum ∙
      number_as (tick_at (time_in first)) _ _ state ∙
      ap (λ (time : ℕ). number_after (tick_at time) (own_events (other_half half) two)) pair.times ∙
      sym (command-number half second two in_second minimum)

-- ---- the other, and what it tells

module _ (half : Half) where
  same-states : {one two : UnitSequence} → DifferOnlyIn half one two
      → state_after (own_events (other_half half) one) ≡ state_after (own_events (other_half half) two)
  unfolding own_events
  same-states (begun profile) = refl
  same-states (same {one} {two} given to other alike earlier) =
      state-same (other_half half) given to other one two alike (same-profile earlier) (same-states earlier)
  same-states (commands {one} {two} first second pair earlier) =
      state-commands half first second one two (same-profile earlier) pair (same-states earlier)

  module _ (minimum : Quality) where
    same-halves : {one two : UnitSequence} → DifferOnlyIn half one two
        → half_after minimum (other_half half) one ≡ half_after minimum (other_half half) two
    same-halves {one} {two} runs =
        half-after minimum one (other_half half) ∙ same-states runs ∙ sym (half-after minimum two (other_half half))

    same-tellings : {one two : UnitSequence} → DifferOnlyIn half one two
        → tellings minimum (other_half half) one ≡ tellings minimum (other_half half) two
    unfolding tellings
    same-tellings (begun profile) = refl
    same-tellings (same {one} {two} given to other alike earlier) = λ j.
        telling_of
        (number_same (other_half half) given to other one two alike (same-profile earlier) (same-states earlier) minimum j)
        (same-halves (same given to other alike earlier) j) ∷
        same-tellings earlier j
    same-tellings (commands {one} {two} first second pair earlier) = λ j.
        telling_of
        (number-commands half first second one two (same-profile earlier) pair (same-states earlier) minimum j)
        (same-halves (commands first second pair earlier) j) ∷
        same-tellings earlier j

-- ---- the output

-- by the station's selector and the minimum
pub output_as : (unit other : Unit) → unit.station ≡ other.station → unit.minimum ≡ other.minimum
    → station_output unit ≡ station_output other
unfolding is_squelched source_of
output_as unit other station minimum = λ j.
    station_output (record { equipment = unit.equipment; station = station j; minimum = minimum j })

-- commands to the equipment leave the output of the station
module _ (minimum : Quality) where
  one-output : {one two : UnitSequence} → DifferOnlyIn H.Equipment one two
      → station_output (unit_after minimum one) ≡ station_output (unit_after minimum two)
  one-output {one} {two} runs =
      output_as (unit_after minimum one) (unit_after minimum two) (same-halves H.Equipment minimum runs)
      (minimum-after minimum one ∙ sym (minimum-after minimum two))

  same-outputs : {one two : UnitSequence} → DifferOnlyIn H.Equipment one two → outputs minimum one ≡ outputs minimum two
  unfolding outputs
  same-outputs (begun profile) = refl
  same-outputs (same given to other alike earlier) = λ j.
      one-output (same given to other alike earlier) j ∷ same-outputs earlier j
  same-outputs (commands first second pair earlier) = λ j.
      one-output (commands first second pair earlier) j ∷ same-outputs earlier j

-- THE OTHER'S ANSWERS ARE EQUAL, in any two runs that differ only in the commands given to one selector.
pub independence : (minimum : Quality) (half : Half) (one two : UnitSequence) → DifferOnlyIn half one two
    → SameOf minimum (other_half half) one two
independence minimum half one two runs =
    record {
      state = same-halves half minimum runs;
      told = same-tellings half minimum runs;
      output = output half runs;
    }
  where
    output : (half : Half) → DifferOnlyIn half one two → other_half half ≡ H.Station
        → outputs minimum one ≡ outputs minimum two
    output H.Equipment runs is = same-outputs minimum runs
    output H.Station runs is = let z : ◌≡◌ {A = ℕ} 0 1 = cc in absurd (omega arith)
