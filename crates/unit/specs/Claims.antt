-- Document 02, L13: what holds of the unit after any sequence of events from a fresh start. Assumes nothing.
use Rattle.std.specs.Prelude.{ℕ, ◌≤◌, ◌<◌, true, false, cond, ◌⊎◌, ◌↔◌, ◌≢◌, ◌≡◌}
use Rattle.numbers.specs.declared.profile.Profile.{Profile}
use Rattle.numbers.specs.declared.quality.Quality.{Quality}
use Rattle.numbers.specs.From.{started, ◌following◌, profile_of}
use Rattle.numbers.specs.Kind.{is_known}
use Rattle.numbers.specs.Profile.{limits_of}
use Rattle.numbers.specs.Quality.{quality, prov}
use Rattle.numbers.specs.Refusal.{accepted, kind_unknown, time_too_large, time_before_state}
use Rattle.input.specs.Recorded.{mode_on}
use Rattle.choice.specs.Choice.{selected}
use Rattle.choice.specs.Rank.{rank_of}
use Rattle.selector.specs.declared.Selector.{Selector}
use Rattle.selector.specs.Clock.{no_input}
use Rattle.events.specs.Given.{Given, Sequence, tick_at}
use Rattle.events.specs.Sequence.{state_after}
use Rattle.events.specs.Past.{decided_by}
use Rattle.events.specs.Demand1.{Demand1, OneToThirteen, FourteenToSeventeen}
use Rattle.events.specs.Demand2.{Demand2}
use Rattle.events.specs.Demand3.{Demand3}
use Rattle.events.specs.Demand4.{Demand4}
use Rattle.events.specs.Manual.{ManualEligible}
use Rattle.events.specs.Usable.{NothingUsable}
use Rattle.unit.specs.declared.Half.{Half}
use Rattle.unit.specs.declared.Half.TheVariants as H
use Rattle.unit.specs.Unit.{Addressed, UnitSequence, goes_to_both, is_for, time_in, tick_first, own_events, own_past, own_number, own_tellings, time_number, unit_time, WorseThan, own_outputs}
use Rattle.unit.specs.Kept.{is_squelched, source_of}
use Rattle.unit.specs.Sequence.{unit_after, half_after, half_number, tellings, outputs}

-- ---- each half

-- the demands of a selector after a sequence of events
pub record Demands (sequence : Sequence) : Type 0 where
  pub demand1 : (given : Given) → Demand1 sequence given
  pub demand2 : Demand2 sequence
  pub demand3 : Demand3 sequence
  pub demand4 : (given : Given) → Demand4 sequence given
  -- L7
  pub manual : ManualEligible sequence

-- "It holds two selectors": each half is a selector after its own events, of which all demands hold
pub record HalfRight (minimum : Quality) (half : Half) (sequence : UnitSequence) : Type 0 where
  pub state : half_after minimum half sequence ≡ state_after (own_events half sequence)
  pub number : (addressed : Addressed) → half_number minimum half addressed sequence ≡ own_number half addressed sequence
  -- answers, codes and words after every event
  pub told : tellings minimum half sequence ≡ own_tellings half sequence
  pub demands : Demands (own_events half sequence)

-- ---- one time

-- a selector and an event that comes now
pub record OneTime (minimum : Quality) (half : Half) (addressed : Addressed) (earlier : UnitSequence) : Type 0 where
  -- "The unit keeps one time": either selector's is the unit's
  pub time : (half_after minimum half earlier).time ≡ unit_time earlier
  -- "reaches the other as a tick of that time": the number is a tick's, 3, 4 or 0
  pub other : is_for half addressed earlier ≡ false
      → half_number minimum half addressed earlier ≡ time_number (unit_time earlier) (time_in addressed)
  -- "and checks 3 and 4 against it": where the time does not pass, a known kind is 3 or 4; one that is unknown is 2
  pub refused : time_number (unit_time earlier) (time_in addressed) ≢ accepted → is_for half addressed earlier ≡ true
      → half_number minimum half addressed earlier ≡
      cond (is_known (limits_of (profile_of earlier)) addressed.given.event.kind)
      (time_number (unit_time earlier) (time_in addressed))
      kind_unknown
  -- and where it passes, neither is given
  pub passed : time_number (unit_time earlier) (time_in addressed) ≡ accepted
      → (half_number minimum half addressed earlier ≢ time_too_large) ×
      (half_number minimum half addressed earlier ≢ time_before_state)

-- ---- what refusals leave

-- what "that tick leaves" of a selector
abbrev pub tick_leaves : Half → Addressed → UnitSequence → Selector
tick_leaves half addressed earlier = state_after (tick_first addressed (own_events half earlier))

-- a selector and an event that comes now
pub record RefusalsLeave
    (minimum : Quality) (half : Half) (addressed : Addressed) (earlier : UnitSequence) : Type 0 where
  -- "so here refusals 2 and 5 to 13 leave what that tick leaves"
  pub ticked : OneToThirteen (half_number minimum half addressed earlier)
      → half_after minimum half (addressed following earlier) ≡ tick_leaves half addressed earlier
  -- and so do 14 to 17
  pub late : FourteenToSeventeen (half_number minimum half addressed earlier)
      → half_after minimum half (addressed following earlier) ≡ tick_leaves half addressed earlier
  -- 3 and 4 leave the unit, whichever selector gives them; so does 2 where the time does not pass
  pub kept : time_number (unit_time earlier) (time_in addressed) ≢ accepted
      → unit_after minimum (addressed following earlier) ≡ unit_after minimum earlier
  pub three : half_number minimum half addressed earlier ≡ time_too_large
      → unit_after minimum (addressed following earlier) ≡ unit_after minimum earlier
  pub four : half_number minimum half addressed earlier ≡ time_before_state
      → unit_after minimum (addressed following earlier) ≡ unit_after minimum earlier

-- ---- the station output

-- after a sequence of events, the empty one too
pub record OutputRight (minimum : Quality) (sequence : UnitSequence) : Type 0 where
  -- "squelches (AIS) with quality mode off when nothing usable is selected,
  pub off : mode_on (own_past H.Station sequence).history ≡ false
      → (is_squelched (unit_after minimum sequence) ≡ true) ↔ NothingUsable (own_past H.Station sequence)
  -- and with it on also when the selected input's passed quality is worse than a minimum"
  pub on : mode_on (own_past H.Station sequence).history ≡ true
      → (is_squelched (unit_after minimum sequence) ≡ true) ↔
      (NothingUsable (own_past H.Station sequence) ⊎ WorseThan minimum (own_past H.Station sequence))
  -- "Squelched, its source identifier is none;
  pub none : (source_of (unit_after minimum sequence) ≡ no_input) ↔ (is_squelched (unit_after minimum sequence) ≡ true)
  -- otherwise that of the selected input"
  pub source : is_squelched (unit_after minimum sequence) ≡ false
      → (decided_by (own_past H.Station sequence).made).selection ≡ selected (source_of (unit_after minimum sequence))
  -- after every event it is what has happened
  pub sent : outputs minimum sequence ≡ own_outputs minimum sequence

-- "worse than a minimum" of PROV: placed at a number, it is exactly if that is the minimum's or larger
pub record ProvWorse (provplace minimum : ℕ) : Type 0 where
  pub exact : 1 ≤ provplace → minimum ≤ 8
      → ((rank_of provplace (quality minimum)).0 < (rank_of provplace prov).0) ↔ (minimum ≤ provplace)

-- ---- two runs

-- the half that it is not
abbrev pub other_half : Half → Half
other_half H.Equipment = H.Station
other_half H.Station = H.Equipment

-- a command to one selector
pub record CommandTo (half : Half) (profile : Profile) (addressed : Addressed) : Type 0 where
  pub to : addressed.to ≡ half
  pub command : goes_to_both (limits_of profile) addressed.given.event.kind ≡ false

-- a command to one selector, or none in that run: "of equal length", a tick of that time stands in its place
abbrev pub CommandOrNone : Half → Profile → Addressed → Type 0
CommandOrNone half profile addressed = CommandTo half profile addressed ⊎ (addressed.given ≡ tick_at (time_in addressed))

-- what the two runs have of commands to one selector, at one time
pub record TwoCommands (half : Half) (profile : Profile) (one two : Addressed) : Type 0 where
  pub in_one : CommandOrNone half profile one
  pub in_two : CommandOrNone half profile two
  pub times : time_in one ≡ time_in two

-- an event with the selector that it is for where it is a command
abbrev pub addressed_to : Half → Given → Addressed
addressed_to to given = record { to = to; given = given }

-- one event is sent to one selector in both runs where it is a command; whichever is named where it goes to both
abbrev pub SentAlike : Profile → Given → Half → Half → Type 0
SentAlike profile given to other = goes_to_both (limits_of profile) given.event.kind ≡ false → to ≡ other

-- "two runs of equal length and times, differing only in the commands given to one selector"
pub data DifferOnlyIn (half : Half) : UnitSequence → UnitSequence → Type 0 where
  begun : (profile : Profile) → DifferOnlyIn half (started profile) (started profile)
  same : {one two : UnitSequence} (given : Given) (to other : Half) → SentAlike (profile_of one) given to other
      → DifferOnlyIn half one two
      → DifferOnlyIn half (addressed_to to given following one) (addressed_to other given following two)
  commands : {one two : UnitSequence} (first second : Addressed) → TwoCommands half (profile_of one) first second
      → DifferOnlyIn half one two
      → DifferOnlyIn half (first following one) (second following two)

-- "the other's answers are equal", after every event; so are its codes and words, the output of the station's, and the
-- whole selector
pub record SameOf (minimum : Quality) (half : Half) (one two : UnitSequence) : Type 0 where
  pub state : half_after minimum half one ≡ half_after minimum half two
  pub told : tellings minimum half one ≡ tellings minimum half two
  pub output : half ≡ H.Station → outputs minimum one ≡ outputs minimum two

-- ---- the numbers agree

-- an event that goes to both is answered with one number
pub record NumbersAgree (minimum : Quality) (addressed : Addressed) (earlier : UnitSequence) : Type 0 where
  pub agree : goes_to_both (limits_of (profile_of earlier)) addressed.given.event.kind ≡ true
      → half_number minimum H.Equipment addressed earlier ≡ half_number minimum H.Station addressed earlier
