-- Document 02, L14, of the station clock unit: "where an input has priority 0 throughout in both selectors".
-- Assumes nothing.
use Rattle.std.specs.Prelude.{ℕ, List, [], ◌∷◌, ◌≡◌}
use Rattle.numbers.specs.declared.profile.Profile.{Profile}
use Rattle.numbers.specs.declared.quality.Quality.{Quality}
use Rattle.numbers.specs.From.{started, ◌following◌, profile_of}
use Rattle.numbers.specs.Profile.{limits_of}
use Rattle.numbers.specs.Refusal.{accepted}
use Rattle.input.specs.Recorded.{priority_of}
use Rattle.switch.specs.declared.Switch.{Switch}
use Rattle.events.specs.Given.{Given}
use Rattle.unit.specs.declared.Half.{Half}
use Rattle.unit.specs.Unit.{Addressed, UnitSequence, time_in, own_past, own_number}
use Rattle.unit.specs.Sequence.{half_after, tellings, outputs}
use Rattle.unit.specs.Claims.{addressed_to, SentAlike}
use Rattle.undertest.specs.UnderTest.{OnLine}

-- two reports on that input, which go to both selectors, each after a sequence of its own: "each pair at the same time
-- and accepted in both", by both selectors; they may be of two kinds. Or a command of which nothing shows, which the
-- other selector has as a tick, or a tick, as of one selector
pub record UnitPair
    (input : ℕ) (one : Addressed) (earlier : UnitSequence) (other : Addressed) (otherEarlier : UnitSequence)
    : Type 0 where
  pub in_one : OnLine (limits_of (profile_of earlier)) input one.given
  pub in_other : OnLine (limits_of (profile_of otherEarlier)) input other.given
  pub time : time_in one ≡ time_in other
  pub number : (half : Half) → own_number half one earlier ≡ accepted
  pub other_number : (half : Half) → own_number half other otherEarlier ≡ accepted

-- "two event sequences of the same length .., equal but for signal, code, word and frame events on that input"
pub data UnitsEqualButFor (input : ℕ) : UnitSequence → UnitSequence → Type 0 where
  -- both start fresh, with one profile
  begun : (profile : Profile) → UnitsEqualButFor input (started profile) (started profile)
  -- the same event follows in both, to the same selector where it is a command
  equal : (given : Given) (to other : Half) (earlier otherEarlier : UnitSequence)
      → SentAlike (profile_of earlier) given to other
      → UnitsEqualButFor input earlier otherEarlier
      → UnitsEqualButFor input (addressed_to to given following earlier) (addressed_to other given following otherEarlier)
  -- a pair follows
  paired : (one other : Addressed) (earlier otherEarlier : UnitSequence)
      → UnitPair input one earlier other otherEarlier
      → UnitsEqualButFor input earlier otherEarlier
      → UnitsEqualButFor input (one following earlier) (other following otherEarlier)

-- "an input has priority 0 throughout in both selectors": after every event of the unit, by what each has recorded
abbrev pub OffInBoth : ℕ → UnitSequence → Type 0
OffInBoth input (started profile) = Unit {0}
OffInBoth input (addressed following earlier) =
    ((half : Half) → priority_of input (own_past half (addressed following earlier)).history ≡ 0) ×
    OffInBoth input earlier

-- one selector's switch after each event, the latest first
unfoldable pub switches : Quality → Half → UnitSequence → List Switch
switches minimum half (started profile) = []
switches minimum half (addressed following earlier) =
    (half_after minimum half (addressed following earlier)).switch ∷ switches minimum half earlier

-- "Then all answer lines, both selectors' switches and all sixteen outgoing codes are equal after every event"; the
-- words of option II too, and what the station output sends
pub record NothingShowsOfUnit (minimum : Quality) (one other : UnitSequence) : Type 0 where
  -- each selector's answer line, codes and words
  pub told : (half : Half) → tellings minimum half one ≡ tellings minimum half other
  pub switched : (half : Half) → switches minimum half one ≡ switches minimum half other
  -- squelch and source
  pub sent : outputs minimum one ≡ outputs minimum other
