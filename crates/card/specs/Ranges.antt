-- The numbers that the header gives for what C reads of codes and qualities. What C may index by is in `Range`. Not
-- cited by the code. Assumes nothing.
use Rattle.std.specs.Prelude.{ℕ, ◌≤◌, true, false, List, ◌≡◌, get_or}
use Rattle.numbers.specs.declared.profile.Profile.{Profile}
use Rattle.numbers.specs.declared.profile.Profile.TheVariants as P
use Rattle.numbers.specs.From.{profile_of}
use Rattle.numbers.specs.Inputs.{last_input}
use Rattle.frame.specs.Write.{largest_code}
use Rattle.input.specs.Recorded.{mode_on}
use Rattle.events.specs.Given.{Sequence}
use Rattle.events.specs.Past.{recorded}
use Rattle.selector.specs.declared.Selector.{Selector}
use Rattle.selector.specs.Answer.{outgoing_codes}
use Rattle.card.specs.Known.{input_known}
use Rattle.card.specs.Calls.{lent_after}

-- "each 0 to 15": the codes of the ports, whatever is held
abbrev pub AnyCodes : Selector → Type 0
AnyCodes state = (port : ℕ) → get_or (outgoing_codes state) port 0 ≤ largest_code

-- the last clock quality: SEC; in option II PROV
unfoldable pub last_clock_quality : Profile → ℕ
last_clock_quality P.OptionOne = 4
last_clock_quality (P.OptionTwo provplace marks) = 9

-- `clock_quality` after calls in a row: "1 to 4, in option II 1 to 9; 0 with quality mode off"
pub record ClockQualityRanged (sequence : Sequence) : Type 0 where
  pub off : mode_on (recorded sequence) ≡ false → (lent_after sequence).answer.clockquality ≡ 0
  pub least : mode_on (recorded sequence) ≡ true → 1 ≤ (lent_after sequence).answer.clockquality
  pub most : (lent_after sequence).answer.clockquality ≤ last_clock_quality (profile_of sequence)

-- the last number of a quality on paper, which is failed
unfoldable pub last_quality : Profile → ℕ
last_quality P.OptionOne = 7
last_quality (P.OptionTwo provplace marks) = 12

-- of what is known of an input as C reads it
abbrev pub raw_in : List ℕ → ℕ
raw_in known = get_or known 1 0

abbrev pub passed_in : List ℕ → ℕ
passed_in known = get_or known 2 0

-- `raw` and `passed` of an input after calls in a row: "0 to 7, in option II 0 to 12"
pub record QualitiesRanged (sequence : Sequence) (input : ℕ) : Type 0 where
  pub raw : input ≤ last_input → raw_in (input_known (lent_after sequence).state input) ≤ last_quality (profile_of sequence)
  pub passed : input ≤ last_input → passed_in (input_known (lent_after sequence).state input) ≤ last_quality (profile_of sequence)
