-- Document 02, L10: "A profile chosen once, at the fresh start". What the two options differ in, a row each.
-- Cited by `src/lib.rt`. Assumes nothing.
use Rattle.std.specs.Prelude.{ℕ, zero, suc, ◌/◌, ◌%◌, ◌≤◌, ◌<◌, Bool, true, false, ◌&&◌, ◌||◌, cond, ◌≡◌, eqb, ltb}
use Rattle.numbers.specs.declared.quality.Quality.{Quality}
use Rattle.numbers.specs.declared.profile.Limits.{Limits}
use Rattle.numbers.specs.declared.profile.ProvPlace.{ProvPlace}
use Rattle.numbers.specs.declared.profile.ProvPlace.TheVariants.{Unplaced, Below1, Below2, Below3, Below4, Below5, Below6, Below7, Below8}
use Rattle.numbers.specs.declared.profile.Profile.{Profile}
use Rattle.numbers.specs.declared.profile.Profile.TheVariants as P
use Rattle.numbers.specs.Refusal.{accepted, argument_out_of_range}
use Rattle.numbers.specs.Quality.{sec, tnc, st3e, st3, invalid, failed}

-- the options, as a line's byte and C number them: "01"
abbrev pub option_one : ℕ
option_one = 1

-- "or 02"
abbrev pub option_two : ℕ
option_two = 2

-- "the place of PROV (0 none": and L11's "PROV unplaced"
abbrev pub unplaced : ProvPlace
unplaced = Unplaced

-- "just below one of 1 to 8": the place of each of these numbers; any other says none
unfoldable pub prov_place_in : ℕ → ProvPlace
prov_place_in number =
    cond (eqb number 1) Below1
    (cond (eqb number 2) Below2
    (cond (eqb number 3) Below3
    (cond (eqb number 4) Below4
    (cond (eqb number 5) Below5
    (cond (eqb number 6) Below6
    (cond (eqb number 7) Below7
    (cond (eqb number 8) Below8
    Unplaced)))))))

-- the number of a place
unfoldable pub number_of_prov_place : ProvPlace → ℕ
number_of_prov_place Unplaced = 0
number_of_prov_place Below1 = 1
number_of_prov_place Below2 = 2
number_of_prov_place Below3 = 3
number_of_prov_place Below4 = 4
number_of_prov_place Below5 = 5
number_of_prov_place Below6 = 6
number_of_prov_place Below7 = 7
number_of_prov_place Below8 = 8

-- the profile of an option's number: "Those marks and the place of PROV .. are given with the profile"; any number
-- but 2 is option I
unfoldable pub profile_with : ℕ → ProvPlace → ℕ → Profile
profile_with option provplace marks = cond (eqb option option_two) (P.OptionTwo provplace marks) P.OptionOne

-- the same, of a place's number
unfoldable pub profile_in : ℕ → ℕ → ℕ → Profile
profile_in option provplace marks = profile_with option (prov_place_in provplace) marks

-- the number of a profile's option
unfoldable pub option_of : Profile → ℕ
option_of P.OptionOne = option_one
option_of (P.OptionTwo provplace marks) = option_two

-- the numbers of an option: the last fixed quality and the last floor, the last kind of input, whether words come, and
-- what a clock by itself tells, which is also an input's fresh floor
unfoldable pub limits_of : Profile → Limits
-- "fixed quality 1 to 5", "a floor 1 to 4, fresh value 4", "0 line, 1 Ethernet", "otherwise 4"
limits_of P.OptionOne = record { fixed = 5; floor = 4; input = 1; words = false; freerunning = sec }
-- "fixed quality runs 1 to 10", "Floors run 1 to 8, fresh value 6", "argument 2 of event kind 10", "tell 6"
limits_of (P.OptionTwo provplace marks) = record { fixed = 10; floor = 8; input = 2; words = true; freerunning = st3 }

-- "the place of PROV (0 none, 1 to 8 ..)", by its number; option I has none
unfoldable pub prov_place_of : Profile → ℕ
prov_place_of P.OptionOne = 0
prov_place_of (P.OptionTwo provplace marks) = number_of_prov_place provplace

-- the last place
abbrev pub last_prov_place : ℕ
last_prov_place = 8

-- "(0 none, 1 to 8; otherwise refusal 6 and no start)": the number that a start with an option's number and a place's
-- is answered with; of option I it is 0
unfoldable pub start_number : ℕ → ℕ → ℕ
start_number option provplace = cond (eqb option option_two && ltb last_prov_place provplace) argument_out_of_range accepted

-- "1 to 8": no profile has another place, and each of these numbers is read as its own place
pub record ProvPlacesRight : Type 0 where
  pub within : (profile : Profile) → prov_place_of profile ≤ last_prov_place
  pub read : (provplace : ProvPlace) → prov_place_in (number_of_prov_place provplace) ≡ provplace
  pub kept : (number : ℕ) → number ≤ last_prov_place → number_of_prov_place (prov_place_in number) ≡ number
  pub none : (number : ℕ) → last_prov_place < number → prov_place_in number ≡ unplaced

-- the ports "marked first generation", bit i for port i; option I has none
unfoldable pub marks_of : Profile → ℕ
marks_of P.OptionOne = 0
marks_of (P.OptionTwo provplace marks) = marks

-- a number halved so many times, without the rest
unfoldable pub halved : ℕ → ℕ → ℕ
halved zero number = number
halved (suc count) number = halved count number / 2

-- a port is marked: its bit is 1
abbrev pub is_marked : ℕ → ℕ → Bool
is_marked marks port = eqb (halved port marks % 2) 1

-- an input's floor: as set, or fresh, "fresh value 4", "fresh value 6"
unfoldable pub floor_in : Quality → ℕ → ℕ
floor_in own floor = cond (eqb floor 0) own.0 floor

-- "A port marked first generation sends TNC and ST3E as" it sends ST3: 1010, and 10FF
unfoldable pub told_by : Bool → Quality → Quality
told_by marked told = cond (marked && (eqb told.0 tnc.0 || eqb told.0 st3e.0)) st3 told

-- a quality's number in document 01: 6 for invalid, 7 for failed
unfoldable pub number_in_one : Quality → ℕ
number_in_one told =
    cond (eqb told.0 invalid.0) 6
    (cond (eqb told.0 failed.0) 7
    told.0)

-- a quality's number on paper
unfoldable pub paper_number : Profile → Quality → ℕ
paper_number P.OptionOne told = number_in_one told
paper_number (P.OptionTwo provplace marks) told = told.0
