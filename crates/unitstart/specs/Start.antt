-- OPTION PLACE MARKS MINIMUM: document 02, L13, and the paper of its readings, "Programs". `start_in` of crate `start`
-- has `2 PLACE MARKS`. Cited by `src/lib.rt`. Assumes nothing.
use Rattle.std.specs.Prelude.{ℕ, true, cond, Result, Ok, Err, List, ◌≡◌, eqb}
use Rattle.numbers.specs.declared.profile.Profile.{Profile}
use Rattle.numbers.specs.declared.profile.Profile.TheVariants as P
use Rattle.numbers.specs.declared.quality.Quality.{Quality}
use Rattle.numbers.specs.Quality.{quality}
use Rattle.digits.specs.Decimal.{decimal_value}
use Rattle.start.specs.declared.Start.{Start}
use Rattle.start.specs.declared.StartError.{StartError}
use Rattle.start.specs.declared.StartError.TheVariants.{Refused, NoStart}
use Rattle.start.specs.Start.{is_option_word, is_decimal, start_in}
use Rattle.unit.specs.Unit.{is_minimum}
use Rattle.unitstart.specs.declared.UnitStart.{UnitStart}

-- the numeral of option I
abbrev pub numeral1 : ℕ
numeral1 = 49

-- a start of a profile with a minimum: "A refused start prints `06` and nothing else."
abbrev pub unit_start_of : Profile → Quality → Result UnitStart StartError
unit_start_of profile minimum =
    cond (is_minimum profile minimum) (Ok (record { profile = profile; minimum = minimum })) (Err Refused)

-- a start of option II, by what START's words `2 PLACE MARKS` say
abbrev pub unit_start_two : Result Start StartError → Quality → Result UnitStart StartError
unit_start_two (Ok start) minimum = unit_start_of (P.OptionTwo start.provplace start.marks) minimum
unit_start_two (Err error) minimum = Err error

-- "OPTION PLACE MARKS MINIMUM": four words; a minimum may be a number of any size; in option I "what is lent" for place
-- and marks "isn't looked at"
abbrev pub unit_start_in : List ℕ → List ℕ → List ℕ → List ℕ → Result UnitStart StartError
unit_start_in option provplace marks minimum =
    let least = quality (decimal_value 0 minimum) in
    cond (is_decimal minimum)
    (cond (is_option_word numeral1 option) (unit_start_of P.OptionOne least)
    (unit_start_two (start_in option provplace marks) least))
    (Err NoStart)

-- so many arguments, the program's name before the four words
unfoldable pub unit_start_by : ℕ → List ℕ → List ℕ → List ℕ → List ℕ → Result UnitStart StartError
unit_start_by count option provplace marks minimum =
    cond (eqb count 5) (unit_start_in option provplace marks minimum) (Err NoStart)

-- what was read is what some words say
pub record UnitStartReadRight (start : Result UnitStart StartError) : Type 0 where
  pub count : ℕ
  pub option : List ℕ
  pub provplace : List ℕ
  pub marks : List ℕ
  pub minimum : List ℕ
  pub is : start ≡ unit_start_by count option provplace marks minimum

-- what words start is started: the minimum is one that a unit of the profile takes
pub record WordsStart (count : ℕ) (option provplace marks minimum : List ℕ) : Type 0 where
  pub taken : (start : UnitStart) → unit_start_by count option provplace marks minimum ≡ Ok start
      → is_minimum start.profile start.minimum ≡ true
