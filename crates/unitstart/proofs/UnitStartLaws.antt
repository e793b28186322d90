-- Laws of the start of a unit, way by way. Assumes nothing.
use Prim.Native.Nat.{ℕ, ◌≤◌, ◌<◌}
use mathlib.Core.Bool.{Bool, true, false, not}
use mathlib.Core.List.{List}
use mathlib.Core.Path.{◌≡◌, refl, sym, ap, ◌∙◌}
use native.Mathlib.Omega.{arith}
use lib.Dec.{eqb}
use borrow.Author.Tests.{eq-eqb, ne_eqb, lt-leb, le-leb, not-true, not-false}
use Rattle.numbers.specs.declared.profile.ProvPlace.{ProvPlace}
use Rattle.numbers.specs.declared.profile.Profile.{Profile}
use Rattle.numbers.specs.declared.profile.Profile.TheVariants as P
use Rattle.numbers.specs.declared.quality.Quality.{Quality}
use Rattle.numbers.specs.Profile.{limits_of}
use Rattle.numbers.specs.Quality.{quality}
use Rattle.numbers.proofs.Truth.{by_bool}
use Rattle.digits.specs.Decimal.{decimal_value}
use Rattle.std.specs.Prelude.{None, Some, Result, Ok, Err}
use Rattle.text.specs.Text.{read_number}
use Rattle.start.specs.declared.Start.{Start}
use Rattle.start.specs.declared.StartError.{StartError}
use Rattle.start.specs.declared.StartError.TheVariants.{Refused}
use Rattle.start.specs.Start.{is_option_word, is_decimal, start_in}
use Rattle.start.proofs.StartLaws.{number-above, place_is}
use Rattle.unit.specs.Unit.{is_minimum}
use Rattle.unitstart.specs.declared.UnitStart.{UnitStart}
use Rattle.unitstart.specs.Start.{numeral1, unit_start_of, unit_start_two, unit_start_in, unit_start_by, WordsStart}

-- ---- unit_start_of

-- no floor is above 255
floor_below : (profile : Profile) → (limits_of profile).floor ≤ 255
unfolding limits_of
floor_below P.OptionOne = omega arith
floor_below (P.OptionTwo provplace marks) = omega arith

-- a minimum above 255 is out of range
minimum-above : (profile : Profile) (value : ℕ) → 255 < value → Err Refused ≡ unit_start_of profile (quality value)
minimum-above profile value above =
    rw (
      le-leb 1 value (omega arith),
      lt-leb value (limits_of profile).floor (omega (arith, floor_below profile)),
    )

module _ (profile : Profile) (minimum : List ℕ) (decimal : is_decimal minimum ≡ true) where
  pub with-above : None ≡ read_number minimum 255 → Err Refused ≡ unit_start_of profile (quality (decimal_value 0 minimum))
  with-above none = minimum-above profile (decimal_value 0 minimum) (number-above minimum 0 255 decimal none)

  pub with_number : (start : Result UnitStart StartError) (number : ℕ) → Some number ≡ read_number minimum 255
      → start ≡ unit_start_of profile (quality number)
      → start ≡ unit_start_of profile (quality (decimal_value 0 minimum))
  with_number start number reads is =
      is ∙ ap (λ (value : ℕ). unit_start_of profile (quality value)) (place_is minimum 0 255 decimal number reads)

-- ---- what words start

-- a start has a minimum in range
abbrev in_range : Result UnitStart StartError → Bool
in_range (Ok start) = is_minimum start.profile start.minimum
in_range (Err error) = true

of_ranged : (profile : Profile) (minimum : Quality) → in_range (unit_start_of profile minimum) ≡ true
of_ranged profile minimum = by_bool (is_minimum profile minimum) (λ taken. rw (taken, taken)) (λ left. rw left)

two_ranged : (start : Result Start StartError) (minimum : Quality) → in_range (unit_start_two start minimum) ≡ true
two_ranged (Ok start) minimum = of_ranged (P.OptionTwo start.provplace start.marks) minimum
two_ranged (Err error) minimum = refl

module _ (count : ℕ) (option provplace marks minimum : List ℕ) where
  in_ranged : in_range (unit_start_in option provplace marks minimum) ≡ true
  in_ranged =
      let least = quality (decimal_value 0 minimum) in
      by_bool (is_decimal minimum)
      (λ decimal.
      by_bool (is_option_word numeral1 option)
      (λ one. rw (decimal, one) (of_ranged P.OptionOne least))
      (λ two. rw (decimal, two) (two_ranged (start_in option provplace marks) least)))
      (λ none. rw none)

  by_ranged : in_range (unit_start_by count option provplace marks minimum) ≡ true
  unfolding unit_start_by
  by_ranged = by_bool (eqb count 5) (λ five. rw five in_ranged) (λ other. rw other)

  -- L13: the unit refuses no start that its words have been read as.
  pub words_start : WordsStart count option provplace marks minimum
  words_start = record { taken = λ start is. sym (ap in_range is) ∙ by_ranged }
