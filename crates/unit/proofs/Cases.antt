-- Starts of a unit, computed, and by the minimum. Assumes nothing.
use mathlib.Core.Bool.{true}
use mathlib.Core.Path.{◌≡◌, refl}
use Rattle.numbers.specs.declared.profile.Profile.{Profile}
use Rattle.numbers.specs.declared.profile.Profile.TheVariants as P
use Rattle.numbers.specs.declared.quality.Quality.{Quality}
use Rattle.numbers.specs.Profile.{limits_of, profile_in, profile_with, start_number}
use Rattle.numbers.specs.Quality.{prc}
use Rattle.numbers.proofs.Truth.{by_bool}
use Rattle.unit.specs.Unit.{is_minimum, unit_start_number}
use Rattle.unit.specs.Kept.{started_unit}
use Rattle.unit.specs.Cases.{Starts, UnitFreshRight}

-- WHICH STARTS ARE REFUSED.
pub starts : Starts
unfolding unit_start_number limits_of profile_in profile_with start_number
starts =
    record {
      none = refl;
      first = refl;
      last = refl;
      above = refl;
      none_two = refl;
      first_two = refl;
      last_two = refl;
      above_two = refl;
      provplace = refl;
      both = refl;
    }

-- the best quality is in either option's range
best-within : (profile : Profile) → is_minimum profile prc ≡ true
unfolding limits_of
best-within P.OptionOne = refl
best-within (P.OptionTwo provplace marks) = refl

-- L13: a minimum out of range is refused with 6, and no unit has one.
pub unit-fresh-right : (profile : Profile) (minimum : Quality) → UnitFreshRight profile minimum
unfolding started_unit
unit-fresh-right profile minimum =
    record {
      starts = λ in-range. rw in-range;
      unit = λ in-range. rw in-range;
      refused = λ out. rw out;
      within =
          by_bool (is_minimum profile minimum)
          (λ in-range. rw (in-range, in-range))
          (λ out. rw (out, best-within profile));
    }
