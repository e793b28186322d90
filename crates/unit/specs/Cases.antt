-- Document 02, L13: "a minimum set at the start (1 to 4, option II 1 to 8, otherwise 6 and no start)", computed; a
-- place of PROV above 8 is 6 as well. And that no start gives a unit whose minimum is out of range. Assumes nothing.
use Rattle.std.specs.Prelude.{true, false, ◌≡◌}
use Rattle.numbers.specs.declared.profile.Profile.{Profile}
use Rattle.numbers.specs.declared.quality.Quality.{Quality}
use Rattle.numbers.specs.Profile.{option_one, option_two}
use Rattle.numbers.specs.Quality.{quality}
use Rattle.numbers.specs.Refusal.{accepted, argument_out_of_range}
use Rattle.unit.specs.Unit.{is_minimum, unit_start_number}
use Rattle.unit.specs.Kept.{fresh_unit, started_unit}

-- the first and the last that start, and those beside them
pub record Starts : Type 0 where
  pub none : unit_start_number option_one 0 (quality 0) ≡ argument_out_of_range
  pub first : unit_start_number option_one 0 (quality 1) ≡ accepted
  pub last : unit_start_number option_one 0 (quality 4) ≡ accepted
  pub above : unit_start_number option_one 0 (quality 5) ≡ argument_out_of_range
  pub none_two : unit_start_number option_two 0 (quality 0) ≡ argument_out_of_range
  pub first_two : unit_start_number option_two 0 (quality 1) ≡ accepted
  pub last_two : unit_start_number option_two 8 (quality 8) ≡ accepted
  pub above_two : unit_start_number option_two 0 (quality 9) ≡ argument_out_of_range
  pub provplace : unit_start_number option_two 9 (quality 4) ≡ argument_out_of_range
  pub both : unit_start_number option_two 9 (quality 9) ≡ argument_out_of_range

-- "a minimum set at the start (1 to 4, option II 1 to 8, otherwise 6 and no start)", of a unit that is kept by value
pub record UnitFreshRight (profile : Profile) (minimum : Quality) : Type 0 where
  pub starts : is_minimum profile minimum ≡ true → (started_unit profile minimum).number ≡ accepted
  pub unit : is_minimum profile minimum ≡ true → (started_unit profile minimum).unit ≡ fresh_unit profile minimum
  pub refused : is_minimum profile minimum ≡ false → (started_unit profile minimum).number ≡ argument_out_of_range
  -- started or not, no unit has a minimum out of range
  pub within : is_minimum profile (started_unit profile minimum).unit.minimum ≡ true
