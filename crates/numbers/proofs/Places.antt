-- Places of PROV: no profile has one above 8. Assumes nothing.
use Prim.Native.Nat.{ℕ, zero, suc, ◌≤◌, ◌<◌}
use mathlib.Core.Path.{◌≡◌, refl}
use native.Mathlib.Omega.{arith}
use borrow.Author.Tests.{ne_eqb}
use Rattle.numbers.specs.declared.profile.ProvPlace.{ProvPlace}
use Rattle.numbers.specs.declared.profile.ProvPlace.TheVariants as L
use Rattle.numbers.specs.declared.profile.Profile.{Profile}
use Rattle.numbers.specs.declared.profile.Profile.TheVariants as P
use Rattle.numbers.specs.Profile.{prov_place_in, number_of_prov_place, prov_place_of, last_prov_place, unplaced, ProvPlacesRight}

number-within : (provplace : ProvPlace) → number_of_prov_place provplace ≤ last_prov_place
unfolding number_of_prov_place
number-within L.Unplaced = omega arith
number-within L.Below1 = omega arith
number-within L.Below2 = omega arith
number-within L.Below3 = omega arith
number-within L.Below4 = omega arith
number-within L.Below5 = omega arith
number-within L.Below6 = omega arith
number-within L.Below7 = omega arith
number-within L.Below8 = omega arith

-- the number of a profile's place is at most 8
pub provplace-within : (profile : Profile) → prov_place_of profile ≤ last_prov_place
unfolding prov_place_of
provplace-within P.OptionOne = omega arith
provplace-within (P.OptionTwo provplace marks) = number-within provplace

-- a place is read back from its number
pub provplace-read : (provplace : ProvPlace) → prov_place_in (number_of_prov_place provplace) ≡ provplace
unfolding prov_place_in number_of_prov_place
provplace-read L.Unplaced = refl
provplace-read L.Below1 = refl
provplace-read L.Below2 = refl
provplace-read L.Below3 = refl
provplace-read L.Below4 = refl
provplace-read L.Below5 = refl
provplace-read L.Below6 = refl
provplace-read L.Below7 = refl
provplace-read L.Below8 = refl

-- a number up to 8 is that of the place which it says
pub provplace-kept : (number : ℕ) → number ≤ last_prov_place → number_of_prov_place (prov_place_in number) ≡ number
unfolding prov_place_in number_of_prov_place
provplace-kept zero within = refl
provplace-kept (suc zero) within = refl
provplace-kept (suc (suc zero)) within = refl
provplace-kept (suc (suc (suc zero))) within = refl
provplace-kept (suc (suc (suc (suc zero)))) within = refl
provplace-kept (suc (suc (suc (suc (suc zero))))) within = refl
provplace-kept (suc (suc (suc (suc (suc (suc zero)))))) within = refl
provplace-kept (suc (suc (suc (suc (suc (suc (suc zero))))))) within = refl
provplace-kept (suc (suc (suc (suc (suc (suc (suc (suc zero)))))))) within = refl
provplace-kept (suc (suc (suc (suc (suc (suc (suc (suc (suc number))))))))) within = absurd (omega arith)

-- a number above 8 says none
pub provplace-none : (number : ℕ) → last_prov_place < number → prov_place_in number ≡ unplaced
unfolding prov_place_in
provplace-none number above =
    rw (
      ne_eqb number 1 (λ e. omega (arith, e)),
      ne_eqb number 2 (λ e. omega (arith, e)),
      ne_eqb number 3 (λ e. omega (arith, e)),
      ne_eqb number 4 (λ e. omega (arith, e)),
      ne_eqb number 5 (λ e. omega (arith, e)),
      ne_eqb number 6 (λ e. omega (arith, e)),
      ne_eqb number 7 (λ e. omega (arith, e)),
      ne_eqb number 8 (λ e. omega (arith, e)),
    )

-- L10: "(0 none, 1 to 8; otherwise refusal 6 and no start)", of the type itself
pub prov-places-right : ProvPlacesRight
prov-places-right =
    record { within = provplace-within; read = provplace-read; kept = provplace-kept; none = provplace-none }
