-- No report says failed. Assumes nothing.
use Prim.Native.Nat.{ℕ}
use mathlib.Core.Bool.{Bool, true, false, ◌||◌, cond}
use mathlib.Core.List.{List, [], ◌∷◌}
use mathlib.Core.Path.{◌≡◌, refl}
use lib.Dec.{eqb}
use Rattle.numbers.specs.declared.profile.Profile.{Profile}
use Rattle.numbers.specs.declared.profile.Profile.TheVariants as P
use Rattle.numbers.specs.declared.quality.Quality.{Quality}
use Rattle.numbers.specs.Quality.{not_told, is_failed}
use Rattle.numbers.specs.Kind.{kind_frame, kind_line_code, kind_word}
use Rattle.numbers.specs.Codes.{Sign, codes_one, codes_two, words, said_by, quality_of_code, quality_of_word, said_in}

-- no row of a table tells failed
abbrev NoneFailed : List Sign → Type 0
NoneFailed [] = Unit {0}
NoneFailed (row ∷ rows) = (is_failed row.told ≡ false) × NoneFailed rows

-- what holds of both is so of either
cond_told : (test : Bool) (one other : Quality) → is_failed one ≡ false → is_failed other ≡ false
    → is_failed (cond test one other) ≡ false
cond_told true one other here there = here
cond_told false one other here there = there

table-told : (rows : List Sign) → NoneFailed rows → (sign : ℕ) → is_failed (said_by rows sign) ≡ false
unfolding said_by
table-told [] none sign = refl
table-told (row ∷ rows) none sign =
    cond_told (eqb sign row.sign) row.told (said_by rows sign) none.0 (table-told rows none.1 sign)

code-told : (profile : Profile) (code : ℕ) → is_failed (quality_of_code profile code) ≡ false
unfolding quality_of_code
code-told P.OptionOne code = table-told codes_one (refl, (refl, (refl, (refl, (refl, tt))))) code
code-told (P.OptionTwo provplace marks) code =
    table-told codes_two (refl, (refl, (refl, (refl, (refl, (refl, (refl, (refl, (refl, tt))))))))) code

word-told : (word : ℕ) → is_failed (quality_of_word word) ≡ false
unfolding quality_of_word
word-told word =
    table-told words (refl, (refl, (refl, (refl, (refl, (refl, (refl, (refl, (refl, (refl, tt)))))))))) word

pub said-told : (profile : Profile) (kind argument : ℕ) → is_failed (said_in profile kind argument) ≡ false
unfolding said_in
said-told profile kind argument =
    cond_told (eqb kind kind_line_code || eqb kind kind_frame) (quality_of_code profile argument) _
    (code-told profile argument)
    (cond_told (eqb kind kind_word) (quality_of_word argument) not_told (word-told argument) refl)
