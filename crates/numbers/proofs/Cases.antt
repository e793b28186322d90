-- The tables of codes and words, by computation. Assumes nothing.
use Prim.Native.Nat.{ℕ}
use mathlib.Core.Path.{refl}
use Rattle.numbers.specs.declared.profile.ProvPlace.{ProvPlace}
use Rattle.numbers.specs.Profile.{told_by, number_in_one, paper_number}
use Rattle.numbers.specs.Codes.{said_by, sign_of, quality_of_code, code_of_quality, quality_of_word, word_of_quality}
use Rattle.numbers.specs.Cases.{CodeTable, CodeTableTwo, WordTable}

-- all sixteen codes read right, 0000 as 6, and the five qualities read back
pub code_table_holds : CodeTable
unfolding paper_number number_in_one quality_of_code code_of_quality said_by sign_of
code_table_holds = record { read = refl; back = refl }

-- all sixteen codes read right in option II, 0000 as STU, and all qualities but ST4 read back
pub code_table_two_holds : (provplace : ProvPlace) (marks : ℕ) → CodeTableTwo provplace marks
unfolding quality_of_code code_of_quality said_by sign_of told_by
code_table_two_holds provplace marks = record { read = refl; back = refl; marked = refl }

-- all ten words are written as listed, and read back
pub word_table_holds : WordTable
unfolding quality_of_word word_of_quality said_by sign_of told_by
word_table_holds = record { written = refl; marked = refl; back = refl }
