-- Documents 01 ("Qualities and codes") and 02 (L10, L12): the tables of codes and of words, each once, read both ways.
-- Cited by `src/lib.rt`. Assumes nothing.
use Rattle.std.specs.Prelude.{ℕ, ◌||◌, cond, List, [], ◌∷◌, eqb}
use Rattle.numbers.specs.declared.quality.Quality.{Quality}
use Rattle.numbers.specs.declared.profile.Profile.{Profile}
use Rattle.numbers.specs.declared.profile.Profile.TheVariants as P
use Rattle.numbers.specs.Quality.{prc, ssu_a, ssu_b, sec, dnu, prs, stu, st2, tnc, st3e, st3, sic, st4, prov, dus, not_told, invalid}
use Rattle.numbers.specs.Kind.{kind_frame, kind_line_code, kind_word}

-- a row: a quality, and the code or the word that says it
pub record Sign : Type 0 where
  pub told : Quality
  pub sign : ℕ

abbrev pub code_row : Quality → ℕ → Sign
code_row told sign = record { told = told; sign = sign }

-- a table read from right to left; what it does not have is invalid
unfoldable pub said_by : List Sign → ℕ → Quality
said_by [] sign = invalid
said_by (one ∷ rows) sign = cond (eqb sign one.sign) one.told (said_by rows sign)

-- a table read from left to right; `other` for a quality with no row
unfoldable pub sign_of : List Sign → ℕ → Quality → ℕ
sign_of [] other told = other
sign_of (one ∷ rows) other told = cond (eqb told.0 one.told.0) one.sign (sign_of rows other told)

-- 1111: DNU, DUS, and ST4, which has "no line code"
abbrev pub code_dnu : ℕ
code_dnu = 0b1111

-- 0010: PRC
abbrev pub code_prc : ℕ
code_prc = 0b0010

-- document 01's table
abbrev pub codes_one : List Sign
codes_one =
    code_row prc code_prc ∷ code_row ssu_a 0b0100 ∷ code_row ssu_b 0b1000 ∷ code_row sec 0b1011 ∷ code_row dnu code_dnu ∷ []

-- "1 PRS 0001, 2 STU 0000, 3 ST2 0111, 4 TNC 0100, 5 ST3E 1101, 6 ST3 1010, 7 SIC 1100, .. 9 PROV 1110, 10 DUS 1111"
abbrev pub codes_two : List Sign
codes_two =
    code_row prs 0b0001 ∷ code_row stu 0b0000 ∷ code_row st2 0b0111 ∷ code_row tnc 0b0100 ∷ code_row st3e 0b1101
    ∷ code_row st3 0b1010 ∷
    code_row sic 0b1100 ∷ code_row prov 0b1110 ∷ code_row dus code_dnu ∷ []

abbrev pub codes_of : Profile → List Sign
codes_of P.OptionOne = codes_one
codes_of (P.OptionTwo provplace marks) = codes_two

abbrev pub word_stu : ℕ
word_stu = 0x08ff

abbrev pub word_dus : ℕ
word_dus = 0x30ff

-- "04FF PRS, 08FF STU, 0CFF ST2, 78FF TNC, 7CFF ST3E, 10FF ST3, 22FF SIC, 28FF ST4, 40FF PROV, 30FF DUS"
abbrev pub words : List Sign
words =
    code_row prs 0x04ff ∷ code_row stu word_stu ∷ code_row st2 0x0cff ∷ code_row tnc 0x78ff ∷ code_row st3e 0x7cff
    ∷ code_row st3 0x10ff ∷
    code_row sic 0x22ff ∷ code_row st4 0x28ff ∷ code_row prov 0x40ff ∷ code_row dus word_dus ∷ []

-- what a code says, "Any other of the sixteen codes reads as .. invalid"
unfoldable pub quality_of_code : Profile → ℕ → Quality
quality_of_code profile code = said_by (codes_of profile) code

-- the code that says a quality
unfoldable pub code_of_quality : Profile → Quality → ℕ
code_of_quality profile told = sign_of (codes_of profile) code_dnu told

-- what a word says, "Words not listed read as invalid"
unfoldable pub quality_of_word : ℕ → Quality
quality_of_word word = said_by words word

-- the word that says a quality; 30FF, do not use, where there is none
unfoldable pub word_of_quality : Quality → ℕ
word_of_quality told = sign_of words word_dus told

-- what a report says, by its kind and its number; any other event says nothing
unfoldable pub said_in : Profile → ℕ → ℕ → Quality
said_in profile kind argument =
    cond (eqb kind kind_line_code || eqb kind kind_frame) (quality_of_code profile argument)
    (cond (eqb kind kind_word) (quality_of_word argument)
    not_told)
