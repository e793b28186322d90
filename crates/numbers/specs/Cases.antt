-- The tables of codes and words, one computed statement each. Assumes nothing.
use Rattle.std.specs.Prelude.{ℕ, true, List, [], ◌∷◌, map, ◌≡◌}
use Rattle.numbers.specs.declared.quality.Quality.{Quality}
use Rattle.numbers.specs.declared.profile.ProvPlace.{ProvPlace}
use Rattle.numbers.specs.declared.profile.Profile.TheVariants as P
use Rattle.numbers.specs.Quality.{prc, ssu_a, ssu_b, sec, dnu, prs, stu, st2, tnc, st3e, st3, sic, st4, prov, dus, invalid}
use Rattle.numbers.specs.Profile.{told_by, paper_number}
use Rattle.numbers.specs.Codes.{quality_of_code, code_of_quality, quality_of_word, word_of_quality}

-- the sixteen codes, 0000 to 1111
abbrev pub codes : List ℕ
codes = 0 ∷ 1 ∷ 2 ∷ 3 ∷ 4 ∷ 5 ∷ 6 ∷ 7 ∷ 8 ∷ 9 ∷ 10 ∷ 11 ∷ 12 ∷ 13 ∷ 14 ∷ 15 ∷ []

-- the qualities of option I
abbrev pub told_one : List Quality
told_one = prc ∷ ssu_a ∷ ssu_b ∷ sec ∷ dnu ∷ []

-- the qualities of option II that have a code, and the one that has a word only
abbrev pub coded : List Quality
coded = prs ∷ stu ∷ st2 ∷ tnc ∷ st3e ∷ st3 ∷ sic ∷ prov ∷ dus ∷ []

abbrev pub told_two : List Quality
told_two = st4 ∷ coded

-- document 01's table, by its own numbers: each code reads as its row says, 0000 as 6, and each of the five writes a
-- code that reads back as itself
pub record CodeTable : Type 0 where
  pub read : map (λ (code : ℕ). paper_number P.OptionOne (quality_of_code P.OptionOne code)) codes ≡
      6 ∷ 6 ∷ 1 ∷ 6 ∷ 2 ∷ 6 ∷ 6 ∷ 6 ∷ 3 ∷ 6 ∷ 6 ∷ 4 ∷ 6 ∷ 6 ∷ 6 ∷ 5 ∷ []
  pub back : map (λ (told : Quality). quality_of_code P.OptionOne (code_of_quality P.OptionOne told)) told_one ≡ told_one

-- option II's, for any place and marks: 0000 as STU; all that have a code read back, and ST4 reads as DUS
pub record CodeTableTwo (provplace : ProvPlace) (marks : ℕ) : Type 0 where
  pub read : map (λ (code : ℕ). quality_of_code (P.OptionTwo provplace marks) code) codes ≡
      stu ∷ prs ∷ invalid ∷ invalid ∷ tnc ∷ invalid ∷ invalid ∷ st2 ∷
      invalid ∷ invalid ∷ st3 ∷ invalid ∷ sic ∷ st3e ∷ prov ∷ dus ∷ []
  pub back : map (λ (told : Quality).
      quality_of_code (P.OptionTwo provplace marks)
      (code_of_quality (P.OptionTwo provplace marks) told)) told_two ≡ dus ∷ coded
  -- "A port marked first generation sends TNC and ST3E as 1010"
  pub marked : map (λ (told : Quality). code_of_quality (P.OptionTwo provplace marks) (told_by true told))
      (tnc ∷ st3e ∷ []) ≡
      0b1010 ∷ 0b1010 ∷ []

-- the ten words, in and out; "Each second-generation quality written reads back as itself"
pub record WordTable : Type 0 where
  pub written : map word_of_quality told_two ≡
      0x28ff ∷ 0x04ff ∷ 0x08ff ∷ 0x0cff ∷ 0x78ff ∷ 0x7cff ∷ 0x10ff ∷ 0x22ff ∷ 0x40ff ∷ 0x30ff ∷ []
  -- "First-generation ports send 10FF for TNC and ST3E"
  pub marked : map (λ (told : Quality). word_of_quality (told_by true told)) (tnc ∷ st3e ∷ []) ≡ 0x10ff ∷ 0x10ff ∷ []
  pub back : map (λ (told : Quality). quality_of_word (word_of_quality told)) told_two ≡ told_two
