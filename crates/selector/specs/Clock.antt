-- Document 01, "Choosing" on clock state, clock quality and outgoing code, and the values of the answer line. Cited by
-- `src/lib.rt`. Assumes nothing.
use Rattle.std.specs.Prelude.{ℕ, Bool, not, ◌||◌, cond, List, [], ◌∷◌, Option, Some, None}
use Rattle.numbers.specs.declared.InputNumber.{InputNumber}
use Rattle.numbers.specs.declared.quality.Quality.{Quality}
use Rattle.numbers.specs.Quality.{not_told}
use Rattle.numbers.specs.Codes.{code_dnu, word_stu, word_dus}
use Rattle.choice.specs.declared.Candidate.{Candidate}
use Rattle.switch.specs.declared.Switch.{Switch}
use Rattle.switch.specs.declared.Switch.TheVariants as W

-- "ff"
abbrev pub no_input : ℕ
no_input = 0xff

-- "00 free run"
abbrev pub free_run : ℕ
free_run = 0

-- "01 holdover"
abbrev pub holdover : ℕ
holdover = 1

-- "02 locked"
abbrev pub locked : ℕ
locked = 2

-- "02 locked if an input is selected and its passed quality is usable ..; otherwise 01 holdover if it was locked after
-- any earlier choice, 00 free run if not"
unfoldable pub clock_state : Bool → Bool → ℕ
clock_state is_clock_locked waslocked =
    cond is_clock_locked locked
    (cond waslocked holdover
    free_run)

-- "Clock quality: 0 with mode off; the passed quality when locked; otherwise 4", or what the option's own clock tells
unfoldable pub clock_quality : Quality → Bool → Candidate → Quality
clock_quality own mode candidate =
    cond (not mode) not_told
    (cond candidate.usable candidate.quality
    own)

-- "1111 if mode is off, if its sending is off, or if it is the selected input; otherwise the code of the clock quality"
unfoldable pub outgoing_code : Bool → Bool → Bool → ℕ → ℕ
outgoing_code mode sending is_selected code = cond (not mode || not sending || is_selected) code_dnu code

-- document 02, L12: "With sending off the word is 08FF"; "With sending on, mode off or the selected port gives 30FF";
-- otherwise the word of the clock quality
unfoldable pub outgoing_word : Bool → Bool → Bool → ℕ → ℕ
outgoing_word mode sending is_selected word =
    cond (not sending) word_stu
    (cond (not mode || is_selected) word_dus
    word)

-- "selected input or ff"
unfoldable pub selected_number : Option InputNumber → ℕ
selected_number None = no_input
selected_number (Some number) = number.0

-- "00 none"
abbrev pub switch_none : ℕ
switch_none = 0

-- "01 forced"
abbrev pub switch_forced : ℕ
switch_forced = 1

-- "02 manual"
abbrev pub switch_manual : ℕ
switch_manual = 2

-- "switch (00 none, 01 forced, 02 manual)"
unfoldable pub switch_number : Switch → ℕ
switch_number W.Nothing = switch_none
switch_number (W.Forced on) = switch_forced
switch_number (W.Manual on) = switch_manual

-- "its input or ff"
unfoldable pub switch_input : Switch → ℕ
switch_input W.Nothing = no_input
switch_input (W.Forced on) = on.0
switch_input (W.Manual on) = on.0

-- "Inputs 0 to 15 are also the outgoing ports"
abbrev pub ports : List ℕ
ports = 0 ∷ 1 ∷ 2 ∷ 3 ∷ 4 ∷ 5 ∷ 6 ∷ 7 ∷ 8 ∷ 9 ∷ 10 ∷ 11 ∷ 12 ∷ 13 ∷ 14 ∷ 15 ∷ []
