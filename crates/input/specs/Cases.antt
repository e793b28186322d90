-- Document 01, "A whole replay": the passed quality of input 3 after each of the eleven lines, by the recorded events.
-- Assumes nothing.
use Rattle.std.specs.Prelude.{ℕ, List, [], ◌∷◌, map, ◌≡◌}
use Rattle.numbers.specs.Recorded.{Recorded}
use Rattle.numbers.specs.From.{started, ◌following◌}
use Rattle.numbers.specs.declared.profile.Profile.TheVariants as P
use Rattle.numbers.specs.declared.quality.Quality.{Quality}
use Rattle.numbers.specs.Quality.{prc, failed}
use Rattle.numbers.specs.Codes.{said_in}
use Rattle.numbers.specs.Kind.{kind_signal, kind_line_code, kind_priority, kind_wait, kind_tick}
use Rattle.input.specs.Recorded.{History, time_of, passed_at}

-- an event of the replay
abbrev pub at : ℕ → ℕ → ℕ → ℕ → Recorded
at time kind input argument =
    record {
      kind = kind;
      time = time;
      input = input;
      argument = argument;
      said = said_in P.OptionOne kind argument;
    }

-- what has been recorded after each line, the first line first. Line 7 is refused with 16, so it records a tick; line 8
-- is refused with 4, so it records nothing.
abbrev pub after1 : History
after1 = at 0 kind_priority 3 1 following started P.OptionOne

abbrev pub after2 : History
after2 = at 0 kind_wait 3 0 following after1

abbrev pub after3 : History
after3 = at 100 kind_signal 3 0 following after2

abbrev pub after4 : History
after4 = at 101 kind_line_code 3 2 following after3

abbrev pub after5 : History
after5 = at 102 kind_line_code 3 2 following after4

abbrev pub after6 : History
after6 = at 103 kind_line_code 3 2 following after5

abbrev pub after7 : History
after7 = at 103 kind_tick 0 0 following after6

abbrev pub after8 : History
after8 = after7

abbrev pub after9 : History
after9 = at 200 kind_signal 3 1 following after8

abbrev pub after10 : History
after10 = at 499 kind_tick 0 0 following after9

abbrev pub after11 : History
after11 = at 500 kind_tick 0 0 following after10

abbrev pub histories : List History
histories =
    after1 ∷ after2 ∷ after3 ∷ after4 ∷ after5 ∷ after6 ∷ after7 ∷ after8 ∷ after9 ∷ after10 ∷ after11 ∷ []

-- the passed quality of input 3 at the time of the last recorded event
abbrev pub passed_now : History → Quality
passed_now history = passed_at 3 history (time_of history)

-- failed until the third code, PRC from then on, and through the hold-off; failed at its 300th millisecond
pub record ReplayPassed : Type 0 where
  pub passed : map passed_now histories ≡
      failed ∷ failed ∷ failed ∷ failed ∷ failed ∷ prc ∷ prc ∷ prc ∷ prc ∷ prc ∷ failed ∷ []
