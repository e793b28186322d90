-- Document 01, "Choosing" and the answer line, by what has happened alone: what is answered to an event, and the
-- sixteen codes and words that go out after it.
-- Assumes nothing.
use Rattle.std.specs.Prelude.{ℕ, Bool, List, map, eqb, Option, Some, None}
use Rattle.numbers.specs.declared.InputNumber.{InputNumber}
use Rattle.numbers.specs.declared.Answer.{Answer}
use Rattle.numbers.specs.declared.quality.Quality.{Quality}
use Rattle.numbers.specs.From.{profile_of}
use Rattle.numbers.specs.Profile.{limits_of, marks_of, is_marked, told_by}
use Rattle.numbers.specs.Codes.{code_of_quality, word_of_quality}
use Rattle.input.specs.Recorded.{mode_on, is_sending, time_of}
use Rattle.choice.specs.declared.Candidate.{Candidate}
use Rattle.choice.specs.Candidate.{nobody}
use Rattle.selector.specs.Clock.{clock_state, clock_quality, outgoing_code, outgoing_word, selected_number, switch_number, switch_input, ports}
use Rattle.events.specs.Past.{Past, candidate_by, decided_by}

-- an input as the recorded events show it at the time of the last of them; none where nothing is selected
abbrev pub shown : Past → Option InputNumber → Candidate
shown past None = nobody
shown past (Some number) = candidate_by past.history (time_of past.history) number.0

-- the selected input
abbrev pub candidate_selected : Past → Candidate
candidate_selected past = shown past (decided_by past.made).selection

-- "Clock quality: 0 with mode off; the passed quality when locked; otherwise 4"; in option II "holdover and free run
-- tell 6"
abbrev pub quality_by : Past → Quality
quality_by past =
    clock_quality (limits_of (profile_of past.history)).freerunning (mode_on past.history) (candidate_selected past)

-- "Answer line: number .., selected input or ff, clock state, clock quality, switch .., its input or ff"
abbrev pub answer_by : ℕ → Past → Answer
answer_by number past =
    record {
      number = number;
      selected = selected_number (decided_by past.made).selection;
      clockstate = clock_state (candidate_selected past).usable (decided_by past.made).waslocked;
      clockquality = (quality_by past).0;
      switchkind = switch_number (decided_by past.made).switch;
      switchinput = switch_input (decided_by past.made).switch;
    }

-- what a port tells of the clock quality: "A port marked first generation sends TNC and ST3E as" ST3
abbrev pub told_at : Past → ℕ → Quality
told_at past port = told_by (is_marked (marks_of (profile_of past.history)) port) (quality_by past)

-- a port is the selected input
abbrev pub is_selected_port : Past → ℕ → Bool
is_selected_port past port = eqb (selected_number (decided_by past.made).selection) port

-- "1111 if mode is off, if its sending is off, or if it is the selected input; otherwise the code of the clock quality"
unfoldable pub code_by : Past → ℕ → ℕ
code_by past port =
    outgoing_code (mode_on past.history) (is_sending port past.history) (is_selected_port past port)
    (code_of_quality (profile_of past.history) (told_at past port))

-- "Outgoing code, for each of the sixteen ports"
abbrev pub codes_by : Past → List ℕ
codes_by past = map (code_by past) ports

-- document 02, L12: 08FF with sending off; with it on, 30FF if mode is off or it is the selected input; otherwise the
-- word of the clock quality
unfoldable pub word_by : Past → ℕ → ℕ
word_by past port =
    outgoing_word (mode_on past.history) (is_sending port past.history) (is_selected_port past port)
    (word_of_quality (told_at past port))

-- the words of the sixteen ports
abbrev pub words_by : Past → List ℕ
words_by past = map (word_by past) ports
