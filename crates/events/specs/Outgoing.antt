-- Documents 01 and 02 (L10, L12), on what goes out of a port after any sequence of events: when 08FF does, and that what
-- a port tells of the clock reads back. Assumes nothing.
use Rattle.std.specs.Prelude.{ℕ, true, false, ◌⊎◌, ◌↔◌, ◌≢◌, ◌≡◌, get_or}
use Rattle.numbers.specs.From.{profile_of}
use Rattle.numbers.specs.Quality.{stu, st4}
use Rattle.numbers.specs.Codes.{quality_of_code, quality_of_word, word_stu}
use Rattle.input.specs.Recorded.{mode_on, is_sending}
use Rattle.selector.specs.Answer.{outgoing_codes, outgoing_words}
use Rattle.events.specs.Sequence.{Sequence, state_after}
use Rattle.events.specs.Past.{Past, past_of, recorded}
use Rattle.events.specs.Told.{told_at, is_selected_port}

-- a port tells the clock quality: its sending is on, quality mode is on, and it is not the selected input
pub record TellsClock (past : Past) (port : ℕ) : Type 0 where
  pub sending : is_sending port past.history ≡ true
  pub mode : mode_on past.history ≡ true
  pub other : is_selected_port past port ≡ false

-- the word, and the code, of a port after a sequence of events
abbrev pub word_at : Sequence → ℕ → ℕ
word_at sequence port = get_or (outgoing_words (state_after sequence)) port 0

abbrev pub code_at : Sequence → ℕ → ℕ
code_at sequence port = get_or (outgoing_codes (state_after sequence)) port 0

-- one of the sixteen ports after a sequence of events
pub record OutgoingRight (sequence : Sequence) (port : ℕ) : Type 0 where
  -- "With sending off the word is 08FF, which a receiver reads as STU; but for STU it goes out for no other reason"
  pub exactly : (word_at sequence port ≡ word_stu) ↔
      ((is_sending port (recorded sequence) ≡ false) ⊎
      (TellsClock (past_of sequence) port × (told_at (past_of sequence) port ≡ stu)))
  -- "Each second-generation quality written reads back as itself": so does what a marked port tells for it
  pub word_back : TellsClock (past_of sequence) port
      → quality_of_word (word_at sequence port) ≡ told_at (past_of sequence) port
  -- and by its code any but ST4, which has "no line code"
  pub code_back : TellsClock (past_of sequence) port → told_at (past_of sequence) port ≢ st4
      → quality_of_code (profile_of sequence) (code_at sequence port) ≡ told_at (past_of sequence) port
