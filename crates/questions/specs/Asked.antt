-- What the code makes of a line that begins with `?`, by the senders that it keeps. Cited by `src/lib.rt`; `Answer` has
-- the texts. Assumes nothing.
use Rattle.std.specs.Prelude.{ℕ, ◌-◌, Option, None, Some, List, ◌++◌, ◌≡◌, length, replicate}
use Rattle.selector.specs.declared.Selector.{Selector}
use Rattle.sender.specs.declared.Senders.{Senders}
use Rattle.sender.specs.Heartbeat.{Question, question_of}
use Rattle.sender.specs.Sender.{asked, content_of}
use Rattle.questions.specs.declared.LineText.{LineText}
use Rattle.questions.specs.declared.QuestionAnswer.{QuestionAnswer}
use Rattle.questions.specs.declared.QuestionRead.{QuestionRead}
use Rattle.questions.specs.Answer.{no_question_text, heartbeat_text, put_question, line_question, asked_in}

-- a buffer of any length is answered as the one that is lent for it
pub record LentAlike (senders : Senders) (state : Selector) (port time : ℕ) (source buffer : List ℕ) : Type 0 where
  pub same :
      asked senders (question_of port time state source buffer)
      ≡ asked senders (put_question state port time (length buffer) source)

-- octets with zeros behind them
abbrev pub padded : ℕ → List ℕ → List ℕ
padded total octets = octets ++ replicate (total - length octets) 0

-- the longest line: a frame's
abbrev pub text_octets : ℕ
text_octets = 121

-- a line as the code holds it
unfoldable pub held_line : List ℕ → LineText
held_line text = record { octets = padded text_octets text; count = length text }

-- what a question that is put comes to
unfoldable pub answered_asked : Senders → Question → QuestionAnswer
answered_asked senders question =
    record {
      senders = (asked senders question).senders;
      text = held_line (heartbeat_text (asked senders question).heartbeat (content_of senders question));
    }

-- what a line comes to that says no question
abbrev pub answered_none : Senders → QuestionAnswer
answered_none senders = record { senders = senders; text = held_line no_question_text }

-- what a line that was read comes to
unfoldable pub answered_read : Senders → Selector → List ℕ → Option QuestionRead → QuestionAnswer
answered_read senders state line None = answered_none senders
answered_read senders state line (Some read) = answered_asked senders (line_question state line read)

-- what a line that begins with `?` comes to
abbrev pub answered_question : Senders → Selector → List ℕ → QuestionAnswer
answered_question senders state line = answered_read senders state line (asked_in line)
