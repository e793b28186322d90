-- The question that a line says, and the line that answers it: the paper of readings of document 02, "Programs".
-- `Asked` has what the code does. Assumes nothing.
use Rattle.std.specs.Prelude.{ℕ, cond, Option, None, List, [], ◌∷◌, ◌++◌, ltb, length, drop, replicate}
use Rattle.digits.specs.Digits.{digits_of, octets_of}
use Rattle.reader.specs.Lines.{line_feed}
use Rattle.eventlog.specs.Line.{longest_new_line}
use Rattle.frame.specs.Write.{written_length}
use Rattle.selector.specs.declared.Selector.{Selector}
use Rattle.sender.specs.declared.Heartbeat.{Heartbeat}
use Rattle.sender.specs.declared.Heartbeat.TheVariants as H
use Rattle.sender.specs.Heartbeat.{Question, question_of}
use Rattle.questions.specs.declared.QuestionRead.{QuestionRead}
use Rattle.questions.specs.Line.{mark, dash, read_question}

-- ---- the text

-- "the frame's 120 digits", or the two of a refusal, and LF
abbrev pub frame_text : List ℕ → List ℕ
frame_text octets = digits_of octets ++ (line_feed ∷ [])

-- "`-` for nothing"
abbrev pub nothing_text : List ℕ
nothing_text = dash ∷ line_feed ∷ []

-- "Any other line that begins with `?` prints `??`"
abbrev pub no_question_text : List ℕ
no_question_text = mark ∷ mark ∷ line_feed ∷ []

-- "for a question the frame's 120 digits, `-` for nothing, or the refusal"
abbrev pub heartbeat_text : Heartbeat → List ℕ → List ℕ
heartbeat_text H.Information frame = frame_text frame
heartbeat_text H.Event frame = frame_text frame
heartbeat_text H.Nothing frame = nothing_text
heartbeat_text (H.Refused number) frame = frame_text (number ∷ [])

-- ---- the question

-- a question has no more characters than the longest line of a log, whatever zeros its numbers begin with
abbrev pub longest_question : ℕ
longest_question = longest_new_line

-- what a line that begins with `?` says
unfoldable pub asked_in : List ℕ → Option QuestionRead
asked_in line = cond (ltb longest_question (length line)) None (read_question line)

-- "LENGTH is that of the lent buffer"; no more than a frame needs is lent, since a longer buffer is answered alike
-- (`LentAlike`)
unfoldable pub lent_room : ℕ → ℕ
lent_room room = cond (ltb room written_length) room written_length

-- the question that is put, of its numbers and the source address
abbrev pub put_question : Selector → ℕ → ℕ → ℕ → List ℕ → Question
put_question state port time room source = question_of port time state source (replicate (lent_room room) 0)

-- the question that a line says, of its numbers and the place where SOURCE starts
abbrev pub line_question : Selector → List ℕ → QuestionRead → Question
line_question state line read =
    put_question state read.port read.time read.room (octets_of (drop read.start line))
