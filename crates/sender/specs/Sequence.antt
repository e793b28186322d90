-- Any sequence of questions from fresh senders, refused ones included: the senders that the code is left with, and what
-- it answered. `Heartbeat` has what document 02 says of the same sequence. Assumes nothing.
use Rattle.std.specs.Prelude.{ℕ, cond, List, [], ◌∷◌, eqb}
use Rattle.sender.specs.declared.Heartbeat.{Heartbeat}
use Rattle.sender.specs.declared.Senders.{Senders}
use Rattle.sender.specs.Heartbeat.{Question, Questions, code_asked, Sent, sent_after}
use Rattle.sender.specs.Sender.{fresh_senders, asked, content_of}

-- the senders after a sequence of questions
unfoldable pub senders_after : Questions → Senders
senders_after [] = fresh_senders
senders_after (question ∷ earlier) = (asked (senders_after earlier) question).senders

-- what a question is answered with, after the questions before it
abbrev pub heartbeat_after : Questions → Question → Heartbeat
heartbeat_after earlier question = (asked (senders_after earlier) question).heartbeat

-- what is then in its buffer
abbrev pub heartbeat_buffer : Questions → Question → List ℕ
heartbeat_buffer earlier question = content_of (senders_after earlier) question

-- the frames that were answered on a port, the latest first
unfoldable pub answered_on : ℕ → Questions → List Sent
answered_on port [] = []
answered_on port (question ∷ earlier) =
    cond (eqb question.port port)
    (sent_after (heartbeat_after earlier question) question.time (code_asked question) (answered_on port earlier))
    (answered_on port earlier)
