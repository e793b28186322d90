-- Document 02, L1, "A heartbeat on every port": what a question is answered with, by the questions that came before it.
-- This is the whole law: nothing is kept and no timer runs. `Sender` has what the code keeps instead.
-- Assumes nothing.
use Rattle.std.specs.Prelude.{ℕ, suc, ◌+◌, Bool, true, false, not, ◌&&◌, cond, List, [], ◌∷◌, Ok, eqb, leb, ltb, length, get_or}
use Rattle.numbers.specs.Inputs.{last_input, time_limit}
use Rattle.numbers.specs.Refusal.{accepted, time_too_large, time_before_state, input_out_of_range, buffer_too_short, source_not_six}
use Rattle.numbers.specs.Rows.{Refusal, refusal, first_that_applies}
use Rattle.frame.specs.Write.{written_length, source_length, content_after}
use Rattle.selector.specs.declared.Selector.{Selector}
use Rattle.selector.specs.Answer.{outgoing_codes}
use Rattle.sender.specs.declared.Heartbeat.{Heartbeat}
use Rattle.sender.specs.declared.Heartbeat.TheVariants as H

-- ---- a question

-- "Asked with a time and a selector state": a port, a time, a state, a lent source address and a lent buffer
pub record Question : Type 0 where
  pub port : ℕ
  pub time : ℕ
  pub state : Selector
  pub source : List ℕ
  pub buffer : List ℕ

-- a question, of what is asked
abbrev pub question_of : ℕ → ℕ → Selector → List ℕ → List ℕ → Question
question_of port time state source buffer =
    record { port = port; time = time; state = state; source = source; buffer = buffer }

-- a sequence of questions, the latest first
abbrev pub Questions : Type 0
Questions = List Question

-- the code that goes out of a port in a state
abbrev pub code_of_port : Selector → ℕ → ℕ
code_of_port state port = get_or (outgoing_codes state) port 0

-- "the port's code in that state"
abbrev pub code_asked : Question → ℕ
code_asked question = code_of_port question.state question.port

-- ---- which question is refused

-- "Refusals, smallest first and whether or not a frame is due: 3, 4 (a time earlier than the port's last accepted
-- question), 5 (port above 15), 18, 19"; `early` says whether the time is, `room` and `octets` are the lengths lent
abbrev pub question_rows : Bool → ℕ → ℕ → ℕ → ℕ → List Refusal
question_rows early port time room octets =
    refusal time_too_large (leb time_limit time) ∷
    refusal time_before_state early ∷
    refusal input_out_of_range (ltb last_input port) ∷
    refusal buffer_too_short (ltb room written_length) ∷
    refusal source_not_six (not (eqb octets source_length)) ∷
    []

-- the number that is given; 0 is accepted
unfoldable pub question_number : Bool → ℕ → ℕ → ℕ → ℕ → ℕ
question_number early port time room octets = first_that_applies (question_rows early port time room octets)

-- "a time earlier than the port's last accepted question"
abbrev pub is_earlier : ℕ → Questions → Bool
is_earlier time [] = false
is_earlier time (last ∷ earlier) = ltb time last.time

-- the rows of a question, after the accepted questions of its port
abbrev pub rows_over : Questions → Question → List Refusal
rows_over before question =
    question_rows (is_earlier question.time before) question.port question.time (length question.buffer)
    (length question.source)

-- its number
abbrev pub number_over : Questions → Question → ℕ
number_over before question =
    question_number (is_earlier question.time before) question.port question.time (length question.buffer)
    (length question.source)

-- "a sender per port": the questions to a port that were accepted, by all that were put
unfoldable pub accepted_of : ℕ → Questions → Questions
accepted_of port [] = []
accepted_of port (question ∷ earlier) =
    let before = accepted_of port earlier in
    cond (eqb question.port port && eqb (number_over before question) accepted) (question ∷ before) before

-- ---- which frame is sent

-- a frame that was sent: its time, its code, and whether it is an event frame
pub record Sent : Type 0 where
  pub time : ℕ
  pub code : ℕ
  pub event : Bool

-- "1,000 ms or more have passed since the port's last frame"
abbrev pub period : ℕ
period = 1000

-- "1,000 ms before now"
abbrev pub window : ℕ
window = 1000

-- "ten frames of that port"
abbrev pub window_frames : ℕ
window_frames = 10

-- "times later than 1,000 ms before now"
abbrev pub is_later : ℕ → Sent → Bool
is_later time sent = ltb time (sent.time + window)

-- how many frames carry such times
unfoldable pub later_count : ℕ → List Sent → ℕ
later_count time [] = 0
later_count time (sent ∷ earlier) =
    let count = later_count time earlier in cond (is_later time sent) (suc count) count

-- "the port's code differs from the last one sent"; not where none was sent
abbrev pub differs : ℕ → List Sent → Bool
differs code [] = false
differs code (last ∷ earlier) = not (eqb code last.code)

-- "an information frame the first time; an event frame when the port's code differs from the last one sent; otherwise
-- an information frame when 1,000 ms or more have passed since the port's last frame"
unfoldable pub due_frame : ℕ → ℕ → List Sent → Heartbeat
due_frame time code [] = H.Information
due_frame time code (last ∷ earlier) =
    cond (differs code (last ∷ earlier)) H.Event
    (cond (leb (last.time + period) time) H.Information
    H.Nothing)

-- "It answers nothing while ten frames of that port carry times later than 1,000 ms before now"
unfoldable pub heartbeat_over : ℕ → ℕ → List Sent → Heartbeat
heartbeat_over time code sent =
    cond (leb window_frames (later_count time sent)) H.Nothing
    (due_frame time code sent)

-- a port's frames after an answer
abbrev pub sent_after : Heartbeat → ℕ → ℕ → List Sent → List Sent
sent_after H.Information time code sent = record { time = time; code = code; event = false } ∷ sent
sent_after H.Event time code sent = record { time = time; code = code; event = true } ∷ sent
sent_after H.Nothing time code sent = sent
sent_after (H.Refused number) time code sent = sent

-- the frames that a port has sent, the latest first, by its accepted questions
unfoldable pub sent_over : Questions → List Sent
sent_over [] = []
sent_over (question ∷ earlier) =
    let sent = sent_over earlier in
    sent_after (heartbeat_over question.time (code_asked question) sent) question.time (code_asked question) sent

-- ---- what is answered

-- a refusal, or "one frame or nothing", after the accepted questions of the port
unfoldable pub answer_over : Questions → Question → Heartbeat
answer_over before question =
    cond (not (eqb (number_over before question) accepted)) (H.Refused (number_over before question))
    (heartbeat_over question.time (code_asked question) (sent_over before))

-- what a question is answered with, by all that were put before it
abbrev pub heartbeat_by : Questions → Question → Heartbeat
heartbeat_by earlier question = answer_over (accepted_of question.port earlier) question

-- the frames that a port has sent after some questions
abbrev pub sent_by : ℕ → Questions → List Sent
sent_by port questions = sent_over (accepted_of port questions)

-- what each answer leaves in the buffer: a frame is its first 60 octets; refusals "keep .. the buffer; answering
-- nothing keeps the buffer"
abbrev pub content_by : Heartbeat → ℕ → List ℕ → List ℕ → List ℕ
content_by H.Information code source buffer = content_after (Ok tt) buffer source false code
content_by H.Event code source buffer = content_after (Ok tt) buffer source true code
content_by H.Nothing code source buffer = buffer
content_by (H.Refused number) code source buffer = buffer
