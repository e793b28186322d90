-- Document 02, L1, over any sequence of questions from fresh senders: when a frame goes out and which, that no window
-- holds more than ten, that a frame reads back, and that ports do not meddle with each other. Assumes nothing.
use Rattle.std.specs.Prelude.{ℕ, suc, ◌≤◌, Bool, true, false, ◌&&◌, cond, List, [], ◌∷◌, ◌⊎◌, ◌≡◌, eqb, leb, take, drop}
use Rattle.numbers.specs.Rows.{Refusal, NoneApplies, SmallestRow}
use Rattle.frame.specs.declared.FrameRead.TheVariants.{Code}
use Rattle.frame.specs.Read.{message, read_frame}
use Rattle.frame.specs.Write.{written_length}
use Rattle.frame.specs.RoundTrip.{Layout}
use Rattle.sender.specs.declared.Heartbeat.{Heartbeat}
use Rattle.sender.specs.declared.Heartbeat.TheVariants as H
use Rattle.sender.specs.Heartbeat.{Question, Questions, code_asked, rows_over, accepted_of, is_earlier, Sent, window_frames, is_later, later_count, differs, heartbeat_by, sent_by, content_by}
use Rattle.sender.specs.Sender.{answered_with, asked}
use Rattle.sender.specs.Sequence.{senders_after, heartbeat_after, heartbeat_buffer, answered_on}

-- ---- which frame, and when

-- a question that comes after others is answered as document 02 says, by these alone
pub record Sending (earlier : Questions) (question : Question) : Type 0 where
  pub heartbeat : heartbeat_after earlier question ≡ heartbeat_by earlier question
  pub buffer :
      heartbeat_buffer earlier question
      ≡ content_by (heartbeat_by earlier question) (code_asked question) question.source question.buffer
  -- the frames answered so far are those that document 02 says
  pub frames : (port : ℕ) → answered_on port earlier ≡ sent_by port earlier

-- the rows of a question that comes after others
abbrev pub rows_by : Questions → Question → List Refusal
rows_by earlier question = rows_over (accepted_of question.port earlier) question

-- "Refusals, smallest first and whether or not a frame is due .. They keep the sender's state and the buffer"
pub record Refusing (earlier : Questions) (question : Question) : Type 0 where
  pub one : ((number : ℕ) × SmallestRow number (rows_by earlier question)) ⊎ NoneApplies (rows_by earlier question)
  pub refused : (number : ℕ) → SmallestRow number (rows_by earlier question)
      → asked (senders_after earlier) question ≡ answered_with (senders_after earlier) (H.Refused number)
  pub kept : (number : ℕ) → SmallestRow number (rows_by earlier question)
      → heartbeat_buffer earlier question ≡ question.buffer
  -- where no row applies there is no refusal
  pub answered : NoneApplies (rows_by earlier question)
      → (number : ℕ) → heartbeat_after earlier question ≡ H.Refused number
      → ⊥
  -- "answering nothing keeps the buffer"
  pub nothing : heartbeat_after earlier question ≡ H.Nothing → heartbeat_buffer earlier question ≡ question.buffer

-- ---- ten frames in a window

-- a frame of the window that ends at a time: later than 1,000 ms before it, and not later than the time itself
abbrev pub is_within : ℕ → Sent → Bool
is_within time sent = is_later time sent && leb sent.time time

-- how many frames are
unfoldable pub within_count : ℕ → List Sent → ℕ
within_count time [] = 0
within_count time (sent ∷ earlier) =
    let count = within_count time earlier in cond (is_within time sent) (suc count) count

-- "no port ever exceeds ten frames in such a window"
pub record Window (questions : Questions) (port : ℕ) : Type 0 where
  -- whatever time it ends at
  pub any : (time : ℕ) → within_count time (answered_on port questions) ≤ window_frames
  -- and for any next question, in the words of the rule
  pub next : (time : ℕ) → is_earlier time (accepted_of port questions) ≡ false
      → later_count time (answered_on port questions) ≤ window_frames

-- ---- what is sent

-- an answer that is a frame
abbrev pub is_frame_sent : Heartbeat → Bool
is_frame_sent H.Information = true
is_frame_sent H.Event = true
is_frame_sent H.Nothing = false
is_frame_sent (H.Refused number) = false

-- "any answered frame reads back as the port's code in that state", with the event flag, set exactly if the code
-- differs from the last one sent, and the source lent
pub record ReadsBack (earlier : Questions) (question : Question) : Type 0 where
  pub said : is_frame_sent (heartbeat_after earlier question) ≡ true
      → read_frame (take written_length (heartbeat_buffer earlier question))
      ≡ message (Code (code_asked question)) (differs (code_asked question) (answered_on question.port earlier))
      question.source
  -- and octet by octet
  pub layout : is_frame_sent (heartbeat_after earlier question) ≡ true
      → Layout (take written_length (heartbeat_buffer earlier question)) question.source
      (differs (code_asked question) (answered_on question.port earlier))
      (code_asked question)
  -- whatever is answered, the rest of the buffer is kept
  pub rest : drop written_length (heartbeat_buffer earlier question) ≡ drop written_length question.buffer

-- ---- port by port

-- the questions to a port
unfoldable pub questions_to : ℕ → Questions → Questions
questions_to port [] = []
questions_to port (question ∷ earlier) =
    cond (eqb question.port port) (question ∷ questions_to port earlier) (questions_to port earlier)

-- "a sender per port": after two sequences with the same questions to its port a question is answered alike
pub record OwnQuestions (one other : Questions) (question : Question) : Type 0 where
  pub heartbeat : questions_to question.port one ≡ questions_to question.port other
      → heartbeat_after one question ≡ heartbeat_after other question
  pub buffer : questions_to question.port one ≡ questions_to question.port other
      → heartbeat_buffer one question ≡ heartbeat_buffer other question
