-- What the code keeps of a port: the times of its last ten frames, the last code, the time of the last question; and
-- what it answers by that. `Heartbeat` has the law, which keeps nothing. Cited by `src/lib.rt`. Assumes nothing.
use Rattle.std.specs.Prelude.{ℕ, ◌+◌, Bool, not, ◌&&◌, cond, List, ◌∷◌, ◌≡◌, eqb, leb, ltb, length, get_or, set, take, replicate}
use Rattle.numbers.specs.Inputs.{input_count, last_input}
use Rattle.numbers.specs.Refusal.{accepted, argument_out_of_range}
use Rattle.frame.specs.Write.{largest_code}
use Rattle.sender.specs.declared.Heartbeat.{Heartbeat}
use Rattle.sender.specs.declared.Heartbeat.TheVariants as H
use Rattle.sender.specs.declared.Sender.{Sender}
use Rattle.sender.specs.declared.Senders.{Senders}
use Rattle.sender.specs.Heartbeat.{Question, code_asked, question_number, period, window, window_frames, content_by}

-- where the tenth of the last ten frames stands among their times
abbrev pub tenth : ℕ
tenth = 9

-- nothing sent, nothing asked
abbrev pub fresh_sender : Sender
fresh_sender = record { times = replicate window_frames 0; asked = 0; code = 0; sent = 0 }

-- sixteen fresh senders
abbrev pub fresh_senders : Senders
fresh_senders = record { ports = replicate input_count fresh_sender }

-- ten frames were sent, and the tenth last carries a time later than 1,000 ms before
unfoldable pub is_full : Sender → ℕ → Bool
is_full sender time = leb window_frames sender.sent && not (leb (get_or sender.times tenth 0 + window) time)

-- the frame that is due
unfoldable pub heartbeat_due : Sender → ℕ → ℕ → Heartbeat
heartbeat_due sender time code =
    cond (eqb sender.sent 0) H.Information
    (cond (not (eqb code sender.code)) H.Event
    (cond (leb (get_or sender.times 0 0 + period) time) H.Information
    H.Nothing))

-- what an accepted question is answered with
unfoldable pub heartbeat_of : Sender → ℕ → ℕ → Heartbeat
heartbeat_of sender time code =
    cond (is_full sender time) H.Nothing
    (heartbeat_due sender time code)

-- a sender after a frame
unfoldable pub with_frame : Sender → ℕ → ℕ → Sender
with_frame sender time code =
    record {
      times = take window_frames (time ∷ sender.times);
      asked = time;
      code = code;
      sent = cond (ltb sender.sent window_frames) (sender.sent + 1) sender.sent;
    }

-- a sender after a question that is answered with nothing
abbrev pub with_question : Sender → ℕ → Sender
with_question sender time =
    record { times = sender.times; asked = time; code = sender.code; sent = sender.sent }

-- a sender after an answer
unfoldable pub after_heartbeat : Heartbeat → Sender → ℕ → ℕ → Sender
after_heartbeat H.Information sender time code = with_frame sender time code
after_heartbeat H.Event sender time code = with_frame sender time code
after_heartbeat H.Nothing sender time code = with_question sender time
after_heartbeat (H.Refused number) sender time code = sender

-- the sender of a port
abbrev pub sender_at : Senders → ℕ → Sender
sender_at senders port = get_or senders.ports port fresh_sender

-- the number that a question is refused with
abbrev pub asked_number : Senders → Question → ℕ
asked_number senders question =
    question_number (ltb question.time (sender_at senders question.port).asked) question.port question.time
    (length question.buffer)
    (length question.source)

-- ---- one sender by itself

-- the time of a port's last question; a port above 15 has none
unfoldable pub last_asked : Sender → ℕ → ℕ
last_asked sender port = cond (ltb last_input port) 0 sender.asked

-- the number that a question to a port's sender is refused with
abbrev pub one_number : Sender → ℕ → ℕ → List ℕ → List ℕ → ℕ
one_number sender port time source buffer =
    question_number (ltb time (last_asked sender port)) port time (length buffer) (length source)

-- one sender after a question to it, and what it is answered with
pub record AskedOne : Type 0 where
  pub sender : Sender
  pub heartbeat : Heartbeat

-- a sender and what is answered beside it
abbrev pub one_with : Sender → Heartbeat → AskedOne
one_with sender heartbeat = record { sender = sender; heartbeat = heartbeat }

-- what a question to a port's sender comes to; a code above 15 is none, and is refused with 6
unfoldable pub asked_one : Sender → ℕ → ℕ → ℕ → List ℕ → List ℕ → AskedOne
asked_one sender port time code source buffer =
    let heartbeat = heartbeat_of sender time code in
    cond (not (eqb (one_number sender port time source buffer) accepted))
    (one_with sender (H.Refused (one_number sender port time source buffer)))
    (cond (ltb largest_code code) (one_with sender (H.Refused argument_out_of_range))
    (one_with (after_heartbeat heartbeat sender time code) heartbeat))

-- and what it leaves in the buffer
pub record AskOne (sender : Sender) (port time code : ℕ) (source buffer : List ℕ) (answer : AskedOne) (after : List ℕ)
    : Type 0 where
  pub answered : answer ≡ asked_one sender port time code source buffer
  pub content : after ≡ content_by (asked_one sender port time code source buffer).heartbeat code source buffer

-- ---- sixteen of them

-- senders with another in the place of a port's
abbrev pub with_sender : Senders → ℕ → Sender → Senders
with_sender senders port sender = record { ports = set senders.ports port sender }

-- the senders after a question, and what it is answered with
pub record Asked : Type 0 where
  pub senders : Senders
  pub heartbeat : Heartbeat

-- senders and what is answered beside them
abbrev pub answered_with : Senders → Heartbeat → Asked
answered_with senders heartbeat = record { senders = senders; heartbeat = heartbeat }

-- what an accepted question comes to
abbrev pub asked_of : Senders → Question → Asked
asked_of senders question =
    let sender = sender_at senders question.port in
    let heartbeat = heartbeat_of sender question.time (code_asked question) in
    answered_with
    (with_sender senders question.port (after_heartbeat heartbeat sender question.time (code_asked question)))
    heartbeat

-- what a question comes to; "They keep the sender's state"
unfoldable pub asked : Senders → Question → Asked
asked senders question =
    cond (not (eqb (asked_number senders question) accepted))
    (answered_with senders (H.Refused (asked_number senders question)))
    (asked_of senders question)

-- what a question leaves in the buffer
abbrev pub content_of : Senders → Question → List ℕ
content_of senders question =
    content_by (asked senders question).heartbeat (code_asked question) question.source question.buffer

-- what a question comes to, and what it leaves in the buffer
pub record AskSenders (senders : Senders) (question : Question) (answer : Asked) (after : List ℕ) : Type 0 where
  pub answered : answer ≡ asked senders question
  pub content : after ≡ content_of senders question
