-- What one sender in C's hands answers and keeps, by the sender's own definitions: document 02, L1. Cited by
-- `src/senders.rt`. Assumes nothing.
use Rattle.std.specs.Prelude.{ℕ, ◌*◌, ◌≤◌, cond, List, [], ◌∷◌, ◌≡◌, eqb, get_or}
use Rattle.numbers.specs.Inputs.{last_input}
use Rattle.selector.specs.declared.Selector.{Selector}
use Rattle.sender.specs.declared.Heartbeat.{Heartbeat}
use Rattle.sender.specs.declared.Heartbeat.TheVariants as H
use Rattle.sender.specs.declared.Sender.{Sender}
use Rattle.sender.specs.Heartbeat.{Question, Questions, code_of_port, code_asked, heartbeat_by, content_by}
use Rattle.sender.specs.Sender.{AskedOne, fresh_sender, asked_one, sender_at}
use Rattle.sender.specs.Sequence.{senders_after}

-- the sender that two lists hold: the times of its last ten frames and of the last question; the last code, and how
-- many frames were sent
abbrev pub sender_in : List ℕ → List ℕ → Sender
sender_in times numbers =
    record {
      times =
          get_or times 0 0 ∷ get_or times 1 0 ∷ get_or times 2 0 ∷ get_or times 3 0 ∷ get_or times 4 0 ∷ get_or times 5 0 ∷
          get_or times 6 0 ∷
          get_or times 7 0 ∷
          get_or times 8 0 ∷
          get_or times 9 0 ∷
          [];
      asked = get_or times 10 0;
      code = get_or numbers 0 0;
      sent = get_or numbers 1 0;
    }

-- the numbers of a sender
abbrev pub sender_times : Sender → List ℕ
sender_times sender =
    get_or sender.times 0 0 ∷ get_or sender.times 1 0 ∷ get_or sender.times 2 0 ∷ get_or sender.times 3 0 ∷
    get_or sender.times 4 0 ∷
    get_or sender.times 5 0 ∷
    get_or sender.times 6 0 ∷
    get_or sender.times 7 0 ∷
    get_or sender.times 8 0 ∷
    get_or sender.times 9 0 ∷
    sender.asked ∷
    []

abbrev pub sender_numbers : Sender → List ℕ
sender_numbers sender = sender.code ∷ sender.sent ∷ []

-- what a question is answered with, as a number: 1 an information frame, 2 an event frame, 0 none; 256 times the number
-- of a refusal
unfoldable pub heartbeat_told : Heartbeat → ℕ
heartbeat_told H.Information = 1
heartbeat_told H.Event = 2
heartbeat_told H.Nothing = 0
heartbeat_told (H.Refused number) = 256 * number

-- what a question to a port's sender comes to, with the code that goes out of the port
abbrev pub lent_asked : Sender → Selector → ℕ → ℕ → List ℕ → List ℕ → AskedOne
lent_asked sender state port time source buffer = asked_one sender port time (code_of_port state port) source buffer

-- what it leaves in the arrays and in the buffer
pub record AskLent
    (sender : Sender) (state : Selector) (port time : ℕ) (source buffer frames last : List ℕ) (answer : ℕ)
    (after : List ℕ)
    : Type 0 where
  pub times : frames ≡ sender_times (lent_asked sender state port time source buffer).sender
  pub numbers : last ≡ sender_numbers (lent_asked sender state port time source buffer).sender
  pub answered : answer ≡ heartbeat_told (lent_asked sender state port time source buffer).heartbeat
  pub content : after
      ≡ content_by (lent_asked sender state port time source buffer).heartbeat (code_of_port state port) source buffer

-- the sender of a port after questions in a row, each with what the last question to its port left lent
unfoldable pub port_sender : ℕ → Questions → Sender
port_sender port [] = fresh_sender
port_sender port (question ∷ earlier) =
    let sender = port_sender port earlier in
    cond (eqb question.port port)
    (asked_one sender port question.time (code_asked question) question.source question.buffer).sender
    sender

-- questions in a row, to senders lent one by one, are the senders' own, so that all that is stated of these holds of what
-- C holds; for a port above 15 any sender may be lent
pub record SendersLentRight (earlier : Questions) (question : Question) (lent : Sender) : Type 0 where
  pub sender : (port : ℕ) → port ≤ last_input → port_sender port earlier ≡ sender_at (senders_after earlier) port
  pub heartbeat : (question.port ≤ last_input → lent ≡ port_sender question.port earlier)
      → (asked_one lent question.port question.time (code_asked question) question.source question.buffer).heartbeat
      ≡ heartbeat_by earlier question
