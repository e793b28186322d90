-- What each call leaves in the arrays that C lends, as the watch that they hold (`watch_at` of `onestep`), by the
-- selector's own definitions. Cited by `src/`. Assumes nothing.
use Rattle.std.specs.Prelude.{ℕ, Bool, not, ◌&&◌, ◌||◌, cond, List, [], ◌∷◌, Ok, Err, ◌≡◌, eqb, leb, ltb, get_or}
use Rattle.numbers.specs.declared.Answer.{Answer}
use Rattle.numbers.specs.declared.Event.{Event}
use Rattle.numbers.specs.Inputs.{last_input}
use Rattle.numbers.specs.Kind.{flag, kind_frame}
use Rattle.numbers.specs.Profile.{option_one, option_two, start_number, profile_in}
use Rattle.numbers.specs.Refusal.{accepted, input_out_of_range, argument_out_of_range}
use Rattle.frame.specs.declared.FrameMessage.{FrameMessage}
use Rattle.frame.specs.declared.FrameRead.{FrameRead}
use Rattle.frame.specs.declared.FrameRead.TheVariants.{Code}
use Rattle.frame.specs.Read.{number_of_read, code_of_read, read_code, read_frame}
use Rattle.frame.specs.Write.{Writing, write_answer, content_after}
use Rattle.selector.specs.declared.Selector.{Selector}
use Rattle.selector.specs.Clock.{no_input, locked, switch_manual}
use Rattle.selector.specs.Answer.{answer_of}
use Rattle.quickstep.specs.Watch.{Watch, watch_of, numbered, fresh_watch, watch_step}
use Rattle.sender.specs.Heartbeat.{code_of_port}

-- the header's version
abbrev pub header_version : ℕ
header_version = 6

-- how long a card is in C: its five arrays, and seven octets that are C's own
abbrev pub card_octets : ℕ
card_octets = 584

-- how long the senders are in C
abbrev pub senders_octets : ℕ
senders_octets = 1544

-- a watch with another number in its answer and no due moment served, all else as it was
abbrev pub with_number : Watch → ℕ → Watch
with_number watch number = watch_of watch.state watch.due (numbered number watch.answer) 0

-- whether a number is that of an option
unfoldable pub names_option : ℕ → Bool
names_option option = eqb option option_one || eqb option option_two

-- document 02, L10: "otherwise refusal 6 and no start": a fresh card of the profile, or the card as it was with that
-- number; and so with a number that is no option's
unfoldable pub start_lent : Watch → ℕ → ℕ → ℕ → Watch
start_lent watch option provplace marks =
    let profile = profile_in option provplace marks in
    cond (not (names_option option)) (with_number watch argument_out_of_range)
    (cond (eqb (start_number option provplace) accepted) (fresh_watch profile) (with_number watch (start_number option provplace)))

-- an event, of the numbers that C gives
abbrev pub event_of : ℕ → ℕ → ℕ → ℕ → Event
event_of kind time input argument = record { kind = kind; time = time; input = input; argument = argument }

-- what a lent frame says to an event: it is looked at for a frame event alone
unfoldable pub read_for : ℕ → List ℕ → FrameRead
read_for kind frame = cond (eqb kind kind_frame) (read_code frame) (Code 0)

-- a number that is an input's, or says that there is none
abbrev pub names_input : ℕ → Bool
names_input number = leb number last_input || eqb number no_input

-- what an answer names is there
unfoldable pub is_ranged : Answer → Bool
is_ranged told =
    names_input told.selected && names_input told.switchinput && leb told.clockstate locked && leb told.switchkind switch_manual

-- a watch whose answer names what is there: it, or with the answer of its state
unfoldable pub ranged_watch : Watch → Watch
ranged_watch watch =
    cond (is_ranged watch.answer) watch
    (watch_of watch.state watch.due (answer_of accepted watch.state) 0)

-- one event with its frame read
unfoldable pub event_lent : Watch → Event → FrameRead → Watch
event_lent watch event read = watch_step (ranged_watch watch) event read

-- one event with a lent frame
unfoldable pub step_lent : Watch → ℕ → ℕ → ℕ → ℕ → List ℕ → Watch
step_lent watch kind time input argument frame =
    event_lent watch (event_of kind time input argument) (read_for kind frame)

-- what reading answers, as numbers: document 02, L2
abbrev pub message_told : FrameMessage → List ℕ
message_told message =
    number_of_read message.read ∷ code_of_read message.read ∷ flag message.event ∷ get_or message.source 0 0 ∷
    get_or message.source 1 0 ∷
    get_or message.source 2 0 ∷
    get_or message.source 3 0 ∷
    get_or message.source 4 0 ∷
    get_or message.source 5 0 ∷
    []

-- "Reading now answers code, flag and the six address octets"
unfoldable pub frame_told : List ℕ → List ℕ
frame_told frame = message_told (read_frame frame)

-- the number that each answer of writing says: 0 written
abbrev pub number_of_write : Writing → ℕ
number_of_write (Ok _) = accepted
number_of_write (Err number) = number

-- what writing a port's code answers
abbrev pub port_write : Selector → ℕ → List ℕ → List ℕ → Writing
port_write state port source before = write_answer before source (code_of_port state port)

-- a frame with a port's code, written into a buffer: 5 where there is no such port, otherwise as writing has it
pub record WritePort
    (state : Selector) (port : ℕ) (event : Bool) (source before : List ℕ) (answer : ℕ) (after : List ℕ)
    : Type 0 where
  pub answered :
      answer ≡ cond (ltb last_input port) input_out_of_range (number_of_write (port_write state port source before))
  pub content :
      after
      ≡ cond (ltb last_input port) before
      (content_after (port_write state port source before) before source event (code_of_port state port))
