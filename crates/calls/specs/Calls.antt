-- What a call of `read` or `write` came to, by its answer and errno; what `write` is lent of a text, call by call.
-- Cited by `src/lib.rt`. Assumes nothing.
use Rattle.std.specs.Prelude.{ℕ, ◌+◌, ◌-◌, ◌^◌, ◌≤◌, ◌<◌, min, Bool, true, false, cond, List, ◌≡◌, eqb, ℤ, pos, negsuc, length, drop, Option, Some, None, Result, Ok, Err}
use Rattle.calls.specs.declared.Ending.{Ending}
use Rattle.calls.specs.declared.Ending.TheVariants.{Whole, Unread, Unwritten, Closed}
use Rattle.calls.specs.declared.Failure.{Failure}
use Rattle.calls.specs.declared.Failure.TheVariants.{Interrupted, NoReader, Failed}
use Rattle.calls.specs.declared.Stream.{Stream}
use Rattle.calls.specs.declared.Stream.TheVariants.{Output, Error}

-- how many octets are read at a time
abbrev pub chunk_octets : ℕ
chunk_octets = 16384

-- EINTR: a signal interrupted the call before it moved an octet
abbrev pub interrupted : ℕ
interrupted = 4

-- EPIPE: nobody reads what is written
abbrev pub no_reader : ℕ
no_reader = 32

-- why a call failed, by errno
unfoldable pub failure_of : ℤ → Failure
failure_of (pos error) = cond (eqb error interrupted) Interrupted (cond (eqb error no_reader) NoReader Failed)
failure_of (negsuc error) = Failed

-- a call on so many octets is answered with how many it moved, no more than was lent, or with errno where it failed
abbrev pub outcome_of : Result ℕ ℤ → ℕ → Result ℕ Failure
outcome_of (Ok octets) size = Ok (min octets size)
outcome_of (Err error) size = Err (failure_of error)

-- what a call on so many octets came to, whatever it was answered
pub record CameTo (size : ℕ) (outcome : Result ℕ Failure) : Type 0 where
  pub answer : Result ℕ ℤ
  pub is : outcome ≡ outcome_of answer size

abbrev pub is_interrupted : Result ℕ Failure → Bool
is_interrupted (Ok octets) = false
is_interrupted (Err Interrupted) = true
is_interrupted (Err NoReader) = false
is_interrupted (Err Failed) = false

-- how many octets a call moved
abbrev pub octets_moved : Result ℕ Failure → ℕ
octets_moved (Ok octets) = octets
octets_moved (Err failure) = 0

-- what reading into so many octets came to, before and after which so many had been read: an interrupted read is
-- repeated
pub record Delivered (size before : ℕ) (outcome : Result ℕ Failure) (after : ℕ) : Type 0 where
  pub came : CameTo size outcome
  pub settled : is_interrupted outcome ≡ false
  pub read : after ≡ before + octets_moved outcome

-- all that was to be moved was moved
abbrev pub is_whole : Ending → Bool
is_whole Whole = true
is_whole Unread = false
is_whole Unwritten = false
is_whole Closed = false

-- how the turns have ended with a write; none where all of it was taken, and they go on
abbrev pub ended_by : Ending → Option Ending
ended_by Whole = None
ended_by Unread = Some Unread
ended_by Unwritten = Some Unwritten
ended_by Closed = Some Closed

-- how the turns ended where nothing was read: a failed read is not the log's end
abbrev pub read_ending : Result ℕ Failure → Ending
read_ending (Ok octets) = cond (eqb octets 0) Whole Unread
read_ending (Err failure) = Unread

-- whether to go on after a write, and otherwise how it ended: an interrupted one is repeated
abbrev pub write_ending : Result ℕ Failure → Ending
write_ending (Ok octets) = cond (eqb octets 0) Unwritten Whole
write_ending (Err Interrupted) = Whole
write_ending (Err NoReader) = Closed
write_ending (Err Failed) = Unwritten

-- the number by which the system knows where a text goes
abbrev pub descriptor_of : Stream → ℤ
descriptor_of Output = pos 1
descriptor_of Error = pos 2

-- what `write` is lent: the descriptor, and the part of a text that begins where the last call stopped; so many octets
-- had been taken before the text, and so many by now
pub record NextPart (stream : Stream) (text : List ℕ) (start sent : ℕ) (file : ℤ) (part : List ℕ) : Type 0 where
  pub to : file ≡ descriptor_of stream
  pub from : start ≤ sent
  pub counted : sent + length part < 2 ^ 64
  pub octets : part ≡ drop (sent - start) text

-- what a write of so many octets came to, before and after which so many had been taken
pub record PartTaken (size before : ℕ) (ending : Ending) (after : ℕ) : Type 0 where
  pub outcome : Result ℕ Failure
  pub came : CameTo size outcome
  pub sent : after ≡ before + octets_moved outcome
  pub ended : ending ≡ write_ending outcome

-- not all was written: a write failed, or nobody reads any more
pub data Unsent : Ending → Type 0 where
  unwritten : Unsent Unwritten
  closed : Unsent Closed

-- a text of so many octets was handed over, before which so many had been taken: `write` took all of it, or not all
pub data TextTaken (size before : ℕ) : Ending → ℕ → Type 0 where
  all : TextTaken size before Whole (before + size)
  part : (ending : Ending) (after : ℕ) → before ≤ after → after < before + size → Unsent ending
      → TextTaken size before ending after

-- a text of so many octets that stands by itself was handed over
abbrev pub TextSaid : ℕ → Ending → Type 0
TextSaid size ending = (after : ℕ) × TextTaken size 0 ending after
