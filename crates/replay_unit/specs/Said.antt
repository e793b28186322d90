-- What is said where the unit does not start: the paper of readings of document 02, "Programs". Cited by `src/main.rt`.
-- Assumes nothing.
use Rattle.std.specs.Prelude.{ℕ, Result, Ok, Err, List, []}
use Rattle.start.specs.declared.StartError.{StartError}
use Rattle.start.specs.declared.StartError.TheVariants.{Refused, NoStart}
use Rattle.calls.specs.declared.Stream.{Stream}
use Rattle.calls.specs.declared.Stream.TheVariants.{Output, Error}
use Rattle.calls.specs.Said.{octets_of_text}
use Rattle.start.specs.Said.{start_said}
use Rattle.unitstart.specs.declared.UnitStart.{UnitStart}

-- a refusal is an answer; what the words are goes to standard error
abbrev pub unit_start_stream : Result UnitStart StartError → Stream
unit_start_stream (Ok start) = Error
unit_start_stream (Err Refused) = Output
unit_start_stream (Err NoStart) = Error

-- "A refused start prints `06` and nothing else.", as START's does; and one line that says what the words are where
-- they are none; nothing of a start
unfoldable pub unit_start_said : Result UnitStart StartError → List ℕ
unit_start_said (Ok start) = []
unit_start_said (Err Refused) = start_said (Err Refused)
unit_start_said (Err NoStart) =
    octets_of_text "replay_unit OPTION PLACE MARKS MINIMUM: 1 or 2, decimal, four hexadecimal digits, decimal\n"
