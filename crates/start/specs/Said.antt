-- What is said of a start that is none, and where. Cited by `src/lib.rt`. Assumes nothing.
use Rattle.std.specs.Prelude.{ℕ, Result, Ok, Err, List, [], ◌∷◌, ◌++◌}
use Rattle.numbers.specs.Refusal.{argument_out_of_range}
use Rattle.digits.specs.Digits.{digits_of}
use Rattle.reader.specs.Lines.{line_feed}
use Rattle.calls.specs.declared.Stream.{Stream}
use Rattle.calls.specs.declared.Stream.TheVariants.{Output, Error}
use Rattle.calls.specs.Said.{octets_of_text}
use Rattle.start.specs.declared.Start.{Start}
use Rattle.start.specs.declared.StartError.{StartError}
use Rattle.start.specs.declared.StartError.TheVariants.{Refused, NoStart}

-- a refusal is an answer; what START is goes to standard error
abbrev pub start_stream : Result Start StartError → Stream
start_stream (Ok start) = Error
start_stream (Err Refused) = Output
start_stream (Err NoStart) = Error

-- "A place above 8 prints `06` and nothing else.": the number of the refusal, and LF; and one line that says what START
-- is where the words are none; nothing of a start
unfoldable pub start_said : Result Start StartError → List ℕ
start_said (Ok start) = []
start_said (Err Refused) = digits_of (argument_out_of_range ∷ []) ++ (line_feed ∷ [])
start_said (Err NoStart) = octets_of_text "START is nothing, or 2 PLACE MARKS: a decimal number, four hexadecimal digits\n"
