-- What is written for a port: document 01, "Outgoing code", "ESMC frame" and rows 5, 18 and 19 of "Numbers of refusal".
-- Assumes nothing.
use Rattle.std.specs.Prelude.{ℕ, Bool, not, cond, List, ◌≢◌, ◌≡◌, eqb, ltb, length, take}
use Rattle.numbers.specs.Refusal.{accepted, input_out_of_range, buffer_too_short, source_not_six}
use Rattle.frame.specs.declared.FrameRead.TheVariants.{Code}
use Rattle.frame.specs.Read.{message, read_frame}
use Rattle.frame.specs.Write.{written_length, source_length}
use Rattle.numbers.specs.Inputs.{last_input}
use Rattle.selector.specs.declared.Selector.{Selector}
use Rattle.sender.specs.Heartbeat.{code_of_port}

-- the number that is answered: 5, then "19, 18"; never 6, since an outgoing code is one of the sixteen
abbrev pub port_number : ℕ → List ℕ → List ℕ → ℕ
port_number port source before =
    cond (ltb last_input port) input_out_of_range
    (cond (not (eqb (length source) source_length)) source_not_six
    (cond (ltb (length before) written_length) buffer_too_short
    accepted))

-- what writing for a port comes to, whatever the state
pub record PortFrame
    (state : Selector) (port : ℕ) (event : Bool) (source before : List ℕ) (answer : ℕ) (after : List ℕ)
    : Type 0 where
  pub number : answer ≡ port_number port source before
  -- "6, 18 and 19 on writing leave the buffer"; 5 too
  pub kept : answer ≢ accepted → after ≡ before
  -- a frame that is written tells the port's outgoing code, the flag and the source
  pub reads :
      answer ≡ accepted → read_frame (take written_length after) ≡ message (Code (code_of_port state port)) event source
