-- Demand 2: "Codes, ESMC frames, hold-off, wait, commands and all sixteen outgoing codes follow document 01": what is
-- answered is by what has happened. Frames are in crate `frame`, hold-off and wait in `input`, the commands in
-- `Demand3`.
-- Assumes nothing.
use Rattle.std.specs.Prelude.{ℕ, ◌≡◌}
use Rattle.selector.specs.Answer.{answer_of, outgoing_codes, outgoing_words}
use Rattle.events.specs.Sequence.{Sequence, state_after}
use Rattle.events.specs.Past.{past_of}
use Rattle.events.specs.Told.{answer_by, codes_by, words_by}

-- after a sequence of events
pub record Demand2 (sequence : Sequence) : Type 0 where
  -- the whole answer is by what has happened; the number in it is in `Demand1`
  pub answer : (number : ℕ) → answer_of number (state_after sequence) ≡ answer_by number (past_of sequence)
  -- all sixteen codes are too, and all sixteen words
  pub outgoing : outgoing_codes (state_after sequence) ≡ codes_by (past_of sequence)
  pub words : outgoing_words (state_after sequence) ≡ words_by (past_of sequence)
