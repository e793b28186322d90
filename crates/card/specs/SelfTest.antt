-- The power-on self-test: document 01's whole replay and three frames, by the step that C calls. Cited by
-- `src/self_test.rt`. Assumes nothing.
use Rattle.std.specs.Prelude.{ℕ, Bool, true, false, ◌&&◌, cond, List, [], ◌∷◌, ◌≡◌, eqb, ltb, take}
use Rattle.numbers.specs.declared.Answer.{Answer}
use Rattle.numbers.specs.declared.profile.Profile.TheVariants as P
use Rattle.numbers.specs.Kind.{flag}
use Rattle.frame.specs.Write.{written_length, zeros, write_answer, content_after}
use Rattle.selector.specs.Clock.{no_input}
use Rattle.quickstep.specs.Watch.{Watch, fresh_watch}
use Rattle.card.specs.declared.self_test.TestLine.{TestLine}
use Rattle.card.specs.Lent.{step_lent}

-- a line: kind, time, input, argument; a frame's code and how many octets are lent; the answer's number, selected
-- input, clock state and clock quality
abbrev line : ℕ → ℕ → ℕ → ℕ → ℕ → ℕ → ℕ → ℕ → ℕ → ℕ → TestLine
line kind time input argument code octets number selected state quality =
    record {
      0 = kind;
      1 = time;
      2 = input;
      3 = argument;
      4 = code;
      5 = octets;
      6 = number;
      7 = selected;
      8 = state;
      9 = quality;
    }

abbrev pub test_lines : List TestLine
test_lines =
    -- "A whole replay"
    line 0x04 0x000 0x03 0x0001 0 0 0x00 0xff 0 4
    ∷ line 0x07 0x000 0x03 0x0000 0 0 0x00 0xff 0 4
    ∷ line 0x01 0x064 0x03 0x0000 0 0 0x00 0xff 0 4
    ∷ line 0x03 0x065 0x03 0x0002 0 0 0x00 0xff 0 4
    ∷ line 0x03 0x066 0x03 0x0002 0 0 0x00 0xff 0 4
    ∷ line 0x03 0x067 0x03 0x0002 0 0 0x00 0x03 2 1
    ∷ line 0x0b 0x067 0x04 0x0000 0 0 0x10 0x03 2 1
    ∷ line 0x0f 0x066 0x00 0x0000 0 0 0x04 0x03 2 1
    ∷ line 0x01 0x0c8 0x03 0x0001 0 0 0x00 0x03 2 1
    ∷ line 0x0f 0x1f3 0x00 0x0000 0 0 0x00 0x03 2 1
    ∷ line 0x0f 0x1f4 0x00 0x0000 0 0 0x00 0xff 1 4
    -- input 5 is of the Ethernet kind, its signal good, its priority 1, its wait 0
    ∷ line 0x10 0x1f4 0x05 0x0001 0 0 0x00 0xff 1 4
    ∷ line 0x01 0x1f4 0x05 0x0000 0 0 0x00 0xff 1 4
    ∷ line 0x04 0x1f4 0x05 0x0001 0 0 0x00 0xff 1 4
    ∷ line 0x07 0x1f4 0x05 0x0000 0 0 0x00 0xff 1 4
    -- a frame of 59 octets is refused with 8; one of 60 that tells PRC is followed; code 0000 reads as invalid
    ∷ line 0x02 0x1f5 0x05 0x0000 2 59 0x08 0xff 1 4
    ∷ line 0x02 0x1f5 0x05 0x0000 2 60 0x00 0x05 2 1
    ∷ line 0x02 0x1f6 0x05 0x0000 0 60 0x00 0xff 1 4
    ∷ []

-- no more octets than a frame has
unfoldable pub lent_octets : ℕ → ℕ
lent_octets octets = cond (ltb octets written_length) octets written_length

-- who sends the frames
abbrev pub test_source : List ℕ
test_source = 2 ∷ 0 ∷ 0 ∷ 0 ∷ 0 ∷ 1 ∷ []

-- a frame that tells a code, written into zeros
unfoldable pub test_frame : ℕ → List ℕ
test_frame code =
    let before = zeros written_length in
    content_after (write_answer before test_source code) before test_source false code

-- the card after a line
unfoldable pub tested_watch : Watch → TestLine → Watch
tested_watch watch line =
    step_lent watch line.0 line.1 line.2 line.3 (take (lent_octets line.5) (test_frame line.4))

-- a line was answered as it has to be; no switch stands
unfoldable pub is_told : Answer → TestLine → Bool
is_told told line =
    eqb told.number line.6 &&
    eqb told.selected line.7 &&
    eqb told.clockstate line.8 &&
    eqb told.clockquality line.9 &&
    eqb told.switchkind 0 &&
    eqb told.switchinput no_input

-- lines one after the other are each answered as they have to be
unfoldable pub answered_right : List TestLine → Watch → Bool
answered_right [] watch = true
answered_right (line ∷ lines) watch =
    let after = tested_watch watch line in
    is_told after.answer line && answered_right lines after

-- 1 where all are, on a fresh card of option I
unfoldable pub self_test : ℕ
self_test = flag (answered_right test_lines (fresh_watch P.OptionOne))

-- by the definitions the test is passed
pub record SelfTestRight : Type 0 where
  pub passes : self_test ≡ 1
