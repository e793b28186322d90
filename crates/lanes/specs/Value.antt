-- What is judged of an answer or of a port, as a number, and the index of a number among those that can be right. Cited
-- by `src/lib.rt`. Assumes nothing.
use Rattle.std.specs.Prelude.{ℕ, ◌+◌, ◌-◌, ◌*◌, ◌/◌, ◌%◌, ◌≤◌, Bool, cond, List, ◌≡◌, eqb, ltb, get_or}
use Rattle.numbers.specs.declared.Answer.{Answer}
use Rattle.selector.specs.declared.Selector.{Selector}
use Rattle.selector.specs.Answer.{answer_of, outgoing_codes}
use Rattle.lanes.specs.declared.View.{View}

-- an octet if it is judged, otherwise 0
abbrev pub judged_octet : Bool → ℕ → ℕ
judged_octet test octet = cond test octet 0

-- such an octet is one
pub record Judging (test : Bool) (octet answer : ℕ) : Type 0 where
  pub value : answer ≡ judged_octet test octet
  pub most : answer ≤ 255

-- what is judged of the five octets of an answer, as one number
abbrev pub answer_value : View → Answer → ℕ
answer_value view answer =
    (((judged_octet view.selected answer.selected * 256 + judged_octet view.state answer.clockstate) * 256
    + judged_octet view.quality answer.clockquality)
    * 256
    + judged_octet view.switch answer.switchkind)
    * 256
    + judged_octet view.switch answer.switchinput

-- the code of a port
unfoldable pub code_value : List ℕ → ℕ → ℕ
code_value codes lane = cond (ltb lane 16) (get_or codes lane 0) 0

-- what a state shows in a lane: the code of a port, or what is judged of the answer
unfoldable pub value_of : View → Selector → ℕ → ℕ
value_of view state lane =
    cond view.codes (code_value (outgoing_codes state) lane) (answer_value view (answer_of 0 state))

-- how many numbers have an index
abbrev pub index_count : ℕ
index_count = 36992

-- the index of a selected input among seventeen, 17 for any other number
unfoldable pub input_index : ℕ → ℕ
input_index number = cond (eqb number 255) 16 (cond (ltb number 16) number 17)

-- the index of no switch, and of one that is not judged
unfoldable pub no_switch_index : ℕ → ℕ
no_switch_index on = cond (eqb on 255) 33 (cond (eqb on 0) 0 34)

-- the index of a switch with its input among 34, 34 for any other numbers
unfoldable pub switch_index : ℕ → ℕ → ℕ
switch_index switch on =
    cond (eqb switch 0) (no_switch_index on)
    (cond (ltb 2 switch) 34
    (cond (ltb on 16) (1 + (switch - 1) * 16 + on)
    34))

-- the index of four of them, the count for what is never right
unfoldable pub four_index : ℕ → ℕ → ℕ → ℕ → ℕ
four_index selected state quality switch =
    cond (ltb 16 selected) index_count
    (cond (ltb 3 state) index_count
    (cond (ltb 15 quality) index_count
    (cond (ltb 33 switch) index_count
    (((selected * 4 + state) * 16 + quality) * 34 + switch))))

-- the index of what is judged of an answer
unfoldable pub answer_index : ℕ → ℕ
answer_index value =
    four_index (input_index (value / 4294967296 % 256)) (value / 16777216 % 256) (value / 65536 % 256)
    (switch_index (value / 256 % 256) (value % 256))

-- the index of a port's code
unfoldable pub code_index : ℕ → ℕ → ℕ
code_index lane value = cond (ltb 15 value) index_count (cond (ltb 15 lane) index_count (lane * 16 + value))

-- the index of a value of a lane
unfoldable pub value_index : View → ℕ → ℕ → ℕ
value_index view lane value = cond view.codes (code_index lane value) (answer_index value)

-- a number and its bound
pub record Indexed (is most answer : ℕ) : Type 0 where
  pub value : answer ≡ is
  pub bound : answer ≤ most
