-- Document 01, "Numbers of refusal": the table, row by row; then the number that document 02 adds.
-- Assumes nothing.
use Rattle.std.specs.Prelude.{ℕ}

-- "00 accepted"
abbrev pub accepted : ℕ
accepted = 0

abbrev pub line_malformed : ℕ
line_malformed = 1

abbrev pub kind_unknown : ℕ
kind_unknown = 2

-- "time at or above 2^48"
abbrev pub time_too_large : ℕ
time_too_large = 3

-- "time before that of the state"
abbrev pub time_before_state : ℕ
time_before_state = 4

-- "input above 15, or not 0 for 0c, 0d, 0f"
abbrev pub input_out_of_range : ℕ
input_out_of_range = 5

abbrev pub argument_out_of_range : ℕ
argument_out_of_range = 6

-- "code for an Ethernet input, frame for a line input"
abbrev pub wrong_input_kind : ℕ
wrong_input_kind = 7

abbrev pub frame_length : ℕ
frame_length = 8

abbrev pub frame_destination : ℕ
frame_destination = 9

-- "octets 13-15"
abbrev pub frame_protocol : ℕ
frame_protocol = 10

-- "octets 16-20"
abbrev pub frame_organisation : ℕ
frame_organisation = 11

abbrev pub frame_version : ℕ
frame_version = 12

-- "octets 25-27"
abbrev pub frame_tlv : ℕ
frame_tlv = 13

-- "forced: input off or locked"
abbrev pub forced_barred : ℕ
forced_barred = 14

-- "manual: a forced switch stands"
abbrev pub manual_forced_stands : ℕ
manual_forced_stands = 15

-- "manual: input not eligible"
abbrev pub manual_not_eligible : ℕ
manual_not_eligible = 16

-- "manual: an eligible input has lower passed quality (mode on)"
abbrev pub manual_lower_quality : ℕ
manual_lower_quality = 17

-- "frame buffer under 60 octets"
abbrev pub buffer_too_short : ℕ
buffer_too_short = 18

-- "source address not six octets"
abbrev pub source_not_six : ℕ
source_not_six = 19

-- L6: "A list longer than the room lent for it"; L8: "Output lent too short for either the log or the report"
abbrev pub output_too_short : ℕ
output_too_short = 20

-- document 02, L11: "going back is refused with new number 21"
abbrev pub no_old_form : ℕ
no_old_form = 21
