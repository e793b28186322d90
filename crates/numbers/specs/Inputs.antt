-- Document 01, "The sixteen inputs": the numbers of that heading, and of times.
-- Assumes nothing.
use Rattle.std.specs.Prelude.{ℕ, ◌^◌}

-- "Inputs 0 to 15"
abbrev pub last_input : ℕ
last_input = 15

-- "The sixteen inputs"
abbrev pub input_count : ℕ
input_count = 16

-- a minute in ms, for "wait 0 to 12 minutes"
abbrev pub minute : ℕ
minute = 60000

-- "300 ms"
abbrev pub fresh_holdoff : ℕ
fresh_holdoff = 300

-- "5 minutes"
abbrev pub fresh_wait : ℕ
fresh_wait = 5

-- "less than 5,000 ms ago"
abbrev pub frame_life : ℕ
frame_life = 5000

-- "three consecutive code reports"
abbrev pub reports_needed : ℕ
reports_needed = 3

-- "2^48"
abbrev pub time_limit : ℕ
time_limit = 2 ^ 48
