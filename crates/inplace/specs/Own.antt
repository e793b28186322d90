-- The own time of each input, when it is next due, and what a moment may leave out by it. Cited by `src/lib.rt`. Assumes
-- nothing.
use Rattle.std.specs.Prelude.{ℕ, ◌<◌, Bool, true, not, ◌&&◌, ◌||◌, cond, List, [], ◌∷◌, map, ◌≡◌, get_or}
use Rattle.numbers.specs.Quality.{is_failed}
use Rattle.input.specs.declared.Input.{Input}
use Rattle.input.specs.Record.{fresh_input, forecast, input_brought_to, passed_of}
use Rattle.due.specs.Next.{never, next_of}

-- an input changes only where something is due of it: a run that is not failed and can expire has a frame to expire.
-- What events leave is so; other numbers need not be.
unfoldable pub is_timely : Input → Bool → Bool
is_timely input mode = input.run.failed || not ((forecast input mode).expires && is_failed input.heard.frame)

-- some inputs all are
unfoldable pub all_timely : List Input → Bool → Bool
all_timely [] mode = true
all_timely (input ∷ inputs) mode = is_timely input mode && all_timely inputs mode

-- the own times of some inputs, later than a time
abbrev pub own_times : List Input → Bool → ℕ → List ℕ
own_times inputs mode time = map (λ input. next_of input mode time) inputs

-- the latest own time whose input is brought to a moment: the moment, and any where not all inputs are timely
unfoldable pub reach : Bool → ℕ → ℕ
reach timely time = cond timely time never

-- an input that a time does not change, with its own time
pub record Awaits (input : Input) (mode : Bool) (time own : ℕ) : Type 0 where
  pub stays : input_brought_to input time mode ≡ input
  pub next : own ≡ next_of input mode time

-- inputs of which a time changes none whose own time is later than another
abbrev pub Awaiting : List Input → Bool → ℕ → ℕ → List ℕ → Type 0
Awaiting inputs mode time until own =
    (at : ℕ) → at < 16 → until < get_or own at 0 → Awaits (get_or inputs at fresh_input) mode time (get_or own at 0)

-- an input that passes on at a time what it did
abbrev pub PassesAlike : Input → Bool → ℕ → Type 0
PassesAlike input mode time = passed_of (input_brought_to input time mode) ≡ passed_of input

-- sixteen that do
abbrev pub AllPassAlike : List Input → Bool → ℕ → Type 0
AllPassAlike inputs mode time = (at : ℕ) → at < 16 → PassesAlike (get_or inputs at fresh_input) mode time
