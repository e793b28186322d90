-- What is said of any two tests, whatever they test.
-- Assumes nothing.
use Rattle.std.specs.Prelude.{Bool, true, false, not}

-- two tests give the same
abbrev pub alike : Bool → Bool → Bool
alike true other = other
alike false other = not other
