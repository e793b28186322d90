-- What a program has read, and what `write` took of its answers, to its end: for any program that answers an input. What
-- was taken is known by its count, since `write` is lent the right text alone, from where the last call stopped on
-- (`NextPart`, and each program's premise above it).
-- Assumes nothing.
use Rattle.std.specs.Prelude.{ℕ, ◌<◌, Bool, true, false, Option, Some, None, List, ◌++◌, ◌≡◌, length}
use Rattle.calls.specs.declared.Ending.{Ending}
use Rattle.calls.specs.declared.Ending.TheVariants.{Whole, Unread}
use Rattle.calls.specs.declared.Ended.{Ended}
use Rattle.calls.specs.Calls.{Unsent}

-- a text is the beginning of another, or all of it
abbrev pub Begins : List ℕ → List ℕ → Type 0
Begins text whole = (rest : List ℕ) × (whole ≡ text ++ rest)

-- ---- an input, read so far or to its end, and what it is answered with: `so_far` what has ended in it, `whole` all

-- the program goes on: there is an input, what the reads delivered, after which what is carried on is right, and all
-- that it is answered with so far was taken
pub record GoesOn (so_far : List ℕ → List ℕ) (Carried : List ℕ → Type 0) (read sent : ℕ) : Type 0 where
  pub input : List ℕ
  pub carried : Carried input
  pub count : read ≡ length input
  pub taken : sent ≡ length (so_far input)

-- so much of what an input is answered with was taken till the program ended
pub data TakenUntil (so_far whole : List ℕ → List ℕ) (input : List ℕ) : Ending → ℕ → Type 0 where
  -- the input's end was read, and all was taken
  all : TakenUntil so_far whole input Whole (length (whole input))
  -- the input's end was read, and not all was taken
  cut : (ending : Ending) (sent : ℕ) → Unsent ending → sent < length (whole input)
      → TakenUntil so_far whole input ending sent
  -- not all was taken that it is answered with so far, and nothing more was answered
  stopped : (ending : Ending) (sent : ℕ) → Unsent ending → sent < length (so_far input)
      → TakenUntil so_far whole input ending sent
  -- a read failed: all that it is answered with so far
  unread : TakenUntil so_far whole input Unread (length (so_far input))

-- the program has ended: there is an input, what the reads delivered, and so much was taken until then
pub record Answered (so_far whole : List ℕ → List ℕ) (ended : Ended) : Type 0 where
  pub input : List ℕ
  pub count : ended.read ≡ length input
  pub taken : TakenUntil so_far whole input ended.ending ended.sent

-- what a turn came to: the program goes on, or has ended, and how
pub data TurnEnded (so_far whole : List ℕ → List ℕ) (Carried : List ℕ → Type 0) (read sent : ℕ)
    : Option Ending → Type 0 where
  on : GoesOn so_far Carried read sent → TurnEnded so_far whole Carried read sent None
  over : (ending : Ending) → Answered so_far whole (record { ending = ending; read = read; sent = sent })
      → TurnEnded so_far whole Carried read sent (Some ending)

-- ---- that this is right

-- how a program ended, and what that says of the answers: there are an input and a text of so many octets, what was read
-- and what was taken; the text is all that the input is answered with, where the ending says so, and all so far where a
-- read failed; where the input's end was read, the beginning of all; and where not, the beginning of what any input is
-- answered with that begins so
pub record EndedRight (so_far whole : List ℕ → List ℕ) (ended : Ended) : Type 0 where
  pub input : List ℕ
  pub text : List ℕ
  pub read : ended.read ≡ length input
  pub sent : ended.sent ≡ length text
  pub at_end : Bool
  pub all : ended.ending ≡ Whole → text ≡ whole input
  pub unread : ended.ending ≡ Unread → text ≡ so_far input
  pub last : at_end ≡ true → Begins text (whole input)
  pub beginning : at_end ≡ false → (more : List ℕ) → Begins text (whole (input ++ more))
