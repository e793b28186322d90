-- What printing a text comes to, in two parts or in any number. Cited by `src/lib.rt`. Assumes nothing.
use Rattle.std.specs.Prelude.{ℕ, List, ◌≡◌, Option, Some, None, length}
use Rattle.calls.specs.declared.Ending.{Ending}
use Rattle.calls.specs.declared.Ending.TheVariants.{Whole, Unread}
use Rattle.calls.specs.Calls.{TextTaken}
use Rattle.files.specs.declared.Printed.{Printed}

-- what is handed over of a text in two parts: the first one, where nothing was taken before; or the second one, where
-- all of the first was
pub data NextOf (head rest : List ℕ) (sent : ℕ) (part : List ℕ) : Type 0 where
  first : sent ≡ 0 → part ≡ head → NextOf head rest sent part
  second : sent ≡ length head → part ≡ rest → NextOf head rest sent part

-- a text of so many octets was handed over: `write` took all of it, or not all
pub record Handed (size : ℕ) (printed : Option Printed) : Type 0 where
  pub ending : Ending
  pub sent : ℕ
  pub is : printed ≡ Some (record { ending = ending; sent = sent })
  pub taken : TextTaken size 0 ending sent

-- so much was taken of a text: of all of it that was handed over; or all, and then nothing more was handed over
pub data TakenOf (size : ℕ) : Ending → ℕ → Type 0 where
  handed : (ending : Ending) (sent : ℕ) → TextTaken size 0 ending sent → TakenOf size ending sent
  stopped : TakenOf size Unread size

-- how printing ended; whole where there was nothing to print
abbrev pub ending_of : Option Printed → Ending
ending_of None = Whole
ending_of (Some printed) = printed.ending
