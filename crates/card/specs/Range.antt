-- What C may index by: in every answer, whatever the arrays held. What no answer depends on. And what the test for a
-- kept card is worth. Not cited by the code. Assumes nothing.
use Rattle.std.specs.Prelude.{ℕ, ◌≤◌, List, ◌⊎◌, ◌≢◌, ◌≡◌}
use Rattle.numbers.specs.declared.Answer.{Answer}
use Rattle.numbers.specs.Inputs.{last_input}
use Rattle.numbers.specs.Kind.{kind_frame}
use Rattle.selector.specs.Clock.{no_input, locked, switch_manual}
use Rattle.events.specs.Given.{Sequence}
use Rattle.onestep.specs.Watched.{answer_in, watch_at}
use Rattle.card.specs.Lent.{step_lent}
use Rattle.card.specs.Sound.{is_sound}
use Rattle.card.specs.Calls.{lent_after}

-- "selected input or ff": 0 to 15, or 255
abbrev pub IsInput : ℕ → Type 0
IsInput number = (number ≤ last_input) ⊎ (number ≡ no_input)

-- the numbers by which C finds an input or a name
pub record InRange (told : Answer) : Type 0 where
  pub selected : IsInput told.selected
  pub switchinput : IsInput told.switchinput
  pub clockstate : told.clockstate ≤ locked
  pub switchkind : told.switchkind ≤ switch_manual

-- after any step, on any numbers at all
pub record AnyLent (times small wider due told : List ℕ) (kind time input argument : ℕ) (frame : List ℕ) : Type 0 where
  pub in_range : InRange (step_lent (watch_at times small wider due told) kind time input argument frame).answer
  -- a frame is looked at for a frame event alone: for any other, what is lent changes nothing
  pub unread : kind ≢ kind_frame
      → (other : List ℕ)
      → step_lent (watch_at times small wider due told) kind time input argument frame
      ≡ step_lent (watch_at times small wider due told) kind time input argument other

-- every card that events lead to passes the test, and one that passes answers in range
pub record SoundRight : Type 0 where
  pub reached : (sequence : Sequence) → is_sound (lent_after sequence) ≡ 1
  pub in_range : (times small wider due told : List ℕ) → is_sound (watch_at times small wider due told) ≡ 1
      → InRange (answer_in told)
