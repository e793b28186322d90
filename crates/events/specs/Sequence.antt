-- Any sequence of events from a fresh start, refused ones included: the state that the code is in after it, and the
-- number that the code answers. `Past` has what document 01 says of the same sequence. Assumes nothing.
use Rattle.std.specs.Prelude.{ℕ}
use Rattle.numbers.specs.From.{started, ◌following◌}
use Rattle.selector.specs.declared.Selector.{Selector}
use Rattle.selector.specs.State.{fresh_selector}
use Rattle.events.specs.Step.{step}
pub use Rattle.events.specs.Given.{Given, Sequence}

-- the state after a sequence of events from a fresh start of a profile
unfoldable pub state_after : Sequence → Selector
state_after (started profile) = fresh_selector profile
state_after (given following earlier) = (step (state_after earlier) given.event given.frame).state

-- the number that an event is answered with, after the events before it
unfoldable pub number_after : Given → Sequence → ℕ
number_after given earlier = (step (state_after earlier) given.event given.frame).number

-- how many due moments its tick serves
unfoldable pub count_after : Given → Sequence → ℕ
count_after given earlier = (step (state_after earlier) given.event given.frame).count
