-- Document 02, L3: the next due moment, where the code goes next in serving a tick. Assumes nothing.
use Rattle.std.specs.Prelude.{ℕ, ◌<◌, true, false, ◌≡◌}
use Rattle.input.specs.Recorded.{History, time_of}
use Rattle.due.specs.Next.{never}
use Rattle.events.specs.Due.{is_due}

-- the next due moment is the least of them: later than the last event, due unless none ever is, and none before it is
pub record NextRight (history : History) (next : ℕ) : Type 0 where
  pub later : time_of history < next
  pub due : next < never → is_due history next ≡ true
  pub none : (time : ℕ) → time_of history < time → time < next → is_due history time ≡ false
