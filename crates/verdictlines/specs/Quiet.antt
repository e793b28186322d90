-- An event whose answer is not made anew, and that doesn't set what a port sends: what is shown stays as it was. Assumes
-- nothing.
use Rattle.std.specs.Prelude.{ℕ, ◌≤◌, false, ◌≡◌, eqb}
use Rattle.numbers.specs.From.{◌following◌}
use Rattle.numbers.specs.Kind.{kind_sending}
use Rattle.frame.specs.Read.{read_code}
use Rattle.selector.specs.Answer.{answer_of}
use Rattle.due.specs.Next.{next_due}
use Rattle.events.specs.Given.{Given, Sequence}
use Rattle.events.specs.Sequence.{state_after}
use Rattle.quickstep.specs.Watch.{Watch, watch_of, is_anew}
use Rattle.lanes.specs.declared.View.{View}
use Rattle.verdictlines.specs.Bench.{shown_by}

-- a watch after any events, with a time before which nothing is due
abbrev pub watch_after : Sequence → ℕ → Watch
watch_after events due = watch_of (state_after events) due (answer_of 0 (state_after events)) 0

-- an event changes nothing that shows: its answer is not made anew, and it sets not what a port sends
abbrev pub TakenQuietly : Sequence → ℕ → Given → Type 0
TakenQuietly events due given =
    (due ≤ next_due (state_after events)) ×
    (is_anew (watch_after events due) given.event (read_code given.frame) ≡ false) ×
    (eqb given.event.kind kind_sending ≡ false)

-- what is shown in every lane after it is what was shown before
abbrev pub QuietRight : View → Sequence → Given → Type 0
QuietRight view events given = shown_by view (state_after (given following events)) ≡ shown_by view (state_after events)
