-- What any event makes of its own input, so that an event that touches one input need not carry sixteen, and what is
-- left to do. Cited by `src/lib.rt`.
-- Assumes nothing.
use Rattle.std.specs.Prelude.{ℕ, ◌%◌, ◌<◌, Bool, true, false, not, ◌||◌, cond, List, ◌≡◌, eqb, leb, length}
use Rattle.numbers.specs.declared.Event.{Event}
use Rattle.numbers.specs.declared.profile.Profile.{Profile}
use Rattle.numbers.specs.Profile.{limits_of}
use Rattle.numbers.specs.Inputs.{input_count}
use Rattle.numbers.specs.Kind.{kind_forced, kind_manual, kind_clear_switch, kind_quality_mode}
use Rattle.numbers.specs.Refusal.{accepted}
use Rattle.frame.specs.declared.FrameRead.{FrameRead}
use Rattle.input.specs.declared.Input.{Input}
use Rattle.choice.specs.Candidate.{is_like}
use Rattle.selector.specs.State.{seen_of}
use Rattle.due.specs.Next.{lesser, next_of}
use Rattle.events.specs.Refusals.{early_refusal}
use Rattle.events.specs.Step.{input_after}
use Rattle.events.specs.Given.{recorded_event}
use Rattle.quickstep.specs.declared.Left.{Left}
use Rattle.quickstep.specs.declared.Left.TheVariants.{Nothing, Choice, Service}
use Rattle.quickstep.specs.declared.Own.{Own}
use Rattle.quickstep.specs.Again.{own_of}

-- where an input stands among the sixteen; its number, taken round, where there is no such input
pub record OwnIndex (inputs : List Input) (number index : ℕ) : Type 0 where
  pub own : index ≡ number % input_count
  pub inside : index < length inputs

-- the event touches more than its own input: the switch or the quality mode
unfoldable pub is_command : ℕ → Bool
is_command kind = eqb kind kind_forced || eqb kind kind_manual || eqb kind kind_clear_switch || eqb kind kind_quality_mode

-- an event is served: something is due by its time, or it commands
unfoldable pub is_served : ℕ → ℕ → ℕ → Bool
is_served due kind time = leb due time || is_command kind

-- a choice sees two records of an input alike
unfoldable pub seen_alike : Input → Input → Bool
seen_alike before after = is_like (seen_of before) (seen_of after)

-- the input takes the event, and a choice is left where it would see the input otherwise than before
unfoldable pub own_take : Input → Profile → Bool → ℕ → Event → FrameRead → Own
own_take before profile mode due event read =
    let after = input_after before (recorded_event profile event read) mode in
    own_of after event.time (lesser due (next_of after mode event.time)) accepted
    (cond (seen_alike before after) Nothing Choice)

-- one event: refused at once; or left to be served; or taken
unfoldable pub own_step : Input → Profile → Bool → ℕ → ℕ → Event → FrameRead → Own
own_step before profile mode time due event read =
    let early = early_refusal (limits_of profile) time before.settings.kind event read in
    cond (not (eqb early accepted)) (own_of before time due early Nothing)
    (cond (is_served due event.kind event.time) (own_of before time due accepted Service)
    (own_take before profile mode due event read))

-- anything is left to do
unfoldable pub is_left : Left → Bool
is_left Nothing = false
is_left Choice = true
is_left Service = true
