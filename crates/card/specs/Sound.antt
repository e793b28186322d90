-- Whether a card can have come from a fresh one by events, as far as is looked. Cited by `src/sound.rt`.
-- Assumes nothing.
use Rattle.std.specs.Prelude.{ℕ, zero, suc, Bool, true, ◌&&◌, List, eqb, leb, ltb, get_or}
use Rattle.numbers.specs.declared.Answer.{Answer}
use Rattle.numbers.specs.Inputs.{input_count, time_limit}
use Rattle.numbers.specs.Kind.{flag}
use Rattle.numbers.specs.Refusal.{accepted}
use Rattle.input.specs.declared.Input.{Input}
use Rattle.input.specs.Record.{fresh_input}
use Rattle.selector.specs.declared.Selector.{Selector}
use Rattle.selector.specs.Clock.{selected_number, switch_number, switch_input}
use Rattle.selector.specs.Answer.{answer_of}
use Rattle.due.specs.Next.{next_due}
use Rattle.due.specs.Served.{ticked}
use Rattle.quickstep.specs.Watch.{Watch}

-- two inputs have the same run
abbrev pub same_run : Input → Input → Bool
same_run one other =
    eqb one.run.began other.run.began &&
    eqb one.run.good.0 other.run.good.0 &&
    eqb (flag one.run.failed) (flag other.run.failed) &&
    eqb (flag one.run.up) (flag other.run.up)

-- the first inputs of two lists have, so many of them
unfoldable pub same_among : List Input → List Input → ℕ → Bool
same_among ones others zero = true
same_among ones others (suc count) =
    same_among ones others count && same_run (get_or ones count fresh_input) (get_or others count fresh_input)

-- the sixteen of them
abbrev pub same_runs : List Input → List Input → Bool
same_runs ones others = same_among ones others input_count

-- switch, selection and whether the clock was ever locked are the same
unfoldable pub same_once : Selector → Selector → Bool
same_once one other =
    eqb (switch_number one.switch) (switch_number other.switch) &&
    eqb (switch_input one.switch) (switch_input other.switch) &&
    eqb (selected_number one.selection) (selected_number other.selection) &&
    eqb (flag one.waslocked) (flag other.waslocked)

-- two answers are the same, but for the number
unfoldable pub same_answer : Answer → Answer → Bool
same_answer one other =
    eqb one.selected other.selected &&
    eqb one.clockstate other.clockstate &&
    eqb one.clockquality other.clockquality &&
    eqb one.switchkind other.switchkind &&
    eqb one.switchinput other.switchinput

-- the state's time is below 2^48, a tick at it changes nothing of these, the time that is kept for what is due is ahead
-- and not too late, and the answer is that of the state
unfoldable pub is_sound : Watch → ℕ
is_sound watch =
    let state = watch.state in
    let again = ticked state state.time in
    flag
    (ltb state.time time_limit &&
    same_runs state.inputs again.inputs &&
    same_once state again &&
    ltb state.time watch.due &&
    leb watch.due (next_due state) &&
    same_answer watch.answer (answer_of accepted state))
