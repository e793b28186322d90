-- An event that says again to its own input what was said before: most are such, and change next to nothing. Cited by
-- `src/lib.rt`.
-- Assumes nothing.
use Rattle.std.specs.Prelude.{ℕ, Bool, true, false, not, ◌&&◌, cond, eqb, leb, ltb}
use Rattle.numbers.specs.declared.Event.{Event}
use Rattle.numbers.specs.declared.profile.Profile.{Profile}
use Rattle.numbers.specs.Inputs.{last_input, frame_life, reports_needed}
use Rattle.numbers.specs.Codes.{quality_of_code}
use Rattle.numbers.specs.Kind.{kind_frame, kind_line_code, kind_tick, takes_codes, takes_frames}
use Rattle.numbers.specs.Profile.{limits_of}
use Rattle.numbers.specs.Refusal.{accepted}
use Rattle.frame.specs.declared.FrameRead.{FrameRead}
use Rattle.frame.specs.declared.FrameRead.TheVariants.{Code, Refused}
use Rattle.frame.specs.Write.{largest_code}
use Rattle.input.specs.declared.Heard.{Heard}
use Rattle.input.specs.declared.Input.{Input}
use Rattle.due.specs.Next.{lesser, sum_or_never}
use Rattle.events.specs.Refusals.{early_refusal}
use Rattle.quickstep.specs.declared.Left.{Left}
use Rattle.quickstep.specs.declared.Left.TheVariants.{Nothing}
use Rattle.quickstep.specs.declared.Own.{Own}

-- a code comes again that has come three times
unfoldable pub code_again : Profile → Heard → ℕ → Bool
code_again profile heard code =
    heard.signal && eqb heard.last code && eqb heard.reports reports_needed &&
    eqb heard.linequality.0 (quality_of_code profile code).0

-- a frame says what the last one said, in a run that is failed or not failed
unfoldable pub frame_again : Profile → Heard → Bool → ℕ → Bool
frame_again profile heard failed code =
    not failed && heard.signal && eqb heard.frame.0 (quality_of_code profile code).0

-- what a reading says again; a frame that is refused says nothing
unfoldable pub read_again : Input → Profile → FrameRead → Bool
read_again input profile (Code code) = frame_again profile input.heard input.run.failed code
read_again input profile (Refused number) = false

-- an event says again to an input what was said before; a tick says nothing; a word is not looked at
unfoldable pub is_again : Input → Profile → Event → FrameRead → Bool
is_again input profile event read =
    cond (eqb event.kind kind_tick) true
    (cond (eqb event.kind kind_line_code) (code_again profile input.heard event.argument)
    (cond (eqb event.kind kind_frame) (read_again input profile read)
    false))

-- an event is accepted, nothing is due by its time, and it says again to its own input what was said before
unfoldable pub says_again : Input → Profile → ℕ → ℕ → Event → FrameRead → Bool
says_again before profile time due event read =
    eqb (early_refusal (limits_of profile) time before.settings.kind event read) accepted && ltb event.time due &&
    is_again before profile event read

-- the same as the code asks it, but for the time: a code, a frame or a tick, by the tests that its kind has
unfoldable pub repeats : Input → Profile → Event → FrameRead → Bool
repeats before profile event read =
    cond (eqb event.kind kind_line_code)
    (leb event.input last_input && leb event.argument largest_code && takes_codes before.settings.kind &&
    code_again profile before.heard event.argument)
    (cond (eqb event.kind kind_frame)
    (leb event.input last_input && eqb event.argument 0 && takes_frames before.settings.kind &&
    read_again before profile read)
    (cond (eqb event.kind kind_tick) (eqb event.input 0 && eqb event.argument 0)
    false))

-- the input with another time of its last frame
abbrev pub framed_input : Input → ℕ → Input
framed_input input time =
    record {
      heard =
          record {
            framed = time;
            frame = input.heard.frame;
            linequality = input.heard.linequality;
            last = input.heard.last;
            reports = input.heard.reports;
            signal = input.heard.signal;
          };
      run = input.run;
      settings = input.settings;
    }

-- the input after such an event: a frame is remembered
unfoldable pub again_input : Input → ℕ → ℕ → Input
again_input input kind time = cond (eqb kind kind_frame) (framed_input input time) input

-- a time before which nothing is due after it: a frame expires
unfoldable pub again_due : ℕ → ℕ → ℕ → ℕ
again_due due kind time = cond (eqb kind kind_frame) (lesser due (sum_or_never time frame_life)) due

-- what an event makes of its own input, by its parts
abbrev pub own_of : Input → ℕ → ℕ → ℕ → Left → Own
own_of input time due number left = record { input = input; time = time; due = due; number = number; left = left }

-- what such an event makes of its own input: nothing is left to do
unfoldable pub again_own : Input → ℕ → Event → Own
again_own before due event =
    own_of (again_input before event.kind event.time) event.time (again_due due event.kind event.time)
    accepted
    Nothing
