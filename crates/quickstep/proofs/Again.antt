-- An event that says again what was said before changes nothing of an input that leaves nothing to be done, but for the
-- time of the last frame. Assumes nothing.
use Prim.Native.Nat.{ℕ, ◌+◌}
use mathlib.Core.Bool.{Bool, true, false, not, ◌&&◌, cond, true≢false, false≢true}
use mathlib.Core.Path.{◌≡◌, refl, ap, sym, ◌∙◌}
use native.Mathlib.Omega.{arith}
use lib.Dec.{leb, eqb}
use borrow.Author.Tests.{lt-leb, eq-eqb, eqb-true, not-true}
use Rattle.numbers.specs.declared.Event.{Event}
use Rattle.numbers.specs.declared.quality.Quality.{Quality}
use Rattle.numbers.specs.Inputs.{frame_life, reports_needed}
use Rattle.numbers.specs.Kind.{kind_tick, kind_frame, kind_line_code}
use Rattle.numbers.specs.Recorded.{Recorded}
use Rattle.numbers.specs.Quality.{failed, is_failed}
use Rattle.numbers.specs.Codes.{quality_of_code, said_in}
use Rattle.numbers.specs.declared.profile.Profile.{Profile}
use Rattle.frame.specs.declared.FrameRead.{FrameRead}
use Rattle.frame.specs.declared.FrameRead.TheVariants.{Code, Refused}
use Rattle.frame.specs.Read.{code_of_read}
use Rattle.run.specs.declared.Forecast.{Forecast}
use Rattle.run.specs.declared.Run.{Run}
use Rattle.run.specs.Run.{is_expired, raw_at}
use Rattle.numbers.proofs.Truth.{by_bool, both_first, both-second}
use Rattle.run.proofs.Kept.{Settled, at_moment-settled}
use Rattle.input.specs.declared.Heard.{Heard}
use Rattle.input.specs.declared.Input.{Input}
use Rattle.input.specs.Record.{equal_count, line_after, heard_after, settings_after, quality_now, can_expire, forecast, with_run, input_at_moment, after_event}
use Rattle.selector.specs.State.{candidate_for}
use Rattle.due.proofs.Millisecond.{SettledAt}
use Rattle.events.specs.Given.{recorded_argument, recorded_event}
use Rattle.events.specs.Step.{is_held_in_byte, held_argument, input_after}
use Rattle.events.proofs.Calm.{input_after_tick}
use Rattle.quickstep.specs.Again.{code_again, frame_again, read_again, is_again, framed_input, again_input}
use Rattle.quickstep.specs.Own.{is_command}

-- ---- what was heard

abbrev heard_of : ℕ → Quality → Quality → ℕ → ℕ → Bool → Heard
heard_of framed frame line last reports good =
    record { framed = framed; frame = frame; linequality = line; last = last; reports = reports; signal = good }

code_any : (framed : ℕ) (frame line : Quality) (last count : ℕ) (good : Bool) (said : Quality) (time : ℕ) → good ≡ true
    → count ≡ reports_needed → line ≡ said
    → heard_after (heard_of framed frame line last count good) kind_line_code last said time
    ≡ heard_of framed frame line last count good
unfolding heard_after equal_count line_after
code_any framed frame line last count good said time isGood three told = rw (isGood, three, told, eq-eqb last last refl)

frame-any : (framed : ℕ) (frame line : Quality) (last count : ℕ) (good : Bool) (argument : ℕ)
    (said : Quality) (time : ℕ)
    → good ≡ true → frame ≡ said
    → heard_after (heard_of framed frame line last count good) kind_frame argument said time
    ≡ heard_of time frame line last count good
unfolding heard_after
frame-any framed frame line last count good argument said time isGood told = rw (isGood, told)

-- ---- a run, where the frame comes again

abbrev framed_at : Forecast → ℕ → Forecast
framed_at f time =
    record { framed = time; holdoff = f.holdoff; wait = f.wait; quality = f.quality; expires = f.expires }

raw-new : (expires : Bool) (time : ℕ) (q : Quality) → cond (expires && leb (time + frame_life) time) failed q ≡ q
raw-new true time q = rw (lt-leb (time + frame_life) time (omega arith))
raw-new false time q = refl

good-raw : (test : Bool) (q : Quality) → false ≡ is_failed (cond test failed q) → false ≡ is_failed q
good-raw true q e = absurd (true≢false (sym e))
good-raw false q e = e

settled-framed : (f : Forecast) (run : Run) (time : ℕ) → Settled f run time → run.failed ≡ false
    → Settled (framed_at f time) run time
unfolding raw_at is_expired
settled-framed f run time settled runs =
    record {
      fits =
          record {
            fails =
                runs ∙
                rw (raw-new f.expires time f.quality)
                (good-raw (is_expired f time) f.quality (sym runs ∙ settled.fits.fails));
            good = settled.fits.good;
          };
      held_off = settled.held_off;
      waited = settled.waited;
    }

-- ---- an input

same-quality : (one other : Quality) → one.0 ≡ other.0 → one ≡ other
same-quality one other e = λ j. record { 0 = e j }

-- an event as it is recorded
abbrev reported : ℕ → ℕ → ℕ → ℕ → Quality → Recorded
reported kind time at argument said =
    record { kind = kind; time = time; input = at; argument = argument; said = said }

-- a code that has come three times comes again
code-again : (input : Input) (at argument : ℕ) (said : Quality) (time : ℕ) (mode : Bool) → SettledAt mode time input
    → argument ≡ input.heard.last
    → input.heard.signal ≡ true
    → input.heard.reports ≡ reports_needed
    → input.heard.linequality ≡ said
    → input_after input (reported kind_line_code time at argument said) mode ≡ input
unfolding input_after held_argument is_held_in_byte after_event settings_after input_at_moment
code-again input at argument said time mode settled same isGood three told =
    let h = input.heard in
    let heard : heard_after h kind_line_code argument said time ≡ h =
    ap (λ (c : ℕ). heard_after h kind_line_code c said time) same ∙
    code_any h.framed h.frame h.linequality h.last h.reports h.signal said time isGood three told
    in
    ap (λ (x : Heard). input_at_moment (record { heard = x; run = input.run; settings = input.settings }) time mode
    false) heard ∙
    ap (λ (run : Run). with_run input run) (at_moment-settled input.run (forecast input mode) time settled)

-- a frame of the same quality comes again in a run that is not failed
frame-again : (input : Input) (at argument : ℕ) (said : Quality) (time : ℕ) (mode : Bool) → SettledAt mode time input
    → input.heard.signal ≡ true
    → input.heard.frame ≡ said
    → input.run.failed ≡ false
    → input_after input (reported kind_frame time at argument said) mode ≡ framed_input input time
unfolding input_after held_argument is_held_in_byte after_event settings_after input_at_moment forecast quality_now can_expire
frame-again input at argument said time mode settled isGood told runs =
    let h = input.heard in
    ap (λ (x : Heard). input_at_moment (record { heard = x; run = input.run; settings = input.settings })
    time mode false)
    (frame-any h.framed h.frame h.linequality h.last h.reports h.signal argument said time isGood told) ∙
    ap (λ (run : Run). with_run (framed_input input time) run)
    (at_moment-settled input.run (forecast (framed_input input time) mode) time
    (settled-framed (forecast input mode) input.run time settled runs))

module _ (input : Input) (profile : Profile) (event : Event) (mode : Bool)
    (settled : SettledAt mode event.time input) where
  said-code : (at argument : ℕ) → code_again profile input.heard argument ≡ true
      → input_after input (reported kind_line_code event.time at argument (quality_of_code profile argument)) mode ≡ input
  unfolding code_again
  said-code at argument again =
      let h = input.heard in
      let good = h.signal in
      let same = eqb h.last argument in
      let three = eqb h.reports reports_needed in
      let told = eqb h.linequality.0 (quality_of_code profile argument).0 in
      let first = both_first (good && same && three) told again in
      let second = both_first (good && same) three first in
      let k : h.last ≡ argument = eqb-true _ _ (both-second good same second) in
      let l : h.linequality.0 ≡ (quality_of_code profile argument).0 =
      eqb-true _ _ (both-second (good && same && three) told again)
      in
      code-again input at argument (quality_of_code profile argument) event.time mode settled (sym k)
      (both_first good same second)
      (eqb-true _ _ (both-second (good && same) three first))
      (same-quality _ _ l)

  said-frame : (at argument : ℕ) → frame_again profile input.heard input.run.failed argument ≡ true
      → input_after input (reported kind_frame event.time at argument (quality_of_code profile argument)) mode
      ≡ framed_input input event.time
  unfolding frame_again
  said-frame at argument again =
      let h = input.heard in
      let runs = not input.run.failed in
      let told = eqb h.frame.0 (quality_of_code profile argument).0 in
      let first = both_first (runs && h.signal) told again in
      frame-again input at argument (quality_of_code profile argument) event.time mode settled
      (both-second runs h.signal first)
      (same-quality _ _ (eqb-true _ _ (both-second (runs && h.signal) told again)))
      (not-true input.run.failed (both_first runs h.signal first))

  -- a frame that is said again was accepted
  said_read : (read : FrameRead) → read_again input profile read ≡ true
      → input_after input
      (reported kind_frame event.time event.input (code_of_read read) (quality_of_code profile (code_of_read read)))
      mode
      ≡ framed_input input event.time
  unfolding read_again
  said_read (Code code) again = said-frame event.input code again
  said_read (Refused number) again = absurd (false≢true again)

  -- what is said again leaves the input as it was, but for the time of its last frame
  pub again-input : (read : FrameRead) → is_again input profile event read ≡ true
      → input_after input (recorded_event profile event read) mode ≡ again_input input event.kind event.time
  unfolding is_again again_input said_in recorded_argument
  again-input read again =
      by_bool (eqb event.kind kind_tick)
      (λ t. let k = eqb-true event.kind kind_tick t in
      input_after_tick input (recorded_event profile event read) mode k settled ∙ (rw k))
      (λ t. by_bool (eqb event.kind kind_line_code)
      (λ l. let k = eqb-true event.kind kind_line_code l in
      let a : code_again profile input.heard event.argument ≡ true = rw (t, l) at again in
      rw k (said-code event.input event.argument a))
      (λ l. by_bool (eqb event.kind kind_frame)
      (λ f. let k = eqb-true event.kind kind_frame f in
      let a : read_again input profile read ≡ true = rw (t, l, f) at again in
      rw k (said_read read a))
      (λ f. let a : false ≡ true = rw (t, l, f) at again in absurd (false≢true a))))

-- and a choice sees it as it was
pub again-seen : (input : Input) (profile : Profile) (kind time : ℕ) (mode : Bool)
    → candidate_for profile mode (again_input input kind time) ≡ candidate_for profile mode input
unfolding again_input candidate_for
again-seen input profile kind time mode = by_bool (eqb kind kind_frame) (λ f. rw f) (λ f. rw f)

-- what can say again what was said before commands nothing
pub again-free : (input : Input) (profile : Profile) (event : Event) (read : FrameRead)
    → is_again input profile event read ≡ true
    → is_command event.kind ≡ false
unfolding is_again is_command
again-free input profile event read is =
    by_bool (eqb event.kind kind_tick)
    (λ y. rw (eqb-true event.kind kind_tick y))
    (λ n. by_bool (eqb event.kind kind_line_code)
    (λ y. rw (eqb-true event.kind kind_line_code y))
    (λ m. by_bool (eqb event.kind kind_frame)
    (λ y. rw (eqb-true event.kind kind_frame y))
    (λ o. absurd (false≢true (rw (n, m, o) at is)))))
