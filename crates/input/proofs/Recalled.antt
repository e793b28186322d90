-- What the record keeps of settings and reports is what the recorded events say. Assumes nothing.
use Prim.Native.Nat.{ℕ, suc, ◌+◌, ◌≤◌, ◌<◌, min}
use mathlib.Core.Bool.{Bool, true, false, not, ◌&&◌, ◌||◌, cond}
use mathlib.Core.List.{List, [], ◌∷◌}
use mathlib.Core.Path.{◌≡◌, refl, ◌∙◌, ap, fun_ext}
use native.Mathlib.Omega.{arith}
use lib.Dec.{leb, ltb, eqb}
use borrow.Author.Tests.{ltb-true, ltb-false, leb-true, leb-false, lt-ltb, le-ltb}
use Rattle.numbers.specs.declared.profile.Profile.{Profile}
use Rattle.numbers.specs.Recorded.{Recorded}
use Rattle.numbers.specs.From.{started, ◌following◌}
use Rattle.numbers.specs.declared.Priority.{Priority}
use Rattle.numbers.specs.declared.quality.Quality.{Quality}
use Rattle.numbers.specs.Quality.{quality, not_told, failed}
use Rattle.numbers.specs.Inputs.{fresh_wait, frame_life, reports_needed}
use Rattle.numbers.specs.Kind.{kind_signal, kind_priority, kind_lockout, kind_holdoff, kind_wait, kind_fixed_quality, kind_sending, kind_input_kind, kind_floor, input_kind_of, takes_frames, is_counted, is_frame}
use Rattle.run.specs.Run.{raw_at, is_expired, moment_at}
use Rattle.numbers.proofs.Truth.{by_bool}
use Rattle.input.specs.declared.Heard.{Heard}
use Rattle.input.specs.declared.Input.{Input}
use Rattle.input.specs.declared.Settings.{Settings}
use Rattle.input.specs.Recorded.{History, is_on, last_argument, mode_on, signal_good, input_kind, floor_set, priority_of, is_locked_out, holdoff_of, wait_of, fixed_of, is_sending, heard, is_third, line_quality, frame_quality, raw_quality_at, moment_of}
use Rattle.input.specs.Record.{forgotten, fresh_settings, equal_count, line_after, heard_after, settings_after, quality_now, can_expire, forecast, input_at_moment, input_brought_to, after_event, takes, record_after}

-- ---- what the reports heard come to

unfoldable pub last_code : List Recorded → ℕ
last_code [] = 0
last_code (report ∷ earlier) = report.argument

unfoldable pub code_count : List Recorded → ℕ
code_count [] = 0
code_count (report ∷ earlier) = equal_count report.argument (last_code earlier) (code_count earlier)

unfoldable pub line_said : List Recorded → Quality
line_said [] = failed
line_said (report ∷ earlier) = line_after report.said (code_count (report ∷ earlier)) (line_said earlier)

unfoldable pub frame_time : List Recorded → ℕ
frame_time [] = 0
frame_time (report ∷ earlier) = report.time

unfoldable pub frame_said : List Recorded → Quality
frame_said [] = failed
frame_said (report ∷ earlier) = report.said

-- what was heard, and the settings, by the recorded events
unfoldable pub heard_by : ℕ → History → Heard
heard_by input history =
    record {
      framed = frame_time (heard input is_frame history);
      frame = frame_said (heard input is_frame history);
      linequality = line_said (heard input is_counted history);
      last = last_code (heard input is_counted history);
      reports = code_count (heard input is_counted history);
      signal = signal_good input history;
    }

unfoldable pub settings_by : ℕ → History → Settings
settings_by input history =
    record {
      holdoff = holdoff_of input history;
      wait = last_argument input kind_wait fresh_wait history;
      priority = record { 0 = priority_of input history };
      fixed = quality (fixed_of input history);
      floor = floor_set input history;
      kind = input_kind input history;
      locked = is_locked_out input history;
      sending = is_sending input history;
    }

-- ---- one event more

-- a function of a list that is forgotten, longer by one, or kept
split : {A : Type 0} (f : List Recorded → A) (g p : Bool) (report : Recorded) (earlier : List Recorded)
    → cond g (f []) (cond p (f (report ∷ earlier)) (f earlier)) ≡ f (cond g [] (cond p (report ∷ earlier) earlier))
split f true p report earlier = refl
split f false true report earlier = refl
split f false false report earlier = refl

good_cond : (b : Bool) (x y : ℕ) → cond b (eqb x 0) (eqb y 0) ≡ eqb (cond b x y) 0
good_cond true x y = refl
good_cond false x y = refl

set_cond : (b : Bool) (x y : ℕ) → cond b (not (eqb x 0)) (not (eqb y 0)) ≡ not (eqb (cond b x y) 0)
set_cond true x y = refl
set_cond false x y = refl

kind_cond : (b : Bool) (x y : ℕ) → cond b (input_kind_of x) (input_kind_of y) ≡ input_kind_of (cond b x y)
kind_cond true x y = refl
kind_cond false x y = refl

abbrev priority : ℕ → Priority
priority number = record { 0 = number }

quality_cond : (b : Bool) (x y : ℕ) → cond b (quality x) (quality y) ≡ quality (cond b x y)
quality_cond true x y = refl
quality_cond false x y = refl

priority_cond : (b : Bool) (x y : ℕ) → cond b (priority x) (priority y) ≡ priority (cond b x y)
priority_cond true x y = refl
priority_cond false x y = refl

module _ (input : ℕ) (event : Recorded) (earlier : History) where
  heard-on : eqb event.input input ≡ true
      → heard_after (heard_by input earlier) event.kind event.argument event.said event.time
      ≡ heard_by input (event following earlier)
  unfolding heard_after heard_by heard last_argument is_on last_code code_count line_said frame_time frame_said
  heard-on on =
      let kind = event.kind in
      let good = signal_good input earlier in
      let g = eqb kind kind_input_kind || (eqb kind kind_signal && not (eqb event.argument 0) && good) in
      let frames = heard input is_frame earlier in
      let codes = heard input is_counted earlier in
      let f = is_frame kind && good in
      let c = is_counted kind && good in
      rw on
      (λ j. record {
        framed = split frame_time g f event frames j;
        frame = split frame_said g f event frames j;
        linequality = split line_said g c event codes j;
        last = split last_code g c event codes j;
        reports = split code_count g c event codes j;
        signal = good_cond (eqb kind kind_signal) event.argument (last_argument input kind_signal 1 earlier) j;
      })

  heard-off : eqb event.input input ≡ false → heard_by input earlier ≡ heard_by input (event following earlier)
  unfolding heard_by heard last_argument is_on
  heard-off off = rw off

  settings_on : eqb event.input input ≡ true
      → settings_after (settings_by input earlier) event.kind event.argument
      ≡ settings_by input (event following earlier)
  unfolding settings_after settings_by last_argument is_on
  settings_on on =
      let kind = event.kind in
      let a = event.argument in
      rw on
      (λ j. record {
        holdoff = cond (eqb kind kind_holdoff) a (holdoff_of input earlier);
        wait = cond (eqb kind kind_wait) a (last_argument input kind_wait fresh_wait earlier);
        priority = priority_cond (eqb kind kind_priority) a (priority_of input earlier) j;
        fixed = quality_cond (eqb kind kind_fixed_quality) a (fixed_of input earlier) j;
        floor = cond (eqb kind kind_floor) a (floor_set input earlier);
        kind = kind_cond (eqb kind kind_input_kind) a (last_argument input kind_input_kind 0 earlier) j;
        locked = set_cond (eqb kind kind_lockout) a (last_argument input kind_lockout 0 earlier) j;
        sending = set_cond (eqb kind kind_sending) a (last_argument input kind_sending 1 earlier) j;
      })

  settings_off : eqb event.input input ≡ false
      → settings_by input earlier ≡ settings_by input (event following earlier)
  unfolding settings_by last_argument is_on
  settings_off off = rw off

-- ---- the record

-- what one event leaves of what was heard, and of the settings
module _ (number : ℕ) (event : Recorded) (mode before : Bool) (input : Input) where
  taken : Input
  taken = takes number event mode (input_brought_to input event.time before)

  module _ (own : eqb event.input number ≡ true) where
    taken-heard : taken.heard ≡
        heard_after input.heard event.kind event.argument event.said event.time
    unfolding taken takes after_event input_at_moment input_brought_to
    taken-heard = rw own

    taken_settings : taken.settings ≡ settings_after input.settings event.kind event.argument
    unfolding taken takes after_event input_at_moment input_brought_to
    taken_settings = rw own

  module _ (other : eqb event.input number ≡ false) where
    kept-heard : taken.heard ≡ input.heard
    unfolding taken takes input_at_moment input_brought_to
    kept-heard = rw other

    kept_settings : taken.settings ≡ input.settings
    unfolding taken takes input_at_moment input_brought_to
    kept_settings = rw other

heard-fresh : (input : ℕ) (profile : Profile) → forgotten false ≡ heard_by input (started profile)
unfolding heard_by heard last_argument last_code code_count line_said frame_time frame_said
heard-fresh input profile = refl

pub heard_recalled : (input : ℕ) (history : History) → (record_after input history).heard ≡ heard_by input history
unfolding record_after taken
heard_recalled input (started profile) = heard-fresh input profile
heard_recalled input (event following earlier) =
    let mode = mode_on (event following earlier) in
    by_bool (eqb event.input input)
    (λ e. taken-heard input event mode (mode_on earlier) (record_after input earlier) e ∙
    ap (λ (h : Heard). heard_after h event.kind event.argument event.said event.time)
    (heard_recalled input earlier) ∙
    heard-on input event earlier e)
    (λ e. kept-heard input event mode (mode_on earlier) (record_after input earlier) e ∙
    heard_recalled input earlier ∙
    heard-off input event earlier e)

settings_fresh : (input : ℕ) (profile : Profile) → fresh_settings ≡ settings_by input (started profile)
unfolding settings_by last_argument input_kind_of
settings_fresh input profile = refl

pub settings_recalled : (input : ℕ) (history : History) → (record_after input history).settings ≡ settings_by input history
unfolding record_after taken
settings_recalled input (started profile) = settings_fresh input profile
settings_recalled input (event following earlier) =
    let mode = mode_on (event following earlier) in
    by_bool (eqb event.input input)
    (λ e. taken_settings input event mode (mode_on earlier) (record_after input earlier) e ∙
    ap (λ (s : Settings). settings_after s event.kind event.argument) (settings_recalled input earlier) ∙
    settings_on input event earlier e)
    (λ e. kept_settings input event mode (mode_on earlier) (record_after input earlier) e ∙
    settings_recalled input earlier ∙
    settings_off input event earlier e)

-- ---- three in a row is a count of three

equal_count-least : (code before reports : ℕ) → 1 ≤ equal_count code before reports
unfolding equal_count
equal_count-least code before reports =
    by_bool (eqb code before)
    (λ e. rw e (by_bool (ltb reports reports_needed) (λ k. rw k (omega arith)) (λ k. rw k (omega arith))))
    (λ e. rw e (omega arith))

equal_count-other : (code before reports : ℕ) → eqb code before ≡ false → equal_count code before reports ≡ 1
unfolding equal_count
equal_count-other code before reports e = rw e

equal_count-again : (code before reports : ℕ) → eqb code before ≡ true
    → equal_count code before reports ≡ min 3 (suc reports)
unfolding equal_count
equal_count-again code before reports e =
    rw e
    (by_bool (ltb reports reports_needed)
    (λ k. let h : reports < 3 = ltb-true _ _ k in rw k (omega arith))
    (λ k. let h : 3 ≤ reports = ltb-false _ _ k in rw k (omega arith)))

-- the second report in a row cannot be the third
count-second : (code before : ℕ) → ltb (equal_count code before 1) 3 ≡ true
count-second code before =
    by_bool (eqb code before) (λ e. rw (equal_count-again code before 1 e)) (λ e. rw (equal_count-other code before 1 e))

count-first : (code : ℕ) → equal_count code 0 0 ≡ 1
count-first code = by_bool (eqb code 0) (λ e. rw (equal_count-again code 0 0 e)) (λ e. rw (equal_count-other code 0 0 e))

count-third : (third second first reports : ℕ) → 1 ≤ reports
    → ltb (equal_count third second (equal_count second first reports)) 3 ≡ not (eqb third second && eqb second first)
count-third third second first reports least =
    by_bool (eqb third second)
    (λ e. by_bool (eqb second first)
    (λ k. rw (equal_count-again second first reports k, equal_count-again third second (min 3 (suc reports)) e, e, k)
    (le-ltb (min 3 (suc (min 3 (suc reports)))) 3 (omega arith)))
    (λ k. rw (equal_count-other second first reports k, e, k) (count-second third second)))
    (λ e. rw (equal_count-other third second (equal_count second first reports) e, e))

counted : (report : Recorded) (earlier : List Recorded)
    → ltb (code_count (report ∷ earlier)) 3 ≡ not (is_third report earlier)
unfolding code_count is_third last_code
counted report [] = rw (count-first report.argument)
counted report (before ∷ []) = rw (count-first before.argument) (count-second report.argument before.argument)
counted report (before ∷ (first ∷ earlier)) =
    count-third report.argument before.argument first.argument (code_count (first ∷ earlier))
    (equal_count-least first.argument (last_code earlier) (code_count earlier))

cond_not : {A : Type 0} (b : Bool) (x y : A) → cond (not b) x y ≡ cond b y x
cond_not true x y = refl
cond_not false x y = refl

-- what the record keeps of the codes is what they say
line-said : (codes : List Recorded) → line_said codes ≡ line_quality codes
unfolding line_said line_quality line_after
line-said [] = refl
line-said (report ∷ earlier) =
    rw (counted report earlier, line-said earlier)
    (cond_not (is_third report earlier) (line_quality earlier) report.said)

-- ---- raw quality

swap : (a b : ℕ) (x y : Quality) → cond (ltb a b) x y ≡ cond (leb b a) y x
swap a b x y =
    by_bool (leb b a)
    (λ k. let z : ltb a b ≡ false = le-ltb a b (leb-true b a k) in rw (k, z))
    (λ k. let z : ltb a b ≡ true = lt-ltb a b (leb-false b a k) in rw (k, z))

either : (b : Bool) → failed ≡ cond b failed failed
either true = refl
either false = refl

-- the frames heard, at a time
frame-said : (frames : List Recorded) (time : ℕ)
    → frame_quality frames time ≡ cond (leb (frame_time frames + frame_life) time) failed (frame_said frames)
unfolding frame_quality frame_time frame_said
frame-said [] time = either (leb frame_life time)
frame-said (report ∷ earlier) time = swap time (report.time + frame_life) report.said failed

-- raw quality is what is forecast of it
raw-any : (good mode fixed ethernet gone : Bool) (f l x : Quality)
    → cond (not good) failed (cond (not mode) not_told (cond (not fixed) x (cond ethernet (cond gone failed f) l))) ≡
    cond (good && mode && fixed && ethernet && gone) failed
    (cond (not good) failed (cond (not mode) not_told (cond (not fixed) x (cond ethernet f l))))
raw-any false mode fixed ethernet gone f l x = refl
raw-any true false fixed ethernet gone f l x = refl
raw-any true true false ethernet gone f l x = refl
raw-any true true true false gone f l x = refl
raw-any true true true true gone f l x = refl

pub raw_recalled : (input : ℕ) (history : History) (time : ℕ)
    → raw_quality_at input history time ≡ raw_at (forecast (record_after input history) (mode_on history)) time
unfolding raw_quality_at raw_at is_expired forecast quality_now can_expire heard_by settings_by
raw_recalled input history time =
    rw (heard_recalled input history, settings_recalled input history, frame-said, ← line-said)
    (raw-any (signal_good input history) (mode_on history) (eqb (fixed_of input history) 0)
    (takes_frames (input_kind input history))
    (leb (frame_time (heard input is_frame history) + frame_life) time)
    (frame_said (heard input is_frame history))
    (line_said (heard input is_counted history))
    (quality (fixed_of input history)))

holdoff_recalled : (input : ℕ) (history : History)
    → holdoff_of input history ≡ (forecast (record_after input history) (mode_on history)).holdoff
unfolding forecast settings_by
holdoff_recalled input history = rw (settings_recalled input history)

wait_recalled : (input : ℕ) (history : History)
    → wait_of input history ≡ (forecast (record_after input history) (mode_on history)).wait
unfolding forecast settings_by
wait_recalled input history = rw (settings_recalled input history)

-- the moment by the record
pub moment_recalled : (input : ℕ) (history : History) (clears : Bool)
    → moment_of input history clears ≡ moment_at (forecast (record_after input history) (mode_on history)) clears
unfolding moment_of
moment_recalled input history clears =
    fun_ext
    (λ time j. record {
      time = time;
      raw = raw_recalled input history time j;
      holdoff = holdoff_recalled input history j;
      wait = wait_recalled input history j;
      clears = clears;
    })

pub raw-fresh : (input : ℕ) (profile : Profile) → raw_quality_at input (started profile) 0 ≡ failed
unfolding raw_quality_at last_argument
raw-fresh input profile = refl
