-- The own time of an input: before it nothing changes, and it stays what it is. What a moment leaves out by it, input
-- by input. Assumes nothing.
use Prim.Native.Nat.{ℕ, zero, suc, ◌+◌, ◌<◌, ◌≤◌}
use mathlib.Core.Bool.{Bool, true, false, not, ◌&&◌, cond, false≢true}
use mathlib.Core.List.{List, [], ◌∷◌, map, map-map}
use mathlib.Core.Path.{◌≡◌, refl, sym, ap, subst, ◌∙◌}
use mathlib.Core.Logic.{⊎_elim}
use native.Mathlib.Omega.{arith}
use lib.Dec.{leb, ltb, eqb}
use lib.ListN.{get_or, length, replicate, set, length-map, get_or-replicate}
use lib.Seq.{set-get_or}
use borrow.Author.Tests.{eqb-true, leb-true, leb-false, ltb-true, ltb-false, le-leb, lt-leb, lt-ltb, le-ltb}
use Rattle.numbers.specs.declared.quality.Quality.{Quality}
use Rattle.numbers.specs.declared.profile.Profile.{Profile}
use Rattle.numbers.specs.Inputs.{frame_life}
use Rattle.numbers.specs.Profile.{prov_place_of, limits_of, floor_in}
use Rattle.numbers.specs.Quality.{is_failed}
use Rattle.numbers.proofs.Truth.{by_bool, and_both, both_first, both-second, or_cases, or_left, or_right}
use Rattle.run.specs.declared.Forecast.{Forecast}
use Rattle.run.specs.declared.Run.{Run}
use Rattle.run.specs.Run.{run_of, is_expired, is_up_after, up_before, brought_to}
use Rattle.input.specs.declared.Input.{Input}
use Rattle.input.specs.Record.{fresh_input, forecast, with_run, input_brought_to, passed_of}
use Rattle.choice.specs.Candidate.{candidate_of}
use Rattle.selector.specs.declared.Selector.{Selector}
use Rattle.selector.specs.State.{candidate_for, candidates_of, decided, all_brought_to, ticked_once}
use Rattle.selector.proofs.Filled.{filled, filled_at, filled-turn, filled-done}
use Rattle.due.specs.Next.{never, lesser, sum_or_never, if_later, timer_due, frame_due, next_of, next_among, next_of_all, next_due}
use Rattle.due.proofs.Calm.{moved_to, decided-twice, decided-moved}
use Rattle.due.proofs.Every.{Every, every-from}
use Rattle.due.proofs.DueLaws.{next_among-more}
use Rattle.due.proofs.Millisecond.{lesser-one, lesser-other, lesser-either}
use Rattle.inplace.specs.Lists.{input_at, selector_at, with_input, with_inputs, with_time}
use Rattle.inplace.specs.Own.{is_timely, all_timely, own_times, reach, Awaits, Awaiting, PassesAlike, AllPassAlike}
use Rattle.inplace.proofs.Turn.{changed, inputs-at, inputs-length}
use Rattle.inplace.proofs.Turn as Turn

-- ---- a timer

-- what is next due after a time is over no earlier
due-first : (end from time : ℕ) → from < end → time < if_later from (lesser end never) → time < end
unfolding if_later
due-first end from time h lt =
    by_bool (ltb from (lesser end never))
    (λ e. let before : time < lesser end never = rw e at lt in omega (arith, lesser-one end never))
    (λ e. let before : time < never = rw e at lt in
    let past : lesser end never ≤ from = ltb-false from (lesser end never) e in
    ⊎_elim (λ y. absurd (omega arith)) (λ y. omega (arith, lesser-one end never)) (lesser-either end never))

-- a timer judged at a time, and again before it is due
timer-stays : (end from time : ℕ) (x up : Bool) → from ≤ time → time < if_later from (lesser end never)
    → cond (leb end time) x (cond (leb end from) x up) ≡ cond (leb end from) x up
timer-stays end from time x up later lt =
    by_bool (leb end from)
    (λ e. let e' : leb end time ≡ true = le-leb end time (omega (arith, leb-true end from e)) in rw (e, e'))
    (λ e. let e' : leb end time ≡ false = lt-leb end time (due-first end from time (leb-false end from e) lt) in
    rw (e, e'))

-- ---- a run, by its parts and those of its forecast; `frame` is when the frame expires

abbrev forecast_of : ℕ → ℕ → ℕ → Quality → Bool → Forecast
forecast_of framed holdoff wait quality expires =
    record { framed = framed; holdoff = holdoff; wait = wait; quality = quality; expires = expires }

abbrev next_by : ℕ → Run → Forecast → ℕ → ℕ
next_by frame run forecast from = lesser (if_later from (timer_due run forecast)) (if_later from frame)

stays-any : (frame f h w : ℕ) (q : Quality) (x : Bool) (s : ℕ) (g : Quality) (b u : Bool) (from time : ℕ)
    → from ≤ time
    → (b ≡ false → x ≡ true → frame ≡ sum_or_never f frame_life)
    → time < next_by frame (brought_to (run_of s g b u) (forecast_of f h w q x) from) (forecast_of f h w q x) from
    → brought_to (brought_to (run_of s g b u) (forecast_of f h w q x) from) (forecast_of f h w q x) time
    ≡ brought_to (run_of s g b u) (forecast_of f h w q x) from
unfolding brought_to is_up_after is_expired timer_due sum_or_never
stays-any frame f h w q x s g true u from time later timed lt =
    ap (λ (up : Bool). run_of s g true up)
    (timer-stays (s + h) from time false u later
    (omega (arith, lesser-one (if_later from (lesser (s + h) never)) (if_later from frame))))
stays-any frame f h w q false s g false u from time later timed lt =
    ap (λ (up : Bool). run_of s g false up)
    (timer-stays (s + w) from time true u later
    (omega (arith, lesser-one (if_later from (lesser (s + w) never)) (if_later from frame))))
stays-any frame f h w q true s g false u from time later timed lt =
    by_bool (leb (f + frame_life) from)
    (λ e. let before = rw e at lt in
    rw e
    (ap (λ (up : Bool). run_of (f + frame_life) g true up)
    (timer-stays (f + frame_life + h) from time false (up_before u s w (f + frame_life)) later
    (omega (arith, lesser-one (if_later from (lesser (f + frame_life + h) never)) (if_later from frame))))))
    (λ e. let before = rw e at lt in
    let t : time < if_later from frame =
    omega (arith, lesser-other (if_later from (lesser (s + w) never)) (if_later from frame)) in
    let t' : time < if_later from (lesser (f + frame_life) never) =
    subst (λ (due : ℕ). time < if_later from due) (timed refl refl) t in
    let k : time < f + frame_life = due-first (f + frame_life) from time (leb-false (f + frame_life) from e) t' in
    let e' : leb (f + frame_life) time ≡ false = lt-leb (f + frame_life) time k in
    rw (e, e')
    (ap (λ (up : Bool). run_of s g false up)
    (timer-stays (s + w) from time true u later
    (omega (arith, lesser-one (if_later from (lesser (s + w) never)) (if_later from frame))))))

-- ---- an input

-- a run that can expire, of a timely input, has a frame to expire
timely_frame : (input : Input) (mode : Bool) → is_timely input mode ≡ true → input.run.failed ≡ false
    → (forecast input mode).expires ≡ true
    → frame_due input.heard ≡ sum_or_never input.heard.framed frame_life
unfolding is_timely frame_due forecast
timely_frame input mode timely runs expires =
    let free : not (true && is_failed input.heard.frame) ≡ true = rw (runs, expires) at timely in
    heard (is_failed input.heard.frame) free
  where
    heard : (fails : Bool) → not (true && fails) ≡ true
        → cond fails never (sum_or_never input.heard.framed frame_life)
        ≡ sum_or_never input.heard.framed frame_life
    heard true e = absurd (false≢true e)
    heard false e = refl

-- an input brought to a time, and then to one before its own: nothing changes
pub brought-stays : (input : Input) (mode : Bool) (from time : ℕ) → is_timely input mode ≡ true → from ≤ time
    → time < next_of (input_brought_to input from mode) mode from
    → input_brought_to (input_brought_to input from mode) time mode ≡ input_brought_to input from mode
unfolding input_brought_to forecast next_of
brought-stays input mode from time timely later lt =
    ap (λ (run : Run). with_run input run)
    (stays-any (frame_due input.heard) input.heard.framed _ _ _ _ input.run.began input.run.good
    input.run.failed
    input.run.up
    from
    time
    later
    (timely_frame input mode timely)
    lt)

if_later-stays : (due from time : ℕ) → from ≤ time → time < if_later from due → if_later from due ≡ if_later time due
unfolding if_later
if_later-stays due from time later lt =
    by_bool (ltb from due)
    (λ e. let before : time < due = rw e at lt in rw (e, lt-ltb time due before))
    (λ e. let past : due ≤ from = ltb-false from due e in rw (e, le-ltb time due (omega arith)))

-- nor does its own time
pub own-stays : (input : Input) (mode : Bool) (from time : ℕ) → from ≤ time → time < next_of input mode from
    → next_of input mode from ≡ next_of input mode time
unfolding next_of
own-stays input mode from time later lt =
    let timer : ℕ = timer_due input.run (forecast input mode) in
    let frame : ℕ = frame_due input.heard in
    let a : time < if_later from timer = omega (arith, lesser-one (if_later from timer) (if_later from frame)) in
    let b : time < if_later from frame = omega (arith, lesser-other (if_later from timer) (if_later from frame)) in
    λ j. lesser (if_later-stays timer from time later a j) (if_later-stays frame from time later b j)

-- a failed run stays failed
failed-stays : (run : Run) (forecast : Forecast) (time : ℕ) → run.failed ≡ true
    → (brought_to run forecast time).failed ≡ true
unfolding brought_to
failed-stays run forecast time e = rw e

-- and an input timely
timely_brought : (input : Input) (mode : Bool) (time : ℕ) → is_timely input mode ≡ true
    → is_timely (input_brought_to input time mode) mode ≡ true
unfolding is_timely input_brought_to forecast
timely_brought input mode time timely =
    ⊎_elim
    (λ e. or_left after.failed free (failed-stays input.run (forecast input mode) time e))
    (λ e. or_right after.failed free e)
    (or_cases input.run.failed free timely)
  where
    after : Run
    after = brought_to input.run (forecast input mode) time

    free : Bool
    free = not ((forecast input mode).expires && is_failed input.heard.frame)

-- ---- an own time is no later than never, and what is next due no earlier than the time

if_later-ever : (time due : ℕ) → due ≤ never → if_later time due ≤ never
unfolding if_later
if_later-ever time due h = by_bool (ltb time due) (λ e. rw e h) (λ e. rw e (omega arith))

timer_due-ever : (run : Run) (forecast : Forecast) → timer_due run forecast ≤ never
unfolding timer_due sum_or_never
timer_due-ever run forecast =
    by_bool run.failed
    (λ e. rw e (lesser-other (run.began + forecast.holdoff) never))
    (λ e. rw e (lesser-other (run.began + forecast.wait) never))

next_of_ever : (input : Input) (mode : Bool) (time : ℕ) → next_of input mode time ≤ never
unfolding next_of
next_of_ever input mode time =
    let timer : ℕ = timer_due input.run (forecast input mode) in
    omega (
      arith,
      lesser-one (if_later time timer) (if_later time (frame_due input.heard)),
      if_later-ever time timer (timer_due-ever input.run (forecast input mode)),
    )

next_among-ever : (inputs : List Input) (mode : Bool) (time count : ℕ) → next_among inputs mode time count ≤ never
unfolding next_among
next_among-ever inputs mode time zero = omega arith
next_among-ever inputs mode time (suc count) =
    omega (
      arith,
      lesser-one (next_among inputs mode time count) (next_of (get_or inputs count fresh_input) mode time),
      next_among-ever inputs mode time count,
    )

if_later-after : (time due : ℕ) → time ≤ never → time ≤ if_later time due
unfolding if_later
if_later-after time due h =
    by_bool (ltb time due) (λ e. rw e (omega (arith, ltb-true time due e))) (λ e. rw e h)

lesser-after : (time one other : ℕ) → time ≤ one → time ≤ other → time ≤ lesser one other
lesser-after time one other h k = ⊎_elim (λ y. rw y h) (λ y. rw y k) (lesser-either one other)

next_among-after : (inputs : List Input) (mode : Bool) (time count : ℕ) → time ≤ never
    → time ≤ next_among inputs mode time count
unfolding next_among next_of
next_among-after inputs mode time zero h = h
next_among-after inputs mode time (suc count) h =
    lesser-after time _ _ (next_among-after inputs mode time count h)
    (lesser-after time _ _ (if_later-after time _ h) (if_later-after time _ h))

-- ---- some inputs, all timely

timely_from : (inputs : List Input) (mode : Bool) (d : Input)
    → ((at : ℕ) → at < length inputs → is_timely (get_or inputs at d) mode ≡ true)
    → all_timely inputs mode ≡ true
unfolding all_timely
timely_from [] mode d each = refl
timely_from (input ∷ inputs) mode d each =
    and_both (is_timely input mode) (all_timely inputs mode) (each zero (omega arith))
    (timely_from inputs mode d (λ at h. each (suc at) (omega arith)))

timely_not : (inputs : List Input) (mode : Bool) (d : Input) (at : ℕ) → at < length inputs
    → is_timely (get_or inputs at d) mode ≡ false
    → all_timely inputs mode ≡ false
unfolding all_timely
timely_not [] mode d at h e = absurd (omega arith)
timely_not (input ∷ inputs) mode d zero h e = rw e
timely_not (input ∷ inputs) mode d (suc at) h e =
    second (is_timely input mode) (timely_not inputs mode d at (omega arith) e)
  where
    second : (test : Bool) {other : Bool} → other ≡ false → (test && other) ≡ false
    second true k = k
    second false k = refl

timely_at : (inputs : List Input) (mode : Bool) (d : Input) (at : ℕ) → at < length inputs
    → all_timely inputs mode ≡ true
    → is_timely (get_or inputs at d) mode ≡ true
unfolding all_timely
timely_at [] mode d at h all = absurd (omega arith)
timely_at (input ∷ inputs) mode d zero h all = both_first (is_timely input mode) (all_timely inputs mode) all
timely_at (input ∷ inputs) mode d (suc at) h all =
    timely_at inputs mode d at (omega arith) (both-second (is_timely input mode) (all_timely inputs mode) all)

timely_map : (inputs : List Input) (mode : Bool) (time : ℕ) → all_timely inputs mode ≡ true
    → all_timely (map (λ (input : Input). input_brought_to input time mode) inputs) mode ≡ true
unfolding all_timely
timely_map [] mode time all = refl
timely_map (input ∷ inputs) mode time all =
    and_both _ _
    (timely_brought input mode time (both_first (is_timely input mode) (all_timely inputs mode) all))
    (timely_map inputs mode time (both-second (is_timely input mode) (all_timely inputs mode) all))

-- ---- lists

get_d_map : {A B : Type 0} (f : A → B) (list : List A) (at : ℕ) (d : B) (e : A) → at < length list
    → get_or (map f list) at d ≡ f (get_or list at e)
get_d_map f [] at d e h = absurd (omega arith)
get_d_map f (x ∷ list) zero d e h = refl
get_d_map f (x ∷ list) (suc at) d e h = get_d_map f list at d e (omega arith)

-- what a loop has not come to yet
filled-past : {A B : Type 0} (f : A → B) (count : ℕ) (from : List A) (into : List B) (d : B)
    → get_or (filled f count from into) count d ≡ get_or into count d
filled-past f zero from into d = refl
filled-past f (suc count) [] into d = refl
filled-past f (suc count) (x ∷ from) [] d = refl
filled-past f (suc count) (x ∷ from) (y ∷ into) d = filled-past f count from into d

-- ---- a loop that asks one input after another whether it is timely

module _ (times small wider : List ℕ) (mode : Bool) (at : ℕ) where
  module _ (input : Input) (timely : Bool) (seen : input ≡ input_at times small wider at)
      (told : timely ≡ is_timely input mode) where
    asked : is_timely (input_at times small wider at) mode ≡ timely
    asked = ap (λ (one : Input). is_timely one mode) (sym seen) ∙ sym told

    pub timely_one-more : timely ≡ true
        → ((number : ℕ) → number < at → is_timely (input_at times small wider number) mode ≡ true)
        → (number : ℕ) → number < at + 1 → is_timely (input_at times small wider number) mode ≡ true
    timely_one-more e before number h =
        by_bool (leb at number)
        (λ k. let same : number ≡ at = omega (arith, leb-true at number k) in
        rw same (asked ∙ e))
        (λ k. before number (leb-false at number k))

    pub timely_one_not : timely ≡ false → at < 16
        → false ≡ all_timely (selector_at times small wider).inputs mode
    timely_one_not e h =
        let l : length (selector_at times small wider).inputs ≡ 16 = inputs-length times small wider in
        sym (timely_not (selector_at times small wider).inputs mode fresh_input at (omega arith)
        (ap (λ (one : Input). is_timely one mode) (inputs-at times small wider at fresh_input h) ∙ asked ∙ e))

  pub timely_all : 16 ≤ at
      → ((number : ℕ) → number < at → is_timely (input_at times small wider number) mode ≡ true)
      → true ≡ all_timely (selector_at times small wider).inputs mode
  timely_all h each =
      let l : length (selector_at times small wider).inputs ≡ 16 = inputs-length times small wider in
      sym (timely_from (selector_at times small wider).inputs mode fresh_input
      (λ number k. let few : number < 16 = omega arith in
      ap (λ (one : Input). is_timely one mode) (inputs-at times small wider number fresh_input few) ∙
      each number (omega arith)))

-- ---- one input of the state

module _ (times small wider : List ℕ) (at : ℕ) (h : at < 16) where
  -- an input that stays is stored already
  pub same-stored : (input : Input) → input ≡ input_at times small wider at
      → selector_at times small wider ≡ with_input (selector_at times small wider) at input
  same-stored input e =
      ap (λ (inputs : List Input). with_inputs (selector_at times small wider) inputs)
      (sym
      (ap (λ (one : Input). set (selector_at times small wider).inputs at one)
      (e ∙ sym (inputs-at times small wider at fresh_input h)) ∙
      set-get_or (selector_at times small wider).inputs at fresh_input))

  module _ (f : Input → Input) (first : Selector) (now : selector_at times small wider ≡ changed f at first) where
    -- what a turn reads has not been changed yet
    pub untouched : input_at times small wider at ≡ get_or first.inputs at fresh_input
    untouched =
        sym (inputs-at times small wider at fresh_input h) ∙
        ap (λ (state : Selector). get_or state.inputs at fresh_input) now ∙
        filled_at f at first.inputs fresh_input

    -- and so it awaits its own time still
    pub awaits_still : (g : Input → ℕ) (mode : Bool) (time until : ℕ) (own₀ own : List ℕ)
        → Awaiting first.inputs mode time until own₀
        → own ≡ filled g at first.inputs own₀
        → until < get_or own at 0
        → Awaits (input_at times small wider at) mode time (get_or own at 0)
    awaits_still g mode time until own₀ own awaiting e lt =
        let same : get_or own at 0 ≡ get_or own₀ at 0 =
        ap (λ (list : List ℕ). get_or list at 0) e ∙ filled-past g at first.inputs own₀ 0 in
        let before : until < get_or own₀ at 0 = omega arith in
        subst (λ (one : ℕ). Awaits (input_at times small wider at) mode time one) (sym same)
        (subst (λ (input : Input). Awaits input mode time (get_or own₀ at 0)) (sym untouched) (awaiting at h before))

-- the own time of one that awaits it
pub own_awaited : (input : Input) (mode : Bool) (time own : ℕ) → Awaits input mode time own
    → own ≡ next_of (input_brought_to input time mode) mode time
own_awaited input mode time own awaits =
    awaits.next ∙ ap (λ (one : Input). next_of one mode time) (sym awaits.stays)

-- and of one that is brought to the time
pub own-made : (input before after : Input) (time : ℕ) (mode : Bool) (next : ℕ) → before ≡ input
    → after ≡ input_brought_to before time mode → next ≡ next_of after mode time
    → next ≡ next_of (input_brought_to input time mode) mode time
own-made input before after time mode next p q n =
    n ∙
    ap (λ (one : Input). next_of one mode time) (q ∙ ap (λ (one : Input). input_brought_to one time mode) p)

-- it passes on what it did where the two qualities are alike
pub passes-alike : (input before after : Input) (time : ℕ) (mode : Bool) (old new : Quality) → before ≡ input
    → after ≡ input_brought_to before time mode
    → old ≡ passed_of before → new ≡ passed_of after
    → eqb old.0 new.0 ≡ true
    → PassesAlike input mode time
passes-alike input before after time mode old new p q o n e =
    let same : old.0 ≡ new.0 = eqb-true old.0 new.0 e in
    let equal : old ≡ new = λ j. record { 0 = same j } in
    ap (λ (one : Input). passed_of (input_brought_to one time mode)) (sym p) ∙
    ap passed_of (sym q) ∙ sym n ∙ sym equal ∙ o ∙ ap passed_of p

-- which is stored by its run
pub brought-stored : (times small wider : List ℕ) (at : ℕ) (state : Selector) (before after : Input) (time : ℕ)
    (mode : Bool)
    → state
    ≡ with_input (selector_at times small wider) at (with_run (input_at times small wider at) after.run)
    → before ≡ input_at times small wider at
    → after ≡ input_brought_to before time mode
    → state
    ≡ with_input (selector_at times small wider) at (input_brought_to (input_at times small wider at) time mode)
brought-stored times small wider at state before after time mode s p q =
    s ∙
    ap (λ (one : Input). with_input (selector_at times small wider) at one)
    (Turn.brought (input_at times small wider at) before after time mode p q)

-- ---- a loop that brings the inputs to a time, one after another

-- the own time of an input once it is brought to a time
abbrev pub own_then : Bool → ℕ → Input → ℕ
own_then mode time input = next_of (input_brought_to input time mode) mode time

module _ (first : Selector) (count : length first.inputs ≡ 16) (mode : Bool) (time : ℕ) where
  abbrev brought : Input → Input
  brought input = input_brought_to input time mode

  -- own times made anew
  pub own_turn : (input : Input) (at : ℕ) (own₀ own : List ℕ) (next : ℕ) → at < 16 → length own₀ ≡ 16
      → input ≡ get_or first.inputs at fresh_input
      → own ≡ filled (own_then mode time) at first.inputs own₀
      → next ≡ own_then mode time input
      → set own at next ≡ filled (own_then mode time) (at + 1) first.inputs own₀
  own_turn input at own₀ own next h l i e n =
      filled-turn (own_then mode time) 16 at first.inputs own₀ own fresh_input next e (n ∙ ap (own_then mode time) i) count l h

  pub own-done : (at : ℕ) (own₀ own : List ℕ) → length own₀ ≡ 16 → own ≡ filled (own_then mode time) at first.inputs own₀
      → at ≤ 16 → 16 ≤ at
      → own ≡ own_times (map brought first.inputs) mode time
  own-done at own₀ own l e h k =
      filled-done (own_then mode time) 16 at first.inputs own₀ own e count l h k ∙
      sym (map-map (λ (input : Input). next_of input mode time) brought first.inputs)

  -- the least of them
  pub least-turn : (input : Input) (at due one next : ℕ) → at < 16
      → input ≡ get_or first.inputs at fresh_input
      → due ≡ next_among (map brought first.inputs) mode time at
      → one ≡ own_then mode time input → next ≡ lesser due one
      → next ≡ next_among (map brought first.inputs) mode time (at + 1)
  least-turn input at due one next h i d o n =
      next_among-more (map brought first.inputs) mode time at due one next fresh_input d
      (o ∙ ap (own_then mode time) i ∙
      ap (λ (found : Input). next_of found mode time)
      (sym (get_d_map brought first.inputs at fresh_input fresh_input (omega arith))))
      n
      (length-map first.inputs _ ∙ count)
      h

-- inputs that pass on what they did, one more
pub alike-turn : (inputs : List Input) (mode : Bool) (time at : ℕ) (input : Input) (alike one : Bool)
    → input ≡ get_or inputs at fresh_input
    → (alike ≡ true → (number : ℕ) → number < at → PassesAlike (get_or inputs number fresh_input) mode time)
    → (one ≡ true → PassesAlike input mode time)
    → (alike && one) ≡ true → (number : ℕ) → number < at + 1 → PassesAlike (get_or inputs number fresh_input) mode time
alike-turn inputs mode time at input alike one i before this e number h =
    by_bool (leb at number)
    (λ k. let same : number ≡ at = omega (arith, leb-true at number k) in
    subst (λ (index : ℕ). PassesAlike (get_or inputs index fresh_input) mode time) (sym same)
    (subst (λ (found : Input). PassesAlike found mode time) i (this (both-second alike one e))))
    (λ k. before (both_first alike one e) number (leb-false at number k))

pub all_alike : (inputs : List Input) (mode : Bool) (time at : ℕ) → 16 ≤ at
    → ((number : ℕ) → number < at → PassesAlike (get_or inputs number fresh_input) mode time)
    → AllPassAlike inputs mode time
all_alike inputs mode time at h each = λ number k. each number (omega arith)

-- ---- one moment

module _ (state after : Selector) (time : ℕ) (mode : Bool) (m : mode ≡ state.mode)
    (is : after ≡ ticked_once state time) where
  pub moment-own : (own : List ℕ)
      → own ≡ own_times (map (λ (input : Input). input_brought_to input time mode) state.inputs) mode time
      → own ≡ own_times after.inputs state.mode time
  unfolding ticked_once decided
  moment-own own o =
      o ∙
      (λ j. own_times (map (λ (input : Input). input_brought_to input time (m j)) state.inputs) (m j) time) ∙
      sym (ap (λ (one : Selector). own_times one.inputs state.mode time) is)

  pub moment-next : (next : ℕ)
      → next ≡ next_of_all (map (λ (input : Input). input_brought_to input time mode) state.inputs) mode time
      → next ≡ next_due after
  unfolding ticked_once decided
  moment-next next n =
      n ∙
      (λ j. next_of_all (map (λ (input : Input). input_brought_to input time (m j)) state.inputs) (m j) time) ∙
      sym (ap next_due is)

-- where all inputs pass on what they did, a choice sees them as it did
candidates-alike : (profile : Profile) (inputs : List Input) (mode : Bool) (time : ℕ)
    → Every (λ (input : Input). PassesAlike input mode time) inputs
    → candidates_of profile (map (λ (input : Input). input_brought_to input time mode) inputs) mode
    ≡ candidates_of profile inputs mode
unfolding candidate_for input_brought_to
candidates-alike profile [] mode time all = refl
candidates-alike profile (input ∷ inputs) mode time all = λ j.
    candidate_of (prov_place_of profile) (floor_in (limits_of profile).freerunning input.settings.floor) (all.0 j)
    input.settings.priority
    input.settings.locked
    mode
    ∷ candidates-alike profile inputs mode time all.1 j

-- and one that has been made is left as it is
pub moment-alike : (state brought timed : Selector) (time : ℕ) (mode : Bool)
    → length state.inputs ≡ 16
    → mode ≡ state.mode
    → brought ≡ with_inputs state (map (λ (input : Input). input_brought_to input time mode) state.inputs)
    → timed ≡ with_time brought time
    → decided state ≡ state
    → AllPassAlike state.inputs mode time
    → timed ≡ ticked_once state time
unfolding ticked_once
moment-alike state brought timed time mode count m b t chosen all =
    let every : Every (λ (input : Input). PassesAlike input mode time) state.inputs =
    every-from (λ (input : Input). PassesAlike input mode time) state.inputs fresh_input
    (λ at h. all at (omega arith)) in
    t ∙ ap (λ (one : Selector). with_time one time) b ∙
    (λ j. moved_to state (map (λ (input : Input). input_brought_to input time (m j)) state.inputs) time) ∙
    sym (decided-moved state (map (λ (input : Input). input_brought_to input time state.mode) state.inputs) time chosen
    (subst (λ (of : Bool). candidates_of state.profile
    (map (λ (input : Input). input_brought_to input time of) state.inputs) of
    ≡ candidates_of state.profile state.inputs of)
    m
    (candidates-alike state.profile state.inputs mode time every)))

-- ---- moments one after another

-- whether all inputs are timely, as it is told
pub timely_told : (inputs : List Input) (mode of : Bool) (timely : Bool) → of ≡ mode → timely ≡ all_timely inputs of
    → timely ≡ true → all_timely inputs mode ≡ true
timely_told inputs mode of timely m t e = ap (all_timely inputs) (sym m) ∙ sym t ∙ e

-- before the first nothing awaits its time
pub awaiting_first : (inputs : List Input) (mode : Bool) (time until : ℕ)
    → Awaiting inputs mode time until (replicate 16 0)
awaiting_first inputs mode time until = λ at h lt.
    let zeros : List ℕ = replicate 16 0 in
    let none : get_or zeros at 0 ≡ 0 = get_or-replicate 16 at 0 0 h in
    absurd (omega arith)

module _ (now : Selector) (count : length now.inputs ≡ 16) (due : ℕ) (ever : due ≤ never) where
  abbrev after : Selector
  after = ticked_once now due

  -- after a moment each input awaits its own time, at any later time
  awaiting_once : (timely : Bool) → (timely ≡ true → all_timely now.inputs now.mode ≡ true) → (time : ℕ) → due ≤ time
      → Awaiting after.inputs after.mode time (reach timely time) (own_times after.inputs now.mode due)
  unfolding ticked_once decided reach
  awaiting_once false all time later = λ at h lt.
      let inputs : List Input = map (λ (input : Input). input_brought_to input due now.mode) now.inputs in
      let l : length inputs ≡ 16 = length-map now.inputs _ ∙ count in
      let is : get_or (own_times inputs now.mode due) at 0 ≡ next_of (get_or inputs at fresh_input) now.mode due =
      get_d_map (λ (input : Input). next_of input now.mode due) inputs at 0 fresh_input (omega arith) in
      absurd (omega (arith, next_of_ever (get_or inputs at fresh_input) now.mode due))
  awaiting_once true all time later = λ at h lt.
      let mode : Bool = now.mode in
      let inputs : List Input = map (λ (input : Input). input_brought_to input due now.mode) now.inputs in
      let l : length inputs ≡ 16 = length-map now.inputs _ ∙ count in
      let before : Input = get_or now.inputs at fresh_input in
      let is : get_or (own_times inputs mode due) at 0 ≡ next_of (get_or inputs at fresh_input) mode due =
      get_d_map (λ (input : Input). next_of input mode due) inputs at 0 fresh_input (omega arith) in
      let one : get_or inputs at fresh_input ≡ input_brought_to before due mode =
      get_d_map (λ (input : Input). input_brought_to input due mode) now.inputs at fresh_input fresh_input (omega arith) in
      let soon : time < next_of (get_or inputs at fresh_input) mode due = omega arith in
      let soon' : time < next_of (input_brought_to before due mode) mode due =
      subst (λ (input : Input). time < next_of input mode due) one soon in
      record {
        stays =
            subst (λ (input : Input). input_brought_to input time mode ≡ input) (sym one)
            (brought-stays before mode due time (timely_at now.inputs mode fresh_input at (omega arith) (all refl)) later
            soon');
        next = is ∙ own-stays (get_or inputs at fresh_input) mode due time later soon;
      }

  -- and all are timely that were
  timely_once : all_timely now.inputs now.mode ≡ true → all_timely after.inputs after.mode ≡ true
  unfolding ticked_once decided
  timely_once all = timely_map now.inputs now.mode due all

  -- what is next due then is no earlier
  next_once : due ≤ next_due after
  unfolding ticked_once decided
  next_once =
      next_among-after (map (λ (input : Input). input_brought_to input due now.mode) now.inputs) now.mode due 16 ever

  chosen_once : decided after ≡ after
  unfolding ticked_once
  chosen_once = decided-twice (all_brought_to now due)

  module _ (state : Selector) (is : state ≡ ticked_once now due) (timely : Bool)
      (all : timely ≡ true → all_timely now.inputs now.mode ≡ true) where
    pub awaiting_turn : (own : List ℕ) → own ≡ own_times state.inputs now.mode due → (time : ℕ) → due ≤ time
        → Awaiting state.inputs state.mode time (reach timely time) own
    awaiting_turn own o time later =
        subst (λ (list : List ℕ). Awaiting state.inputs state.mode time (reach timely time) list) (sym o)
        (subst (λ (s : Selector). Awaiting s.inputs s.mode time (reach timely time)
        (own_times s.inputs now.mode due))
        (sym is)
        (awaiting_once timely all time later))

    pub next-turn : (next : ℕ) → next ≡ next_due state → due ≤ next
    next-turn next n = subst (λ (time : ℕ). due ≤ time) (sym (n ∙ ap next_due is)) next_once

    pub timely_turn : timely ≡ true → all_timely state.inputs state.mode ≡ true
    timely_turn e =
        subst (λ (s : Selector). all_timely s.inputs s.mode ≡ true) (sym is) (timely_once (all e))

    pub chosen-turn : decided state ≡ state
    chosen-turn = subst (λ (s : Selector). decided s ≡ s) (sym is) chosen_once

-- the next due moment is no later than never
pub next_due-ever : (state : Selector) (due : ℕ) → due ≡ next_due state → due ≤ never
next_due-ever state due e = omega (arith, next_among-ever state.inputs state.mode state.time 16)
