-- A time before which nothing is due: what keeps it, and what is later than it. Assumes nothing.
use Prim.Native.Nat.{ℕ, zero, suc, ◌+◌, ◌≤◌, ◌<◌}
use mathlib.Core.Bool.{Bool, false}
use mathlib.Core.List.{List}
use mathlib.Core.Path.{◌≡◌, refl}
use native.Mathlib.Omega.{arith}
use lib.Dec.{eqb, leb, ltb}
use lib.ListN.{length, get_or, set}
use lib.Seq.{get_or-set_same, get_or-set_other}
use borrow.Author.Tests.{eqb-true, eqb-false, leb-true, leb-false, le-leb, lt-ltb, ltb-true}
use Rattle.numbers.specs.Inputs.{frame_life}
use Rattle.numbers.specs.Kind.{kind_frame}
use Rattle.numbers.specs.Quality.{is_failed}
use Rattle.numbers.proofs.Truth.{by_bool}
use Rattle.input.specs.declared.Input.{Input}
use Rattle.input.specs.Record.{fresh_input, forecast}
use Rattle.selector.specs.declared.Selector.{Selector}
use Rattle.due.specs.Next.{never, lesser, sum_or_never, if_later, timer_due, frame_due, next_of, next_among, next_due}
use Rattle.due.proofs.Millisecond.{lesser-one, lesser-other}
use Rattle.quickstep.specs.Again.{framed_input, again_input, again_due}
use Rattle.quickstep.specs.Watch.{moved_to, due_anew, due_after}

-- ---- what is next due

pub lesser-least : (due one other : ℕ) → due ≤ one → due ≤ other → due ≤ lesser one other
unfolding lesser
lesser-least due one other a b = by_bool (leb one other) (λ y. rw y a) (λ n. rw n b)

pub lesser-same : (one other : ℕ) → one ≤ other → lesser one other ≡ one
unfolding lesser
lesser-same one other least = rw (le-leb one other least)

module _ (inputs : List Input) (mode : Bool) where
  next_among-never : (time count : ℕ) → next_among inputs mode time count ≤ never
  unfolding next_among
  next_among-never time zero = omega arith
  next_among-never time (suc count) =
      omega (
        arith,
        lesser-one (next_among inputs mode time count) (next_of (get_or inputs count fresh_input) mode time),
        next_among-never time count,
      )

  -- it is due of none earlier
  pub next_among-least : (time count number : ℕ) → number < count
      → next_among inputs mode time count ≤ next_of (get_or inputs number fresh_input) mode time
  unfolding next_among
  next_among-least time zero number h = absurd (omega arith)
  next_among-least time (suc count) number h =
      by_bool (leb count number)
      (λ e. let k : number ≡ count = omega (arith, leb-true count number e) in
      rw k (lesser-other (next_among inputs mode time count) (next_of (get_or inputs count fresh_input) mode time)))
      (λ e. omega (
        arith,
        lesser-one (next_among inputs mode time count) (next_of (get_or inputs count fresh_input) mode time),
        next_among-least time count number (leb-false count number e),
      ))

  -- and what is due of none earlier is not later
  next_among-from : (due time count : ℕ) → due ≤ never
      → ((number : ℕ) → number < count → due ≤ next_of (get_or inputs number fresh_input) mode time)
      → due ≤ next_among inputs mode time count
  unfolding next_among
  next_among-from due time zero ever each = ever
  next_among-from due time (suc count) ever each =
      lesser-least due _ _ (next_among-from due time count ever (λ number few. each number (omega arith)))
      (each count (omega arith))

if_later-keeps : (due time later when : ℕ) → due ≤ never → time ≤ later → due ≤ if_later time when
    → due ≤ if_later later when
unfolding if_later
if_later-keeps due time later when ever follows kept =
    by_bool (ltb later when)
    (λ y. let past : later < when = ltb-true later when y in
    rw y (rw (lt-ltb time when (omega arith)) at kept))
    (λ n. rw n ever)

if_later-least : (due time when : ℕ) → due ≤ never → due ≤ when → due ≤ if_later time when
unfolding if_later
if_later-least due time when ever least = by_bool (ltb time when) (λ y. rw y least) (λ n. rw n ever)

next_of_keeps : (input : Input) (mode : Bool) (due time later : ℕ) → due ≤ never → time ≤ later
    → due ≤ next_of input mode time
    → due ≤ next_of input mode later
unfolding next_of
next_of_keeps input mode due time later ever follows kept =
    let timer = timer_due input.run (forecast input mode) in
    let frame = frame_due input.heard in
    lesser-least due _ _
    (if_later-keeps due time later timer ever follows
    (omega (arith, lesser-one (if_later time timer) (if_later time frame))))
    (if_later-keeps due time later frame ever follows
    (omega (arith, lesser-other (if_later time timer) (if_later time frame))))

-- what is next due is later
if_later-later : (time when : ℕ) → time < never → time < if_later time when
unfolding if_later
if_later-later time when ever = by_bool (ltb time when) (λ y. rw y (ltb-true time when y)) (λ n. rw n ever)

-- ---- a state with another input in its place, at a later time

module _ (state : Selector) (due time : ℕ) (bound : due ≤ next_due state) (later : state.time ≤ time) where
  ever : due ≤ never
  ever = omega (arith, next_among-never state.inputs state.mode state.time 16)

  -- what was due of one of its inputs no earlier is not, later
  still-due : (number : ℕ) → number < 16 → due ≤ next_of (get_or state.inputs number fresh_input) state.mode time
  still-due number few =
      next_of_keeps (get_or state.inputs number fresh_input) state.mode due state.time time ever later
      (omega (arith, next_among-least state.inputs state.mode state.time 16 number few))

  -- nor does another input, but for what is due of itself
  pub put-due : (index next : ℕ) (input : Input) → index < length state.inputs → next ≤ due
      → next ≤ next_of input state.mode time
      → next ≤ next_due (moved_to state (set state.inputs index input) time)
  put-due index next input inside least own =
      next_among-from (set state.inputs index input) state.mode next time 16 (omega (arith, ever))
      (λ number few. by_bool (eqb number index)
      (λ y. rw (eqb-true number index y, get_or-set_same state.inputs index input fresh_input inside) own)
      (λ n. rw (get_or-set_other state.inputs index number input fresh_input (eqb-false number index n))
      (omega (arith, least, still-due number few))))

  -- a frame that was heard just now leaves the timer
  timer-framed : (input : Input) → timer_due input.run (forecast (framed_input input time) state.mode)
      ≡ timer_due input.run (forecast input state.mode)
  unfolding timer_due forecast
  timer-framed input = refl

  -- and expires the later
  framed-due : (input : Input) → due ≤ next_of input state.mode time
      → lesser due (sum_or_never time frame_life) ≤ next_of (framed_input input time) state.mode time
  unfolding next_of frame_due
  framed-due input kept =
      let timer = timer_due input.run (forecast input state.mode) in
      let frame = frame_due input.heard in
      let next = lesser due (sum_or_never time frame_life) in
      let first : next ≤ due = lesser-one due (sum_or_never time frame_life) in
      rw (timer-framed input)
      (lesser-least next _ _
      (omega (arith, first, kept, lesser-one (if_later time timer) (if_later time frame)))
      (by_bool (is_failed input.heard.frame)
      (λ y. rw y (if_later-least next time never (omega (arith, first, ever)) (omega (arith, first, ever))))
      (λ n. rw n
      (if_later-least next time (sum_or_never time frame_life) (omega (arith, first, ever))
      (lesser-other due (sum_or_never time frame_life))))))

  -- what is said again makes nothing due before the time that it leaves
  pub again-due : (kind number : ℕ) → number < 16
      → again_due due kind time ≤
      next_of (again_input (get_or state.inputs number fresh_input) kind time) state.mode time
  unfolding again_due again_input
  again-due kind number few =
      by_bool (eqb kind kind_frame)
      (λ y. rw y (framed-due (get_or state.inputs number fresh_input) (still-due number few)))
      (λ n. rw n (still-due number few))

-- it is next due no later
pub again_due-least : (due kind time : ℕ) → again_due due kind time ≤ due
unfolding again_due
again_due-least due kind time =
    by_bool (eqb kind kind_frame) (λ f. rw f (lesser-one due (sum_or_never time frame_life))) (λ f. rw f (omega arith))

pub again_due-other : (due kind time : ℕ) → eqb kind kind_frame ≡ false → again_due due kind time ≡ due
unfolding again_due
again_due-other due kind time n = rw n

-- and that time is still to come
sum_later : (time : ℕ) → time < never → time < sum_or_never time frame_life
unfolding sum_or_never lesser
sum_later time ever = by_bool (leb (time + frame_life) never) (λ y. rw y (omega arith)) (λ n. rw n ever)

pub again_due-later : (due kind time : ℕ) → time < due → time < never → time < again_due due kind time
unfolding again_due
again_due-later due kind time before ever =
    by_bool (eqb kind kind_frame)
    (λ y. rw y (lesser-least (suc time) due (sum_or_never time frame_life) before (sum_later time ever)))
    (λ n. rw n before)

-- ---- made anew, and after an event

pub due_anew-bound : (state : Selector) (due time : ℕ) → due ≤ next_due state
    → due_anew state.inputs state.mode state.time due time ≤ next_due state
unfolding due_anew
due_anew-bound state due time bound = by_bool (ltb time due) (λ y. rw y bound) (λ n. rw n (omega arith))

pub due_after-bound : (due time : ℕ) (state : Selector) → due_after due time state ≤ next_due state
unfolding due_after
due_after-bound due time state =
    by_bool (ltb time due) (λ y. rw y (lesser-other due (next_due state))) (λ n. rw n (omega arith))

pub due_after-later : (due time : ℕ) (state : Selector) (at : ℕ) → at ≤ time → at < next_due state
    → at < due_after due time state
unfolding due_after
due_after-later due time state at here next =
    by_bool (ltb time due)
    (λ y. rw y (lesser-least (suc at) due (next_due state) (omega (arith, ltb-true time due y)) next))
    (λ n. rw n next)
