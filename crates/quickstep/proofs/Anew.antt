-- An answer that is not made anew is the answer before it with another number. Assumes nothing.
use mathlib.Core.Bool.{false, true≢false}
use mathlib.Core.Path.{◌≡◌, refl}
use Rattle.numbers.specs.declared.Event.{Event}
use Rattle.numbers.proofs.Truth.{by_bool}
use Rattle.frame.specs.declared.FrameRead.{FrameRead}
use Rattle.quickstep.specs.declared.Left.{Left}
use Rattle.quickstep.specs.declared.Left.TheVariants.{Nothing, Choice, Service}
use Rattle.quickstep.specs.declared.Own.{Own}
use Rattle.quickstep.specs.Again.{again_own}
use Rattle.quickstep.specs.Own.{is_left}
use Rattle.quickstep.specs.Watch.{Watch, numbered, completed, own_put, own_at, own_from, due_at, take_step, is_put_at_once, watch_step, is_anew}

pub nothing_left : (left : Left) → is_left left ≡ false → left ≡ Nothing
unfolding is_left
nothing_left Nothing none = refl
nothing_left Choice none = absurd (true≢false none)
nothing_left Service none = absurd (true≢false none)

-- where nothing is left to do, the number alone is another
put-kept : (watch : Watch) (own : Own) (event : Event) (read : FrameRead) → own.left ≡ Nothing
    → (own_put watch own event read).answer ≡ numbered (own_put watch own event read).answer.number watch.answer
unfolding own_put completed
put-kept watch own event read none = rw none

module _ (watch : Watch) (event : Event) (read : FrameRead) where
  pub answer-kept : is_anew watch event read ≡ false
      → (watch_step watch event read).answer ≡ numbered (watch_step watch event read).answer.number watch.answer
  unfolding is_anew watch_step take_step again_own
  answer-kept same =
      by_bool (is_put_at_once watch event read)
      (λ again.
      rw again
      (put-kept watch (again_own (own_at watch.state event) watch.due event) event read refl))
      (λ other.
      rw other
      (put-kept watch (own_from watch.state (due_at watch event) event read) event read
      (nothing_left _ (rw other at same))))
