-- `onestep::watch::step_watch` meets its contract: each way is a law. Assumes nothing.
use Prim.Native.Nat.{ℕ}
use mathlib.Core.Bool.{Bool}
use mathlib.Core.Path.{◌≡◌, subst}
use Rattle.numbers.specs.declared.Event.{Event}
use Rattle.frame.specs.declared.FrameRead.{FrameRead}
use Rattle.quickstep.specs.Own.{is_left}
use Rattle.quickstep.specs.Watch.{Watch, own_from, take_with}
use Rattle.inplace.specs.Lists.{selector_at}
use Rattle.onestep.specs.Watched.{watch_held, watch_at}
use Rattle.onestep.proofs.Watched.{Asking, step-again, step-taken, step-late}
use Rattle.onestep.proofs.watch.step_watch.Goals as goal
use Rattle.onestep.proofs.watch.step_watch.Goals.{After-says_again}

-- the watch that the arrays held at the start
abbrev watch : After-says_again → Watch
watch a = let args = a.args in
    watch_at args.times.now args.small.now args.wider.now args.due.now args.told.now

-- what was read of it
asking : (a : After-says_again) → Asking (watch a) a.args.event a.args.read
unfolding watch_at
asking a = let args = a.args in
    record {
      before = a.input_at-before.result;
      profile = a.profile_at-profile.result;
      time = a.time_at-time.result;
      again = a.says_again.result;
      is_before = a.input_at-before.ensures;
      is_profile = a.profile_at-profile.ensures args.times.now;
      is_time = a.time_at-time.ensures args.small.now args.wider.now;
      is_again = a.says_again.ensures;
    }

-- what was taken is the event that was handed on
abbrev Took : Watch → ℕ → FrameRead → Watch → Bool → Event → Type 0
Took before next read held anew event =
    (held ≡ take_with before next event read) × (anew ≡ is_left (own_from before.state next event read).left)

pub returns-then-says_again : goal.returns-then-says_again
unfolding watch_at asking
returns-then-says_again c =
    let args = c.args in
    let put = c.put_again in
    let after = selector_at put.new.times args.small.now args.wider.now in
    step-again _ _ _ (asking (goal.at.returns-then-says_again c).After-says_again) c.again_own-own.result after
    (watch_held after c.put_number.new.due c.put_number.new.told)
    c.if-says_again.true
    c.again_own-own.ensures
    (put.ensures args.small.now args.wider.now)
    (c.put_number.ensures after)

pub returns-then-event-known : goal.returns-then-event-known
unfolding watch_at asking
returns-then-event-known c =
    let a = (goal.at.returns-then-event-known c).After-says_again in
    let args = c.args in
    let held = c.take.new in
    let all = watch_at held.times held.small held.wider held.due held.told in
    step-taken (watch a) args.event args.read (asking a) all c.take.result c.if-says_again.false
    c.if-event-known.true
    (subst (Took (watch a) (watch a).due args.read all c.take.result) c.handed.ensures c.take.ensures)

pub returns : goal.returns
unfolding watch_at
returns c =
    let args = c.args in
    let before = watch_at args.times.now args.small.now args.wider.now args.due.now args.told.now in
    let held = c.take-2.new in
    let all = watch_at held.times held.small held.wider held.due held.told in
    step-late before args.event args.read c.next_due-next.result c.next_due-next.ensures
    c.if-event-known.false
    all
    c.take-2.result
    (subst (Took before c.next_due-next.result args.read all c.take-2.result) c.handed-2.ensures
    c.take-2.ensures)
