-- `onestep::watch::take` meets its contract: each way is a law. Assumes nothing.
use Rattle.inplace.specs.Lists.{selector_at}
use Rattle.quickstep.specs.Watch.{Watch}
use Rattle.onestep.specs.Watched.{watch_held, watch_at}
use Rattle.onestep.proofs.Watched.{Taking, take-nothing, take-choice, take_service, service_accepted}
use borrow.Author.Rules.{rules}
use Rattle.onestep.proofs.watch.take.Goals as goal
use Rattle.onestep.proofs.watch.take.Goals.{After-own_step-own}

-- the watch that the arrays held at the start
abbrev watch : After-own_step-own → Watch
watch a = let args = a.args in
    watch_at args.times.now args.small.now args.wider.now args.due.now args.told.now

-- what was read of it, and what the event makes of its own input
taking : (a : After-own_step-own) → Taking (watch a) a.args.next a.args.event a.args.read
unfolding watch_at
taking a = let args = a.args in
    record {
      before = a.input_at-before.result;
      profile = a.profile_at-profile.result;
      mode = a.mode_at-mode.result;
      time = a.time_at-time.result;
      own = a.own_step-own.result;
      is_before = a.input_at-before.ensures;
      is_profile = a.profile_at-profile.ensures args.times.now;
      is_mode = a.mode_at-mode.ensures args.times.now args.wider.now;
      is_time = a.time_at-time.ensures args.small.now args.wider.now;
      is_own = a.own_step-own.ensures;
    }

pub serve_event-requires : goal.serve_event-requires
unfolding watch_at taking
serve_event-requires c =
    service_accepted _ _ _ _ (taking (goal.at.serve_event-requires c).After-own_step-own) (search rules)

pub returns-in-Nothing : goal.returns-in-Nothing
unfolding watch_at taking
returns-in-Nothing c =
    let put = c.put_own in
    let after = selector_at put.new.times put.new.small put.new.wider in
    take-nothing _ _ _ _ (taking (goal.at.returns-in-Nothing c).After-own_step-own) after
    (watch_held after c.put_number.new.due c.put_number.new.told)
    (search rules)
    put.ensures
    (c.put_number.ensures after)

pub returns-in-Choice : goal.returns-in-Choice
unfolding watch_at taking
returns-in-Choice c =
    let put = c.put_own-in-Choice in
    let all = c.choose in
    take-choice _ _ _ _
    (taking (goal.at.returns-in-Choice c).After-own_step-own)
    (selector_at put.new.times put.new.small put.new.wider)
    (watch_at put.new.times all.new.small put.new.wider all.new.due all.new.told)
    (search rules)
    put.ensures
    all.ensures

pub returns-in-Service : goal.returns-in-Service
unfolding watch_at taking
returns-in-Service c =
    let all = c.serve_event.new in
    take_service _ _ _ _ (taking (goal.at.returns-in-Service c).After-own_step-own) (search rules)
    (watch_at all.times all.small all.wider all.due all.told)
    c.serve_event.ensures
