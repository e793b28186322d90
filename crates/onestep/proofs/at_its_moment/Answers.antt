-- `onestep::at_its_moment` meets its contract: it is the definition, call by call. Assumes nothing.
use Rattle.inplace.specs.Lists.{selector_at}
use Rattle.inplace.proofs.Moment.{switch-on}
use Rattle.onestep.proofs.StepLaws.{own-moment}
use Rattle.onestep.proofs.at_its_moment.Goals as goal

pub returns : goal.returns
returns c = let args = c.args in
    let all = c.inputs_after in
    own-moment (selector_at args.times.now args.small.now args.wider.now)
    (selector_at all.new.times all.new.small all.new.wider)
    (selector_at all.new.times c.put_command.new.small all.new.wider)
    (selector_at all.new.times c.make_choice.new.small all.new.wider)
    args.event
    c.profile_at-profile.result
    c.mode_at.result
    c.mode_after-mode.result
    c.switch_at.result
    c.commanded-switch.result
    (switch-on args.times.now args.small.now args.wider.now)
    c.requires
    (c.mode_at.ensures args.times.now args.wider.now)
    c.mode_after-mode.ensures
    (c.switch_at.ensures args.times.now args.wider.now)
    c.commanded-switch.ensures
    (c.profile_at-profile.ensures args.times.now)
    all.ensures
    (c.put_command.ensures all.new.times all.new.wider)
    c.make_choice.ensures
