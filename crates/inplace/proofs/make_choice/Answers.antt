-- `inplace::make_choice` meets its contract: it is the definition, call by call. Assumes nothing.
use Rattle.inplace.specs.Lists.{selector_at}
use Rattle.inplace.proofs.Moment.{switch-on, chosen}
use Rattle.inplace.proofs.Turn.{inputs-length}
use Rattle.inplace.proofs.make_choice.Goals as goal

pub returns : goal.returns
returns c =
    let decided = c in
    let leader = decided in
    let own = leader in
    let on = own in
    let held = on in
    let selection = held in
    let switch = selection in
    let args = switch.args in
    chosen (selector_at args.times.now args.small.now args.wider.now)
    (selector_at args.times.now c.put_choice.new.small args.wider.now)
    decided.decide-choice.result
    switch.switch_at-switch.result
    selection.selection_at-selection.result
    held.was_locked_at-waslocked.result
    on.switch_input.result
    own.candidate_at-own.result
    leader.leader_at-leader.result
    (switch-on args.times.now args.small.now args.wider.now)
    (inputs-length args.times.now args.small.now args.wider.now)
    (c.put_choice.ensures args.times.now args.wider.now)
    decided.decide-choice.ensures
    leader.leader_at-leader.ensures
    own.candidate_at-own.ensures
    on.switch_input.ensures
    (switch.switch_at-switch.ensures args.times.now args.wider.now)
    (selection.selection_at-selection.ensures args.times.now args.wider.now)
    (held.was_locked_at-waslocked.ensures args.times.now args.wider.now)
