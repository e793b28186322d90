-- `inplace::leader_at` meets its contract: each turn of the loop offers one input. Assumes nothing.
use Rattle.inplace.proofs.Turn.{leader-begin, leader-turn, leader-end}
use Rattle.inplace.proofs.leader_at.Goals as goal

pub loop-number-init : goal.loop-number-init
loop-number-init c =
    let args = c.args in
    leader-begin args.times.now args.small.now args.wider.now _ _ args.before _ _ _
    (c.profile_at-profile.ensures args.times.now)
    (c.mode_at-mode.ensures args.times.now args.wider.now)
    c.selected_number.ensures
    c.candidate_at-seen.ensures
    c.seed-leader.ensures

pub loop-number-preserved : goal.loop-number-preserved
loop-number-preserved c =
    let args = c.args in
    leader-turn args.times.now args.small.now args.wider.now _ _ c.input_in-input.ensures c.loop-number-test.true _ _
    args.before _ _ _ c.loop-number.invariant c.candidate_for-candidate.ensures c.offer-leader.ensures

pub returns : goal.returns
returns c =
    let args = c.args in
    leader-end args.times.now args.small.now args.wider.now _ _ args.before _ _ c.loop-number.invariant
    (c.profile_at-profile.ensures args.times.now)
    (c.mode_at-mode.ensures args.times.now args.wider.now)
    c.loop-number.auto.number-end
    c.loop-number-test.false
