-- `inplace::candidate_at` meets its contract.
-- Assumes nothing.
use Rattle.inplace.proofs.Turn.{candidate-inside, candidate-outside}
use Rattle.inplace.proofs.candidate_at.Goals as goal

pub returns-then-number-lt-INPUT_COUNT : goal.returns-then-number-lt-INPUT_COUNT
returns-then-number-lt-INPUT_COUNT c =
    let modes = c in
    let args = modes.args in
    candidate-inside args.times.now args.small.now args.wider.now _ _ c.input_in-input.ensures
    modes.if-number-lt-INPUT_COUNT.true _ _ _
    (modes.profile_at-profile.ensures args.times.now)
    (modes.mode_at-mode.ensures args.times.now args.wider.now)
    c.candidate_for.ensures

pub returns : goal.returns
returns c = search candidate-outside
