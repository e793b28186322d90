-- `inplace::signs_at` meets its contract. Assumes nothing.
use Rattle.inplace.specs.Lists.{selector_at}
use Rattle.inplace.proofs.Turn.{signs_told}
use Rattle.inplace.proofs.signs_at.Goals as goal

pub returns : goal.returns
returns g c =
    let args = c.args in
    signs_told g.T.Sign.outgoing g.T.Sign.says (selector_at args.times.now args.small.now args.wider.now) _ _ _ _ _ _ _ _
    c.answer_at-answer.ensures
    (c.profile_at-profile.ensures args.times.now)
    (c.mode_at.ensures args.times.now args.wider.now)
    c.says.ensures
    c.told_by.ensures
    c.says-2.ensures
    c.marks_of.ensures
    c.put_signs.ensures
