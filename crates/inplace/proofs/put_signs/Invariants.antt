-- `inplace::put_signs` meets its contract. Assumes nothing.
use mathlib.Core.Path.{◌≡◌}
use Rattle.numbers.specs.Profile.{halved}
use Rattle.selector.specs.Answer.{sign_for, ports}
use Rattle.selector.proofs.Filled.{filled}
use Rattle.inplace.specs.Lists.{selector_at}
use Rattle.inplace.proofs.put_signs.Given as goal

abbrev pub invariant-loop-port : goal.invariant-loop-port
invariant-loop-port g l =
    (l.rest ≡ halved l.port l.marks) ×
    (l.signs ≡
    filled (sign_for g.T.Sign.outgoing (selector_at l.times l.small l.wider).inputs l.mode l.selected l.marks l.sign l.first)
    l.port ports l.initial.signs)
