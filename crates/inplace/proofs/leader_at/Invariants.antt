-- `inplace::leader_at` meets its contract.
-- Assumes nothing.
use mathlib.Core.Path.{◌≡◌}
use Rattle.selector.specs.State.{candidates_of}
use Rattle.selector.proofs.Scanning.{leads_after}
use Rattle.inplace.specs.Lists.{selector_at}
use Rattle.inplace.proofs.leader_at.Given as goal

abbrev pub invariant-loop-number : goal.invariant-loop-number
invariant-loop-number l =
    l.leader ≡ leads_after (candidates_of l.profile (selector_at l.times l.small l.wider).inputs l.mode) l.number l.fn.before
