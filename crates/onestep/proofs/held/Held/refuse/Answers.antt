-- `onestep::held::Held::refuse` meets its contract: it is that of `refuse` in place. Assumes nothing.
use Rattle.inplace.specs.Lists.{selector_at}
use Rattle.onestep.specs.Watched.{watch_at}
use Rattle.onestep.proofs.held.Held.refuse.Goals as goal

pub returns : goal.returns
unfolding watch_at
returns c = let held = c.args.self.now in c.refuse.ensures (selector_at held.times held.small held.wider)
