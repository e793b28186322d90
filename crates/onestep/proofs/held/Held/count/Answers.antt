-- `onestep::held::Held::count` meets its contract: it is that of `count_in`. Assumes nothing.
use Rattle.onestep.specs.Watched.{watch_at}
use Rattle.onestep.proofs.held.Held.count.Goals as goal

pub returns : goal.returns
unfolding watch_at
returns c = c.count_in.ensures
