-- `onestep::held::Held::answer` meets its contract: it is that of `answer_in`. Assumes nothing.
use Rattle.onestep.specs.Watched.{watch_at}
use Rattle.onestep.proofs.held.Held.answer.Goals as goal

pub returns : goal.returns
unfolding watch_at
returns c = c.answer_in.ensures
