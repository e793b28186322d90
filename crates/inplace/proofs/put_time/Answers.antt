-- `inplace::put_time` meets its contract. Assumes nothing.
use Rattle.inplace.proofs.Once.{time-stored}
use Rattle.inplace.proofs.put_time.Goals as goal

pub returns : goal.returns
returns c = time-stored c.args.times.now c.args.time c.told-times
