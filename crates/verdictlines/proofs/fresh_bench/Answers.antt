-- `verdictlines::fresh_bench` meets its contract: what is carried before any line, by its parts.
-- Assumes nothing.
use Rattle.onestep.specs.Watched.{watch_at}
use Rattle.verdictlines.proofs.BenchLaws.{fresh-made}
use Rattle.verdictlines.proofs.fresh_bench.Goals as goal

pub returns : goal.returns
unfolding watch_at
returns c =
    let log = c in
    fresh-made log.args.view _ _ _ _ _ log.fresh_lane.ensures log.fresh-log.ensures c.shown_by-shows.ensures
