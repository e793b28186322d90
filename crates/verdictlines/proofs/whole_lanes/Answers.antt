-- `verdictlines::whole_lanes` meets its contract: it is what all lanes are told up to beyond the end.
-- Assumes nothing.
use mathlib.Core.Path.{◌∙◌, ap}
use Rattle.onestep.specs.Watched.{watch_at}
use Rattle.verdictlines.specs.Told.{lanes_of, places_of}
use Rattle.verdictlines.proofs.BenchLaws.{whole-made}
use Rattle.verdictlines.proofs.whole_lanes.Goals as goal

pub returns : goal.returns
unfolding watch_at
returns c =
    let until = c in
    let time = until in
    let behind = time in
    let whole =
    whole-made _ _ _ _ _ _ _ behind.capped.ensures behind.capped-behind.ensures
    (time.time_at.ensures _ _) until.later-until.ensures in (
      c.advance_all.ensures.0 ∙ ap lanes_of whole,
      c.advance_all.ensures.1 ∙ ap places_of whole,
      c.advance_all.ensures.2,
    )
