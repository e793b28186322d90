-- `inplace::tick_once` meets its contract: with no own time known, all inputs are brought on. Assumes nothing.
use mathlib.Core.Bool.{true≢false}
use mathlib.Core.Path.{sym}
use Rattle.inplace.specs.Lists.{selector_at}
use Rattle.inplace.proofs.Own.{awaiting_first}
use Rattle.inplace.proofs.tick_once.Goals as goal

pub serve_moment-requires : goal.serve_moment-requires
serve_moment-requires c =
    let args = c.args in
    let state = selector_at args.times.now args.small.now args.wider.now in (
      awaiting_first state.inputs state.mode args.time 18446744073709551615,
      λ chosen. absurd (true≢false (sym chosen)),
    )
