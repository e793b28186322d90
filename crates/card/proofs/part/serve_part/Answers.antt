-- `card::part::serve_part` meets its contract. Assumes nothing.
use Rattle.onestep.specs.Watched.{watch_at}
use Rattle.card.proofs.Portions.{parted_none, parted_turn, parted_late, parted_full}
use borrow.Author.Rules.{rules}
use Rattle.card.proofs.part.serve_part.Goals as goal

pub loop-count-init : goal.loop-count-init
unfolding watch_at
loop-count-init c = (search rules, search parted_none)

pub loop-count-preserved : goal.loop-count-preserved
unfolding watch_at
loop-count-preserved c =
    let args = c.args in
    let loop = c.loop-count in
    let all = c.tick_at.new in (
      search rules,
      parted_turn args.most
          (watch_at args.times.now args.small.now args.wider.now args.due.now args.told.now)
          args.time
          (watch_at loop.times loop.small loop.wider loop.due loop.told)
          (watch_at all.times all.small all.wider all.due all.told)
          loop._count
          loop.next
          loop.invariant.1
          loop.invariant.0
          c.if-time-next.false
          c.loop-count-test.true
          c.tick_at.ensures,
    )

pub returns-then-time-next : goal.returns-then-time-next
returns-then-time-next c =
    let args = c.args in
    let loop = c.loop-count in (
      parted_late args.most (watch_at args.times.now args.small.now args.wider.now args.due.now args.told.now) args.time
          (watch_at loop.times loop.small loop.wider loop.due loop.told)
          loop._count
          loop.next
          loop.invariant.1
          loop.invariant.0
          c.if-time-next.true,
      loop.invariant.0,
    )

pub returns : goal.returns
returns c =
    let args = c.args in
    let loop = c.loop-count in (
      parted_full args.most (watch_at args.times.now args.small.now args.wider.now args.due.now args.told.now) args.time
          (watch_at loop.times loop.small loop.wider loop.due loop.told)
          loop._count
          loop.invariant.1
          c.loop-count-test.false,
      loop.invariant.0,
    )
