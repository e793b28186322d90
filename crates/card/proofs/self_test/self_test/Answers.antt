-- `card::self_test::self_test` meets its contract. Assumes nothing.
use Rattle.std.proofs.Common.{◌≡◌, List, length, ap, arith}
use Rattle.card.specs.declared.self_test.TestLine.{TestLine}
use Rattle.onestep.specs.Watched.{watch_at}
use Rattle.card.proofs.Tested.{answered-none, answered-more, answered-all}
use Rattle.card.proofs.self_test.self_test.Goals as goal

pub loop-line-init : goal.loop-line-init
loop-line-init c =
    let all = c.start_watch.new in (
      c.test_lines.ensures,
      answered-none _ (watch_at all.times all.small all.wider all.due all.told) c.start_watch.ensures,
    )

pub loop-line-preserved : goal.loop-line-preserved
unfolding watch_at
loop-line-preserved c =
    let loop = c.loop-line in
    let all = c.test_line.new in
    let lines = c.test_lines.result in
    let long : length lines ≡ 18 = ap (λ (all : List TestLine). length all) loop.invariant.0 in (
      loop.invariant.0,
      answered-more lines loop.line-index loop.right c.is_told-right.result
          (watch_at loop.times loop.small loop.wider loop.due loop.told)
          (watch_at all.times all.small all.wider all.due all.told)
          _
          loop.invariant.1
          (omega (arith, long, c.loop-line-test.true))
          c.test_line.ensures
          c.is_told-right.ensures,
    )

pub returns : goal.returns
returns c =
    let loop = c.loop-line in
    let lines = c.test_lines.result in
    let long : length lines ≡ 18 = ap (λ (all : List TestLine). length all) loop.invariant.0 in
    answered-all lines loop.line-index loop.right
    (watch_at loop.times loop.small loop.wider loop.due loop.told)
    loop.invariant.1
    (omega (arith, long, c.loop-line-test.false))
    loop.invariant.0
