-- `card::part::tick_part` meets its contract. Assumes nothing.
use Rattle.onestep.specs.Watched.{watch_at}
use Rattle.card.proofs.Portions.{part_limit, part-more, part-done}
use borrow.Author.Rules.{rules}
use Rattle.card.proofs.part.tick_part.Goals as goal

pub returns-then-time-ge-TIME_LIMIT : goal.returns-then-time-ge-TIME_LIMIT
returns-then-time-ge-TIME_LIMIT c = let args = c.args in
    let all = c.tick_at.new in
    part_limit args.most
    (watch_at args.times.now args.small.now args.wider.now args.due.now args.told.now)
    args.time
    (watch_at all.times all.small all.wider all.due all.told)
    (search rules)
    c.tick_at.ensures

pub returns-then-next-time : goal.returns-then-next-time
returns-then-next-time c = let args = c.args in
    let part = c.serve_part-next in
    let all = part.new in
    part-more args.most
    (watch_at args.times.now args.small.now args.wider.now args.due.now args.told.now)
    args.time
    c.at_least_one-limit.result
    part.result
    (watch_at all.times all.small all.wider all.due all.told)
    (search rules)
    c.at_least_one-limit.ensures
    part.ensures.0
    part.ensures.1
    (search rules)

pub returns : goal.returns
returns c = let args = c.args in
    let part = c.serve_part-next in
    let some = part.new in
    let all = c.tick_at-2.new in
    part-done args.most
    (watch_at args.times.now args.small.now args.wider.now args.due.now args.told.now)
    args.time
    c.at_least_one-limit.result
    part.result
    (watch_at some.times some.small some.wider some.due some.told)
    (search rules)
    c.at_least_one-limit.ensures
    part.ensures.0
    part.ensures.1
    (watch_at all.times all.small all.wider all.due all.told)
    (search rules)
    c.tick_at-2.ensures
