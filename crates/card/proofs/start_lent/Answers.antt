-- `card::start_lent` meets its contract. Assumes nothing.
use Rattle.inplace.specs.Lists.{selector_at}
use Rattle.onestep.specs.Watched.{watch_at}
use Rattle.card.proofs.CardLaws.{start_neither, start_fresh, start_refused}
use Rattle.card.proofs.start_lent.Goals as goal

pub returns-then-not-names_option : goal.returns-then-not-names_option
unfolding watch_at
returns-then-not-names_option c =
    let args = c.args in
    start_neither
    (watch_at args.times.now args.small.now args.wider.now args.due.now args.told.now)
    args.option
    args.provplace
    args.marks
    c.names_option.result
    c.names_option.ensures
    (watch_at args.times.now args.small.now args.wider.now c.refuse.new.due c.refuse.new.told)
    c.if-not-names_option.true
    (c.refuse.ensures (selector_at args.times.now args.small.now args.wider.now))

pub returns-then-number-ne-ACCEPTED : goal.returns-then-number-ne-ACCEPTED
unfolding watch_at
returns-then-number-ne-ACCEPTED c =
    let args = c.args in
    let refused = c.refuse-then-number-ne-ACCEPTED in
    start_refused
    (watch_at args.times.now args.small.now args.wider.now args.due.now args.told.now)
    args.option
    args.provplace
    args.marks
    c.names_option.result
    c.names_option.ensures
    c.if-not-names_option.false
    c.start_number-number.result
    c.start_number-number.ensures
    (watch_at args.times.now args.small.now args.wider.now refused.new.due refused.new.told)
    c.if-number-ne-ACCEPTED.true
    (refused.ensures (selector_at args.times.now args.small.now args.wider.now))

pub returns : goal.returns
unfolding watch_at
returns c =
    let args = c.args in
    let all = c.start_watch.new in
    start_fresh
    (watch_at args.times.now args.small.now args.wider.now args.due.now args.told.now)
    args.option
    args.provplace
    args.marks
    c.names_option.result
    c.names_option.ensures
    c.if-not-names_option.false
    c.start_number-number.result
    c.start_number-number.ensures
    c.profile_in-profile.result
    c.profile_in-profile.ensures
    (watch_at all.times all.small all.wider all.due all.told)
    c.if-number-ne-ACCEPTED.false
    c.start_watch.ensures
