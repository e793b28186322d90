-- `unitcard::exports::nurrispane_unit_fresh_in` meets its contract: each way is a law. Assumes nothing.
use Rattle.inplace.specs.Lists.{selector_at}
use Rattle.onestep.specs.Watched.{watch_at}
use Rattle.unitcard.specs.Lent.{lent_at}
use Rattle.unitcard.proofs.UnitcardLaws.{start_neither, start_refused, start_fresh}
use Rattle.unitcard.proofs.exports.nurrispane_unit_fresh_in.Goals as goal

pub returns-then-not-names_option : goal.returns-then-not-names_option
unfolding lent_at watch_at
returns-then-not-names_option c =
    let args = c.args in
    start_neither (watch_at args.times.now args.small.now args.wider.now args.due.now args.told.now)
    (watch_at args.station_times.now args.station_small.now args.station_wider.now args.station_due.now args.station_told.now)
    args.sent.now args.option args.provplace args.marks args.minimum c.names_option.result
    c.names_option.ensures
    (watch_at args.times.now args.small.now args.wider.now c.refuse.new.due c.refuse.new.told)
    (watch_at args.station_times.now args.station_small.now args.station_wider.now c.refuse-then-not-names_option.new.due c.refuse-then-not-names_option.new.told)
    c.if-not-names_option.true
    (c.refuse.ensures (selector_at args.times.now args.small.now args.wider.now))
    (c.refuse-then-not-names_option.ensures (selector_at args.station_times.now args.station_small.now args.station_wider.now))

pub returns-then-number-eq-ACCEPTED : goal.returns-then-number-eq-ACCEPTED
unfolding lent_at watch_at
returns-then-number-eq-ACCEPTED c =
    let args = c.args in
    start_fresh (watch_at args.times.now args.small.now args.wider.now args.due.now args.told.now)
    (watch_at args.station_times.now args.station_small.now args.station_wider.now args.station_due.now args.station_told.now)
    args.sent.now args.option args.provplace args.marks args.minimum c.names_option.result
    c.names_option.ensures
    (watch_at c.start_half.new.times c.start_half.new.small c.start_half.new.wider c.start_half.new.due c.start_half.new.told)
    (watch_at c.start_half-then-number-eq-ACCEPTED.new.times c.start_half-then-number-eq-ACCEPTED.new.small c.start_half-then-number-eq-ACCEPTED.new.wider c.start_half-then-number-eq-ACCEPTED.new.due c.start_half-then-number-eq-ACCEPTED.new.told)
    c.if-not-names_option.false
    c.profile_in-profile.result
    c.profile_in-profile.ensures
    c.unit_start_number-number.result
    c.unit_start_number-number.ensures
    c.send.new.sent
    c.if-number-eq-ACCEPTED.true
    c.start_half.ensures
    c.start_half-then-number-eq-ACCEPTED.ensures
    c.send.ensures

pub returns : goal.returns
unfolding lent_at watch_at
returns c =
    let args = c.args in
    start_refused (watch_at args.times.now args.small.now args.wider.now args.due.now args.told.now)
    (watch_at args.station_times.now args.station_small.now args.station_wider.now args.station_due.now args.station_told.now)
    args.sent.now args.option args.provplace args.marks args.minimum c.names_option.result
    c.names_option.ensures
    (watch_at args.times.now args.small.now args.wider.now c.refuse-2.new.due c.refuse-2.new.told)
    (watch_at args.station_times.now args.station_small.now args.station_wider.now c.refuse-3.new.due c.refuse-3.new.told)
    c.if-not-names_option.false
    c.profile_in-profile.result
    c.profile_in-profile.ensures
    c.unit_start_number-number.result
    c.unit_start_number-number.ensures
    c.if-number-eq-ACCEPTED.false
    (c.refuse-2.ensures (selector_at args.times.now args.small.now args.wider.now))
    (c.refuse-3.ensures (selector_at args.station_times.now args.station_small.now args.station_wider.now))
