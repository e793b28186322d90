-- `unitcard::exports::nurrispane_unit_step_in` meets its contract: each way is a law. Assumes nothing.
use mathlib.Core.Path.{refl}
use Rattle.onestep.specs.Watched.{watch_at}
use Rattle.unitcard.specs.Lent.{lent_at}
use Rattle.card.specs.Lent.{event_of}
use Rattle.unitcard.proofs.UnitcardLaws.{step-neither, step-taken}
use Rattle.unitcard.proofs.exports.nurrispane_unit_step_in.Goals as goal

pub returns-then-half-gt-STATION : goal.returns-then-half-gt-STATION
unfolding lent_at watch_at
returns-then-half-gt-STATION c =
    let args = c.args in
    step-neither (watch_at args.times.now args.small.now args.wider.now args.due.now args.told.now)
    (watch_at args.station_times.now args.station_small.now args.station_wider.now args.station_due.now args.station_told.now)
    args.sent.now c.send.new.sent args.half args.kind args.time args.input args.argument args.frame.now
    (watch_at args.times.now args.small.now args.wider.now c.tell_half.new.due c.tell_half.new.told)
    (watch_at args.station_times.now args.station_small.now args.station_wider.now c.tell_half-then-half-gt-STATION.new.due c.tell_half-then-half-gt-STATION.new.told)
    c.send.ensures
    c.if-half-gt-STATION.true
    c.tell_half.ensures
    c.tell_half-then-half-gt-STATION.ensures

pub returns : goal.returns
unfolding lent_at watch_at
returns c =
    let args = c.args in
    step-taken (watch_at args.times.now args.small.now args.wider.now args.due.now args.told.now)
    (watch_at args.station_times.now args.station_small.now args.station_wider.now args.station_due.now args.station_told.now)
    args.sent.now c.send-2.new.sent args.half args.kind args.time args.input args.argument args.frame.now
    (watch_at c.step_half.new.times c.step_half.new.small c.step_half.new.wider c.step_half.new.due c.step_half.new.told)
    (watch_at c.step_half-2.new.times c.step_half-2.new.small c.step_half-2.new.wider c.step_half-2.new.due c.step_half-2.new.told)
    c.send-2.ensures
    (event_of args.kind args.time args.input args.argument)
    c.read_for-read.result
    c.half_in-to.result
    c.profile_at.result
    c.limits_of-limits.result
    c.goes_to-to_equipment.result
    c.goes_to-to_station.result
    refl
    c.read_for-read.ensures
    c.half_in-to.ensures
    (c.profile_at.ensures args.times.now)
    c.limits_of-limits.ensures
    c.goes_to-to_equipment.ensures
    c.goes_to-to_station.ensures
    c.if-half-gt-STATION.false
    c.step_half.ensures
    c.step_half-2.ensures
