-- `inplace::serve_moment` meets its contract: it is one moment, call by call, and a choice that would choose the same
-- changes nothing. Assumes nothing.
use mathlib.Core.Bool.{Bool}
use mathlib.Core.Path.{sym, subst}
use Rattle.numbers.proofs.Truth.{both_first, both-second}
use Rattle.inplace.specs.Lists.{selector_at}
use Rattle.inplace.specs.Own.{Awaiting}
use Rattle.inplace.proofs.Turn.{inputs-length}
use Rattle.inplace.proofs.Moment.{moment}
use Rattle.inplace.proofs.Own.{moment-own, moment-next, moment-alike}
use Rattle.inplace.proofs.serve_moment.Goals as goal

pub bring_due-brought-requires : goal.bring_due-brought-requires
bring_due-brought-requires c =
    let start = c in
    let args = start.args in
    subst
    (λ (mode : Bool). Awaiting (selector_at args.times.now args.small.now args.wider.now).inputs mode
    args.time
    args.until
    args.own.now)
    (sym (c.mode_at-mode.ensures args.times.now args.wider.now))
    start.requires.0

pub returns-then-chosen-brought : goal.returns-then-chosen-brought
returns-then-chosen-brought c =
    let start = c in
    let args = start.args in
    let asked = c.mode_at-mode in
    let brought = c.bring_due-brought in
    let timed = c.put_time in
    let state = selector_at args.times.now args.small.now args.wider.now in
    let after = selector_at timed.new.times brought.new.small args.wider.now in
    let mode = asked.ensures args.times.now args.wider.now in
    let both = c.if-chosen-brought.true in
    let ticked = moment-alike state (selector_at brought.new.times brought.new.small args.wider.now) after args.time
    asked.result
    (inputs-length args.times.now args.small.now args.wider.now)
    mode
    brought.ensures.0
    (timed.ensures brought.new.small args.wider.now)
    (start.requires.1 (both_first args.chosen brought.result.alike both))
    (brought.ensures.3 (both-second args.chosen brought.result.alike both)) in (
      ticked,
      moment-own state after args.time asked.result mode ticked _ brought.ensures.1,
      moment-next state after args.time asked.result mode ticked brought.result.next brought.ensures.2,
    )

pub returns : goal.returns
returns c =
    let args = c.args in
    let asked = c.mode_at-mode in
    let brought = c.bring_due-brought in
    let timed = c.put_time in
    let state = selector_at args.times.now args.small.now args.wider.now in
    let after = selector_at timed.new.times c.make_choice.new.small args.wider.now in
    let mode = asked.ensures args.times.now args.wider.now in
    let ticked = moment state (selector_at brought.new.times brought.new.small args.wider.now)
    (selector_at timed.new.times brought.new.small args.wider.now)
    after
    args.time
    asked.result
    mode
    brought.ensures.0
    (timed.ensures brought.new.small args.wider.now)
    c.make_choice.ensures in (
      ticked,
      moment-own state after args.time asked.result mode ticked _ brought.ensures.1,
      moment-next state after args.time asked.result mode ticked brought.result.next brought.ensures.2,
    )
