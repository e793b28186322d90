-- `inplace::bring_input` meets its contract: an input that awaits its own time is as it would be. Assumes nothing.
use mathlib.Core.Path.{refl, sym, ap, ◌∙◌}
use lib.Seq.{set-get_or}
use Rattle.input.specs.Record.{input_brought_to, passed_of}
use Rattle.inplace.specs.Lists.{input_at}
use Rattle.inplace.proofs.Own.{same-stored, own_awaited, own-made, passes-alike, brought-stored}
use Rattle.inplace.proofs.bring_input.Goals as goal

pub returns-then-until-one : goal.returns-then-until-one
returns-then-until-one c =
    let args = c.args in
    let pre = c.requires in
    let awaits = pre.1 c.if-until-one.true in
    let input = input_at args.times.now args.small.now args.wider.now args.at in (
      same-stored args.times.now args.small.now args.wider.now args.at pre.0
          (input_brought_to input args.time args.mode)
          awaits.stays,
      sym (set-get_or args.own.now args.at 0),
      own_awaited input args.mode args.time _ awaits,
      λ e. ap passed_of awaits.stays,
    )

pub returns : goal.returns
returns c =
    let args = c.args in
    let input = input_at args.times.now args.small.now args.wider.now args.at in
    let read = c.input_in-input in
    let after = c.brought_to-after in
    let next = c.next_of-next in
    let old = c.passed_quality in
    let new = c.passed_quality-2 in (
      brought-stored args.times.now args.small.now args.wider.now args.at
          _
          read.result
          after.result
          args.time
          args.mode
          (c.put_run.ensures args.wider.now)
          read.ensures
          after.ensures,
      refl,
      own-made input read.result after.result args.time args.mode next.result read.ensures
          after.ensures
          next.ensures,
      λ alike. passes-alike input read.result after.result args.time args.mode old.result new.result read.ensures
          after.ensures
          old.ensures
          new.ensures
          (sym c.eq-alike.ensures ∙ alike),
    )
