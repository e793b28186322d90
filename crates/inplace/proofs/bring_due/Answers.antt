-- `inplace::bring_due` meets its contract: a turn of the loop brings one input to the time, or finds it there, and
-- makes its own time anew. Assumes nothing.
use mathlib.Core.List.{map}
use mathlib.Core.Path.{refl, ◌∙◌}
use borrow.Author.Rules.{rules}
use Rattle.input.specs.declared.Input.{Input}
use Rattle.input.specs.Record.{input_brought_to}
use Rattle.due.proofs.DueLaws.{nextAmong-laws, next_among-all}
use Rattle.inplace.specs.Lists.{input_at, selector_at}
use Rattle.inplace.proofs.Turn.{turn, done, inputs-length}
use Rattle.inplace.proofs.Own.{own_then, untouched, awaits_still, own_turn, own-done, least-turn, alike-turn, all_alike}
use Rattle.inplace.proofs.bring_due.Goals as goal

pub loop-at-init : goal.loop-at-init
loop-at-init c = (refl, refl, search nextAmong-laws, λ e number h. absurd (search rules))

pub bring_input-one-requires : goal.bring_input-one-requires
bring_input-one-requires c =
    let start = c in
    let args = start.args in
    let loop = c.loop-at in (
      c.loop-at-test.true,
      awaits_still loop.times loop.small args.wider.now loop.at c.loop-at-test.true
          (λ (input : Input). input_brought_to input args.time args.mode)
          (selector_at args.times.now args.small.now args.wider.now)
          loop.invariant.0
          (own_then args.mode args.time)
          args.mode
          args.time
          args.until
          args.own.now
          loop.own
          start.requires
          loop.invariant.1,
    )

pub loop-at-preserved : goal.loop-at-preserved
loop-at-preserved c =
    let args = c.args in
    let loop = c.loop-at in
    let inside = c.loop-at-test.true in
    let one = c.bring_input-one in
    let first = selector_at args.times.now args.small.now args.wider.now in
    let sixteen = inputs-length args.times.now args.small.now args.wider.now in
    let input = input_at loop.times loop.small args.wider.now loop.at in
    let same = untouched loop.times loop.small args.wider.now loop.at inside
    (λ (input : Input). input_brought_to input args.time args.mode) first loop.invariant.0 in (
      turn (λ (input : Input). input_brought_to input args.time args.mode) first loop.times loop.small
          args.wider.now
          (selector_at one.new.times one.new.small args.wider.now)
          loop.at
          (input_brought_to input args.time args.mode)
          sixteen
          loop.invariant.0
          one.ensures.0
          refl
          inside,
      one.ensures.1 ∙
          own_turn first sixteen args.mode args.time input loop.at args.own.now loop.own one.result.next
          inside
          c.told-own
          same
          loop.invariant.1
          one.ensures.2,
      least-turn first sixteen args.mode args.time input loop.at loop.next one.result.next
          c.lesser-next.result
          inside
          same
          loop.invariant.2
          one.ensures.2
          c.lesser-next.ensures,
      alike-turn first.inputs args.mode args.time loop.at input loop.alike one.result.alike same
          loop.invariant.3
          one.ensures.3,
    )

pub returns : goal.returns
returns c =
    let args = c.args in
    let loop = c.loop-at in
    let first = selector_at args.times.now args.small.now args.wider.now in
    let sixteen = inputs-length args.times.now args.small.now args.wider.now in (
      done (λ (input : Input). input_brought_to input args.time args.mode) first
          (selector_at loop.times loop.small args.wider.now)
          loop.at
          sixteen
          loop.invariant.0
          loop.auto.at-end
          c.loop-at-test.false,
      own-done first sixteen args.mode args.time loop.at args.own.now loop.own
          c.told-own
          loop.invariant.1
          loop.auto.at-end
          c.loop-at-test.false,
      next_among-all
          (map (λ (input : Input). input_brought_to input args.time args.mode) first.inputs)
          args.mode
          args.time
          loop.at
          loop.next
          loop.invariant.2
          loop.auto.at-end
          c.loop-at-test.false,
      λ e. all_alike first.inputs args.mode args.time loop.at c.loop-at-test.false (loop.invariant.3 e),
    )
