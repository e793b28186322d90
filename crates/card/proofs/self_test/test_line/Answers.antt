-- `card::self_test::test_line` meets its contract. Assumes nothing.
use mathlib.Core.Path.{sym}
use lib.Seq.{length-take-le}
use Rattle.card.specs.SelfTest.{tested_watch}
use Rattle.card.proofs.Tested.{lent_octets-most}
use borrow.Author.Rules.{rules}
use Rattle.card.proofs.self_test.test_line.Goals as goal

pub slice_bounds-frame-end : goal.slice_bounds-frame-end
slice_bounds-frame-end c =
    let most = lent_octets-most c.args.line.5 in
    let is = c.lent_octets-lent.ensures in
    search rules

pub slice_bounds-nurrispane_step_in-end : goal.slice_bounds-nurrispane_step_in-end
slice_bounds-nurrispane_step_in-end c =
    let most = lent_octets-most c.args.line.5 in
    let is = c.lent_octets-lent.ensures in
    sym (length-take-le _ _ (search rules))

pub returns : goal.returns
unfolding tested_watch
returns c =
    rw (
      c.nurrispane_step_in.ensures,
      c.lent_octets-lent.ensures,
      c.test_frame-frame.ensures,
    )
