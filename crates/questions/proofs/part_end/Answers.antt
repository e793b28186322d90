-- `questions::part_end` meets its contract. The invariant: from the place reached the part has the same end.
-- Assumes nothing.
use mathlib.Core.Path.{◌≡◌, ◌∙◌}
use native.Mathlib.Omega.{arith}
use Rattle.questions.specs.Line.{part_end}
use Rattle.questions.proofs.LineParts.{part_end-next, part_end-space, part_end-over}
use Rattle.questions.proofs.part_end.Goals as goal

pub returns-then-text-place-eq-SPACE : goal.returns-then-text-place-eq-SPACE
returns-then-text-place-eq-SPACE c =
    part_end-space _ _ c.loop-place-test.true c.if-text-place-eq-SPACE.true ∙ c.loop-place.invariant

pub loop-place-preserved : goal.loop-place-preserved
loop-place-preserved c =
    part_end-next _ _ c.loop-place-test.true c.if-text-place-eq-SPACE.false ∙ c.loop-place.invariant

pub returns : goal.returns
returns c =
    let ran : c.loop-place.place ≡ part_end c.args.text.now c.args.start =
    part_end-over c.args.text.now c.loop-place.place c.loop-place-test.false ∙ c.loop-place.invariant in
    grind arith
