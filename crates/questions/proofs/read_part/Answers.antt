-- `questions::read_part` meets its contract: each way is a law.
-- Assumes nothing.
use Rattle.questions.proofs.LineParts.{readPart-laws, read_part-other, read_part-number}
use Rattle.questions.proofs.read_part.Goals as goal

pub returns-then-end-line : goal.returns-then-end-line
returns-then-end-line c = search readPart-laws

pub slice_bounds-read_number-end : goal.slice_bounds-read_number-end
slice_bounds-read_number-end c = search readPart-laws

pub returns-in_err-value : goal.returns-in_err-value
returns-in_err-value c =
    let none = read_part-other c.args.line.now c.args.start c.requires c.part_end-end.result c.part_end-end.ensures
    c.if-end-line.false c.in_err-value.ensures in
    cc

pub overflow_add-result : goal.overflow_add-result
overflow_add-result c = search readPart-laws

pub returns : goal.returns
returns c =
    read_part-number _ _ c.requires _ c.part_end-end.ensures c.if-end-line.false _ c.in_ok-value.ensures
