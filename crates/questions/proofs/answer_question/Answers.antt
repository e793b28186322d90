-- `questions::answer_question` meets its contract: a question is put, and any other line is told as none.
-- Assumes nothing.
use Rattle.questions.proofs.Answering.{start_within, source-lent, octets-lent, answered-long, answered-nothing, answered-asked}
use lib.Seq.{length-take-le}
use mathlib.Core.Path.{sym, ◌∙◌}
use Rattle.questions.proofs.answer_question.Goals as goal

pub returns-then-line-gt-LONGEST_QUESTION : goal.returns-then-line-gt-LONGEST_QUESTION
returns-then-line-gt-LONGEST_QUESTION c =
    c.told_none.ensures ∙ answered-long _ _ _ c.if-line-gt-LONGEST_QUESTION.true

pub returns-in_default : goal.returns-in_default
returns-in_default c =
    c.told_none-in_default.ensures ∙ answered-nothing _ _ _ c.if-line-gt-LONGEST_QUESTION.false c.in_default.ensures

pub slice_bounds-source_octets-count : goal.slice_bounds-source_octets-count
slice_bounds-source_octets-count c = start_within _ _ c.in-Some.ensures

pub slice_bounds-source_octets-start : goal.slice_bounds-source_octets-start
slice_bounds-source_octets-start c = start_within _ _ c.in-Some.ensures

pub source_octets-source-requires : goal.source_octets-source-requires
source_octets-source-requires c = source-lent _ _ c.in-Some.ensures

pub slice_bounds-octets-end : goal.slice_bounds-octets-end
slice_bounds-octets-end c =
    let source = c.source_octets-source in
    octets-lent _ _ _ source.ensures.0 source.ensures.1

pub slice_bounds-ask-end : goal.slice_bounds-ask-end
slice_bounds-ask-end c =
    let source = c.source_octets-source in
    sym (length-take-le _ _ (octets-lent _ _ _ source.ensures.0 source.ensures.1))

pub returns : goal.returns
returns c =
    let source = c.source_octets-source in
    answered-asked _ _ _ c.if-line-gt-LONGEST_QUESTION.false _ _ _ _ c.in-Some.ensures
    source.ensures.0 source.ensures.1 c.ask.ensures
