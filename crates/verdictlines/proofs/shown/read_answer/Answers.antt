-- `verdictlines::shown::read_answer` meets its contract: each way is a law.
-- Assumes nothing.
use Rattle.verdictlines.proofs.ShownLaws.{shown-laws, answer-other, answer-told}
use native.Mathlib.Omega.{arith}
use Rattle.verdictlines.proofs.shown.read_answer.Goals as goal

pub returns-then-line-ne-ANSWER_LINE : goal.returns-then-line-ne-ANSWER_LINE
returns-then-line-ne-ANSWER_LINE c = search shown-laws

pub returns-then-not-all_digits : goal.returns-then-not-all_digits
returns-then-not-all_digits c = answer-other _ _ (omega arith) _ c.all_digits.ensures (c.if-not-all_digits.true)

pub returns : goal.returns
returns c =
    let e = c in
    answer-told _ _ (omega arith) _ e.all_digits.ensures e.if-not-all_digits.false
    _ _ _ c.time_in-time.ensures
    c.answer_in-answer.ensures c.answer_value-value.ensures
