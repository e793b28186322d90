-- `questions::is_source` meets its contract: each way is a law.
-- Assumes nothing.
use Rattle.questions.proofs.LineParts.{isSource-laws, is_source-short, is_source-long, is_source_odd}
use Rattle.questions.proofs.is_source.Goals as goal
use Rattle.questions.proofs.is_source.Goals.{then-text-lt-SHORTEST_SOURCE-via-then-text-lt-SHORTEST_SOURCE, then-text-lt-SHORTEST_SOURCE-via-else-text-lt-SHORTEST_SOURCE+then-text-gt-LONGEST_SOURCE, then-text-lt-SHORTEST_SOURCE-via-else-text-lt-SHORTEST_SOURCE+else-text-gt-LONGEST_SOURCE+then-text-ne0}

pub returns-then-text-eq1 : goal.returns-then-text-eq1
returns-then-text-eq1 c = search isSource-laws

pub returns-then-text-lt-SHORTEST_SOURCE : goal.returns-then-text-lt-SHORTEST_SOURCE
returns-then-text-lt-SHORTEST_SOURCE c =
    elim c.then-text-lt-SHORTEST_SOURCE.branch [
      | then-text-lt-SHORTEST_SOURCE-via-then-text-lt-SHORTEST_SOURCE w ↦ is_source-short _ c.if-text-eq1.false w.if-text-lt-SHORTEST_SOURCE.true
      | then-text-lt-SHORTEST_SOURCE-via-else-text-lt-SHORTEST_SOURCE+then-text-gt-LONGEST_SOURCE w ↦
          is_source-long _ c.if-text-eq1.false w.if-text-lt-SHORTEST_SOURCE.false w.if-text-gt-LONGEST_SOURCE.true
      | then-text-lt-SHORTEST_SOURCE-via-else-text-lt-SHORTEST_SOURCE+else-text-gt-LONGEST_SOURCE+then-text-ne0 w ↦
          is_source_odd _ c.if-text-eq1.false w.if-text-lt-SHORTEST_SOURCE.false w.if-text-gt-LONGEST_SOURCE.false
          w.if-text-ne0.true
    ]

pub returns : goal.returns
returns c = search isSource-laws
