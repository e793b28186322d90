-- `questions::part_end` meets its contract. The invariant: from the place reached the part has the same end.
-- Assumes nothing.
use mathlib.Core.Path.{◌≡◌}
use Rattle.questions.specs.Line.{part_end}
use Rattle.questions.proofs.part_end.Given as goal

abbrev pub invariant-loop-place : goal.invariant-loop-place
invariant-loop-place l = part_end l.text l.place ≡ part_end l.text l.start
