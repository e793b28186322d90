-- `card::part::serve_part` meets its contract. Assumes nothing.
use mathlib.Core.Path.{◌≡◌}
use Rattle.due.specs.Next.{next_due}
use Rattle.onestep.specs.Watched.{watch_at}
use Rattle.card.proofs.Portions.{Parted}
use Rattle.card.proofs.part.serve_part.Given as goal

abbrev pub invariant-loop-count : goal.invariant-loop-count
invariant-loop-count l =
    (l.next ≡ next_due (watch_at l.times l.small l.wider l.due l.told).state)
    × Parted l.most (watch_at l.initial.times l.initial.small l.initial.wider l.initial.due l.initial.told) l.time (watch_at l.times l.small l.wider l.due l.told) l._count
