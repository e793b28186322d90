-- `inplace::put_framed` meets its contract. Assumes nothing.
use Rattle.inplace.proofs.Turn.{framed-stored, framed-past}
use borrow.Author.Rules.{rules}
use Rattle.inplace.proofs.put_framed.Goals as goal

pub returns-then-number-lt-INPUT_COUNT : goal.returns-then-number-lt-INPUT_COUNT
returns-then-number-lt-INPUT_COUNT c = let args = c.args in
    framed-stored args.times.now args.number.0 args.framed (search rules)
    c.told-times

pub returns-else-number-lt-INPUT_COUNT : goal.returns-else-number-lt-INPUT_COUNT
returns-else-number-lt-INPUT_COUNT c = let args = c.args in
    framed-past args.times.now args.number.0 args.framed (search rules)
