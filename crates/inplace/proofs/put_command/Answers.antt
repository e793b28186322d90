-- `inplace::put_command` meets its contract. Assumes nothing.
use Rattle.inplace.proofs.Once.{command-stored}
use Rattle.inplace.proofs.put_command.Goals as goal

pub returns : goal.returns
returns c = command-stored c.args.small.now c.args.mode c.args.switch c.switch_number.result
    c.switch_input.result
    c.told-small
    c.switch_number.ensures
    c.switch_input.ensures
