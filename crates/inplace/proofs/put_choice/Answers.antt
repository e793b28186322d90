-- `inplace::put_choice` meets its contract. Assumes nothing.
use Rattle.inplace.proofs.Once.{choice-stored}
use Rattle.inplace.proofs.put_choice.Goals as goal

pub returns : goal.returns
returns c = choice-stored c.args.small.now c.args.choice c.switch_number.result
    c.switch_input.result c.is_selected.result c.selected_number.result
    c.told-small
    c.switch_number.ensures
    c.switch_input.ensures c.is_selected.ensures c.selected_number.ensures
