-- `card::sound::same_once` meets its contract. Assumes nothing.
use Rattle.inplace.specs.Lists.{selector_at}
use Rattle.card.proofs.Same.{once_told}
use Rattle.card.proofs.sound.same_once.Goals as goal

pub returns : goal.returns
returns c = let args = c.args in
    λ times later wider.
    once_told (selector_at times args.small.now wider) (selector_at later args.after.now wider)
    c.switch_at-ours.result
    c.switch_at-theirs.result
    c.selection_at-selected.result
    c.selection_at-other.result
    c.was_locked_at.result
    c.was_locked_at-2.result
    c.switch_number.result
    c.switch_number-2.result
    c.switch_input.result
    c.switch_input-2.result
    c.selected_number.result
    c.selected_number-2.result
    (c.switch_at-ours.ensures times wider)
    (c.switch_at-theirs.ensures later wider)
    (c.selection_at-selected.ensures times wider)
    (c.selection_at-other.ensures later wider)
    (c.was_locked_at.ensures times wider)
    (c.was_locked_at-2.ensures later wider)
    c.switch_number.ensures
    c.switch_number-2.ensures
    c.switch_input.ensures
    c.switch_input-2.ensures
    c.selected_number.ensures
    c.selected_number-2.ensures
