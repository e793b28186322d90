-- What a switch selects, and what a choice leaves. Assumes nothing.
use mathlib.Core.Bool.{Bool}
use mathlib.Core.List.{List}
use mathlib.Core.Path.{◌≡◌}
use Rattle.std.specs.Prelude.{Option, Some}
use Rattle.numbers.specs.declared.InputNumber.{InputNumber}
use Rattle.choice.specs.declared.Candidate.{Candidate}
use Rattle.switch.specs.declared.Switch.{Switch}
use Rattle.switch.specs.declared.Switch.TheVariants as W
use Rattle.switch.specs.declared.AfterChoice.{AfterChoice}
use Rattle.switch.specs.OneChoice.{selected_by}

abbrev pub after_of : Switch → Option InputNumber → Bool → AfterChoice
after_of switch selection waslocked = record { switch = switch; selection = selection; waslocked = waslocked }

module _ (candidates : List Candidate) (switch : Switch) (before : Option InputNumber) where
  pub selected_by-forced : (on : InputNumber) → switch ≡ W.Forced on → Some on ≡ selected_by candidates switch before
  unfolding selected_by
  selected_by-forced on s = rw s

  pub selected_by-manual : (on : InputNumber) → switch ≡ W.Manual on → Some on ≡ selected_by candidates switch before
  unfolding selected_by
  selected_by-manual on s = rw s
