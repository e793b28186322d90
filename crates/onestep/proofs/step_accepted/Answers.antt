-- `onestep::step_accepted` meets its contract. Assumes nothing.
use Rattle.onestep.proofs.StepLaws.{accepted-few}
use Rattle.onestep.proofs.step_accepted.Goals as goal

pub step_ticked-number-requires : goal.step_ticked-number-requires
step_ticked-number-requires c = search accepted-few
