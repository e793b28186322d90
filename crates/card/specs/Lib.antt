-- `Lent`: what each call leaves in the arrays that C lends. `Known`: what is known of one input. `Sound`: whether a kept
-- card can have come from a fresh one. `SelfTest`: the power-on self-test. `Asking`: one sender. `Calls`: what
-- C holds after calls in a row. `Ports`: what is written for a port. `Range`: what C may
-- index by. `Part`: a tick in portions.
-- `Ranges`: the header's ranges.
pub mod Lent
pub mod Known
pub mod Sound
pub mod SelfTest
pub mod Asking
pub mod Calls
pub mod Ports
pub mod Range
pub mod Part
pub mod Ranges
