-- `CardLaws`: the definitions, a law for each way through the function that meets it. `Same`: those of a sound card.
-- `Tested`: those of the self-test. `Asking`: those of one sender.
-- `Range`: what C may index by. `Due`: what is next due after an event that is taken. `Ports`: what is written for a
-- port. `Calls`: what C holds after calls in a row. `Kept`: a kept card. `SelfTest`: the self-test is passed.
-- `Portions`: a tick in portions. `Ranges`: the header's ranges. `Questions`: questions in a row to senders lent one by
-- one.
pub mod CardLaws
pub mod Same
pub mod Tested
pub mod Asking
pub mod Range
pub mod Due
pub mod Ports
pub mod Calls
pub mod Kept
pub mod SelfTest
pub mod Portions
pub mod Ranges
pub mod Questions
