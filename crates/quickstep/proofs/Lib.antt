-- `Again`: what is said again changes next to nothing. `Due`: a time before which nothing is due. `Step`: the plain
-- step before anything is due. `QuickLaws`: the code's definitions, way by way. `SameAsPlain`: a watch has the state,
-- the answers and the counts of the plain step.
pub mod Again
pub mod Due
pub mod Step
pub mod QuickLaws
pub mod SameAsPlain
pub mod Anew
