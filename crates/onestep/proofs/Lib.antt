-- `StepLaws`: the definitions that a step in place meets, a law for each way through it. `Watched`: the same of the
-- quick step.
pub mod StepLaws
pub mod Watched
