-- `OneChoice`: the switch judged and the choice made, once. `OneScan`: the same by one scan of the inputs. `Choices`: the same over any sequence of choices, with
-- document 01's sentences on it as statements.
pub mod OneChoice
pub mod OneScan
pub mod Choices
