-- `Filled`: what a loop over an array holds after some turns. `Ports`: the list of the sixteen. `SelectorLaws`: an element
-- of a list, the selected candidate, a turn of the loop over the ports.
pub mod Filled
pub mod Ports
pub mod Scanning
pub mod SelectorLaws
