-- `Clock`: clock state, clock quality, outgoing code, and the values of the answer line. `State`: fresh, and what a
-- choice and a tick make of a state. `Answer`: what is answered of it, and its outgoing codes.
pub mod Clock
pub mod State
pub mod Answer
