-- `Lent`: what each call leaves in the arrays that C lends. `Calls`: what they hold after calls in a row. `Range`: what C
-- may index by.
pub mod Lent
pub mod Calls
pub mod Range
