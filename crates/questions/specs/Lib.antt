-- `Line`: what a line says, a question or none. `Answer`: the line that answers it. `Asked`: the same as the code does
-- it.
pub mod Line
pub mod Answer
pub mod Asked
