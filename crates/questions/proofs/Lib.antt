-- `LineParts`, `Question`: the parts of a line, and what each way through the code's reading of them gives. `Texts`:
-- octets and texts put into rows of zeros. `Answering`: what a question is answered with.
pub mod LineParts
pub mod Question
pub mod Texts
pub mod Answering
