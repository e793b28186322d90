-- START: what the words say with which a program is started.
pub mod Start
pub mod Said
