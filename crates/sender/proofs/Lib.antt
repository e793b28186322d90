-- Outgoing codes are small; the laws of what the code keeps, one for each way through; what it keeps is what the
-- accepted questions come to, after any sequence; and what is stated in `specs/Sending`.
pub mod Codes
pub mod SenderLaws
pub mod Kept
pub mod Agrees
pub mod Sending
pub mod Window
pub mod ReadsBack
