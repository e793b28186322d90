-- `LineLaws`: what a line comes to, way by way; lines in two parts. `AsHeartbeats`: what the code writes is what
-- `specs/Heartbeats` says.
pub mod LineLaws
pub mod AsHeartbeats
