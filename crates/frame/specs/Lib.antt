-- The octets of an ESMC frame; what reading one answers; what writing one leaves; what is proved of both.
pub mod Octets
pub mod Read
pub mod Write
pub mod Demand1
pub mod RoundTrip
pub mod Cases
