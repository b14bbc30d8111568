pub mod ArrivingLemmas
pub mod BodyLemmas
pub mod Completing
pub mod Heads
pub mod Readings
pub mod Refused
pub mod TransferLemmas
