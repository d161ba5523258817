pub mod Round
pub mod Signed
pub mod Operation
pub mod Value
pub mod Terms
pub mod Sized
pub mod Snap
