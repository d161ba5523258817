-- The definitions that the contracts of `sheets` cite; those of private functions alone stand in inner.
pub mod Bytes
pub mod Format
pub mod Shapes
pub mod Read
pub mod Write
pub mod Values
pub mod Patterns
pub mod inner
