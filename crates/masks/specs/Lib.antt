-- The definitions that the contracts of `masks` cite; those of private functions alone stand in inner.
pub mod Outcome
pub mod Order
pub mod Flavor
pub mod Text
pub mod Shape
pub mod ShapeBytes
pub mod Blade
pub mod Build
pub mod Unpack
pub mod inner
