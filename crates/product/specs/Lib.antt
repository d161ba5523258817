-- The definitions that the contracts of `product` cite; those of private functions alone stand in inner.
pub mod Mode
pub mod Pairwise
pub mod Products
pub mod Given
pub mod Whole
pub mod Accuracy
pub mod Reverse
pub mod inner
