-- The definitions that the contracts of `arithmetic` cite.
pub mod Scalar
pub mod Kept
pub mod Scale
pub mod Reverse
pub mod Operators
pub mod Dual
pub mod Magnitude
pub mod Inverse
pub mod Quotient
pub mod Power
pub mod Compare
pub mod Accuracy
pub mod inner
