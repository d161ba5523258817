-- The laws that the proofs of `arithmetic`, and of the crates above it, cite.
pub mod KeptLaws
pub mod ScalarLaws
pub mod OperatorsLaws
pub mod OrderPassed
pub mod DualRegressive
pub mod InverseLaws
pub mod QuotientLaws
pub mod ReverseLaws
pub mod DualLaws
pub mod PowerLaws
pub mod AccuracyLaws
pub mod AccuracyExamples
pub mod CompareLaws
pub mod MagnitudeLaws
pub mod Lowest
