-- The laws that the proofs of `exports` cite, and what its contracts leave open: nothing.
pub mod ReportsLaws
pub mod OrderLaws
pub mod GradeLaws
pub mod SheetLaws
pub mod NarrowLaws
pub mod Lowest
