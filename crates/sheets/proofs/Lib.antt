-- The laws that the proofs of `sheets`, and of the crates above it, cite.
pub mod BytesLaws
pub mod ItemsLaws
pub mod FormatLaws
pub mod ShapesLaws
pub mod ReadLaws
pub mod WriteLaws
pub mod ValuesLaws
pub mod PatternsLaws
pub mod RoundTrips
pub mod Table
pub mod Lowest
