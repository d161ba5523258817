-- The laws that the proofs of `replay`, and of the crates above it, cite.
pub mod LogLaws
pub mod StepLaws
pub mod ValueLaws
pub mod ReplayLaws
pub mod RunLaws
pub mod CarriedLaws
pub mod RefusedLaws
pub mod CuesLaws
pub mod StopsLaws
pub mod Lowest
pub mod Cases
