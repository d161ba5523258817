-- What the contracts of private functions cite.
pub mod Answers
