-- The definitions that the contracts of `replay` cite; those of private functions alone stand in inner.
pub mod Log
pub mod Step
pub mod Replay
pub mod inner
