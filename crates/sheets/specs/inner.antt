-- What only the contracts of private functions cite: a reader need not believe it.
pub mod Checks
pub mod Items
