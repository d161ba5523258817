-- What only the contracts of private functions cite: a reader need not believe it.
pub mod Order
pub mod Text
pub mod Walk
