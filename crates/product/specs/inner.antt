-- What only the contracts of private functions cite: a reader need not believe it.
pub mod Pairwise
pub mod Metric
pub mod Sums
pub mod Plan
