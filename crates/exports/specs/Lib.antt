-- The definitions that the contracts of `exports` cite; those of private functions alone stand in inner.
pub mod Numbers
pub mod Reports
pub mod Order
pub mod Sheet
pub mod inner
