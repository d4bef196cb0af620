-- The files of lemmas of plain_laws.
pub mod Booleans
pub mod Order
pub mod Lists
pub mod Parts
pub mod Options
pub mod Digits
pub mod Weights
