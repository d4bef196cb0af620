-- The files of lemmas of frac128.
pub mod Fracs
pub mod Nearest
mod Values
