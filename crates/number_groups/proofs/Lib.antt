-- The files of lemmas of number_groups.
pub mod Counts
mod Places
mod Lists
