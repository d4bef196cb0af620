-- The files of definitions of tin_tests.
pub mod Small
pub mod SmallBoxes
pub mod Diagonals
