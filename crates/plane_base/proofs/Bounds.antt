-- Boxes, near points and sizes of numbers.
pub mod Sizes
pub mod BoxLemmas
pub mod NearPoints
