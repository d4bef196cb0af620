-- The files of lemmas of seg_gap.
mod Steps
mod Sides
mod Feet
mod Places
mod Crossings
pub mod GapLaws
mod Least
mod Heights
mod Sizes
mod SomeGap
mod Squares
mod WholeParts
pub mod NearestEnds
