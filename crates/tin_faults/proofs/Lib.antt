-- The files of lemmas of tin_faults.
mod Ranks
mod Growth
mod Numbers
mod Pairs
mod TriangleBoxes
mod OneList
mod SomeList
