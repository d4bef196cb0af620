-- The files of lemmas of border_law.
mod Signs
mod Heights
mod Descent
mod Rows
mod Spots
mod Sweep
mod Inner
mod Members
mod PointKinds
mod Round
mod Fit
