-- The lemma files of height_mode.
mod TallRefusals
mod HeightSteps
mod PointRefusals
mod OneTall
mod SomeTall
mod OneHeights
mod SomeHeights
