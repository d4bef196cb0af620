-- What the tests of two triangles say of their common points.
pub mod Places
mod Sides
mod AtCorner
mod AtSide
pub mod BySlice
pub mod Tests
pub mod CornerShifts
mod AroundCorner
mod Beyond
pub mod TurnTests
