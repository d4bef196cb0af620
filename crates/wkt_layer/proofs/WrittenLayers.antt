-- What is written of a layer, and that it is read as its images.
mod TokenCuts
pub mod ImageTexts
mod Turns
mod PointTurns
mod GeometryTurns
mod LineTurns
mod SheetTurns
pub mod ReadingBack
