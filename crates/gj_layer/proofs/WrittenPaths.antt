-- The texts of images and boxes, and how the positions of paths turn into images.
pub mod BoxLemmas
pub mod DrawnImages
mod ImageValues
mod PathTurns
pub mod TraceTurns
pub mod SheetTurns
pub mod EditTexts
