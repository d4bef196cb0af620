-- How values and objects turn into what is written, and that it is read as the images.
pub mod Turns
mod MemberTurns
mod ObjectTurns
mod Levels
mod ObjectMade
mod ValueTurns
pub mod ReadingBack
