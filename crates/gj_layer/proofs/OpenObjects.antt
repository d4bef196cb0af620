-- The walk over objects and arrays, their edits, and the whole document.
pub mod AnswerLaws
mod EditLayout
pub mod ObjectEnds
pub mod OpenValues
pub mod OpenWalks
pub mod Fine
pub mod Documents
