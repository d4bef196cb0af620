-- The machine over bytes reads the texts of the grammar and no others.
pub mod ByteSigns
pub mod NumberTexts
mod QuotedTexts
pub mod Rests
pub mod NodeLists
mod Complete
mod Sound
pub mod WholeTexts
mod CanEnd
pub mod Passes
