-- What is printed of changes, part by part.
pub mod PrintedNames
pub mod Filters
pub mod ChangePieces
pub mod SideSpots
mod MoreEntries
pub mod MapParts
pub mod HeldBytes
pub mod MapPrints
pub mod MapTexts
pub mod TextLimits
