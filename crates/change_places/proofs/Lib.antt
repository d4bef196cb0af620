-- The files of lemmas of change_places.
mod Elements
mod MoreElements
mod MoreNames
mod Rooms
mod FeatureLengths
mod Names
pub mod ChangeSpellings
mod CopiedValues
pub mod Valid
mod PlacesJson
mod Firsts
mod LineCounts
mod MorePaths
pub mod KnownPlaces
