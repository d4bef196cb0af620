-- The files of definitions of job_words.
pub mod Modes
pub mod Faults
pub mod Commands
pub mod Readings
pub mod Names
pub mod Formats
pub mod Sizes
pub mod Jobs
pub mod JobFields
pub mod PlacesJobs
pub mod Laws
pub mod InsideCommands
