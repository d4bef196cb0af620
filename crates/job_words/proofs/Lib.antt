-- The files of lemmas of job_words.
pub mod TestValues
mod LastParts
mod Flags
mod Again
mod Refusals
mod TestPlaces
mod OneAnswer
mod SizesRead
mod MoreRules
mod Migrations
mod Verifications
mod HeightJobs
mod Distinct
mod JobLaws
mod Answered
mod PlacesAnswers
mod PlacesLaws
mod WorkedRows
