-- What is written of a drawing, and that it is read as its images.
pub mod EntityCases
mod StepWritten
mod EntitiesAgain
mod WrittenWalks
pub mod DrawingsReadBack
mod LightWritten
pub mod WrittenPairs
pub mod GivenHandles
pub mod WrittenCopies
