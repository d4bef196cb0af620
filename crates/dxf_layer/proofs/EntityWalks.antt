-- The walk from entity to entity.
pub mod WalkSteps
pub mod Visits
pub mod StepGroups
pub mod WalkedSheets
pub mod WalkTrails
