-- The files of lemmas of runs.
pub mod PassedRefusals
pub mod Faults
pub mod TinRefusals
pub mod RefusalLines
pub mod LimitLines
pub mod BytesPassed
pub mod OneFile
pub mod OneTin
pub mod TinCauses
pub mod RunEnds
mod TinEndExists
mod ReadLimits
