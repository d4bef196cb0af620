-- The files of definitions of tin_faults, and those of lower crates that its clauses cite.
pub use Rattle.tin_base.specs.Soundness
pub use Rattle.tin_base.specs.Triangulation
pub use Rattle.tin_check.specs.Faults as TinCheckFaults
pub mod Faults
pub mod Laws
pub mod InsideProgress
pub mod InsidePairs
