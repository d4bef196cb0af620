-- The files of definitions of check_mode, and those of lower crates that its clauses cite.
pub use Rattle.shelf_io.specs.Count
pub use Rattle.shelf_io.specs.Files
pub use Rattle.shelf_io.specs.Load
pub use Rattle.tin_base.specs.Soundness
pub use Rattle.tin_base.specs.Triangulation
pub use Rattle.runs.specs.Causes
pub use Rattle.runs.specs.Counts
pub use Rattle.runs.specs.Output
pub use Rattle.runs.specs.Status
pub use Rattle.runs.specs.Triangulations
pub mod Checks
pub mod Laws
