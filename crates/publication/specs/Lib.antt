-- The files of definitions of publication, and those of lower crates that its clauses cite.
pub use Rattle.shelf_io.specs.Count
pub use Rattle.shelf_io.specs.Files
pub use Rattle.shelf_io.specs.FileStore
pub use Rattle.shelf_io.specs.Made
pub use Rattle.shelf_io.specs.ReservedPress
pub use Rattle.runs.specs.Counts
pub use Rattle.runs.specs.Output
pub use Rattle.runs.specs.Refusals
pub use Rattle.runs.specs.Status
pub mod Fronts
pub mod RunEnds
pub mod Rooms
