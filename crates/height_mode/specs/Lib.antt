-- The files of definitions of height_mode, and those of lower crates that its clauses cite.
pub use Rattle.shelf_io.specs.Count
pub use Rattle.shelf_io.specs.Files
pub use Rattle.shelf_io.specs.Load
pub use Rattle.tin_base.specs.Soundness
pub use Rattle.tin_base.specs.Triangulation
pub use Rattle.tin_file.specs.TallFiles
pub use Rattle.tin_height.specs.Offsets
pub use Rattle.tin_height.specs.Points
pub use Rattle.tin_height.specs.PointTexts
pub use Rattle.tin_height.specs.Raises
pub use Rattle.runs.specs.Causes
pub use Rattle.runs.specs.Counts
pub use Rattle.runs.specs.Loads
pub use Rattle.runs.specs.Output
pub use Rattle.runs.specs.Status
pub use Rattle.runs.specs.Triangulations as RunTriangulations
pub mod Talls
pub mod InsideMoves
pub mod Heights
pub mod Laws
