-- The files of definitions of fault_runs, and those of lower crates that its clauses cite.
pub use Rattle.shelf_io.specs.Count
pub use Rattle.shelf_io.specs.Files
pub use Rattle.shelf_io.specs.Load
pub use Rattle.jtext.specs.Texts
pub use Rattle.tin_base.specs.Triangulation
pub use Rattle.tin_faults.specs.Faults
pub use Rattle.change_places.specs.PlacesText
pub use Rattle.change_places.specs.PlacesValue
pub use Rattle.job_words.specs.Jobs
pub use Rattle.runs.specs.Causes
pub use Rattle.runs.specs.Counts
pub use Rattle.runs.specs.Refusals as RunsRefusals
pub use Rattle.runs.specs.Triangulations
pub use Rattle.publication.specs.Fronts
pub use Rattle.publication.specs.RunEnds
pub mod Spots
pub mod FaultsText
pub mod FaultsValue
pub mod Words
pub mod Refusals
pub mod Outcome
pub mod Laws
pub mod Ends
pub mod HandedOut
pub mod InsideTexts
