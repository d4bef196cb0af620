-- The files of definitions of border_law, and those of lower crates that its clauses cite.
pub use Rattle.tin_base.specs.Soundness
pub use Rattle.tin_base.specs.Triangulation
pub mod Borders
