-- The files of definitions of file_digests, and those of lower crates that its clauses cite.
pub use Rattle.sha2.specs.Sha256
pub mod Digests
