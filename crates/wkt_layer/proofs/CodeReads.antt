-- What the code reads is what the pass and the grammar read.
pub mod SheetSoFar
pub mod CodeSteps
pub mod FirstLines
pub mod TokenReads
pub mod LayerLines
