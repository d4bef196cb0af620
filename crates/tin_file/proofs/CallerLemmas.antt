-- For the crates above: what the rows of a file are together, and the limits of its triangulation.
pub mod NumberExtremes
pub mod Fresh
pub mod CompleteRows
pub mod RowsRead
pub mod Whole
pub mod OneAnswer
