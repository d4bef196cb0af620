-- A text has one sheet or one fault, and what its sheet is.
pub mod OneSheet
pub mod SomeOutcome
pub mod ReadSheets
pub mod MemoryFaults
