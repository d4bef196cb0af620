-- A drawing has one sheet or one fault.
pub mod DrawingOutcomes
pub mod MemoryFaults
