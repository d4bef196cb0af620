-- Which fault a line or a text has, and that it has one.
mod StatesBefore
pub mod InBrackets
pub mod TokenFaults
pub mod OneFault
pub mod SomeOutcome
pub mod MemoryFaults
