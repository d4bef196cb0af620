-- For the crates above: marked corners, the first fault, and how the check goes on.
pub mod CornerMarks
pub mod FirstFault
pub mod Progress
