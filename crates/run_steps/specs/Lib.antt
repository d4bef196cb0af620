-- The definitions of run_steps.
pub mod Heard
pub mod Lines
pub mod InsideStepLines
pub mod PressNotes
