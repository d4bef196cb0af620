-- Bytes have a triangulation or a fault.
pub mod ValueFaults
pub mod TallFaults
pub mod Outcomes
