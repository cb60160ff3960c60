-- Laws of whole plans.
pub mod Forward
pub mod Backward
pub mod Contract
pub mod LengthLaws
-- Demand 3 over values.
pub mod Plans
