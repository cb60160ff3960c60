-- Definitions.
pub mod Carry
-- Laws.
pub mod ListLaws
pub mod PathLaws
pub mod ViewLaws
pub mod RunLaws
pub mod MoveLaws
pub mod Forward
pub mod Backward
pub mod Contract
pub mod LengthLaws
-- What demand 3 says over values; the theorem is in proofs/Plans.antt.
pub mod Plans
-- The document's examples, computed.
pub mod Examples
