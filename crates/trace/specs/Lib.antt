-- Definitions.
pub mod Trace
pub mod TraceFile
pub mod InPlace
-- Laws.
pub mod TraceLaws
pub mod FileLaws
pub mod RunLaws
pub mod LengthLaws
-- The examples, computed.
pub mod Examples
