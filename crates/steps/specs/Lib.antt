-- Definitions.
pub mod Steps
pub mod Seek
-- Laws.
pub mod SeekLaws
pub mod StepsLaws
pub mod CostLaws
pub mod LengthLaws
-- The examples, computed.
pub mod Examples
