-- Definitions.
pub mod Show
-- Laws.
pub mod ShowLaws
-- The example, computed.
pub mod Examples
