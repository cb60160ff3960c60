-- Definitions.
pub mod Arguments
pub mod Table
-- Laws.
pub mod TableLaws
-- The examples, computed.
pub mod Examples
