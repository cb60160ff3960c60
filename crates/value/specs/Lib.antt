-- Definitions.
pub mod Value
-- Laws.
pub mod ValueLaws
pub mod FileLaws
-- Document 01's cases.
pub mod Examples
