-- Definitions.
pub mod Sheet
pub mod SheetFile
-- Laws.
pub mod CostLaws
pub mod TellLaws
pub mod SheetLaws
pub mod FileLaws
-- The document's example, computed.
pub mod Examples
