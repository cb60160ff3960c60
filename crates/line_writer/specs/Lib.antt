-- Definitions.
pub mod Lines
pub mod Columns
-- Laws.
pub mod LineLaws
pub mod ColumnLaws
pub mod EntryLaws
