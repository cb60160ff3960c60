-- Definitions.
pub mod InPlace
-- Laws.
pub mod PutLaws
