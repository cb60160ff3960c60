-- Definitions.
pub mod HeadInPlace
-- Laws.
pub mod InPlaceLaws
pub mod ExtentLaws
pub mod HeadLaws
