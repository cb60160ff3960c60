-- Definitions.
pub mod Dearest
pub mod ByWalk
pub mod InPlace
-- The known cases, computed.
pub mod Examples
-- Laws.
pub mod StatesLaws
pub mod ByWalkLaws
pub mod DearestLaws
pub mod InPlaceLaws
pub mod FileLaws
