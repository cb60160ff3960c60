-- Definitions: what the code is promised by, in place.
pub mod InPlace
-- Laws.
pub mod NumberLaws
pub mod ActionLaws
pub mod ExpandLaws
pub mod NoteLaws
