-- Laws.
pub mod LengthLaws
