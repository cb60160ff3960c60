-- Laws.
pub mod LoopLaws
