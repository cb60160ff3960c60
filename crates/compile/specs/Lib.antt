-- Laws.
pub mod TaskInPlaceLaws
