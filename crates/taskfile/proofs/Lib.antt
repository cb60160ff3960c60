-- Laws that follow from those in specs/.
pub mod AnswerLaws
pub mod BlankLaws
pub mod MoveInPlaceLaws
pub mod PartsInPlaceLaws
pub mod TaskLaws
pub mod TaskReadLaws
pub mod WalkLaws
