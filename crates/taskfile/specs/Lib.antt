-- Definitions, in document 01's order.
pub mod Task
pub mod TaskFile
pub mod Answers
pub mod Row
pub mod Blank
pub mod WalkInPlace
pub mod PartsInPlace
pub mod InPlace
pub mod Index
-- Laws.
pub mod WalkLaws
pub mod DiagramReadLaws
pub mod TaskReadLaws
pub mod BlankLaws
pub mod TaskLaws
pub mod FrontLaws
pub mod NotedLaws
pub mod TargetLaws
pub mod WalkInPlaceLaws
pub mod MoveInPlaceLaws
pub mod IndexLaws
pub mod TaskIndexLaws
pub mod AnswerLaws
pub mod PartsInPlaceLaws
-- The document's examples, computed.
pub mod Examples
