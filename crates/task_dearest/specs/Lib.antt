-- What the walk goes by.
pub mod Course
-- Laws of the answer.
pub mod AnswerLaws
-- The known cases with a buffer, computed.
pub mod Examples
