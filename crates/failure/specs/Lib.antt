-- Definitions.
pub mod Failure
pub mod InPlace
-- Laws.
pub mod FailureLaws
pub mod WhyLaws
pub mod FileLaws
pub mod LengthLaws
-- The examples, computed.
pub mod Examples
