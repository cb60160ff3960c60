-- Definitions.
pub mod Report
-- Laws.
pub mod ReportLaws
-- Answers, computed.
pub mod Examples
