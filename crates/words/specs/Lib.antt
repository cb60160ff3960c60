-- Definitions.
pub mod Words
pub mod Show
pub mod Dot
pub mod DescribeFile
pub mod Rows
pub mod Puts
-- Laws.
pub mod RowLaws
pub mod WordLaws
pub mod ShowLaws
pub mod DotLaws
pub mod DescribeLaws
pub mod LengthLaws
-- The examples, computed.
pub mod Examples
