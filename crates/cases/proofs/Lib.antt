-- Rows 1 to 6, of files.
pub mod SiteLaws
pub mod TaskSiteLaws
pub mod FileRows
-- Rows 4, 7 to 12 and 17, of lists, states and buffers.
pub mod ListRows
pub mod OperationRows
pub mod StateRows
pub mod LackingRows
-- Which numbers are given at all, and how large answers of runs can be.
pub mod Numbers
pub mod Ranges
-- The table: read this first.
pub mod Table
-- The table's examples, checked.
pub mod TableExamples
