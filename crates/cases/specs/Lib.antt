-- What a reader looks at in a file, and where.
pub mod Sites
pub mod TaskSites
-- Rows 1 to 6, of files. What they and the rows below rest on; the laws themselves are in proofs/.
pub mod SiteLaws
pub mod RisingLaws
pub mod FileRows
-- Rows 4, 7 to 12 and 17, of lists, states and buffers.
pub mod ListRows
pub mod StartRows
pub mod OperationRows
pub mod StateRows
pub mod LackingRows
-- Which numbers are given at all, at which places, and how large answers can be.
pub mod Numbers
pub mod PlaceLaws
pub mod Ranges
-- What the rows of the table say; the rows are in proofs/Table.antt.
pub mod Table
-- The documents' cases, computed: the marked ones, the table's examples, and the blank task.
pub mod Marked
pub mod TableExamples
pub mod Blank
