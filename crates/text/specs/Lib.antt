-- Definitions.
pub mod Text
pub mod Place
pub mod Append
pub mod Writer
pub mod Answers
-- Laws.
pub mod ScanLaws
pub mod TokenLaws
pub mod PlaceLaws
pub mod PrintLaws
pub mod AppendLaws
pub mod WriterLaws
-- Texts and their numbers, computed.
pub mod Examples
