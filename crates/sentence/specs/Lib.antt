-- Definitions.
pub mod Sentence
-- Laws.
pub mod SentenceLaws
-- The examples, computed.
pub mod Examples
