-- Definitions.
pub mod Answers
