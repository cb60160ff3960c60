-- Definitions.
pub mod CarryFile
-- Laws that the statement rests on.
pub mod StartLaws
pub mod SameSumLaws
-- What demand 3 says over files, and of plans carried across and back; the theorems are in proofs/SameSum.antt.
pub mod SameSum
-- Document 02's W7 over files: how long the list is that expanding returns.
pub mod LongList
-- Demand 1 over every operation that is lent a buffer: a refusal writes nothing.
pub mod Untouched
-- Laws of what a buffer makes of an answer.
pub mod AnswerLaws
