-- Results of the C functions for texts, unpacked, are the answers of their operations.
pub mod TextResults
-- The same of the charge.
pub mod ChargeResult
