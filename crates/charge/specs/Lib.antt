-- The charge.
pub mod Charge
-- Its laws.
pub mod ChargeLaws
-- The document's figures, computed.
pub mod Examples
