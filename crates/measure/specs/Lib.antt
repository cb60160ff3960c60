-- What measuring answers.
pub mod Measure
-- Laws of the ways in which it can go.
pub mod MeasureLaws
-- The document's example, computed.
pub mod Examples
