-- The definition.
pub mod Estimate
-- Laws.
pub mod EstimateLaws
pub mod EstimateRounds
-- The document's cases, computed.
pub mod EstimateExamples
