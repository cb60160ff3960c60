-- Definitions, in document 01's order.
pub mod Least
pub mod Relaxed
pub mod Pass
pub mod RelaxedPass
pub mod RelaxedInPlace
pub mod Estimate
pub mod EstimatePass
pub mod EstimateInPlace
pub mod Sums
-- The operations over files.
pub mod RelaxedTask
pub mod EstimateTask
-- What code does before its pass.
pub mod Narrowing
-- The document's cases, computed.
pub mod Examples
pub mod FileExamples
-- Laws.
pub mod LeastLaws
pub mod PassLaws
pub mod PassInPlaceLaws
pub mod SumsLaws
pub mod LeastByPass
pub mod RelaxedLaws
pub mod PassingLaws
pub mod SetLaws
pub mod KeptLaws
pub mod NarrowingLaws
pub mod UntestedLaws
pub mod RelaxedInPlaceLaws
pub mod LeastCostLaws
pub mod EstimateRounds
pub mod EstimateInPlaceLaws
pub mod RelaxedTaskLaws
pub mod GivenLaws
pub mod EstimateTaskLaws
