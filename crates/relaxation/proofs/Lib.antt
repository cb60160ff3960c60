-- Laws that follow from those in specs/.
pub mod EstimateInPlaceLaws
pub mod EstimateLaws
pub mod EstimateRounds
pub mod EstimateTaskLaws
pub mod GivenLaws
pub mod LeastCostLaws
pub mod NarrowingLaws
pub mod RelaxedTaskLaws
pub mod UntestedLaws
