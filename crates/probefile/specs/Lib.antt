-- Definitions.
pub mod Probe
pub mod ProbeFile
pub mod InPlace
-- Laws.
pub mod ProbeLaws
pub mod FrontLaws
pub mod InPlaceLaws
pub mod IndexLaws
pub mod Examples
