-- How long texts about tasks are.
pub mod LengthLaws
-- A text that is counted, and then written.
pub mod PutsLaws
