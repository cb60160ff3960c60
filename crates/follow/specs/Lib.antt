-- Definitions.
pub mod Follow
-- Laws.
pub mod FollowLaws
