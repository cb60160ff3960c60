-- Laws that follow from those in specs/.
pub mod AdditiveLaws
pub mod FallLaws
pub mod InTurnLaws
pub mod InsideLaws
pub mod ListedLaws
pub mod OfferLaws
pub mod RoundBound
