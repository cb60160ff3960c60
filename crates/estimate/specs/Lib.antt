-- Definitions, in document 01's order.
pub mod Number
pub mod Facts
pub mod Rounds
pub mod Additive
pub mod Ranks
pub mod InTurn
-- The additive heuristic, computed.
pub mod AdditiveExamples
-- Laws.
pub mod NumberLaws
pub mod FactsLaws
pub mod RoundsLaws
pub mod ListedLaws
pub mod AdditiveLaws
pub mod RanksLaws
pub mod PutBackLaws
pub mod OfferLaws
pub mod InsideLaws
pub mod FallLaws
-- The code lowers numbers in turn, and comes to the last numbers of the rounds.
pub mod InTurnLaws
-- How many rounds there are.
pub mod RoundBound
