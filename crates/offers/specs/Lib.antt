-- What rounds of offers are about.
pub mod Rounds
