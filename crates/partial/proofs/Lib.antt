-- Laws that only this crate's proofs need.
pub mod Bits
pub mod Loops
