-- Results unpacked are the answers of the operations: the laws, and the theorem.
pub mod PackingLaws
