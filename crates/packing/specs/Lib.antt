-- How answers are packed.
pub mod Packing
-- How large the answer of a plan's sheet can be.
pub mod SheetRange
-- When a dearest state is refused, and how large its answer can be.
pub mod DearestRange
-- Results unpacked are the answers of the operations: read this first. The theorem is in proofs/PackingLaws.antt.
pub mod PackingLaws
