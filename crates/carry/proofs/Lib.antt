-- Laws that the statement rests on.
pub mod SameSumLaws
-- Demand 3 over files, and plans carried across and back: the theorems.
pub mod SameSum
