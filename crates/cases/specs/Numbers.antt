-- Which numbers a file and an operation can be refused with. That no other is given: proofs/Numbers.antt.
use Rattle.std.specs.Prelude.{◌⊎◌, ℕ, ◌≤◌}

-- ---- files

-- a task file's
abbrev pub OfFiles : ℕ → Type 0
OfFiles n = (1 ≤ n) × (n ≤ 6)

-- For a probe file there is no 6.
abbrev pub OfProbeFiles : ℕ → Type 0
OfProbeFiles n = (1 ≤ n) × (n ≤ 5)

-- ---- lists

-- a file's, or 8 to 11
abbrev pub OfLists : ℕ → Type 0
OfLists n = OfFiles n ⊎ ((8 ≤ n) × (n ≤ 11))

abbrev pub OfProbeLists : ℕ → Type 0
OfProbeLists n = OfProbeFiles n ⊎ ((8 ≤ n) × (n ≤ 11))

-- ---- the other operations

-- a file's, or 11 and 12
abbrev pub OfCosts : ℕ → Type 0
OfCosts n = OfFiles n ⊎ ((11 ≤ n) × (n ≤ 12))
