-- How an answer is packed into the 64 bits that a C function returns, and what each C function returns.
use Rattle.std.specs.Prelude.{ℕ, zero, suc, ◌+◌, ◌*◌, ◌/◌, ◌%◌}
use Rattle.facts.specs.Read.{Read, accepted, refused}
use Rattle.estimate.specs.Number.{Number, exact, over, never}
use Rattle.taskfile.specs.Task.{Walk}

-- bits 63 to 56, bits 55 to 32, and bits 31 to 0
abbrev pub packed : ℕ → ℕ → ℕ → ℕ
packed number upper lower = number * 72057594037927936 + upper % 16777216 * 4294967296 + lower % 4294967296

-- a refusal: its number above, its place below
abbrev pub packed_refusal : ℕ → ℕ → ℕ
packed_refusal number place = packed number 0 place

-- a file that is accepted: 0
abbrev pub packed_check : Read (Unit {0}) → ℕ
packed_check (accepted u) = packed 0 0 0
packed_check (refused number place) = packed_refusal number place

-- a relaxed cost, or the sum of a probe list: below
abbrev pub packed_sum : Read ℕ → ℕ
packed_sum (accepted sum) = packed 0 0 sum
packed_sum (refused number place) = packed_refusal number place

-- a number of nodes passed in the middle, a cost or a sum below
abbrev pub packed_walk : Read Walk → ℕ
packed_walk (accepted w) = packed 0 w.passed w.cost
packed_walk (refused number place) = packed_refusal number place

-- the length of a file that was written: in the middle
abbrev pub packed_length : Read ℕ → ℕ
packed_length (accepted length) = packed 0 length 0
packed_length (refused number place) = packed_refusal number place

-- the length of a list, a sheet or a state that was written in the middle, its sum or cost below
abbrev pub packed_list : Read (ℕ × ℕ) → ℕ
packed_list (accepted c) = packed 0 c.0 c.1
packed_list (refused number place) = packed_refusal number place

-- an estimate: in the middle 0 for exact, 1 for over, 2 for never; an exact number below
abbrev pub packed_number : Number → ℕ
packed_number (exact n) = packed 0 0 n
packed_number over = packed 0 1 0
packed_number never = packed 0 2 0

abbrev pub packed_estimate : Read Number → ℕ
packed_estimate (accepted number) = packed_number number
packed_estimate (refused number place) = packed_refusal number place

-- ---- the parts of a result, by the names of include/jafrelin.h

-- JAFRELIN_REFUSAL: bits 63 to 56
abbrev pub refusal_of : ℕ → ℕ
refusal_of w = w / 72057594037927936

-- JAFRELIN_LENGTH: bits 55 to 32
abbrev pub length_of : ℕ → ℕ
length_of w = w / 4294967296 % 16777216

-- JAFRELIN_NODES: the same bits
abbrev pub nodes_of : ℕ → ℕ
nodes_of w = length_of w

-- JAFRELIN_SUM and JAFRELIN_PLACE: bits 31 to 0
abbrev pub sum_of : ℕ → ℕ
sum_of w = w % 4294967296

abbrev pub place_of : ℕ → ℕ
place_of w = w % 4294967296

-- ---- what a caller makes of a result: where the refusal's number is 0 the value, else the refusal

abbrev pub unpacked : {X : Type 0} → (ℕ → X) → ℕ → Read X
unpacked value w = elim (refusal_of w) [ zero ↦ accepted (value w) | suc n ↦ refused (suc n) (place_of w) ]

abbrev pub unpacked_check : ℕ → Read (Unit {0})
unpacked_check w = unpacked (λ w. tt) w

abbrev pub unpacked_sum : ℕ → Read ℕ
unpacked_sum w = unpacked sum_of w

abbrev pub unpacked_walk : ℕ → Read Walk
unpacked_walk w = unpacked (λ w. record { cost = sum_of w; passed = nodes_of w }) w

abbrev pub unpacked_length : ℕ → Read ℕ
unpacked_length w = unpacked length_of w

abbrev pub unpacked_list : ℕ → Read (ℕ × ℕ)
unpacked_list w = unpacked (λ w. (length_of w, sum_of w)) w

-- JAFRELIN_EXACT 0, JAFRELIN_OVER 1, JAFRELIN_NEVER 2
abbrev pub unpacked_number : ℕ → Number
unpacked_number w = elim (length_of w) [ zero ↦ exact (sum_of w) | suc k ↦ elim k [ zero ↦ over | suc j ↦ never ] ]

abbrev pub unpacked_estimate : ℕ → Read Number
unpacked_estimate w = unpacked unpacked_number w
