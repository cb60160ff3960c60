-- The numbers of the estimate. Document 01, "Relaxed cost and estimate": "A number above 4,294,967,295 is over: more than any exact number,
-- less than never."
use Rattle.std.specs.Prelude.{ℕ, ◌+◌, ◌≤◌, min, ◌≡◌, Bool, true, false, leb, eqb}
use Rattle.estimate.specs.declared.Est.{Est}
use Rattle.estimate.specs.declared.Est.TheVariants.{Never, Over, Exact}

pub data Number : Type 0 where
  exact : ℕ → Number
  over : Number
  never : Number

-- what each case of the code's enum means
abbrev pub number : Est → Number
number Never = never
number Over = over
number (Exact n) = exact n

-- the largest exact number
abbrev pub largest : ℕ
largest = 4294967295

-- a number as the estimate has it: exact, or over where it is above the largest exact one
abbrev pub capped : ℕ → Number
capped n = elim (leb n largest) [ true ↦ exact n | false ↦ over ]

-- "Never plus anything is never."
abbrev pub sum : Number → Number → Number
sum never b = never
sum over never = never
sum over over = over
sum over (exact y) = over
sum (exact x) never = never
sum (exact x) over = over
sum (exact x) (exact y) = capped (x + y)

abbrev pub lesser : Number → Number → Number
lesser never b = b
lesser over never = over
lesser over over = over
lesser over (exact y) = exact y
lesser (exact x) never = exact x
lesser (exact x) over = exact x
lesser (exact x) (exact y) = exact (min x y)

-- a is less than b, or the same
pub record AtMost (a b : Number) : Type 0 where
  pub is_lesser : lesser a b ≡ a

-- whether two numbers are the same
abbrev pub same : Number → Number → Bool
same never never = true
same never over = false
same never (exact y) = false
same over never = false
same over over = true
same over (exact y) = false
same (exact x) never = false
same (exact x) over = false
same (exact x) (exact y) = eqb x y

-- a number that is exact is not above the largest; every sum is so
abbrev pub WithinCap : Number → Type 0
WithinCap never = Unit {0}
WithinCap over = Unit {0}
WithinCap (exact n) = n ≤ largest

-- how many numbers within the cap are less than this one
abbrev pub rank : Number → ℕ
rank never = largest + 2
rank over = largest + 1
rank (exact n) = n

-- the number of a rank
abbrev pub ranked : ℕ → Number
ranked n = elim (leb n (rank over)) [ true ↦ capped n | false ↦ never ]
