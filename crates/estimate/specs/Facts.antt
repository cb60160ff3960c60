-- The array that has one number for every fact, and the numbers that a state starts with. Document 01, "Relaxed cost and estimate".
use Rattle.std.specs.Prelude.{ℕ, zero, suc, ◌+◌, ◌*◌, ◌<◌, ◌≡◌, true, false, List, [], ◌∷◌, eqb, length, get_or}
use Rattle.probefile.specs.Probe.{max_variables, max_values}
use Rattle.estimate.specs.declared.Est.{Est}
use Rattle.estimate.specs.declared.Est.TheVariants.{Never}
use Rattle.estimate.specs.Number.{Number, exact, never, number}

-- the array has room for so many variables, for so many values of each, and for so many facts: those of a probe file, 3,762
abbrev pub most_variables : ℕ
most_variables = max_variables

abbrev pub most_values : ℕ
most_values = max_values

abbrev pub most_facts : ℕ
most_facts = most_variables * most_values

-- where the number of the fact stands that variable v has the value d: "variable times 66 plus value"
abbrev pub fact_index : ℕ → ℕ → ℕ
fact_index v d = v * most_values + d

-- the number that stands there; never past the end
abbrev pub number_in : List Est → ℕ → ℕ → Number
number_in numbers v d = number (get_or numbers (fact_index v d) Never)

-- the array has the number `of v d` for the fact that variable v has the value d
pub record HasNumbers (numbers : List Est) (of : ℕ → ℕ → Number) : Type 0 where
  pub count : length numbers ≡ most_facts
  pub at : (v d : ℕ) → v < most_variables → d < most_values → number_in numbers v d ≡ of v d

-- it has it for each fact of a file with these domain sizes
pub record HasFacts (sizes : List ℕ) (numbers : List Est) (of : ℕ → ℕ → Number) : Type 0 where
  pub count : length numbers ≡ most_facts
  pub at : (v d : ℕ) → d < get_or sizes v 0 → number_in numbers v d ≡ of v d

-- the number with which the estimate from a state starts: "0 where the state has" the fact that variable v has the value d, "else never"
abbrev pub start_number : List ℕ → ℕ → ℕ → Number
start_number [] v d = never
start_number (x ∷ s) zero d = elim (eqb x d) [ true ↦ exact 0 | false ↦ never ]
start_number (x ∷ s) (suc v) d = start_number s v d
