-- Steps found by number, one part of the task after the other.
use Rattle.std.specs.Prelude.{ℕ, zero, suc, Result, Ok, Err, List, [], ◌∷◌}
use Rattle.words.specs.Rows.{row_from, action_for}
use Rattle.steps.specs.declared.find.Name.{Name}
use Rattle.steps.specs.declared.find.Name.TheVariants.{Start, Node, End}
use Rattle.steps.specs.Steps.{StepName, start, node, end, Named, action_names}

-- what stands at a place of a row, or how far past its end the place lies
pub data Place : Type 0 where
  found : Named → Place
  past : ℕ → Place

abbrev pub seek : List Named → ℕ → Place
seek [] k = past k
seek (x ∷ xs) zero = found x
seek (x ∷ xs) (suc k) = seek xs k

-- what the code's answers mean
abbrev pub name_of : Name → StepName
name_of (Start a) = start a
name_of (Node a i v d) = node a i v d
name_of (End a) = end a

abbrev pub sought_answer : Result (Name × ℕ) ℕ → Place
sought_answer (Ok step) = found (record { name = name_of step.0; cost = step.1 })
sought_answer (Err k) = past k

-- the steps of the first `count` actions in place, by the row of the index
unfoldable pub names_in : List ℕ → List ℕ → ℕ → List ℕ → List Named
names_in f sizes count row = row_from (λ a. action_names a (action_for f sizes row a)) 0 count
