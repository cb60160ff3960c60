-- Relaxed costs of task files as bytes. Document 01, "Relaxed cost and estimate", "Turned down", as W5 of document 02 has them.
use Rattle.std.specs.Prelude.{ℕ, ◌^◌, Bool, true, ◌&&◌, List, eqb, ltb, length, Option, None, Some}
use Rattle.facts.specs.Read.{Read, accepted, ◌>>=◌}
use Rattle.facts.specs.Lists.{up_from}
use Rattle.facts.specs.Partial.{Partial}
use Rattle.facts.specs.State.{check_each, check_with}
use Rattle.value.specs.Value.{value_of, bit_of}
use Rattle.taskfile.specs.Task.{Action}
use Rattle.taskfile.specs.TaskFile.{ask_task}
use Rattle.relaxation.specs.Relaxed.{relaxed_cost}

-- the set of a variable with `size` values is not empty and has no stray bit
abbrev pub good_set : ℕ → ℕ → Bool
good_set size set = ltb 0 set && ltb set (2 ^ size)

-- a relaxed state: 12 for the length, then 4 at the lowest variable whose set is empty or has a stray bit
unfoldable pub check_relaxed : List ℕ → List ℕ → Read (Unit {0})
check_relaxed sizes sets = check_with good_set sizes sets

-- a set has the value that a precondition has for its variable, if it has one; "bit d for value d"
abbrev pub allows : ℕ → Option ℕ → Bool
allows set None = true
allows set (Some d) = eqb (bit_of set d) 1

-- "17 where a set lacks a precondition value, at the lowest such variable"
unfoldable pub check_meets : Partial → List ℕ → Read (Unit {0})
check_meets pre sets = check_each 17 (λ v set. allows set (value_of pre v)) 0 (up_from 0 (length sets)) sets

-- the relaxed cost of an action in a relaxed state: 17, and then the cost
unfoldable pub relaxed_in : Action → List ℕ → Read ℕ
relaxed_in x sets = do
  _ ← check_meets x.pre sets
  accepted (relaxed_cost x sets)

-- The relaxed cost of action number a in the relaxed state `sets`: 1 to 6 for the file, 11 for the number, 12 and then 4 for the sets, and 17 after that.
unfoldable pub relaxed_task : List ℕ → ℕ → List ℕ → Read ℕ
relaxed_task f a sets = do
  x ← ask_task check_relaxed (λ x sets. x) f a sets
  relaxed_in x sets
