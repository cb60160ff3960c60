-- What a relaxed cost that is given says, of every file, action number and relaxed state. Document 02, W5.
use Rattle.std.specs.Prelude.{◌≡◌, true, ℕ, ◌≤◌, List}
use Rattle.facts.specs.Read.{accepted}
use Rattle.facts.specs.Lists.{At}
use Rattle.facts.specs.Partial.{holds}
use Rattle.taskfile.specs.Task.{Action, Task, cost}
use Rattle.taskfile.specs.TaskFile.{read_task}
use Rattle.relaxation.specs.NarrowingLaws.{InSets}
use Rattle.relaxation.specs.UntestedLaws.{unrestricted_cost, Untested}

pub record RelaxedGiven (f : List ℕ) (a : ℕ) (sets : List ℕ) (c : ℕ) : Type 0 where
  pub task : Task
  pub reads : read_task f ≡ accepted task
  pub action : Action
  pub there : At task.actions a action
  -- "it is the least over states that are in the sets and also meet the precondition": at most the cost in each of them, and the cost in one
  pub most : (s : List ℕ) → InSets sets s → holds action.pre s ≡ true → c ≤ cost action s
  pub state : List ℕ
  pub in_sets : InSets sets state
  pub applies : holds action.pre state ≡ true
  pub costs : cost action state ≡ c
  -- "Where costs and preconditions share no variable, no cost given moves."
  pub unmoved : Untested action → c ≡ unrestricted_cost action sets
