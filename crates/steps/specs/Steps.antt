-- The steps of the probe file written from a task, by name.
use Rattle.std.specs.Prelude.{None, Some, ℕ, suc, List, [], ◌∷◌, ◌++◌, slice_get}
use Rattle.facts.specs.Read.{Read, accepted, refused}
use Rattle.taskfile.specs.Task.{Edge, Node, Action, Task}
use Rattle.compilation.specs.Compile.{map_from, flat}
use Rattle.text.specs.Text.{decimal}
use Rattle.text.specs.Append.{bytes}

-- what a step of the written file is: the start of action a, its node i passed with the value d of variable v, or its end
pub data StepName : Type 0 where
  start : ℕ → StepName
  node : ℕ → ℕ → ℕ → ℕ → StepName
  end : ℕ → StepName

-- a step by name, and what it costs
pub record Named : Type 0 where
  pub name : StepName
  pub cost : ℕ

-- the steps of node i of action a, those of action a, and those of all actions, in the order in which they are written
abbrev pub node_names : ℕ → ℕ → Node → List Named
node_names a i nd = map_from (λ d (e : Edge). record { name = node a i nd.var d; cost = e.weight }) 0 nd.edges

abbrev pub action_names : ℕ → Action → List Named
action_names a x = record { name = start a; cost = x.incoming } ∷ (flat (node_names a) 1 x.nodes ++ (record { name = end a; cost = 0 } ∷ []))

unfoldable pub names_of : Task → List Named
names_of t = flat action_names 0 t.actions

-- a name in words
abbrev pub name_text : StepName → List ℕ
name_text (start a) = bytes "start of action " ++ decimal a
name_text (node a i v d) = bytes "action " ++ (decimal a ++ (bytes ", node " ++ (decimal i ++ (bytes " at variable " ++ (decimal v ++ (bytes " = " ++ decimal d))))))
name_text (end a) = bytes "end of action " ++ decimal a

-- each number of a list is a step's, else 11 at its index; the first has the index i
abbrev pub check_steps : List Named → ℕ → List ℕ → Read (Unit {0})
check_steps names i [] = accepted tt
check_steps names i (k ∷ list) = elim (slice_get names k) [ None ↦ refused 11 i | Some x ↦ check_steps names (suc i) list ]
