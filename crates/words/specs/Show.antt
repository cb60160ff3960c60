-- A task in words.
use Rattle.std.specs.Prelude.{ℕ, true, false, List, ◌++◌, leb, length, get_or}
use Rattle.facts.specs.Partial.{Partial}
use Rattle.taskfile.specs.Task.{Edge, Node, Action, Task}
use Rattle.compilation.specs.Compile.{flat}
use Rattle.text.specs.Text.{decimal}
use Rattle.text.specs.Append.{bytes}
use Rattle.words.specs.Words.{partial_text}

-- ---- variables

-- variable v: how many values it has, and its initial one
abbrev pub variable_text : ℕ → ℕ → ℕ → List ℕ
variable_text v size value = bytes "variable " ++ (decimal v ++ (bytes ": " ++ (decimal size ++ (bytes " values, starts at " ++ (decimal value ++ bytes "\n")))))

-- ---- cost diagrams

-- where an edge leads to, in a diagram of m nodes
unfoldable pub target_text : ℕ → ℕ → List ℕ
target_text m target = elim (leb target m) [ true ↦ bytes "node " ++ decimal target | false ↦ bytes "the end" ]

-- the edge for the value d
abbrev pub edge_text : ℕ → ℕ → Edge → List ℕ
edge_text m d e = bytes "    value " ++ (decimal d ++ (bytes " adds " ++ (decimal e.weight ++ (bytes ", then " ++ (target_text m e.target ++ bytes "\n")))))

-- node i of m
abbrev pub node_text : ℕ → ℕ → Node → List ℕ
node_text m i nd = bytes "  node " ++ (decimal i ++ (bytes " tests variable " ++ (decimal nd.var ++ (bytes "\n" ++ flat (edge_text m) 0 nd.edges))))

-- ---- actions

-- an action or a step of n variables: its label and number, precondition and effect
abbrev pub states_text : List ℕ → ℕ → ℕ → Partial → Partial → List ℕ
states_text label n a pre eff = label ++ (decimal a ++ (bytes "\n  precondition:" ++ (partial_text n pre ++ (bytes "\n  effect:" ++ partial_text n eff))))

-- the cost of an action: the incoming weight and the nodes
abbrev pub cost_text : ℕ → List Node → List ℕ
cost_text incoming nodes = bytes "\n  cost: " ++ (decimal incoming ++ (bytes ", then " ++ (target_text (length nodes) 1 ++ (bytes "\n" ++ flat (node_text (length nodes)) 1 nodes))))

-- action a of a task with n variables
abbrev pub action_text : ℕ → ℕ → Action → List ℕ
action_text n a x = states_text (bytes "action ") n a x.pre x.eff ++ cost_text x.incoming x.nodes

-- variables, goal and actions
unfoldable pub task_text : Task → List ℕ
task_text t = flat (λ v size. variable_text v size (get_or t.init v 0)) 0 t.sizes ++ (bytes "goal:" ++ (partial_text (length t.sizes) t.goal ++ (bytes "\n" ++ flat (action_text (length t.sizes)) 0 t.actions)))
