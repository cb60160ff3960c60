-- The probe file written from a task: EVMDD-based action compilation. Document 01, "The probe file".
use Rattle.std.specs.Prelude.{ℕ, suc, ◌+◌, List, [], ◌∷◌, ◌++◌, map, length, replicate}
use Rattle.facts.specs.Lists.{total}
use Rattle.facts.specs.Partial.{empty}
use Rattle.taskfile.specs.Task.{Edge, Node, Action, Task}
use Rattle.probefile.specs.Probe.{Step, Probe}
use Rattle.compilation.specs.Extend.{extend, clear}

-- f at each element and its number, the first one's being k; what it gives for each straight after the last one's
abbrev pub map_from : {A B : Type 0} → (ℕ → A → B) → ℕ → List A → List B
map_from f k [] = []
map_from f k (x ∷ xs) = f k x ∷ map_from f (suc k) xs

abbrev pub flat : {A B : Type 0} → (ℕ → A → List B) → ℕ → List A → List B
flat f k [] = []
flat f k (x ∷ xs) = f k x ++ flat f (suc k) xs

-- the number of variables
abbrev pub variables : Task → ℕ
variables t = length t.sizes

-- Document 01's semaphore and markers: with n variables of the task, variable n is the semaphore, and n + 1 + a the marker of action a.
abbrev pub marker : ℕ → ℕ → ℕ
marker n a = n + suc a

-- the start of an action: its precondition, semaphore and marker at 0; sets both to 1; costs the incoming weight
abbrev pub start_step : ℕ → ℕ → Action → Step
start_step n a x = record {
  pre = extend (extend x.pre n 0) (marker n a) 0;
  eff = extend (extend empty n 1) (marker n a) 1;
  cost = x.incoming;
}

-- the edge of node i for the value d of its variable v: the marker goes from i to the target; costs the edge's weight
abbrev pub edge_step : ℕ → ℕ → ℕ → ℕ → ℕ → Edge → Step
edge_step n a i v d e = record {
  pre = extend (extend empty v d) (marker n a) i;
  eff = extend empty (marker n a) e.target;
  cost = e.weight;
}

-- the end of an action: its marker at the terminal; sets the effect, semaphore and marker to 0; costs nothing
abbrev pub end_step : ℕ → ℕ → Action → Step
end_step n a x = record {
  pre = extend empty (marker n a) (suc (length x.nodes));
  eff = extend (extend x.eff n 0) (marker n a) 0;
  cost = 0;
}

-- the steps of node i, one for each value; those of an action; those of all actions
abbrev pub node_steps : ℕ → ℕ → ℕ → Node → List Step
node_steps n a i nd = map_from (edge_step n a i nd.var) 0 nd.edges

abbrev pub action_steps : ℕ → ℕ → Action → List Step
action_steps n a x = start_step n a x ∷ (flat (node_steps n a) 1 x.nodes ++ (end_step n a x ∷ []))

unfoldable pub steps_of : Task → List Step
steps_of t = flat (action_steps (variables t)) 0 t.actions

-- how many steps a node has, one for each edge, and how many an action: its start, those of its nodes, its end
abbrev pub edge_count : Node → ℕ
edge_count nd = length nd.edges

abbrev pub step_count : Action → ℕ
step_count x = 2 + total edge_count x.nodes

-- the number of values of an action's marker: 0, each node and the terminal
abbrev pub marker_size : Action → ℕ
marker_size x = length x.nodes + 2

-- the compilation of a task: semaphore and markers begin at 0, and the goal asks for 0 of each
unfoldable pub probe_of : Task → Probe
probe_of t = record {
  sizes = t.sizes ++ (2 ∷ map marker_size t.actions);
  init = t.init ++ (0 ∷ replicate (length t.actions) 0);
  goal = clear t.goal (variables t) (suc (length t.actions));
  steps = steps_of t;
}
