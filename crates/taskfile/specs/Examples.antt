-- Document 01's examples on tasks, computed: "Turned down", "Known cases".
use Rattle.std.specs.Prelude.{◌≡◌, refl, ℕ, zero, suc, List, [], ◌∷◌, ◌++◌, length, set, replicate, take, drop}
use Rattle.facts.specs.Read.{accepted, refused}
use Rattle.facts.specs.Bytes.{number_at}
use Rattle.facts.specs.Partial.{Partial, empty}
use Rattle.facts.specs.State.{check_state}
use Rattle.facts.specs.Run.{run_from, at_most}
use Rattle.facts.specs.Fields.{read_number, field, read_count, read_value, read_map, read_weight, read_values, read_partial, read_operator, read_sizes, read_head, read_end}
use Rattle.taskfile.specs.Task.{Edge, Action, Task, walk_from, walk, action_move, action_passes, task_sum, task_passed, task_run}
use Rattle.taskfile.specs.TaskFile.{read_variable, read_target, read_edge, read_edges, read_node, read_nodes, read_diagram, read_action, read_actions, read_bytes, read_task, check_task, action_of, ask_task, cost_task, run_task}
use Rattle.taskfile.specs.Blank.{blank_head}

-- ---- what an example opens: all definitions that lead from the bytes of a file to an answer

fields : Unit {0}
unfolding number_at read_number field read_count read_value read_map read_weight read_values read_partial read_operator read_sizes read_head read_end
fields = tt

reading : Unit {0}
unfolding fields read_variable read_target read_edge read_edges read_node read_nodes read_diagram read_action read_actions read_bytes read_task
reading = tt

running : Unit {0}
unfolding walk_from walk action_move action_passes run_from task_sum task_passed task_run
running = tt

unfoldable pub answering : Unit {0}
unfolding reading running check_state at_most action_of check_task ask_task run_task
answering = tt

-- ---- task P

-- an edge by its target and weight
abbrev edge : ℕ → ℕ → Edge
edge t w = record { target = t; weight = w }

-- one fact: the variable's bit and the value
abbrev fact : ℕ → ℕ → Partial
fact bit x = record { map = bit; values = x ∷ [] }

-- document 01's task P
abbrev pub P : Task
P = record {
  sizes = 2 ∷ [];
  init = 0 ∷ [];
  goal = fact 1 1;
  actions = record { pre = empty; eff = fact 1 1; incoming = 3; nodes = record { var = 0; edges = edge 2 5 ∷ edge 2 0 ∷ [] } ∷ [] } ∷ [];
}

-- seven zero bytes
abbrev 0* : List ℕ
0* = 0 ∷ 0 ∷ 0 ∷ 0 ∷ 0 ∷ 0 ∷ 0 ∷ []

-- its file
abbrev pub P_bytes : List ℕ
P_bytes = 1 ∷ 2 ∷ 0 ∷ 1 ∷ 0* ++ 1 ∷ 1 ∷ 0 ∷ 0* ++ 1 ∷ 0* ++ 1 ∷ 3 ∷ 0 ∷ 1 ∷ 0 ∷ 2 ∷ 5 ∷ 0 ∷ 2 ∷ 0 ∷ 0 ∷ []

P_length : length P_bytes ≡ 40
P_length = refl

pub P_read : read_task P_bytes ≡ accepted P
unfolding reading
P_read = refl

-- ---- the table: refusals 1 to 6, of files

pub lone_byte_01 : check_task (1 ∷ []) ≡ refused 1 1
unfolding answering
lone_byte_01 = refl

-- near the blank task's file: a zero byte, and its head with no actions
zero_byte : check_task (0 ∷ []) ≡ refused 3 0
unfolding answering
zero_byte = refl

counted_none : check_task (blank_head ++ 0 ∷ []) ≡ refused 3 11
unfolding answering
counted_none = refl

pub P_and_a_byte : (byte : ℕ) → check_task (P_bytes ++ (byte ∷ [])) ≡ refused 2 40
unfolding answering
P_and_a_byte byte = refl

pub first_byte_00 : check_task (set P_bytes 0 0) ≡ refused 3 0
unfolding answering
first_byte_00 = refl

pub third_byte_02 : check_task (set P_bytes 2 2) ≡ refused 4 2
unfolding answering
third_byte_02 = refl

pub goal_map_02 : check_task (set P_bytes 3 2) ≡ refused 5 3
unfolding answering
goal_map_02 = refl

pub node_variable_01 : check_task (set P_bytes 33 1) ≡ refused 6 33
unfolding answering
node_variable_01 = refl

-- ---- the table: refusals 8 to 12, of lists and states

pub list_0 : run_task P_bytes (0 ∷ []) ≡ accepted (record { cost = 8; passed = 1 })
unfolding answering
list_0 = refl

-- at the limit: 8 once, then 3 each time, and each time one node
list_of_256 : run_task P_bytes (replicate 256 0) ≡ accepted (record { cost = 773; passed = 256 })
unfolding answering
list_of_256 = refl

list_of_257 : run_task P_bytes (replicate 257 0) ≡ refused 8 256
unfolding answering
list_of_257 = refl

-- P with the precondition that its variable is 1
abbrev P_guarded : List ℕ
P_guarded = take 13 P_bytes ++ 1 ∷ 0* ++ 1 ∷ drop 21 P_bytes

not_applicable : run_task P_guarded (0 ∷ []) ≡ refused 9 0
unfolding answering
not_applicable = refl

pub empty_list : run_task P_bytes [] ≡ refused 10 0
unfolding answering
empty_list = refl

pub list_1 : run_task P_bytes (1 ∷ []) ≡ refused 11 0
unfolding answering
list_1 = refl

-- the file before the number, the number before the state, its length before its values
cost_0 : cost_task P_bytes 0 (0 ∷ []) ≡ accepted (record { cost = 8; passed = 1 })
unfolding answering
cost_0 = refl

cost_of_no_task : cost_task (1 ∷ []) 1 (0 ∷ 0 ∷ []) ≡ refused 1 1
unfolding answering
cost_of_no_task = refl

cost_of_no_action : cost_task P_bytes 1 (0 ∷ 0 ∷ []) ≡ refused 11 0
unfolding answering
cost_of_no_action = refl

pub two_byte_state : (x y : ℕ) → cost_task P_bytes 0 (x ∷ y ∷ []) ≡ refused 12 0
unfolding answering
two_byte_state x y = refl

value_outside : cost_task P_bytes 0 (2 ∷ []) ≡ refused 4 0
unfolding answering
value_outside = refl

-- ---- xy² + z + 2, where x and z have 2 values and y has 3

-- nodes 1 to 3 test x, y and z, and the terminal is 4
abbrev pub xy²+z+2 : Action
xy²+z+2 = record {
  pre = empty;
  eff = empty;
  incoming = 2;
  nodes =
      record { var = 0; edges = edge 3 0 ∷ edge 2 0 ∷ [] }
      ∷ record { var = 1; edges = edge 3 0 ∷ edge 3 1 ∷ edge 3 4 ∷ [] }
      ∷ record { var = 2; edges = edge 4 0 ∷ edge 4 1 ∷ [] }
      ∷ [];
}

-- a task with this action alone
abbrev pub xy²+z+2_bytes : List ℕ
xy²+z+2_bytes =
    3 ∷ 2 ∷ 3 ∷ 2 ∷ 0 ∷ 0 ∷ 0 ∷ 0 ∷ 0* ++ 1 ∷ 0 ∷ 0* ++ 0 ∷ 0* ++ 2 ∷ 0 ∷ 3
    ∷ 0 ∷ 3 ∷ 0 ∷ 0 ∷ 2 ∷ 0 ∷ 0
    ∷ 1 ∷ 3 ∷ 0 ∷ 0 ∷ 3 ∷ 1 ∷ 0 ∷ 3 ∷ 4 ∷ 0
    ∷ 2 ∷ 4 ∷ 0 ∷ 0 ∷ 4 ∷ 1 ∷ 0 ∷ []

xy²+z+2_read : read_task xy²+z+2_bytes ≡ accepted (record { sizes = 2 ∷ 3 ∷ 2 ∷ []; init = 0 ∷ 0 ∷ 0 ∷ []; goal = empty; actions = xy²+z+2 ∷ [] })
unfolding reading
xy²+z+2_read = refl

pub costs_6 : cost_task xy²+z+2_bytes 0 (1 ∷ 2 ∷ 0 ∷ []) ≡ accepted (record { cost = 6; passed = 3 })
unfolding answering
costs_6 = refl

-- where x is 0, node 2 is not passed
pub costs_3 : cost_task xy²+z+2_bytes 0 (0 ∷ 2 ∷ 1 ∷ []) ≡ accepted (record { cost = 3; passed = 2 })
unfolding answering
costs_3 = refl

-- nor by a run: two of the three nodes each time
passes_2_twice : run_task xy²+z+2_bytes (0 ∷ 0 ∷ []) ≡ accepted (record { cost = 4; passed = 4 })
unfolding answering
passes_2_twice = refl

-- P without its node passes none
passes_none : run_task (take 32 P_bytes ++ 0 ∷ []) (0 ∷ []) ≡ accepted (record { cost = 3; passed = 0 })
unfolding answering
passes_none = refl

-- ---- the limits: 24 variables pass and 25 do not, likewise 8 values, 32 actions, 64 nodes

-- n copies of some bytes
abbrev times : ℕ → List ℕ → List ℕ
times n bytes = elim n [ zero ↦ [] | suc (k → more) ↦ bytes ++ more ]

-- an action with no facts and no nodes
abbrev idle : List ℕ
idle = replicate 19 0

variables_24_values_8 : check_task (24 ∷ replicate 24 8 ++ replicate 24 7 ++ 0 ∷ 0* ++ 1 ∷ idle) ≡ accepted tt
unfolding answering
variables_24_values_8 = refl

variables_25 : check_task (set P_bytes 0 25) ≡ refused 3 0
unfolding answering
variables_25 = refl

values_9 : check_task (set P_bytes 1 9) ≡ refused 3 1
unfolding answering
values_9 = refl

actions_32 : check_task (set P_bytes 12 32 ++ times 31 idle) ≡ accepted tt
unfolding answering
actions_32 = refl

actions_33 : check_task (set P_bytes 12 33) ≡ refused 3 12
unfolding answering
actions_33 = refl

-- a node that tests variable 0 and leads to the terminal, number 65
abbrev last_node : List ℕ
last_node = 0 ∷ 65 ∷ 0 ∷ 0 ∷ 65 ∷ 0 ∷ 0 ∷ []

nodes_64 : check_task (take 32 P_bytes ++ 64 ∷ times 64 last_node) ≡ accepted tt
unfolding answering
nodes_64 = refl

-- at the node count, before the nodes; and with the nodes of the actions before
nodes_65 : check_task (take 32 P_bytes ++ 65 ∷ []) ≡ refused 3 32
unfolding answering
nodes_65 = refl

nodes_1_and_64 : check_task (set P_bytes 12 2 ++ set idle 18 64) ≡ refused 3 58
unfolding answering
nodes_1_and_64 = refl

-- ---- the order: node 1 tests variable 1 and leads to node 2, which tests variable 0

-- all but the last weight
abbrev falling : List ℕ
falling = 2 ∷ 2 ∷ 2 ∷ 0 ∷ 0 ∷ 0 ∷ 0* ++ 1 ∷ 0 ∷ 0* ++ 0 ∷ 0* ++ 0 ∷ 0 ∷ 2 ∷ 1 ∷ 2 ∷ 0 ∷ 0 ∷ 3 ∷ 0 ∷ 0 ∷ 0 ∷ 3 ∷ 0 ∷ 0 ∷ 3 ∷ []

-- at the target's byte
target_variable : check_task (falling ++ 0 ∷ 0 ∷ []) ≡ refused 6 34
unfolding answering
target_variable = refl

-- before the bytes after the last field, and before the next action
then_trailing : check_task (falling ++ 0 ∷ 0 ∷ 7 ∷ []) ≡ refused 6 34
unfolding answering
then_trailing = refl

then_action : check_task (set falling 13 2 ++ 0 ∷ 0 ∷ []) ≡ refused 6 34
unfolding answering
then_action = refl

-- after the action's nodes: the file ends in the last weight; the last target is its own node
file_ends_first : check_task (falling ++ 0 ∷ []) ≡ refused 1 45
unfolding answering
file_ends_first = refl

target_number_first : check_task (set falling 44 2 ++ 0 ∷ 0 ∷ []) ≡ refused 6 44
unfolding answering
target_number_first = refl
