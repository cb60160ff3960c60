-- The row of an index: which entry of it is what.
use Rattle.std.specs.Prelude.{ℕ, ◌+◌, List, get_or}
use Rattle.taskfile.specs.Task.{max_actions, max_nodes}

-- The row of an index: the offset of each action, and from these entries on where its effect and its incoming weight stand, which of all nodes is its first, where each node starts and which variable it tests; and how long the row is.
abbrev pub effects_from : ℕ
effects_from = max_actions

abbrev pub incoming_from : ℕ
incoming_from = effects_from + max_actions

abbrev pub firsts_from : ℕ
firsts_from = incoming_from + max_actions

abbrev pub nodes_from : ℕ
nodes_from = firsts_from + max_actions

abbrev pub tested_from : ℕ
tested_from = nodes_from + max_nodes

abbrev pub row_long : ℕ
row_long = tested_from + max_nodes

-- from which entry of a row on the nodes of action a are noted
abbrev pub own_from : List ℕ → ℕ → ℕ
own_from row a = nodes_from + get_or row (firsts_from + a) 0
