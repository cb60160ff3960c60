use Prim.Native.Nat.{ℕ, ◌+◌}
use mathlib.Core.List.{List}
use Rattle.words.specs.Rows.{row_from, node_for}
use Rattle.steps.specs.Steps.{Named, node_names}
use Rattle.steps.specs.Seek.{seek}
use Rattle.steps.specs.SeekLaws.{Seeking}
use Rattle.steps.proofs.find.find_in_nodes.Given as goal

-- the steps of the node at an index
abbrev pub part : List ℕ → List ℕ → List ℕ → ℕ → ℕ → List Named
part file sizes nodes a j = node_names a (1 + j) (node_for file sizes nodes j)

abbrev pub invariant-loop-j : goal.invariant-loop-j
invariant-loop-j l = Seeking (part l.file l.sizes l.nodes l.a) (seek (row_from (part l.file l.sizes l.nodes l.a) 0 l.m) l.k) l.j l.m l.left
