-- The cost diagrams of a task for Graphviz.
use Rattle.std.specs.Prelude.{ℕ, suc, Bool, true, false, ◌&&◌, List, [], ◌∷◌, ◌++◌, eqb, length, take, drop}
use Rattle.taskfile.specs.Task.{Edge, Node, Action}
use Rattle.compilation.specs.Compile.{flat}
use Rattle.text.specs.Text.{decimal}
use Rattle.text.specs.Append.{bytes}

-- node i of action a, by a name of its own
abbrev pub node_name : ℕ → ℕ → List ℕ
node_name a i = bytes "a" ++ (decimal a ++ (bytes "n" ++ decimal i))

-- whether two edges lead to the same node with the same weight
abbrev pub alike : Edge → Edge → Bool
alike e g = eqb e.target g.target && eqb e.weight g.weight

-- whether one of these edges is like e
abbrev pub is_among : Edge → List Edge → Bool
is_among e [] = false
is_among e (g ∷ edges) = elim (alike e g) [ true ↦ true | false ↦ is_among e edges ]

-- the value d after a comma, if its edge g is like e
abbrev pub also_text : Edge → ℕ → Edge → List ℕ
also_text e d g = elim (alike e g) [ true ↦ bytes "," ++ decimal d | false ↦ [] ]

-- the arrow of the edge e of node i, for the value d and others
abbrev pub dot_arrow : ℕ → ℕ → ℕ → Edge → List ℕ → List ℕ
dot_arrow a i d e others =
    bytes "  "
    ++ (node_name a i
    ++ (bytes " -> " ++ (node_name a e.target ++ (bytes " [label=\" " ++ (decimal d ++ (others ++ (bytes ": +" ++ (decimal e.weight ++ bytes " \"];\n"))))))))

-- the edge e for the value d, of all edges of node i: one arrow for it and for those like it that follow, and none where one like it came before
abbrev pub dot_edge : ℕ → ℕ → List Edge → ℕ → Edge → List ℕ
dot_edge a i edges d e = elim (is_among e (take d edges)) [ true ↦ [] | false ↦ dot_arrow a i d e (flat (also_text e) (suc d) (drop (suc d) edges)) ]

-- node i
abbrev pub dot_node : ℕ → ℕ → Node → List ℕ
dot_node a i nd =
    bytes "  "
    ++ (node_name a i
    ++ (bytes " [label=\"node " ++ (decimal i ++ (bytes "\\nvariable " ++ (decimal nd.var ++ (bytes "\"];\n" ++ flat (dot_edge a i nd.edges) 0 nd.edges))))))

-- action a: its name, and the edge into node 1
abbrev pub dot_entry : ℕ → ℕ → List ℕ
dot_entry a incoming =
    bytes "  a"
    ++ (decimal a
    ++ (bytes " [shape=plaintext, label=\"action "
    ++ (decimal a
    ++ (bytes "\"];\n  a" ++ (decimal a ++ (bytes " -> " ++ (node_name a 1 ++ (bytes " [label=\" +" ++ (decimal incoming ++ bytes " \"];\n")))))))))

-- its terminal, by number
abbrev pub dot_end : ℕ → ℕ → List ℕ
dot_end a i = bytes "  " ++ (node_name a i ++ bytes " [shape=box, label=\"end\"];\n")

-- all of the action
abbrev pub dot_action : ℕ → Action → List ℕ
dot_action a x = dot_entry a x.incoming ++ (flat (dot_node a) 1 x.nodes ++ dot_end a (suc (length x.nodes)))

-- the diagrams of actions from number a on
unfoldable pub dot_text : ℕ → List Action → List ℕ
dot_text a actions = bytes "digraph costs {\n" ++ (flat dot_action a actions ++ bytes "}\n")
