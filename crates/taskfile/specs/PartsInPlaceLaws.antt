-- Laws of parts in place: those of an accepted task file are the task's.
use Rattle.std.specs.Prelude.{◌≡◌, refl, ℕ, zero, suc, ◌+◌, ◌*◌, ◌<◌, List, [], ◌∷◌, length, get_or, drop}
use Rattle.std.proofs.Common.{sym, ap, ap₂, ◌∙◌, arith, get_or-drop}
use Rattle.facts.specs.Read.{accepted}
use Rattle.facts.specs.Lists.{At, here, there}
use Rattle.facts.specs.BytesLaws.{number_one}
use Rattle.facts.specs.Fields.{word_at}
use Rattle.facts.specs.InPlaceLaws.{word_is}
use Rattle.taskfile.specs.Task.{Edge, Node, Action, Task}
use Rattle.taskfile.specs.TaskFile.{edge_bytes, read_task}
use Rattle.taskfile.specs.Row.{own_from}
use Rattle.taskfile.specs.InPlace.{Lies}
use Rattle.taskfile.specs.Index.{Ready}
use Rattle.taskfile.specs.WalkInPlace.{incoming_place, node_count}
use Rattle.taskfile.specs.PartsInPlace.{edge_in, edges_in, node_in, nodes_in, action_in, actions_in}
use Rattle.taskfile.specs.DiagramReadLaws.{EdgeRead, NodeRead, node_read, node_edge}
use Rattle.taskfile.specs.WalkInPlaceLaws.{pre_lies, eff_lies, incoming_lies, count_is}
use Rattle.taskfile.specs.Blank.{file_of}
use Rattle.taskfile.specs.AnswerLaws.{there as task-there}

-- ---- rows of parts: each part where it stands

-- Edges that stand one behind the other.
edges_are : (f : List ℕ) (at : ℕ) (edges : List Edge) → ((d o : ℕ) (e : Edge) → At edges d e → o ≡ at + edge_bytes * d → edge_in f o ≡ e) → edges_in f at (length edges) ≡ edges
edges_are f at [] h = refl
edges_are f at (e ∷ edges) h =
    ap₂ (λ (x : Edge) (xs : List Edge). x ∷ xs) (h 0 at e here (omega arith)) (edges_are f (at + edge_bytes) edges (λ d o y a q. h (suc d) o y (there a) (omega arith)))

-- The edge for each value.
pub edges_at : (f : List ℕ) (at count d o : ℕ) → d < count → o ≡ at + edge_bytes * d → At (edges_in f at count) d (edge_in f o)
edges_at f at zero d o h e = absurd (omega arith)
edges_at f at (suc count) zero o h e = let same : at ≡ o = omega arith in rw same here
edges_at f at (suc count) (suc d) o h e = there (edges_at f (at + edge_bytes) count d o (omega arith) (omega arith))

-- Nodes at these offsets.
nodes_are : (f sizes offsets : List ℕ) (j : ℕ) (nodes : List Node) → ((k q : ℕ) (nd : Node) → At nodes k nd → q ≡ j + k → node_in f sizes (get_or offsets q 0) ≡ nd)
    → nodes_in f sizes offsets j (length nodes) ≡ nodes
nodes_are f sizes offsets j [] h = refl
nodes_are f sizes offsets j (nd ∷ nodes) h =
    ap₂ (λ (x : Node) (xs : List Node). x ∷ xs) (h 0 j nd here (omega arith)) (nodes_are f sizes offsets (suc j) nodes (λ k q y a e. h (suc k) q y (there a) (omega arith)))

-- As many nodes as are asked for.
pub nodes_long : (f sizes offsets : List ℕ) (j k : ℕ) → length (nodes_in f sizes offsets j k) ≡ k
nodes_long f sizes offsets j zero = refl
nodes_long f sizes offsets j (suc k) = ap suc (nodes_long f sizes offsets (suc j) k)

-- The node at each index.
pub nodes_at : (f sizes offsets : List ℕ) (from count j k : ℕ) → j < count → k ≡ from + j → At (nodes_in f sizes offsets from count) j (node_in f sizes (get_or offsets k 0))
nodes_at f sizes offsets from zero j k h e = absurd (omega arith)
nodes_at f sizes offsets from (suc count) zero k h e = let same : from ≡ k = omega arith in rw same here
nodes_at f sizes offsets from (suc count) (suc j) k h e = there (nodes_at f sizes offsets (suc from) count j k (omega arith) (omega arith))

-- Actions at these offsets.
actions_are : (f sizes row : List ℕ) (a : ℕ) (xs : List Action) → ((k q : ℕ) (x : Action) → At xs k x → q ≡ a + k → action_in f sizes (get_or row q 0) (drop (own_from row q) row) ≡ x) → actions_in f sizes row a (length xs) ≡ xs
actions_are f sizes row a [] h = refl
actions_are f sizes row a (x ∷ xs) h =
    ap₂ (λ (y : Action) (ys : List Action). y ∷ ys) (h 0 a x here (omega arith)) (actions_are f sizes row (suc a) xs (λ k q y b e. h (suc k) q y (there b) (omega arith)))

-- There is an element at each index.
pub at_some : {A : Type 0} (xs : List A) (k : ℕ) → k < length xs → (x : A) × At xs k x
at_some [] k h = absurd (omega arith)
at_some (x ∷ xs) zero h = (x, here)
at_some (x ∷ xs) (suc k) h = let a = at_some xs k (omega arith) in (a.0, there a.1)

-- ---- parts that were read stand where they were read

-- An edge.
edge_here : (f : List ℕ) {m i at end : ℕ} {e : Edge} → EdgeRead f m i at e end → edge_in f at ≡ e
edge_here f {at = at} {e = e} r =
    let target : get_or f at 0 ≡ e.target = sym (number_one f at (omega (arith, r.next, r.fits))) ∙ r.target in
    let weight : word_at f (at + 1) ≡ e.weight = word_is f (at + 1) (omega (arith, r.next, r.fits)) r.weight in
    λ k. record { target = target k; weight = weight k }

module _ (f : List ℕ) {sizes : List ℕ} {m i at end : ℕ} {nd : Node} (r : NodeRead f sizes m i at nd end) where
  -- The variable of a node.
  pub var_here : get_or f at 0 ≡ nd.var
  var_here = sym (number_one f at (omega (arith, r.var.fits))) ∙ r.var.value

  -- A node.
  node_here : node_in f sizes at ≡ nd
  node_here =
      let edges : edges_in f (at + 1) (get_or sizes (get_or f at 0) 0) ≡ nd.edges =
      ap (λ (v : ℕ). edges_in f (at + 1) (get_or sizes v 0)) var_here
      ∙ ap (edges_in f (at + 1)) (sym r.edge_count_lem)
      ∙ edges_are f (at + 1) nd.edges (λ d o e a q. edge_here f (node_edge f r a o (omega arith))) in
      λ k. record { var = var_here k; edges = edges k }

-- An action x and its nodes, at the offsets from index `first` on.
module _ (f : List ℕ) {sizes : List ℕ} {x : Action} {at first : ℕ} {all : List ℕ} (l : Lies f sizes x at first all) where
  -- The node at each index.
  pub node_at : {j : ℕ} {nd : Node} (h : At x.nodes j nd) → NodeRead f sizes (length x.nodes) (suc j) (get_or (drop first all) j 0) nd (l.node j nd h).0
  node_at {j} {nd} h = rw (get_or-drop first all j 0) (node_read f sizes (length x.nodes) (suc j) (get_or all (first + j) 0) (l.node j nd h).1)

  -- The action.
  pub action_here : action_in f sizes at (drop first all) ≡ x
  action_here =
      let w = incoming_lies f l in
      let incoming = word_is f (incoming_place f at) w.fits w.value in
      let nodes : nodes_in f sizes (drop first all) 0 (node_count f at) ≡ x.nodes =
      ap (nodes_in f sizes (drop first all) 0) (count_is f l)
      ∙ nodes_are f sizes (drop first all) 0 x.nodes (λ j q nd a e.
      let same : q ≡ j = omega arith in
      ap (λ (k : ℕ). node_in f sizes (get_or (drop first all) k 0)) same ∙ node_here f (node_at a)) in
      λ k. record { pre = sym (pre_lies f l).same k; eff = sym (eff_lies f l).same k; incoming = incoming k; nodes = nodes k }

-- ---- the task of an accepted file with this index

module _ (f : List ℕ) {n k : ℕ} {row : List ℕ} (ready : Ready f n k row) where
  abbrev t : Task
  t = (task-there f ready).task

  pub reads : read_task (file_of f) ≡ accepted t
  reads = (task-there f ready).reads

  -- The actions in place are the task's.
  pub actions_in_place : actions_in f t.sizes row 0 k ≡ t.actions
  actions_in_place =
      ap (actions_in f t.sizes row 0) (sym (task-there f ready).actions)
      ∙ actions_are f t.sizes row 0 t.actions (λ a q x h e.
      let same : q ≡ a = omega arith in
      rw same (action_here f (ready.located.lies t reads a x h)))
