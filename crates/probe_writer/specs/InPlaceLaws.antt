-- Laws of the parts of a task in place.
use Rattle.std.specs.Prelude.{◌≡◌, refl, length, get_or, drop}
use Rattle.std.proofs.Common.{sym, ap₂, subst, ◌∙◌, length-append}
use Rattle.std.proofs.Math.Path.{ap}
use Prim.Native.Nat.{ℕ, zero, suc, ◌+◌, ◌-◌, ◌<◌}
use native.Mathlib.Omega.{arith}
use Rattle.std.proofs.Math.Numerals.{add-one}
use mathlib.Core.List.{List, [], ◌∷◌, ◌++◌, append-nil, append_assoc}
use Rattle.facts.specs.Lists.{total}
use Rattle.taskfile.specs.Task.{Node, Action}
use Rattle.taskfile.specs.TaskFile.{edge_bytes}
use Rattle.taskfile.specs.Row.{own_from}
use Rattle.taskfile.specs.WalkInPlace.{node_count}
use Rattle.facts.specs.Partial.{past_partial}
use Rattle.facts.specs.Write.{Wrote}
use Rattle.facts.specs.Fields.{write_each}
use Rattle.probefile.specs.Probe.{Step}
use Rattle.probefile.specs.ProbeFile.{write_step}
use Rattle.compilation.specs.Compile.{map_from, flat, edge_step, end_step, node_steps, action_steps, edge_count}
use Rattle.taskfile.specs.PartsInPlace.{edge_in, edges_in, node_in, nodes_in, action_in, actions_in}
use Rattle.taskfile.specs.PartsInPlaceLaws.{nodes_long}
use Rattle.step_writer.specs.InPlace.{start_in, end_in}
use Rattle.facts.specs.WriteRowLaws.{Cut, Going, going_start}

-- As many edges as are asked for.
pub edges_long : (f : List ℕ) (at k : ℕ) → length (edges_in f at k) ≡ k
edges_long f at zero = refl
edges_long f at (suc k) = ap suc (edges_long f (at + edge_bytes) k)

-- All edges are left.
pub edges_start : (f sizes offsets : List ℕ) (from count : ℕ)
    → total edge_count (nodes_in f sizes offsets from count) ≡ 0 + total edge_count (nodes_in f sizes offsets (from + 0) (count - 0))
edges_start f sizes offsets from count =
    let e : count - 0 ≡ count = omega arith in
    let k : from + 0 ≡ from = omega arith in
    rw (e, k) (omega arith)

-- j of `count` nodes are done, and the next has the index k
module _ (f sizes offsets : List ℕ) (k j count : ℕ) where
  -- The nodes from index k on: the one there, and those from the next on.
  pub nodes_left : j < count → nodes_in f sizes offsets k (count - j) ≡ node_in f sizes (get_or offsets k 0) ∷ nodes_in f sizes offsets (k + 1) (count - (j + 1))
  nodes_left h = let e : count - j ≡ suc (count - (j + 1)) = omega arith in rw (e, add-one k)

  -- Their edges.
  pub edges_left : {node v d q : ℕ} → node ≡ get_or offsets k 0 → v ≡ get_or f node 0 → d ≡ get_or sizes v 0 → q ≡ k + 1 → j < count
      → total edge_count (nodes_in f sizes offsets k (count - j)) ≡ d + total edge_count (nodes_in f sizes offsets q (count - (j + 1)))
  edges_left {node} {v} {d} {q} a b c g h =
      let e : get_or sizes (get_or f (get_or offsets k 0) 0) 0 ≡ d = sym (c ∙ ap (λ (x : ℕ). get_or sizes x 0) (b ∙ ap (λ (x : ℕ). get_or f x 0) a)) in
      ap (total edge_count) (nodes_left h)
      ∙ ap (λ (x : ℕ). x + total edge_count (nodes_in f sizes offsets (k + 1) (count - (j + 1)))) (edges_long f (get_or offsets k 0 + 1) (get_or sizes (get_or f (get_or offsets k 0) 0) 0) ∙ e)
      ∙ ap (λ (i : ℕ). d + total edge_count (nodes_in f sizes offsets i (count - (j + 1)))) (sym g)

  -- None are left.
  pub edges_none : count - j ≡ 0 → total edge_count (nodes_in f sizes offsets k (count - j)) ≡ 0
  edges_none h = rw h

-- ---- the steps of a node

-- The steps of the node at an offset.
pub node_is : (f sizes : List ℕ) (node n a i : ℕ) {v count : ℕ} → v ≡ get_or f node 0 → count ≡ get_or sizes v 0
    → write_each write_step (node_steps n a i (node_in f sizes node)) ≡ write_each write_step (map_from (edge_step n a i v) 0 (edges_in f (node + 1) count))
node_is f sizes node n a i h g =
    ap₂ (λ (v count : ℕ). write_each write_step (map_from (edge_step n a i v) 0 (edges_in f (node + 1) count))) (sym h) (sym (g ∙ ap (λ (x : ℕ). get_or sizes x 0) h))

pub wrote_node : {before now : List ℕ} {k : ℕ} (f sizes : List ℕ) (node n a i : ℕ) {v count : ℕ} → v ≡ get_or f node 0 → count ≡ get_or sizes v 0
    → Wrote (write_each write_step (map_from (edge_step n a i v) 0 (edges_in f (node + 1) count))) before now k → Wrote (write_each write_step (node_steps n a i (node_in f sizes node))) before now k
wrote_node {before} {now} {k} f sizes node n a i h g w = subst (λ (bytes : List ℕ). Wrote bytes before now k) (sym (node_is f sizes node n a i h g)) w

module _ (f : List ℕ) (n a i v count : ℕ) where
  -- the steps from value d on, whose edges begin at an offset
  unfoldable pub steps_from : ℕ → ℕ → List ℕ
  steps_from d edge = write_each write_step (map_from (edge_step n a i v) d (edges_in f edge (count - d)))

  -- At first all are left.
  pub steps_start : (edge : ℕ) (out : List ℕ) → Going (write_each write_step (map_from (edge_step n a i v) 0 (edges_in f edge count))) (steps_from 0 edge) out out 0
  unfolding steps_from
  steps_start edge out =
      let e : count - 0 ≡ count = omega arith in
      rw e (going_start (write_each write_step (map_from (edge_step n a i v) 0 (edges_in f edge count))) out)

  -- Then the one for value d, and those from the next on.
  pub steps_cut : (d edge : ℕ) → d < count → Cut (steps_from d edge) (write_step (edge_step n a i v d (edge_in f edge))) (steps_from (d + 1) (edge + 3))
  unfolding steps_from
  steps_cut d edge h = let e : count - d ≡ suc (count - (d + 1)) = omega arith in record { cut = rw (e, add-one d) }

  -- At last none.
  pub steps_none : (d edge : ℕ) → count - d ≡ 0 → steps_from d edge ≡ []
  unfolding steps_from
  steps_none d edge h = rw h

-- ---- the steps of an action's nodes

-- What is written of two rows, one after the other.
each_append : {X : Type 0} (write : X → List ℕ) (xs ys : List X) → write_each write (xs ++ ys) ≡ write_each write xs ++ write_each write ys
each_append write [] ys = refl
each_append write (x ∷ xs) ys = ap (λ (l : List ℕ). write x ++ l) (each_append write xs ys) ∙ sym (append_assoc (write x) (write_each write xs) (write_each write ys))

module _ (f sizes offsets : List ℕ) (n a count : ℕ) where
  -- the steps of the nodes from index j on
  unfoldable pub nodes_from : ℕ → List ℕ
  nodes_from j = write_each write_step (flat (node_steps n a) (suc j) (nodes_in f sizes offsets j (count - j)))

  -- At first all are left.
  pub nodes_start : (out : List ℕ) → Going (write_each write_step (flat (node_steps n a) 1 (nodes_in f sizes offsets 0 count))) (nodes_from 0) out out 0
  unfolding nodes_from
  nodes_start out =
      let e : count - 0 ≡ count = omega arith in
      rw e (going_start (write_each write_step (flat (node_steps n a) 1 (nodes_in f sizes offsets 0 count))) out)

  -- Then those of the node at index j, and those from the next on.
  pub nodes_cut : (j : ℕ) {node : ℕ} → node ≡ get_or offsets j 0 → j < count → Cut (nodes_from j) (write_each write_step (node_steps n a (1 + j) (node_in f sizes node))) (nodes_from (j + 1))
  unfolding nodes_from
  nodes_cut j {node} g h =
      let i : 1 + j ≡ suc j = omega arith in
      record {
        cut = ap (λ (l : List Node). write_each write_step (flat (node_steps n a) (suc j) l)) (nodes_left f sizes offsets j j count h)
            ∙ each_append write_step (node_steps n a (suc j) (node_in f sizes (get_or offsets j 0))) (flat (node_steps n a) (suc (suc j)) (nodes_in f sizes offsets (j + 1) (count - (j + 1))))
            ∙ rw (g, i, add-one j);
      }

  -- At last none.
  pub nodes_none : (j : ℕ) → count - j ≡ 0 → nodes_from j ≡ []
  unfolding nodes_from
  nodes_none j h = rw h

-- ---- the steps of an action

module _ (f sizes : List ℕ) (at : ℕ) (offsets : List ℕ) (n a : ℕ) {count effect : ℕ} (e : count ≡ node_count f at) (p : effect ≡ past_partial f at) where
  -- The start, the steps of the nodes, the end.
  action_is :
      write_each write_step (action_steps n a (action_in f sizes at offsets))
      ≡ (write_step (start_in f n a at) ++ write_each write_step (flat (node_steps n a) 1 (nodes_in f sizes offsets 0 count))) ++ write_step (end_in f n a effect count)
  action_is =
      let start = write_step (start_in f n a at) in
      let nodes : (k : ℕ) → List ℕ = λ k. write_each write_step (flat (node_steps n a) 1 (nodes_in f sizes offsets 0 k)) in
      let all = node_count f at in
      ap (λ (bytes : List ℕ). start ++ bytes) (each_append write_step (flat (node_steps n a) 1 (nodes_in f sizes offsets 0 all)) (end_step n a (action_in f sizes at offsets) ∷ []))
      ∙ ap (λ (k : ℕ). start ++ (nodes all ++ (write_step (end_in f n a (past_partial f at) k) ++ []))) (nodes_long f sizes offsets 0 all)
      ∙ ap (λ (bytes : List ℕ). start ++ (nodes all ++ bytes)) (append-nil (write_step (end_in f n a (past_partial f at) all)))
      ∙ sym (append_assoc start (nodes all) (write_step (end_in f n a (past_partial f at) all)))
      ∙ ap (λ (k : ℕ). (start ++ nodes k) ++ write_step (end_in f n a (past_partial f at) k)) (sym e)
      ∙ ap (λ (x : ℕ). (start ++ nodes count) ++ write_step (end_in f n a x count)) (sym p)

  -- Their lengths.
  pub action_long :
      length (write_each write_step (action_steps n a (action_in f sizes at offsets)))
      ≡ length (write_step (start_in f n a at)) + length (write_each write_step (flat (node_steps n a) 1 (nodes_in f sizes offsets 0 count))) + length (write_step (end_in f n a effect count))
  action_long =
      let start = write_step (start_in f n a at) in
      let nodes = write_each write_step (flat (node_steps n a) 1 (nodes_in f sizes offsets 0 count)) in
      ap length action_is ∙ length-append (start ++ nodes) (write_step (end_in f n a effect count)) ∙ ap (λ (k : ℕ). k + length (write_step (end_in f n a effect count))) (length-append start nodes)

  -- They are written.
  pub wrote_action : {before now : List ℕ} {k : ℕ}
      → Wrote ((write_step (start_in f n a at) ++ write_each write_step (flat (node_steps n a) 1 (nodes_in f sizes offsets 0 count))) ++ write_step (end_in f n a effect count)) before now k
      → Wrote (write_each write_step (action_steps n a (action_in f sizes at offsets))) before now k
  wrote_action {before} {now} {k} w = subst (λ (bytes : List ℕ). Wrote bytes before now k) (sym action_is) w

-- ---- the steps of all actions

module _ (f sizes row : List ℕ) (count : ℕ) where
  abbrev n : ℕ
  n = length sizes

  -- The actions from number a on: that one, and those from the next on.
  actions_left : (a : ℕ) → a < count
      → actions_in f sizes row a (count - a)
      ≡ action_in f sizes (get_or row a 0) (drop (own_from row a) row) ∷ actions_in f sizes row (a + 1) (count - (a + 1))
  actions_left a h = let e : count - a ≡ suc (count - (a + 1)) = omega arith in rw (e, add-one a)

  -- the steps of the actions from number a on, and their bytes
  unfoldable pub steps_left : ℕ → List Step
  steps_left a = flat (action_steps n) a (actions_in f sizes row a (count - a))

  abbrev pub actions_from : ℕ → List ℕ
  actions_from a = write_each write_step (steps_left a)

  -- At first those of all.
  pub left_start : steps_left 0 ≡ flat (action_steps n) 0 (actions_in f sizes row 0 count)
  unfolding steps_left
  left_start = let e : count - 0 ≡ count = omega arith in rw e

  -- Then those of action a, and those from the next on.
  pub left_next : (a : ℕ) → a < count → steps_left a ≡ action_steps n a (action_in f sizes (get_or row a 0) (drop (own_from row a) row)) ++ steps_left (a + 1)
  unfolding steps_left
  left_next a h = ap (λ (xs : List Action). flat (action_steps n) a xs) (actions_left a h) ∙ rw (add-one a)

  -- At last none.
  pub left_none : (a : ℕ) → count - a ≡ 0 → steps_left a ≡ []
  unfolding steps_left
  left_none a h = rw h

  -- The same of their bytes.
  pub actions_start : (out : List ℕ) → Going (write_each write_step (flat (action_steps n) 0 (actions_in f sizes row 0 count))) (actions_from 0) out out 0
  actions_start out = rw left_start (going_start (write_each write_step (flat (action_steps n) 0 (actions_in f sizes row 0 count))) out)

  pub actions_cut : (a : ℕ) {own : List ℕ} → own ≡ drop (own_from row a) row → a < count
      → Cut (actions_from a) (write_each write_step (action_steps n a (action_in f sizes (get_or row a 0) own))) (actions_from (a + 1))
  actions_cut a g h = record {
    cut = ap (write_each write_step) (left_next a h) ∙ each_append write_step (action_steps n a (action_in f sizes (get_or row a 0) (drop (own_from row a) row))) (steps_left (a + 1))
        ∙ ap (λ (o : List ℕ). write_each write_step (action_steps n a (action_in f sizes (get_or row a 0) o)) ++ actions_from (a + 1)) (sym g);
  }

  pub actions_none : (a : ℕ) → count - a ≡ 0 → actions_from a ≡ []
  actions_none a h = rw (left_none a h)
