-- Laws of the front of a task file: nothing is lost where only its first 3,827 bytes are read.
use Rattle.std.specs.Prelude.{◌≡◌, ◌&&◌, List, [], ◌∷◌, get_or, take}
use Rattle.std.proofs.Math.Path.{refl}
use Prim.Native.Nat.{ℕ, zero, suc, ◌+◌, ◌*◌, ◌-◌, ◌≤◌}
use Rattle.std.proofs.Common.{arith}
use Rattle.std.proofs.Math.Dec.{leb, ltb}
use Rattle.std.proofs.Math.ListN.{length}
use Rattle.facts.specs.Lists.{up_from}
use Rattle.facts.specs.ListLaws.{length_up_from}
use Rattle.facts.specs.Fields.{read_number, read_end}
use Rattle.facts.specs.FieldLaws.{count_read}
use Rattle.facts.specs.HeadLaws.{head_read}
use Rattle.facts.specs.FrontLaws.{then_same, field_same, each_same, count_same, weight_same, head_same, operator_same, number_front, end_front}
use Rattle.taskfile.specs.Task.{max_variables, max_values, max_actions, max_nodes, max_bytes}
use Rattle.taskfile.specs.TaskFile.{edge_bytes, read_variable, read_target, read_edge, read_edges, read_node, read_nodes, read_diagram, read_action, read_actions, read_bytes, read_task}
use Rattle.taskfile.specs.DiagramReadLaws.{Small, small_at, node_most, variable_read, target_read, edge_read, node_most_lem}
use Rattle.taskfile.specs.TaskReadLaws.{action_most, operator_most, head_most_lem, action_read, action_nodes, action_most_lem, actions_read}

-- two files f and g with the same numbers among their first b bytes: what is read there is the same
module _ (f g : List ℕ) (b : ℕ) (same : (k at : ℕ) → at + k ≤ b → read_number g k at ≡ read_number f k at) where
  -- an edge, and then as many as a variable has values
  edge_same : (m i at : ℕ) → at + edge_bytes ≤ b → read_edge g m i at ≡ read_edge f m i at
  unfolding read_edge read_target
  edge_same m i at l =
      then_same _ _ (field_same f g b same 1 (λ t. ltb i t && leb t (suc m)) 6 at (omega arith)) (λ p h.
      then_same _ _ (weight_same f g b same p.1 (omega (arith, (target_read f m i at h).next))) (λ q e. refl))

  edges_same : (m i d at : ℕ) → at + edge_bytes * d ≤ b → read_edges g m i d at ≡ read_edges f m i d at
  unfolding read_edges
  edges_same m i d at l =
      each_same f g b same (λ (x : ℕ). read_edge f m i) (λ x. read_edge g m i) edge_bytes (λ x at l. edge_same m i at l) (λ x e at end h. omega (arith, (edge_read f m i at h).next)) (up_from 0 d) at (omega (arith, length_up_from 0 d))

  module _ (sizes : List ℕ) (few : length sizes ≤ max_variables) (small : Small sizes) where
    node_same : (m i at : ℕ) → at + node_most ≤ b → read_node g sizes m i at ≡ read_node f sizes m i at
    unfolding read_node read_variable
    node_same m i at l =
        then_same _ _ (field_same f g b same 1 (λ v. ltb v (length sizes)) 6 at (omega arith)) (λ p h.
        let v = variable_read f (length sizes) at h in
        then_same _ _ (edges_same m i (get_or sizes p.0 0) p.1 (omega (arith, v.next, small_at sizes p.0 small v.under))) (λ q e. refl))

    nodes_same : (m at : ℕ) → at + node_most * m ≤ b → read_nodes g sizes m at ≡ read_nodes f sizes m at
    unfolding read_nodes
    nodes_same m at l = each_same f g b same (read_node f sizes m) (read_node g sizes m) node_most (λ i at l. node_same m i at l) (λ i nd at e h. node_most_lem f sizes m i at small h) (up_from 1 m) at (omega (arith, length_up_from 1 m))

    diagram_same : (left at : ℕ) → at + (1 + node_most * left) ≤ b → read_diagram g sizes left at ≡ read_diagram f sizes left at
    unfolding read_diagram
    diagram_same left at l =
        then_same _ _ (count_same f g b same 0 left at (omega arith)) (λ p h.
        let n = count_read f 0 left at h in
        then_same _ _ (nodes_same p.0 p.1 (omega (arith, n.next, n.most))) (λ q e. refl))

    action_same : (left at : ℕ) → at + (action_most + node_most * left) ≤ b → read_action g sizes left at ≡ read_action f sizes left at
    unfolding read_action
    action_same left at l =
        then_same _ _ (operator_same f g b same sizes max_variables at few (omega arith)) (λ p h.
        then_same _ _ (diagram_same left p.1 (omega (arith, operator_most f sizes at few h))) (λ d h. refl))

    actions_same : (count left at : ℕ) → at + (action_most * count + node_most * left) ≤ b → read_actions g sizes count left at ≡ read_actions f sizes count left at
    unfolding read_actions
    actions_same zero left at l = refl
    actions_same (suc count) left at l =
        then_same _ _ (action_same left at (omega arith)) (λ p h.
        let r = action_read f sizes left at h in
        then_same _ _ (actions_same count (left - length p.0.nodes) p.1 (omega (arith, action_nodes f r, action_most_lem f r few small))) (λ q e. refl))

  bytes_same : max_bytes ≤ b → ((at : ℕ) → at ≤ max_bytes → read_end g at ≡ read_end f at) → read_bytes g ≡ read_bytes f
  unfolding read_bytes
  bytes_same l end =
      then_same _ _ (head_same f g b same max_variables max_values (omega arith)) (λ p h.
      let head = (head_read f max_variables max_values h).wf in
      let a = head_most_lem f h in
      then_same _ _ (count_same f g b same 1 max_actions p.1 (omega arith)) (λ q h.
      let n = count_read f 1 max_actions p.1 h in
      then_same _ _ (actions_same p.0.sizes head.variables head.sizes q.0 max_nodes q.1 (omega (arith, n.next, n.most))) (λ c h.
      then_same _ _ (end c.1 (omega (arith, n.next, n.most, (actions_read f p.0.sizes head.variables head.sizes q.0 max_nodes q.1 h).most))) (λ u h. refl))))

-- one byte more than the longest task has is enough to answer for the whole file
pub front_enough : (f : List ℕ) → read_task (take (suc max_bytes) f) ≡ read_task f
unfolding read_task
front_enough [] = refl
front_enough (byte ∷ rest) =
    let f = byte ∷ rest in
    bytes_same f (take (suc max_bytes) f) (suc max_bytes) (number_front f (suc max_bytes)) (omega arith) (λ at l. end_front f (suc max_bytes) at (omega arith))
