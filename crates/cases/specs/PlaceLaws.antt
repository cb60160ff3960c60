-- Laws of places in a file: a file is refused at one of its bytes or at its end, so no place is above 3,827 in a task file, and 76,215 in a probe file.
use Rattle.std.specs.Prelude.{◌≡◌, refl, Bool, true, false, ◌&&◌, List, [], ◌∷◌, get_or, take}
use Prim.Native.Nat.{ℕ, zero, suc, ◌+◌, ◌*◌, ◌-◌, ◌^◌, ◌≤◌}
use Rattle.std.proofs.Common.{lt_of_not-le, arith, length-take}
use Rattle.std.proofs.Math.Decide.{dec_le}
use Rattle.std.proofs.Math.Dec.{leb, ltb}
use Rattle.std.proofs.Math.ListN.{length}
use Rattle.facts.specs.Read.{Read, accepted, refused, check, with_value, ◌>>=◌}
use Rattle.facts.specs.ReadLaws.{through, carried}
use Rattle.facts.specs.Lists.{up_from, total}
use Rattle.facts.specs.Bytes.{number_at}
use Rattle.facts.specs.Fields.{standing, each, field, read_count, read_value, read_map, read_weight, read_values, read_partial, read_operator, read_sizes, read_head, read_end}
use Rattle.facts.specs.FieldLaws.{number_ends, number_reads, field_refused, field_wrong, field_good}
use Rattle.taskfile.specs.Task.{Edge, Node, max_variables, max_values, max_actions, max_nodes, max_bytes, level}
use Rattle.taskfile.specs.TaskFile.{edge_bytes, node_bytes, check_targets, check_rising, read_variable, read_target, read_edge, read_edges, read_node, read_nodes, read_diagram, read_action, read_actions, read_bytes, read_task}
use Rattle.taskfile.specs.DiagramReadLaws.{node_read}
use Rattle.taskfile.specs.FrontLaws.{front_enough}
use Rattle.probefile.specs.Probe.{max_steps}
use Rattle.probefile.specs.Probe.{max_variables as maxProbeVariables, max_values as maxProbeValues}
use Rattle.probefile.specs.ProbeFile.{read_step, read_step_count, read_steps, read_probe}
use Rattle.probefile.specs.Probe.{max_bytes as maxProbeBytes}
use Rattle.probefile.specs.FrontLaws.{front_enough as probe-front-enough}

-- ---- answers

-- What is accepted has the property, and the place of a refusal is at most so much.
pub data Within {X : Type 0} (good : X → Type 0) (most : ℕ) : Read X → Type 0 where
  value : {x : X} → good x → Within good most (accepted x)
  place : {n p : ℕ} → p ≤ most → Within good most (refused n p)

-- nothing is asked of what is accepted
abbrev pub Placed : {X : Type 0} → ℕ → Read X → Type 0
Placed most m = Within (λ x. Unit {0}) most m

-- one line after the other
pub then_within : {X Y : Type 0} {good : X → Type 0} {fine : Y → Type 0} {most : ℕ} {m : Read X} (k : X → Read Y) → Within good most m → ((x : X) → m ≡ accepted x → good x → Within fine most (k x))
    → Within fine most (◌>>=◌ m k)
then_within k (value {x = x} g) on = on x refl g
then_within k (place l) on = place l

-- what is made of the value
pub made_within : {X Y : Type 0} {good : X → Type 0} {fine : Y → Type 0} {most : ℕ} {m : Read X} (g : X → Y) → Within good most m → ((x : X) → m ≡ accepted x → good x → fine (g x))
    → Within fine most (with_value g m)
made_within g (value {x = x} h) on = value (on x refl h)
made_within g (place l) on = place l

-- what it was made of
pub of_made : {X Y : Type 0} {good : Y → Type 0} {fine : X → Type 0} {most : ℕ} (g : X → Y) (m : Read X) → Within good most (with_value g m) → ((x : X) → m ≡ accepted x → good (g x) → fine x)
    → Within fine most m
of_made g (accepted x) (value h) on = value (on x refl h)
of_made g (refused n p) (place l) on = place l

-- by the places of its refusals
pub placed_by : {X : Type 0} {most : ℕ} (m : Read X) → ((n p : ℕ) → m ≡ refused n p → p ≤ most) → Placed most m
placed_by (accepted x) h = value tt
placed_by (refused n p) h = place (h n p refl)

-- a higher bound
pub more_within : {X : Type 0} {good : X → Type 0} {most more : ℕ} {m : Read X} → Within good most m → most ≤ more → Within good more m
more_within (value g) h = value g
more_within (place {p = p} l) h = place {p = p} (omega arith)

pub check_placed : (b : Bool) (n p most : ℕ) → p ≤ most → Placed most (check b n p)
check_placed true n p most l = value tt
check_placed false n p most l = place l

-- ---- fields, from an offset inside the file f: they end inside it too

-- what is read ends inside the file, and a refusal's place is inside it
abbrev InFile : {X : Type 0} → List ℕ → Read (X × ℕ) → Type 0
InFile f m = Within (λ q. q.1 ≤ length f) (length f) m

module _ (f : List ℕ) where
  field_in : (k : ℕ) (good : ℕ → Bool) (wrong at : ℕ) → at ≤ length f → InFile f (field f k good wrong at)
  field_in k good wrong at l = elim (dec_le (at + k) (length f)) [
    | yes fits ↦ go (good (number_at k f at)) refl fits
    | no ends ↦ rw (field_refused f k good wrong at (number_ends f k at (lt_of_not-le ends))) (place l)
  ]
    where
      go : (b : Bool) → good (number_at k f at) ≡ b → at + k ≤ length f → InFile f (field f k good wrong at)
      go true e fits = rw (field_good f k good wrong at (number_reads f k at fits) e) (value fits)
      go false e fits = rw (field_wrong f k good wrong at (number_reads f k at fits) e) (place l)

  each_in : {A X : Type 0} (read : A → ℕ → Read (X × ℕ)) → ((a : A) (at : ℕ) → at ≤ length f → InFile f (read a at)) → (items : List A) (at : ℕ) → at ≤ length f → InFile f (each read items at)
  each_in read one [] at l = value l
  each_in read one (a ∷ items) at l = then_within _ (one a at l) (λ x e g. then_within _ (each_in read one items x.1 g) (λ y e g. value g))

  count_in_lem : (low high at : ℕ) → at ≤ length f → InFile f (read_count f low high at)
  unfolding read_count
  count_in_lem low high at l = field_in 1 (λ n. leb low n && leb n high) 3 at l

  weight_in : (at : ℕ) → at ≤ length f → InFile f (read_weight f at)
  unfolding read_weight
  weight_in at l = field_in 2 (λ w. true) 3 at l

  values_in_lem : (sizes : List ℕ) (at : ℕ) → at ≤ length f → InFile f (read_values f sizes at)
  unfolding read_values read_value
  values_in_lem sizes at l = each_in (read_value f) (λ d at l. field_in 1 (λ x. ltb x d) 4 at l) sizes at l

  partial_in : (sizes : List ℕ) (at : ℕ) → at ≤ length f → InFile f (read_partial f sizes at)
  unfolding read_partial read_map
  partial_in sizes at l =
      then_within _ (field_in 8 (λ map. ltb map (2 ^ length sizes)) 5 at l) (λ x e l.
      then_within _ (values_in_lem (standing x.0 sizes) x.1 l) (λ y e l. value l))

  operator_in : (sizes : List ℕ) (at : ℕ) → at ≤ length f → InFile f (read_operator f sizes at)
  unfolding read_operator
  operator_in sizes at l =
      then_within _ (partial_in sizes at l) (λ x e l.
      then_within _ (partial_in sizes x.1 l) (λ y e l.
      then_within _ (weight_in y.1 l) (λ z e l. value l)))

  head_in : (most largest : ℕ) → InFile f (read_head f most largest)
  unfolding read_head read_sizes
  head_in most largest =
      then_within _ (count_in_lem 1 most 0 (omega arith)) (λ n e l.
      then_within _ (each_in (λ (v : ℕ). read_count f 2 largest) (λ v at l. count_in_lem 2 largest at l) (up_from 0 n.0) n.1 l) (λ sizes e l.
      then_within _ (values_in_lem sizes.0 sizes.1 l) (λ init e l.
      then_within _ (partial_in sizes.0 init.1 l) (λ goal e l. value l))))

  end_in_lem : (at : ℕ) → at ≤ length f → Placed (length f) (read_end f at)
  unfolding read_end
  end_in_lem at l = check_placed (leb (length f) at) 2 at (length f) l

  -- ---- a task file

  node_in : (sizes : List ℕ) (m i at : ℕ) → at ≤ length f → InFile f (read_node f sizes m i at)
  unfolding read_node read_variable read_edges read_edge read_target
  node_in sizes m i at l =
      then_within _ (field_in 1 (λ v. ltb v (length sizes)) 6 at l) (λ v e l.
      then_within _ (each_in (λ (x : ℕ). read_edge f m i) (λ x at l.
      then_within _ (field_in 1 (λ t. ltb i t && leb t (suc m)) 6 at l) (λ t e l.
      then_within _ (weight_in t.1 l) (λ w e l. value l))) (up_from 0 (get_or sizes v.0 0)) v.1 l) (λ edges e l. value l))

  -- nodes end after the bytes of each
  nodes_end : (sizes : List ℕ) (m : ℕ) (items : List ℕ) (at : ℕ) {nodes : List Node} {end : ℕ} → each (read_node f sizes m) items at ≡ accepted (nodes, end) → end ≡ at + total node_bytes nodes
  nodes_end sizes m [] at h = carried h (λ nodes end. end ≡ at + total node_bytes nodes) (omega arith)
  nodes_end sizes m (i ∷ items) at h =
      let o = through (read_node f sizes m i at) h in
      let q = through (each (read_node f sizes m) items o.got.1) o.then in
      carried q.then (λ nodes end. end ≡ at + total node_bytes nodes) (omega (arith, (node_read f sizes m i at o.first).next, nodes_end sizes m items o.got.1 q.first))

  targets_in : (sizes : List ℕ) (nodes : List Node) (v : ℕ) (edges : List Edge) (at : ℕ) → at + edge_bytes * length edges ≤ length f → Placed (length f) (check_targets sizes nodes v edges at)
  targets_in sizes nodes v [] at l = value tt
  targets_in sizes nodes v (e ∷ edges) at l =
      then_within _ (check_placed (ltb v (level sizes nodes e.target)) 6 at (length f) (omega arith)) (λ u h g. targets_in sizes nodes v edges (at + edge_bytes) (omega arith))

  rising_in : (sizes : List ℕ) (nodes left : List Node) (at : ℕ) → at + total node_bytes left ≤ length f → Placed (length f) (check_rising sizes nodes left at)
  rising_in sizes nodes [] at l = value tt
  rising_in sizes nodes (nd ∷ left) at l =
      then_within _ (targets_in sizes nodes nd.var nd.edges (at + 1) (omega arith)) (λ u h g. rising_in sizes nodes left (at + node_bytes nd) (omega arith))

  action_in_lem : (sizes : List ℕ) (left at : ℕ) → at ≤ length f → InFile f (read_action f sizes left at)
  unfolding read_action read_diagram read_nodes
  action_in_lem sizes left at l =
      then_within _ (operator_in sizes at l) (λ o e l.
      then_within _ (then_within _ (count_in_lem 0 left o.1 l) (λ m e l.
      then_within _ (each_in (read_node f sizes m.0) (node_in sizes m.0) (up_from 1 m.0) m.1 l) (λ nodes h l.
      then_within _ (rising_in sizes nodes.0 nodes.0 m.1 (omega (arith, nodes_end sizes m.0 (up_from 1 m.0) m.1 h))) (λ u e g. value l)))) (λ nodes e l. value l))

  actions_in_lem : (sizes : List ℕ) (count left at : ℕ) → at ≤ length f → InFile f (read_actions f sizes count left at)
  unfolding read_actions
  actions_in_lem sizes zero left at l = value l
  actions_in_lem sizes (suc count) left at l =
      then_within _ (action_in_lem sizes left at l) (λ x e l. then_within _ (actions_in_lem sizes count (left - length x.0.nodes) x.1 l) (λ xs e l. value l))

  bytes_in : Placed (length f) (read_bytes f)
  unfolding read_bytes
  bytes_in =
      then_within _ (head_in max_variables max_values) (λ head e l.
      then_within _ (count_in_lem 1 max_actions head.1 l) (λ count e l.
      then_within _ (actions_in_lem head.0.sizes count.0 max_nodes count.1 l) (λ actions e l.
      then_within _ (end_in_lem actions.1 l) (λ u e g. value tt))))

  -- ---- a probe file

  probe_in : Placed (length f) (read_probe f)
  unfolding read_probe read_step_count read_steps read_step
  probe_in =
      then_within _ (head_in maxProbeVariables maxProbeValues) (λ head e l.
      then_within _ (field_in 2 (λ n. leb n max_steps) 3 head.1 l) (λ count e l.
      then_within _ (each_in (λ (r : ℕ). read_step f head.0.sizes) (λ r at l. then_within _ (operator_in head.0.sizes at l) (λ o e l. value l)) (up_from 0 count.0) count.1 l) (λ steps e l.
      then_within _ (end_in_lem steps.1 l) (λ u e g. value tt))))

task_in : (f : List ℕ) → Placed (length f) (read_task f)
unfolding read_task
task_in [] = value tt
task_in (byte ∷ rest) = bytes_in (byte ∷ rest)

-- ---- only the front of a file is looked at

pub task_places : (f : List ℕ) → Placed (suc max_bytes) (read_task f)
task_places f = rw (← front_enough f) (more_within (task_in (take (suc max_bytes) f)) (omega (arith, length-take (suc max_bytes) f)))

pub probe_places : (f : List ℕ) → Placed (suc maxProbeBytes) (read_probe f)
probe_places f = rw (← probe-front-enough f) (more_within (probe_in (take (suc maxProbeBytes) f)) (omega (arith, length-take (suc maxProbeBytes) f)))
