-- Laws of the sites of task files and probe files: a file is refused exactly if a refusal is due at one of the sites that its reader comes to.
use Rattle.std.specs.Prelude.{◌≡◌, List, [], ◌∷◌, leb, get_or}
use Rattle.std.proofs.Math.Path.{refl, ap}
use Rattle.std.proofs.Common.{◌∙◌}
use Prim.Native.Nat.{ℕ, zero, suc, ◌+◌, ◌*◌, ◌-◌, ◌≤◌, ◌<◌}
use native.Mathlib.Omega.{arith}
use Rattle.std.proofs.Math.ListN.{length}
use borrow.Author.Tests.{leb-false, lt-leb}
use Rattle.facts.specs.Read.{accepted, refused}
use Rattle.facts.specs.ReadLaws.{through, next_of_lem, value_of_lem}
use Rattle.facts.specs.Lists.{up_from}
use Rattle.facts.specs.Fields.{Head, read_operator, read_head, read_end}
use Rattle.facts.specs.PartialReadLaws.{partial_read}
use Rattle.facts.specs.HeadLaws.{head_read}
use Rattle.taskfile.specs.Task.{Action}
use Rattle.taskfile.specs.TaskFile.{check_rising, read_variable, read_target, read_edge, read_edges, read_node, read_nodes, read_diagram, read_action, read_actions, read_bytes, read_task}
use Rattle.taskfile.specs.BlankLaws.{others_read}
use Rattle.probefile.specs.ProbeFile.{read_step, read_step_count, read_steps, read_probe}
use Rattle.cases.specs.Sites.{steps, variable, target, Site, field, falling, end, Due, falls, goes_on, Fault, Only, only, Among, OperatorSites}
use Rattle.cases.specs.TaskSites.{node_total, EdgeSites, edge_target, edge_weight, NodeSites, node_variable, node_edge, DiagramSites, node_count_lem, node, fall, ActionSites, front, diagram, ActionsSites, TaskSites, head, action_count, action, task_end, ProbeSites, probe_head, step_count, step, probe_end}
use Rattle.cases.specs.RisingLaws.{rising_found, rising_refused}
use Rattle.cases.specs.SiteLaws.{first, after, stops, stopped, not_accepted, failed, unmade, Faults, within, alone, line}
use Rattle.cases.proofs.SiteLaws.{field_faults, count_faults, weight_faults, each_faults, operator_faults, head_faults}

-- a head is some bytes
head_some : (f : List ℕ) {h : Head} {at : ℕ} → read_head f 24 8 ≡ accepted (h, at) → 1 ≤ length f
head_some f {h} e = let g = partial_read f h.sizes (1 + 2 * length h.sizes) (head_read f 24 8 e).goal in omega (arith, g.next, g.fits)

module _ (f : List ℕ) where
  variable_faults : (n at : ℕ) → Faults f (read_variable f n at) (Only (field (variable n)) at)
  unfolding read_variable
  variable_faults n at = field_faults f (variable n) at

  target_faults : (m i at : ℕ) → Faults f (read_target f m i at) (Only (field (target m i)) at)
  unfolding read_target
  target_faults m i at = field_faults f (target m i) at

  -- ---- an edge

  edge_answers : (m i at : ℕ) {n p : ℕ} {site : Site} → EdgeSites f m i at site p → Due f n p site → read_edge f m i at ≡ refused n p
  unfolding read_edge
  edge_answers m i at edge_target due = rw ((target_faults m i at).answers only due)
  edge_answers m i at (edge_weight {p = p} a) due = rw (a, (weight_faults f p).answers only due)

  edge_faults : (m i at : ℕ) → Faults f (read_edge f m i at) (EdgeSites f m i at)
  unfolding read_edge
  edge_faults m i at = record {
    found = λ h.
        line (target_faults m i at) h (alone (EdgeSites f m i at) edge_target) (λ x a h.
        line (weight_faults f x.1) h (alone (EdgeSites f m i at) (edge_weight a)) (λ y b h. absurd (not_accepted h)));
    answers = edge_answers m i at;
  }

  edges_faults : (m i d at : ℕ) → Faults f (read_edges f m i d at) (Among (λ (x : ℕ). read_edge f m i) (λ x. EdgeSites f m i) (up_from 0 d) at)
  unfolding read_edges
  edges_faults m i d at = each_faults f (λ (x : ℕ). read_edge f m i) (λ x. EdgeSites f m i) (λ x. edge_faults m i) (up_from 0 d) at

  -- ---- a node

  module _ (sizes : List ℕ) where
    node_answers : (m i at : ℕ) {n p : ℕ} {site : Site} → NodeSites f sizes m i at site p → Due f n p site → read_node f sizes m i at ≡ refused n p
    unfolding read_node
    node_answers m i at node_variable due = rw ((variable_faults (length sizes) at).answers only due)
    node_answers m i at (node_edge {v = v} {from = from} a s) due = rw (a, (edges_faults m i (get_or sizes v 0) from).answers s due)

    node_faults : (m i at : ℕ) → Faults f (read_node f sizes m i at) (NodeSites f sizes m i at)
    unfolding read_node
    node_faults m i at = record {
      found = λ h.
          line (variable_faults (length sizes) at) h (alone (NodeSites f sizes m i at) node_variable) (λ x a h.
          line (edges_faults m i (get_or sizes x.0 0) x.1) h (λ site s. node_edge a s) (λ y b h. absurd (not_accepted h)));
      answers = node_answers m i at;
    }

    nodes_faults : (m at : ℕ) → Faults f (read_nodes f sizes m at) (Among (read_node f sizes m) (NodeSites f sizes m) (up_from 1 m) at)
    unfolding read_nodes
    nodes_faults m at = each_faults f (read_node f sizes m) (NodeSites f sizes m) (node_faults m) (up_from 1 m) at

    -- ---- a diagram

    diagram_answers : (left at : ℕ) {n p : ℕ} {site : Site} → DiagramSites f sizes left at site p → Due f n p site → read_diagram f sizes left at ≡ refused n p
    unfolding read_diagram
    diagram_answers left at node_count_lem due = rw ((count_faults f 0 left at).answers only due)
    diagram_answers left at (node {m = m} {from = from} a s) due = rw (a, (nodes_faults m from).answers s due)
    diagram_answers left at (fall {from = from} {nodes = nodes} a b r) (falls e) = rw (e, a, b, rising_refused sizes nodes from r.stands r.before refl r.edge)

    diagram_faults : (left at : ℕ) → Faults f (read_diagram f sizes left at) (DiagramSites f sizes left at)
    unfolding read_diagram
    diagram_faults left at = record {
      found = λ h.
          line (count_faults f 0 left at) h (alone (DiagramSites f sizes left at) node_count_lem) (λ x a h.
          line (nodes_faults x.0 x.1) h (λ site s. node a s) (λ y b h.
          let q = rising_found sizes y.0 y.0 x.1 (unmade (check_rising sizes y.0 y.0 x.1) _ h) in
          record { site = falling; there = fall a b q.1; due = falls q.0 }));
      answers = diagram_answers left at;
    }

    -- ---- an action

    action_answers : (left at : ℕ) {n p : ℕ} {site : Site} → ActionSites f sizes left at site p → Due f n p site → read_action f sizes left at ≡ refused n p
    unfolding read_action
    action_answers left at (front s) due = rw ((operator_faults f sizes at).answers s due)
    action_answers left at (diagram {from = from} a s) due = rw (a, (diagram_faults left from).answers s due)

    action_faults : (left at : ℕ) → Faults f (read_action f sizes left at) (ActionSites f sizes left at)
    unfolding read_action
    action_faults left at = record {
      found = λ h.
          line (operator_faults f sizes at) h (λ site s. front s) (λ x a h.
          line (diagram_faults left x.1) h (λ site s. diagram a s) (λ y b h. absurd (not_accepted h)));
      answers = action_answers left at;
    }

    -- ---- the actions

    -- the actions after the first
    later : {number left at from p : ℕ} {x : Action} → read_action f sizes left at ≡ accepted (x, from) → (site : Site) → ActionsSites f sizes number (left - length x.nodes) from site p
        → ActionsSites f sizes (suc number) left at site p
    unfolding read_actions
    later {x = x} h site s = record {
      j = suc s.j;
      below = omega (arith, s.below);
      before = x ∷ s.before;
      from = s.from;
      accepts = rw (h, s.accepts);
      room = s.room;
      leaves = omega (arith, s.leaves);
      come = s.come;
    }

    actions_found : (number left at : ℕ) {n p : ℕ} → read_actions f sizes number left at ≡ refused n p → Fault f (ActionsSites f sizes number left at) n p
    unfolding read_actions
    actions_found zero left at h = absurd (not_accepted h)
    actions_found (suc number) left at h = elim (stops (read_action f sizes left at) h) [
      | first g ↦ within (λ site s. record { j = 0; below = omega arith; before = []; from = at; accepts = refl; room = left; leaves = omega arith; come = s }) ((action_faults left at).found g)
      | after x a h ↦
          let room = left - length x.0.nodes in
          within (later a) (actions_found number room x.1 (unmade (read_actions f sizes number room x.1) _ h))
    ]

    actions_refused : (j number left at : ℕ) {xs : List Action} {from room n p : ℕ} → j < number → read_actions f sizes j left at ≡ accepted (xs, from)
        → room ≡ left - node_total xs → read_action f sizes room from ≡ refused n p → read_actions f sizes number left at ≡ refused n p
    unfolding read_actions
    actions_refused j zero left at l h e g = absurd (omega arith)
    actions_refused zero (suc number) left at {xs} {room = room} l h e g =
        let all : 0 ≡ node_total xs = ap node_total (value_of_lem h) in
        let same : left ≡ room = omega arith in
        rw (same, next_of_lem h, g)
    actions_refused (suc j) (suc number) left at {xs} {room = room} {n = n} {p = p} l h e g =
        let a = through (read_action f sizes left at) h in
        let spent = length a.got.0.nodes in
        let b = through (read_actions f sizes j (left - spent) a.got.1) a.then in
        let all : spent + node_total b.got.0 ≡ node_total xs = ap node_total (value_of_lem b.then) in
        let leaves : room ≡ left - spent - node_total b.got.0 = omega arith in
        let refuses : read_action f sizes room b.got.1 ≡ refused n p = rw (next_of_lem b.then) g in
        rw (a.first, actions_refused j number (left - spent) a.got.1 (omega arith) b.first leaves refuses)

    actions_faults : (number left at : ℕ) → Faults f (read_actions f sizes number left at) (ActionsSites f sizes number left at)
    actions_faults number left at = record {
      found = actions_found number left at;
      answers = λ s due. actions_refused s.j number left at s.below s.accepts s.leaves ((action_faults s.room s.from).answers s.come due);
    }

  -- ---- the end of a file

  end_found : (at : ℕ) {n p : ℕ} → read_end f at ≡ refused n p → Fault f (Only end at) n p
  unfolding read_end
  end_found at {n} {p} h =
      let q = failed (leb (length f) at) 2 at h in
      let due : Due f n at end = goes_on q.1 (leb-false (length f) at q.0) in
      rw q.2 (record { site = end; there = only; due = due })

  end_answers : (at : ℕ) {n p : ℕ} {site : Site} → Only end at site p → Due f n p site → read_end f at ≡ refused n p
  unfolding read_end
  end_answers at only (goes_on e l) = rw (e, lt-leb (length f) at l)

  end_faults : (at : ℕ) → Faults f (read_end f at) (Only end at)
  end_faults at = record { found = end_found at; answers = end_answers at }

  -- ---- a task file

  task_answers : {n p : ℕ} {site : Site} → TaskSites f site p → Due f n p site → read_bytes f ≡ refused n p
  unfolding read_bytes
  task_answers (head some s) due = rw ((head_faults f 24 8).answers s due)
  task_answers (action_count {p = p} a) due = rw (a, (count_faults f 1 32 p).answers only due)
  task_answers (action {h = h} {number = number} {from = from} a b s) due = rw (a, b, (actions_faults h.sizes number 64 from).answers s due)
  task_answers (task_end {p = p} a b c) due = rw (a, b, c, (end_faults p).answers only due)

  task_found : 1 ≤ length f → {n p : ℕ} → read_bytes f ≡ refused n p → Fault f (TaskSites f) n p
  unfolding read_bytes
  task_found some h =
      line (head_faults f 24 8) h (λ site s. head some s) (λ x a h.
      line (count_faults f 1 32 x.1) h (alone (TaskSites f) (action_count a)) (λ y b h.
      line (actions_faults x.0.sizes y.0 64 y.1) h (λ site s. action a b s) (λ z c h.
      line (end_faults z.1) h (alone (TaskSites f) (task_end a b c)) (λ u d h. absurd (not_accepted h)))))

  -- no site is come to in an empty file
  come_to : {site : Site} {p : ℕ} → TaskSites f site p → 1 ≤ length f
  come_to (head some s) = some
  come_to (action_count a) = head_some f a
  come_to (action a b s) = head_some f a
  come_to (task_end a b c) = head_some f a

  -- ---- a probe file

  step_count_faults : (at : ℕ) → Faults f (read_step_count f at) (Only (field steps) at)
  unfolding read_step_count
  step_count_faults at = field_faults f steps at

  step_faults : (sizes : List ℕ) (at : ℕ) → Faults f (read_step f sizes at) (OperatorSites f sizes at)
  unfolding read_step
  step_faults sizes at = record { found = λ h. (operator_faults f sizes at).found (unmade (read_operator f sizes at) _ h); answers = λ s due. stopped _ ((operator_faults f sizes at).answers s due) }

  steps_faults : (sizes : List ℕ) (number at : ℕ) → Faults f (read_steps f sizes number at) (Among (λ (r : ℕ). read_step f sizes) (λ r. OperatorSites f sizes) (up_from 0 number) at)
  unfolding read_steps
  steps_faults sizes number at = each_faults f (λ (r : ℕ). read_step f sizes) (λ r. OperatorSites f sizes) (λ r. step_faults sizes) (up_from 0 number) at

  probe_answers : {n p : ℕ} {site : Site} → ProbeSites f site p → Due f n p site → read_probe f ≡ refused n p
  unfolding read_probe
  probe_answers (probe_head s) due = rw ((head_faults f 57 66).answers s due)
  probe_answers (step_count {p = p} a) due = rw (a, (step_count_faults p).answers only due)
  probe_answers (step {h = h} {number = number} {from = from} a b s) due = rw (a, b, (steps_faults h.sizes number from).answers s due)
  probe_answers (probe_end {p = p} a b c) due = rw (a, b, c, (end_faults p).answers only due)

  pub probe_faults : Faults f (read_probe f) (ProbeSites f)
  unfolding read_probe
  probe_faults = record {
    found = λ h.
        line (head_faults f 57 66) h (λ site s. probe_head s) (λ x a h.
        line (step_count_faults x.1) h (alone (ProbeSites f) (step_count a)) (λ y b h.
        line (steps_faults x.0.sizes y.0 y.1) h (λ site s. step a b s) (λ z c h.
        line (end_faults z.1) h (alone (ProbeSites f) (probe_end a b c)) (λ u d h. absurd (not_accepted h)))));
    answers = probe_answers;
  }

-- an empty task file is not refused
any_found : (f : List ℕ) {n p : ℕ} → read_task f ≡ refused n p → Fault f (TaskSites f) n p
unfolding read_task
any_found [] h = absurd (not_accepted h)
any_found (byte ∷ rest) h = task_found (byte ∷ rest) (omega arith) h

pub task_faults : (f : List ℕ) → Faults f (read_task f) (TaskSites f)
task_faults f = record { found = any_found f; answers = λ s due. others_read f (come_to f s) ∙ task_answers f s due }
