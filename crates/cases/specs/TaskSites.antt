-- The sites of a task file and of a probe file. Document 01, "The task file", "The probe file".
use Rattle.std.specs.Prelude.{◌≡◌, ℕ, ◌+◌, ◌*◌, ◌-◌, ◌≤◌, ◌<◌, List, length, get_or, take}
use Rattle.facts.specs.Read.{accepted}
use Rattle.facts.specs.Lists.{up_from, total, All, At}
use Rattle.facts.specs.Fields.{Head, Operator, read_count, read_operator, read_head}
use Rattle.taskfile.specs.Task.{Edge, Node, Action, level}
use Rattle.taskfile.specs.TaskFile.{edge_bytes, node_bytes, read_variable, read_target, read_edge, read_node, read_nodes, read_actions}
use Rattle.probefile.specs.Probe.{Step}
use Rattle.probefile.specs.ProbeFile.{read_step, read_step_count, read_steps}
use Rattle.cases.specs.Sites.{count, weight, steps, variable, target, Site, field, falling, end, Among, OperatorSites, HeadSites}

-- ---- variables along edges, in the diagram with these nodes of a task with these domain sizes

module _ (sizes : List ℕ) (nodes : List Node) where
  -- the variable of the edge's target is above v
  abbrev pub Above : ℕ → Edge → Type 0
  Above v e = v < level sizes nodes e.target

  -- The edge at index d is the first whose target's variable is not above v; the first edge begins at the offset.
  pub record EdgeFalls (v : ℕ) (edges : List Edge) (at p : ℕ) : Type 0 where
    pub d : ℕ
    pub edge : Edge
    pub stands : At edges d edge
    pub before : All (Above v) (take d edges)
    pub low : level sizes nodes edge.target ≤ v
    pub place : p ≡ at + edge_bytes * d

  -- The node at index j is the first that has such an edge; the first node begins at the offset, and a node's edges after its variable.
  pub record NodeFalls (left : List Node) (at p : ℕ) : Type 0 where
    pub j : ℕ
    pub node : Node
    pub stands : At left j node
    pub before : All (λ nd. All (Above nd.var) nd.edges) (take j left)
    pub edge : EdgeFalls node.var node.edges (at + (total node_bytes (take j left) + 1)) p

-- the nodes of these actions together
abbrev pub node_total : List Action → ℕ
node_total actions = total (λ (x : Action). length x.nodes) actions

-- ---- the file f

module _ (f : List ℕ) where
  -- an edge of node i, of m
  pub data EdgeSites (m i at : ℕ) : Site → ℕ → Type 0 where
    edge_target : EdgeSites m i at (field (target m i)) at
    edge_weight : {to p : ℕ} → read_target f m i at ≡ accepted (to, p) → EdgeSites m i at (field weight) p

  -- node i, of m: its variable, and an edge for each value of it
  pub data NodeSites (sizes : List ℕ) (m i at : ℕ) : Site → ℕ → Type 0 where
    node_variable : NodeSites sizes m i at (field (variable (length sizes))) at
    node_edge : {v from p : ℕ} {site : Site} → read_variable f (length sizes) at ≡ accepted (v, from)
        → Among (λ (x : ℕ). read_edge f m i) (λ x. EdgeSites m i) (up_from 0 (get_or sizes v 0)) from site p → NodeSites sizes m i at site p

  -- a diagram that has at most `left` nodes: their number, the nodes, and then the variables of their targets
  pub data DiagramSites (sizes : List ℕ) (left at : ℕ) : Site → ℕ → Type 0 where
    node_count_lem : DiagramSites sizes left at (field (count 0 left)) at
    node : {m from p : ℕ} {site : Site} → read_count f 0 left at ≡ accepted (m, from) → Among (read_node f sizes m) (NodeSites sizes m) (up_from 1 m) from site p
        → DiagramSites sizes left at site p
    fall : {m from next p : ℕ} {nodes : List Node} → read_count f 0 left at ≡ accepted (m, from) → read_nodes f sizes m from ≡ accepted (nodes, next)
        → NodeFalls sizes nodes nodes from p → DiagramSites sizes left at falling p

  -- an action that has at most `left` nodes
  pub data ActionSites (sizes : List ℕ) (left at : ℕ) : Site → ℕ → Type 0 where
    front : {p : ℕ} {site : Site} → OperatorSites f sizes at site p → ActionSites sizes left at site p
    diagram : {from p : ℕ} {o : Operator} {site : Site} → read_operator f sizes at ≡ accepted (o, from) → DiagramSites sizes left from site p → ActionSites sizes left at site p

  -- The sites of `number` actions that have at most `left` nodes together: those of one action, once the j before it are accepted, with the nodes that these leave.
  pub record ActionsSites (sizes : List ℕ) (number left at : ℕ) (site : Site) (p : ℕ) : Type 0 where
    pub j : ℕ
    pub below : j < number
    pub before : List Action
    pub from : ℕ
    pub accepts : read_actions f sizes j left at ≡ accepted (before, from)
    pub room : ℕ
    pub leaves : room ≡ left - node_total before
    pub come : ActionSites sizes room from site p

  -- a task file; an empty one is accepted, and has none
  pub data TaskSites : Site → ℕ → Type 0 where
    head : {p : ℕ} {site : Site} → 1 ≤ length f → HeadSites f 24 8 site p → TaskSites site p
    action_count : {h : Head} {p : ℕ} → read_head f 24 8 ≡ accepted (h, p) → TaskSites (field (count 1 32)) p
    action : {h : Head} {at number from p : ℕ} {site : Site} → read_head f 24 8 ≡ accepted (h, at) → read_count f 1 32 at ≡ accepted (number, from)
        → ActionsSites h.sizes number 64 from site p → TaskSites site p
    task_end : {h : Head} {at number from p : ℕ} {xs : List Action} → read_head f 24 8 ≡ accepted (h, at) → read_count f 1 32 at ≡ accepted (number, from)
        → read_actions f h.sizes number 64 from ≡ accepted (xs, p) → TaskSites end p

  -- a probe file
  pub data ProbeSites : Site → ℕ → Type 0 where
    probe_head : {p : ℕ} {site : Site} → HeadSites f 57 66 site p → ProbeSites site p
    step_count : {h : Head} {p : ℕ} → read_head f 57 66 ≡ accepted (h, p) → ProbeSites (field steps) p
    step : {h : Head} {at number from p : ℕ} {site : Site} → read_head f 57 66 ≡ accepted (h, at) → read_step_count f at ≡ accepted (number, from)
        → Among (λ (r : ℕ). read_step f h.sizes) (λ r. OperatorSites f h.sizes) (up_from 0 number) from site p → ProbeSites site p
    probe_end : {h : Head} {at number from p : ℕ} {xs : List Step} → read_head f 57 66 ≡ accepted (h, at) → read_step_count f at ≡ accepted (number, from)
        → read_steps f h.sizes number from ≡ accepted (xs, p) → ProbeSites end p
