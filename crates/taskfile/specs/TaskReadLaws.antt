-- Laws of reading a task file: an accepted file's task is well-formed and inside the limits, and the file has at most 3,826 bytes.
use Rattle.std.specs.Prelude.{◌≡◌, refl}
use Rattle.std.proofs.Math.Path.{sym, ap, ap₂, subst}
use Rattle.std.proofs.Common.{◌∙◌, arith}
use Prim.Native.Nat.{ℕ, zero, suc, ◌+◌, ◌*◌, ◌-◌, ◌≤◌}
use mathlib.Core.List.{List, [], ◌∷◌}
use Rattle.std.proofs.Math.ListN.{length}
use Rattle.facts.specs.Read.{accepted}
use Rattle.facts.specs.ReadLaws.{through, value_of_lem, next_of_lem, carried}
use Rattle.facts.specs.Lists.{total, At, here, there}
use Rattle.facts.specs.ListLaws.{at_none}
use Rattle.facts.specs.Bytes.{Bytes, number_at}
use Rattle.facts.specs.BytesLaws.{two_below}
use Rattle.facts.specs.WellFormed.{WfHead}
use Rattle.facts.specs.Fields.{Head, Operator, read_number, field, read_count, read_value, read_map, read_values, read_partial, read_operator, read_sizes, read_head, read_end}
use Rattle.facts.specs.OperatorLaws.{OperatorRead, operator_read}
use Rattle.facts.specs.FieldLaws.{count_read, end_read}
use Rattle.facts.specs.HeadLaws.{head_read}
use Rattle.facts.specs.FrontLaws.{operator_reach_lem, head_reach_lem}
use Rattle.taskfile.specs.Task.{Action, Task, max_variables, max_values, max_actions, max_nodes, max_bytes, WfAction, WfTask, Limits, Weights}
use Rattle.taskfile.specs.TaskFile.{read_diagram, read_action, read_actions, read_bytes, blank, read_task}
use Rattle.taskfile.specs.Blank.{blank_head}
use Rattle.taskfile.specs.DiagramReadLaws.{Small, node_most, DiagramRead, diagram_read, diagram_wf, diagram_weights, diagram_most}

-- the most bytes that a partial state has, and an action without its nodes: two of these, the incoming weight and the node count
abbrev pub partial_most : ℕ
partial_most = 8 + max_variables

abbrev pub action_most : ℕ
action_most = 2 * partial_most + 3

-- the most bytes before the actions: the number of variables, their sizes, their initial values, the goal and the action count
abbrev pub head_most : ℕ
head_most = 2 + 2 * max_variables + partial_most

-- the part of a task that begins its file
abbrev pub head_of : Task → Head
head_of t = record { sizes = t.sizes; init = t.init; goal = t.goal }

module _ (f : List ℕ) where
  -- ---- the parts that all files have

  pub operator_most : (sizes : List ℕ) (at : ℕ) {o : Operator} {e : ℕ} → length sizes ≤ max_variables → read_operator f sizes at ≡ accepted (o, e) → e ≤ at + (2 * partial_most + 2)
  operator_most sizes at few h = operator_reach_lem f sizes max_variables at few h

  pub head_most_lem : {h : Head} {e : ℕ} → read_head f max_variables max_values ≡ accepted (h, e) → e + 1 ≤ head_most
  head_most_lem g = omega (arith, head_reach_lem f max_variables max_values g)

  -- ---- an action

  -- an action with at most `left` nodes at an offset: its front, and its diagram at `place`
  pub record ActionRead (sizes : List ℕ) (left at : ℕ) (x : Action) (end : ℕ) : Type 0 where
    pub place : ℕ
    pub front_is : read_operator f sizes at ≡ accepted (record { pre = x.pre; eff = x.eff; weight = x.incoming }, place)
    pub diagram_is : read_diagram f sizes left place ≡ accepted (x.nodes, end)

  pub action_read : (sizes : List ℕ) (left at : ℕ) {x : Action} {end : ℕ} → read_action f sizes left at ≡ accepted (x, end) → ActionRead sizes left at x end
  unfolding read_action
  action_read sizes left at h =
      let a = through (read_operator f sizes at) h in
      let d = through (read_diagram f sizes left a.got.1) a.then in
      carried d.then (ActionRead sizes left at) (record { place = a.got.1; front_is = a.first; diagram_is = d.first })

  module _ {sizes : List ℕ} {left at : ℕ} {x : Action} {end : ℕ} (r : ActionRead sizes left at x end) where
    front : OperatorRead f sizes at (record { pre = x.pre; eff = x.eff; weight = x.incoming }) r.place
    front = operator_read f sizes at r.front_is

    diagram : DiagramRead f sizes left r.place x.nodes end
    diagram = diagram_read f sizes left r.place r.diagram_is

    pub action_wf : WfAction sizes x
    action_wf = record { pre = front.pre.wf; eff = front.eff.wf; nodes = diagram_wf f diagram }

    pub action_weights : Bytes f → Weights x
    action_weights bytes = record { incoming = rw front.weight.value at (two_below f front.place bytes); edges = diagram_weights f diagram bytes }

    pub action_nodes : length x.nodes ≤ left
    action_nodes = (count_read f 0 left r.place diagram.count_is).most

    pub action_most_lem : length sizes ≤ max_variables → Small sizes → end ≤ at + (action_most + node_most * length x.nodes)
    action_most_lem few small = omega (arith, operator_most sizes at few r.front_is, diagram_most f diagram small)

  -- ---- the actions

  -- one action and then the others
  pub record ActionsSplit (sizes : List ℕ) (count left at : ℕ) (x : Action) (xs : List Action) (e : ℕ) : Type 0 where
    pub next : ℕ
    pub first : read_action f sizes left at ≡ accepted (x, next)
    pub others : read_actions f sizes count (left - length x.nodes) next ≡ accepted (xs, e)

  pub actions_split : (sizes : List ℕ) (count left at : ℕ) {x : Action} {xs : List Action} {e : ℕ} → read_actions f sizes (suc count) left at ≡ accepted (x ∷ xs, e) → ActionsSplit sizes count left at x xs e
  unfolding read_actions
  actions_split sizes count left at {x} {xs} g =
      let p = through (read_action f sizes left at) g in
      let q = through (read_actions f sizes count (left - length p.got.0.nodes) p.got.1) p.then in
      let list = value_of_lem q.then in
      let head : p.got.0 ≡ x = cc in
      let tail : q.got.0 ≡ xs = cc in
      record {
        next = p.got.1;
        first = p.first ∙ ap (λ (y : Action). accepted (y, p.got.1)) head;
        others = ap (λ (y : Action). read_actions f sizes count (left - length y.nodes) p.got.1) (sym head) ∙ q.first ∙ ap₂ (λ (ys : List Action) (n : ℕ). accepted (ys, n)) tail (next_of_lem q.then);
      }

  -- each action was read, at some offset and with room for some number of nodes
  pub action_lies : (sizes : List ℕ) (count left at : ℕ) {xs : List Action} {e a : ℕ} {x : Action} → read_actions f sizes count left at ≡ accepted (xs, e) → At xs a x
      → (room o end : ℕ) × ActionRead sizes room o x end
  unfolding read_actions
  action_lies sizes zero left at {a = a} {x = x} g h = absurd (at_none (subst (λ (xs : List Action). At xs a x) (sym (value_of_lem g)) h))
  action_lies sizes (suc count) left at g here = let s = actions_split sizes count left at g in (left, at, s.next, action_read sizes left at s.first)
  action_lies sizes (suc count) left at g (there {y = y} h) = let s = actions_split sizes count left at g in action_lies sizes count (left - length y.nodes) s.next s.others h

  -- `count` actions with at most `left` nodes together
  pub record ActionsRead (sizes : List ℕ) (count left at : ℕ) (xs : List Action) (e : ℕ) : Type 0 where
    pub count_is : length xs ≡ count
    pub nodes : total (λ x. length x.nodes) xs ≤ left
    pub most : e ≤ at + (action_most * count + node_most * left)

  pub actions_read : (sizes : List ℕ) → length sizes ≤ max_variables → Small sizes
      → (count left at : ℕ) {xs : List Action} {e : ℕ} → read_actions f sizes count left at ≡ accepted (xs, e) → ActionsRead sizes count left at xs e
  unfolding read_actions
  actions_read sizes few small zero left at g = carried g (ActionsRead sizes zero left at) (omega arith)
  actions_read sizes few small (suc count) left at g =
      let o = through (read_action f sizes left at) g in
      let rest = left - length o.got.0.nodes in
      let q = through (read_actions f sizes count rest o.got.1) o.then in
      let a = action_read sizes left at o.first in
      let r = actions_read sizes few small count rest o.got.1 q.first in
      carried q.then (ActionsRead sizes (suc count) left at)
      (omega (arith, r, action_nodes a, action_most_lem a few small))

  -- ---- the file

  -- a file: the lines of its reader, taken apart; the action count stands at the offset `at`
  pub record TaskRead (t : Task) : Type 0 where
    pub at : ℕ
    pub end : ℕ
    pub head_is : read_head f max_variables max_values ≡ accepted (head_of t, at)
    pub count_is : read_count f 1 max_actions at ≡ accepted (length t.actions, at + 1)
    pub actions_are : read_actions f t.sizes (length t.actions) max_nodes (at + 1) ≡ accepted (t.actions, end)
    pub end_is : read_end f end ≡ accepted tt

  pub task_read : {t : Task} → read_bytes f ≡ accepted t → TaskRead t
  unfolding read_bytes
  task_read {t} h =
      let a = through (read_head f max_variables max_values) h in
      let sizes = a.got.0.sizes in
      let b = through (read_count f 1 max_actions a.got.1) a.then in
      let c = through (read_actions f sizes b.got.0 max_nodes b.got.1) b.then in
      let d = through (read_end f c.got.1) c.then in
      let g = (head_read f max_variables max_values a.first).wf in
      let all : b.got.0 ≡ length c.got.0 = sym (actions_read sizes g.variables g.sizes b.got.0 max_nodes b.got.1 c.first).count_is in
      let next = (count_read f 1 max_actions a.got.1 b.first).next in
      subst TaskRead (cc d.then) (record {
        at = a.got.1;
        end = c.got.1;
        head_is = a.first;
        count_is = b.first ∙ ap₂ (λ (n e : ℕ). accepted (n, e)) all next;
        actions_are = ap₂ (λ (n e : ℕ). read_actions f sizes n max_nodes e) (sym all) (sym next) ∙ c.first;
        end_is = d.first;
      })

  module _ {t : Task} (h : read_bytes f ≡ accepted t) where
    r : TaskRead t
    r = task_read h

    head : WfHead max_variables max_values (head_of t)
    head = (head_read f max_variables max_values r.head_is).wf

    actions : ActionsRead t.sizes (length t.actions) max_nodes (r.at + 1) t.actions r.end
    actions = actions_read t.sizes head.variables head.sizes (length t.actions) max_nodes (r.at + 1) r.actions_are

    lies : {a : ℕ} {x : Action} → At t.actions a x → (room o end : ℕ) × ActionRead t.sizes room o x end
    lies a = action_lies t.sizes (length t.actions) max_nodes (r.at + 1) r.actions_are a

    pub bytes_wf : WfTask t
    bytes_wf = record { init = head.init; goal = head.goal; actions = λ a. action_wf (lies a).3 }

    pub bytes_limits : Limits t
    bytes_limits =
        let n = count_read f 1 max_actions r.at r.count_is in
        record { some_variable = head.some_variable; variables = head.variables; sizes = head.sizes; actions = n.most; nodes = actions.nodes }

    -- a task that is read of bytes has an action
    pub some_action : 1 ≤ length t.actions
    some_action = (count_read f 1 max_actions r.at r.count_is).least

    bytes_weights : Bytes f → {a : ℕ} {x : Action} → At t.actions a x → Weights x
    bytes_weights bytes a = action_weights (lies a).3 bytes

    bytes_length : length f ≤ max_bytes
    bytes_length = omega (arith, end_read f r.end r.end_is, actions.most, (count_read f 1 max_actions r.at r.count_is).most, head_most_lem r.head_is)

-- ---- the file that has no bytes

-- its task's head, as it would stand in a file
pub blank_head_lem : read_head blank_head max_variables max_values ≡ accepted (head_of blank, 11)
unfolding number_at read_number field read_count read_value read_map read_values read_partial read_sizes read_head
blank_head_lem = refl

-- what every task has that is read of bytes, and the blank one too, every task of a file has
module _ (P : List ℕ → Task → Type 0) (of-bytes : (f : List ℕ) (t : Task) → read_bytes f ≡ accepted t → P f t) (of_none : P [] blank) where
  pub each_task : (f : List ℕ) {t : Task} → read_task f ≡ accepted t → P f t
  unfolding read_task
  each_task [] h = subst (P []) (cc h) of_none
  each_task (byte ∷ rest) {t} h = of-bytes (byte ∷ rest) t h

pub task_weights : (f : List ℕ) {t : Task} → read_task f ≡ accepted t → Bytes f → {a : ℕ} {x : Action} → At t.actions a x → Weights x
task_weights f h bytes {a} {x} = each_task (λ f t. Bytes f → At t.actions a x → Weights x) (λ f t h bytes i. bytes_weights f h bytes i) (λ bytes i. absurd (at_none i)) f h bytes

pub task_length : (f : List ℕ) {t : Task} → read_task f ≡ accepted t → length f ≤ max_bytes
task_length = each_task (λ f t. length f ≤ max_bytes) (λ f t h. bytes_length f h) (omega arith)
