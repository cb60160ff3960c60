-- Laws of the numbers of steps, as the code notes them: each action's start, and the first edge of each of its nodes.
use Rattle.std.specs.Prelude.{◌≡◌, refl, ℕ, zero, suc, ◌+◌, ◌-◌, ◌≤◌, ◌<◌, min, List, ◌++◌, length, get_or, take, drop, set}
use Rattle.std.proofs.Common.{sym, ap, ap₂, subst, subst₂, ◌∙◌, add-one, arith, length-set, length-drop, length-take-le, take_all, get_or-append-add, get_or-take, get_or-drop, get_or-set_same, get_or-set_other}
use Rattle.std.proofs.Math.Decide.{ℕ_discrete}
use Rattle.std.proofs.Math.Seq.{take-append_seam}
use borrow.Rule.Slice.PartMut.{put_mid, post_of, take_put}
use Rattle.facts.specs.Lists.{total, At, here, there}
use Rattle.facts.specs.ListLaws.{at_length}
use Rattle.taskfile.specs.Task.{Node, Action, Task, max_nodes, WfAction}
use Rattle.taskfile.proofs.TaskReadLaws.{task_wf, task_limits}
use Rattle.taskfile.specs.Index.{Ready}
use Rattle.taskfile.specs.AnswerLaws.{there as task-there}
use Rattle.taskfile.specs.MoveInPlaceLaws.{own_nodes}
use Rattle.taskfile.specs.Row.{firsts_from, own_from}
use Rattle.taskfile.specs.WalkInPlace.{node_count}
use Rattle.compilation.specs.Compile.{edge_count, step_count}
use Rattle.compilation.specs.StepLaws.{steps_length, steps_most}
use Rattle.taskfile.specs.PartsInPlace.{node_in, nodes_in, action_in, actions_in, Tested}
use Rattle.taskfile.specs.PartsInPlaceLaws.{reads, actions_in_place}
use Rattle.taskfile.proofs.PartsInPlaceLaws.{actions_stood}
use Rattle.probe_writer.specs.InPlaceLaws.{edges_long}
use Rattle.plans.specs.Carry.{first_step_of}
use Rattle.plans.specs.ListLaws.{total_take, at_same}
use Rattle.numbering.specs.InPlace.{AllTested, Rows, Edges, Numbered}
use Rattle.probefile.specs.Probe.{max_steps}

-- ---- actions in place, by number

module _ (f sizes row : List ℕ) where
  -- As many actions as are asked for.
  pub actions_long : (a count : ℕ) → length (actions_in f sizes row a count) ≡ count
  actions_long a zero = refl
  actions_long a (suc count) = ap suc (actions_long (suc a) count)

  -- The action of each number, from number a on.
  actions_from_lem : (a count j k : ℕ) → j < count → k ≡ a + j → At (actions_in f sizes row a count) j (action_in f sizes (get_or row k 0) (drop (own_from row k) row))
  actions_from_lem a zero j k h e = absurd (omega arith)
  actions_from_lem a (suc count) zero k h e = let same : a ≡ k = omega arith in rw same here
  actions_from_lem a (suc count) (suc j) k h e = there (actions_from_lem (suc a) count j k (omega arith) (omega arith))

  -- The same from number 0 on.
  pub actions_at : (a count : ℕ) → a < count → At (actions_in f sizes row 0 count) a (action_in f sizes (get_or row a 0) (drop (own_from row a) row))
  actions_at a count h = actions_from_lem 0 count a a h (omega arith)

-- The nodes of the action at an offset, as they are lent.
pub lent_nodes : (f sizes nodes : List ℕ) (at n : ℕ) {k count : ℕ} → k ≡ min n (length nodes) → count ≡ node_count f at
    → nodes_in f sizes (take (length nodes - k) (drop k nodes)) 0 count ≡ (action_in f sizes at (drop n nodes)).nodes
lent_nodes f sizes nodes at n e c = ap₂ (λ (own : List ℕ) (m : ℕ). nodes_in f sizes own 0 m) (own_nodes nodes n e) c

-- The variables that they test.
pub lent_tested : (f nodes : List ℕ) (at n : ℕ) {k count : ℕ} → k ≡ min n (length nodes) → count ≡ node_count f at → Tested f (drop n nodes) (node_count f at) → Tested f (take (length nodes - k) (drop k nodes)) count
lent_tested f nodes at n e c h = subst₂ (Tested f) (sym (own_nodes nodes n e)) (sym c) h

-- ---- what comes before an element

module _ {A : Type 0} (size : A → ℕ) where
  -- The next element comes after this one.
  pub total_next : {xs : List A} {a : ℕ} {x : A} → At xs a x → total size (take (suc a) xs) ≡ total size (take a xs) + size x
  total_next here = omega arith
  total_next (there h) = omega (arith, total_next h)

  -- So does each later one.
  total_later : {xs : List A} {b : ℕ} {y : A} (a : ℕ) → At xs b y → b < a → total size (take b xs) + size y ≤ total size (take a xs)
  total_later zero h l = absurd (omega arith)
  total_later (suc a) here l = omega arith
  total_later (suc a) (there {xs = xs} h) l = omega (arith, total_later {xs = xs} a h (omega arith))

-- ---- the first edges of an action's nodes

-- The first edges of the nodes before node j are noted in `now`, and `next` is the number of j's.
pub record Edging (nodes : List Node) (from : ℕ) (before now : List ℕ) (next j : ℕ) : Type 0 where
  pub within : j ≤ length nodes
  pub next_is : next ≡ from + total edge_count (take j nodes)
  pub number : (i : ℕ) → i < j → get_or now i 0 ≡ from + total edge_count (take i nodes)
  pub same : length now ≡ length before

-- At first none are.
pub edging_start : (nodes : List Node) (from : ℕ) (out : List ℕ) → Edging nodes from out out from 0
edging_start nodes from out = record { within = omega arith; next_is = omega arith; number = λ i h. absurd (omega arith); same = refl }

module _ {nodes : List Node} {from : ℕ} {before now : List ℕ} {next j : ℕ} (n : Edging nodes from before now next j) where
  -- Node j has edges of its own.
  pub edging_small : {nd : Node} → At nodes j nd → next + edge_count nd ≤ from + total edge_count nodes
  edging_small h = omega (arith, n.next_is, total_take edge_count h)

  -- Then one more is.
  pub edging_next : {nd : Node} {edges : ℕ} → At nodes j nd → length nodes ≤ length before → edges ≡ edge_count nd → Edging nodes from before (set now j next) (next + edges) (j + 1)
  edging_next {nd} {edges} h room e = record {
    within = omega (arith, at_length h);
    next_is = rw (add-one j) (omega (arith, n.next_is, e, total_next edge_count h));
    number = λ i l.
        elim (ℕ_discrete i j) [
          | yes same ↦ rw same (get_or-set_same now j next 0 (omega (arith, n.same, at_length h)) ∙ n.next_is)
          | no other ↦ get_or-set_other now j i next 0 other ∙ n.number i (omega arith)
        ];
    same = length-set now j next ∙ n.same;
  }

  -- At last all are.
  pub edging_end : length nodes ≤ j → (next ≡ from + total edge_count nodes) × Edges nodes from now
  edging_end l = (omega (arith, n.next_is, ap (total edge_count) (take_all j nodes l)), record { number = λ i h. n.number i (omega arith) })

-- How many edges the node at an offset has.
pub edges_are : (f sizes : List ℕ) (node : ℕ) {variable edges : ℕ} → variable ≡ get_or f node 0 → edges ≡ get_or sizes variable 0 → edges ≡ edge_count (node_in f sizes node)
edges_are f sizes node v e = e ∙ ap (λ (i : ℕ). get_or sizes i 0) v ∙ sym (edges_long f (node + 1) (get_or sizes (get_or f node 0) 0))

-- ---- a row of an array, filled

-- How long a row is that goes to the end.
pub row_long_lem : (xs : List ℕ) (a : ℕ) → length (take (length xs - a) (drop a xs)) ≡ length xs - a
row_long_lem xs a = length-take-le (length xs - a) (drop a xs) (omega (arith, length-drop a xs))

module _ (xs ys : List ℕ) (a k : ℕ) (h : a ≤ length xs) where
  -- Before the row nothing changes.
  put_before : (i : ℕ) → i < a → get_or (put_mid a k xs ys) i 0 ≡ get_or xs i 0
  put_before i l = sym (get_or-take a (put_mid a k xs ys) i 0 l) ∙ ap (λ (zs : List ℕ). get_or zs i 0) (take_put a k xs ys h) ∙ get_or-take a xs i 0 l

  -- The row is what was put there.
  put_inside : (j : ℕ) → j < length ys → get_or (put_mid a k xs ys) (a + j) 0 ≡ get_or ys j 0
  put_inside j l =
      ap (λ (n : ℕ). get_or (put_mid a k xs ys) (n + j) 0) (sym (length-take-le a xs h))
      ∙ get_or-append-add (take a xs) (ys ++ post_of a k xs) j 0
      ∙ sym (get_or-take (length ys) (ys ++ post_of a k xs) j 0 l)
      ∙ ap (λ (zs : List ℕ). get_or zs j 0) (take-append_seam ys (post_of a k xs))

-- ---- all actions

-- The steps of the actions before a are numbered, and `next` is the number of a's start.
pub record Numbering (actions : List Action) (row before-step before-edge first_step first_edge : List ℕ) (next a : ℕ) : Type 0 where
  pub within : a ≤ length actions
  pub numbers : (b : ℕ) → b < a → get_or first_step b 0 ≡ first_step_of actions b
  pub edges : {b : ℕ} {x : Action} → At actions b x → b < a → Edges x.nodes (1 + first_step_of actions b) (drop (get_or row (firsts_from + b) 0) first_edge)
  pub next_is : next ≡ first_step_of actions a
  pub same_step : length first_step ≡ length before-step
  pub same_edge : length first_edge ≡ length before-edge

-- At first none are.
pub numbering_start : (actions : List Action) (row first_step first_edge : List ℕ) → Numbering actions row first_step first_edge first_step first_edge 0 0
numbering_start actions row first_step first_edge = record {
  within = omega arith;
  numbers = λ b h. absurd (omega arith);
  edges = λ x h. absurd (omega arith);
  next_is = refl;
  same_step = refl;
  same_edge = refl;
}

module _ {actions : List Action} {row before-step before-edge first_step first_edge : List ℕ} {next a : ℕ} (n : Numbering actions row before-step before-edge first_step first_edge next a) where
  -- The number of a start is noted.
  noted : (b : ℕ) → a < length before-step → b ≤ a → get_or (set first_step a next) b 0 ≡ first_step_of actions b
  noted b room l =
      elim (ℕ_discrete b a) [
        | yes same ↦ rw same (get_or-set_same first_step a next 0 (omega (arith, n.same_step)) ∙ n.next_is)
        | no other ↦ get_or-set_other first_step a b next 0 other ∙ n.numbers b (omega arith)
      ]

  -- At last all are.
  pub numbering_end : length actions ≤ a → a < length before-step → Numbered actions row (set first_step a next) first_edge
  numbering_end l room = record { numbers = λ b h. noted b room (omega (arith, n.within)); edges = λ x. n.edges x (omega (arith, at_length x)) }

  module _ {x : Action} (h : At actions a x) (rows : Rows actions row (length before-edge)) where
    -- All steps have numbers of at most 576.
    pub numbering_small : next + step_count x ≤ max_steps
    numbering_small = omega (arith, n.next_is, total_take step_count h, rows.few)

    -- The row of its nodes.
    pub row_is : {first : ℕ} → first ≡ min (get_or row (firsts_from + a) 0) (length first_edge) → (first ≡ get_or row (firsts_from + a) 0) × (first + length x.nodes ≤ length first_edge)
    row_is e =
        let fits = total_take (λ (y : Action). length y.nodes) h in
        (omega (arith, rows.first_is h, fits, rows.fits, n.same_edge), omega (arith, rows.first_is h, fits, rows.fits, n.same_edge))

    module _ (k : ℕ) (ys : List ℕ) {first : ℕ} (e : first ≡ min (get_or row (firsts_from + a) 0) (length first_edge)) where
      -- what was numbered stays
      row_kept : {b : ℕ} {y : Action} → At actions b y → b < a → Edges y.nodes (1 + first_step_of actions b) (drop (get_or row (firsts_from + b) 0) (put_mid first k first_edge ys))
      row_kept {b} {y} g l = record {
        number = λ j m.
            let apart = total_later (λ (z : Action). length z.nodes) a g l in
            let start = row_is e in
            get_or-drop (get_or row (firsts_from + b) 0) (put_mid first k first_edge ys) j 0
            ∙ put_before first_edge ys first k (omega (arith, start.1)) (get_or row (firsts_from + b) 0 + j) (omega (arith, apart, rows.first_is g, rows.first_is h, start.0))
            ∙ sym (get_or-drop (get_or row (firsts_from + b) 0) first_edge j 0)
            ∙ (n.edges g l).number j m;
      }

      -- and the row of action a is new
      row_new : length x.nodes ≤ length ys → Edges x.nodes (1 + next) ys → Edges x.nodes (1 + first_step_of actions a) (drop (get_or row (firsts_from + a) 0) (put_mid first k first_edge ys))
      row_new long new = record {
        number = λ j m.
            let start = row_is e in
            get_or-drop (get_or row (firsts_from + a) 0) (put_mid first k first_edge ys) j 0
            ∙ ap (λ (i : ℕ). get_or (put_mid first k first_edge ys) (i + j) 0) (sym start.0)
            ∙ put_inside first_edge ys first k (omega (arith, start.1)) j (omega arith)
            ∙ new.number j m
            ∙ ap (λ (i : ℕ). 1 + i + total edge_count (take j x.nodes)) n.next_is;
      }

      -- Then those of one more action are.
      pub numbering_next : {last : ℕ} → a < length before-step → length (put_mid first k first_edge ys) ≡ length first_edge → length x.nodes ≤ length ys
          → last ≡ 1 + next + total edge_count x.nodes → Edges x.nodes (1 + next) ys
          → Numbering actions row before-step before-edge (set first_step a next) (put_mid first k first_edge ys) (1 + last) (a + 1)
      numbering_next {last} room same long l new = record {
        within = omega (arith, at_length h);
        numbers = λ b m. noted b room (omega arith);
        edges = λ {b} {x = y} g m.
            elim (ℕ_discrete b a) [
              | yes equal ↦ let other = subst (λ (i : ℕ). At actions i y) equal g in subst (λ (i : ℕ). Edges y.nodes (1 + first_step_of actions i) (drop (get_or row (firsts_from + i) 0) (put_mid first k first_edge ys))) (sym equal) (subst (λ (z : Action). Edges z.nodes (1 + first_step_of actions a) (drop (get_or row (firsts_from + a) 0) (put_mid first k first_edge ys))) (at_same h other refl) (row_new long new))
              | no other ↦ row_kept g (omega arith)
            ];
        next_is = rw (add-one a) (omega (arith, n.next_is, l, total_next step_count h));
        same_step = length-set first_step a next ∙ n.same_step;
        same_edge = same ∙ n.same_edge;
      }

-- ---- the steps of an accepted file, by its index

module _ (f : List ℕ) {variables count : ℕ} {row : List ℕ} (ready : Ready f variables count row) where
  -- its task
  abbrev t : Task
  t = (task-there f ready).task

  -- The actions in place are the task's.
  pub actions_are : {sizes : List ℕ} → sizes ≡ t.sizes → actions_in f sizes row 0 count ≡ t.actions
  actions_are e = rw e (actions_in_place f ready)

  -- There are at most 576 steps.
  pub steps_few : total step_count t.actions ≤ max_steps
  steps_few = omega (arith, steps_length t, steps_most t (task_wf _ (reads f ready)) (task_limits _ (reads f ready)))

  -- They can be numbered.
  pub rows_there : {sizes : List ℕ} {room : ℕ} → sizes ≡ t.sizes → max_nodes ≤ room → Rows (actions_in f sizes row 0 count) row room
  rows_there {room = room} e l =
      subst (λ (xs : List Action). Rows xs row room) (sym (actions_are e))
      (record { few = steps_few; first_is = λ {a} {x} h. ready.located.first_is t (reads f ready) a x h; fits = omega (arith, (task_limits _ (reads f ready)).nodes); long = omega (arith, (task_limits _ (reads f ready)).actions, ready.long) })

  -- The variables of all nodes are noted.
  pub all_tested : AllTested f count row
  all_tested = record { own = λ a l. (actions_stood f ready refl a l).tested }

  -- Each is well-formed.
  pub actions_wf : {sizes : List ℕ} → sizes ≡ t.sizes → (a : ℕ) → a < count → WfAction sizes (action_in f sizes (get_or row a 0) (drop (own_from row a) row))
  actions_wf {sizes} e a l =
      let x = action_in f sizes (get_or row a 0) (drop (own_from row a) row) in
      let element = actions_at f sizes row a count l in
      subst (λ (ds : List ℕ). WfAction ds x) (sym e) ((task_wf _ (reads f ready)).actions (subst (λ (xs : List Action). At xs a x) (actions_are e) element))
