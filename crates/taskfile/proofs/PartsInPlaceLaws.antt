-- Laws of parts in place: those of an accepted task file are the task's.
use Rattle.std.specs.Prelude.{◌≡◌, ℕ, ◌+◌, ◌*◌, ◌≤◌, ◌<◌, List, length, get_or, drop}
use Rattle.std.proofs.Common.{sym, subst, ◌∙◌, arith, get_or-drop}
use Rattle.facts.specs.ListLaws.{total_at}
use Rattle.facts.specs.Partial.{Partial}
use Rattle.facts.specs.PartialReadLaws.{PartialRead, partial_read}
use Rattle.facts.specs.HeadLaws.{head_read}
use Rattle.taskfile.specs.Task.{Action, Task, max_nodes, max_variables, max_values}
use Rattle.taskfile.specs.Row.{own_from}
use Rattle.taskfile.specs.InPlace.{Lies}
use Rattle.taskfile.specs.Index.{Ready}
use Rattle.taskfile.specs.PartsInPlace.{Stands, Stood}
use Rattle.taskfile.specs.DiagramReadLaws.{node_tests}
use Rattle.taskfile.specs.WalkInPlaceLaws.{pre_lies, eff_lies, count_is}
use Rattle.taskfile.proofs.TaskReadLaws.{task_limits}
use Rattle.taskfile.proofs.BlankLaws.{head_stands}
use Rattle.taskfile.specs.AnswerLaws.{there as task-there}
use Rattle.taskfile.specs.PartsInPlaceLaws.{at_some, var_here, node_at, reads}

-- ---- parts that were read stand where they were read

-- A partial state.
stands : {f sizes : List ℕ} {at e : ℕ} {p : Partial} → PartialRead f sizes at p e → Stands f (length sizes) at
stands r = record { fits = rw (← r.same) (omega (arith, r.next, r.fits)); below = rw (← r.same) r.wf.map_below }

-- An action x and its nodes, at the offsets from index `first` on.
module _ (f : List ℕ) {sizes : List ℕ} {x : Action} {at first : ℕ} {all : List ℕ} (l : Lies f sizes x at first all) where
  -- All of its parts.
  stood : length x.nodes ≤ max_nodes → Stood f sizes at (drop first all)
  stood few = record {
    pre = stands (pre_lies f l);
    eff = stands (eff_lies f l);
    few = omega (arith, count_is f l);
    nodes = λ j h. node_tests f (node_at f l (at_some x.nodes j (omega (arith, count_is f l))).1);
    tested = record {
      variable = λ j h.
          let nd = at_some x.nodes j (omega (arith, count_is f l)) in
          get_or-drop first all (max_nodes + j) 0 ∙ l.tested j nd.0 nd.1 ∙ sym (var_here f (node_at f l nd.1));
    };
  }

-- ---- the task of an accepted file with this index

module _ (f : List ℕ) {n k : ℕ} {row : List ℕ} (ready : Ready f n k row) where
  abbrev t : Task
  t = (task-there f ready).task

  -- Each action stands at its offset.
  pub actions_stood : {sizes : List ℕ} → sizes ≡ t.sizes → (a : ℕ) → a < k → Stood f sizes (get_or row a 0) (drop (own_from row a) row)
  actions_stood e a h =
      let x = at_some t.actions a (omega (arith, (task-there f ready).actions)) in
      rw e (stood f (ready.located.lies t (reads f ready) a x.0 x.1) (omega (arith, total_at (λ x. length x.nodes) x.1, (task_limits _ (reads f ready)).nodes)))

  -- The goal stands in the file.
  pub goal_stands : Stands f (n) (1 + 2 * n)
  goal_stands =
      let g = (head_read f max_variables max_values (head_stands f ready.some_byte (reads f ready)).1).goal in
      subst (λ (n : ℕ). Stands f n (1 + 2 * n)) (task-there f ready).variables (stands (partial_read f t.sizes (1 + 2 * length t.sizes) g))
