-- `follow::follow_action` meets its contract: the walk is followed in the state before the effect.
use mathlib.Core.Path.{◌≡◌, sym, ap, subst, ◌∙◌}
use Prim.Native.Nat.{ℕ, ◌+◌}
use mathlib.Core.List.{List}
use native.Mathlib.Omega.{arith}
use lib.ListN.{get_or}
use Rattle.facts.specs.InPlaceLaws.{alike_partial}
use Rattle.facts.specs.Partial.{apply}
use Rattle.facts.specs.Run.{next}
use Rattle.taskfile.specs.MoveInPlaceLaws.{performs}
use Rattle.taskfile.specs.WalkInPlace.{node_count}
use Rattle.taskfile.specs.WalkInPlaceLaws.{count_behind, cost_is}
use Rattle.taskfile.specs.PartsInPlace.{nodes_in, Tested}
use Rattle.follow.specs.Follow.{Walkable, Passed}
use Rattle.follow.proofs.follow_action.Goals as goal
use Rattle.follow.proofs.follow_action.Goals.{After-diagram_past-diagram}

-- so many nodes stand in the file
count_is : (c : goal.After-diagram_past-diagram) → c.diagram_past-diagram.result.count ≡ node_count c.args.file.now c.args.at
count_is c = c.diagram_past-diagram.ensures.1 ∙ count_behind c.args.file.now c.args.at c.in_ok-effect.ensures.ends_alike

pub follow_path-requires-clause-walkable : goal.follow_path-requires-clause-walkable
follow_path-requires-clause-walkable c =
    let a = c.args in
    subst (λ (k : ℕ). Walkable a.sizes.now (nodes_in a.file.now a.sizes.now a.nodes.now 0 k) a.steps.edges.now (get_or a.list.now a.from 0) a.steps.next a.state.now) (sym (count_is c)) c.requires.walkable

pub follow_path-requires-clause-tested : goal.follow_path-requires-clause-tested
follow_path-requires-clause-tested c = let a = c.args in subst (Tested a.file.now a.nodes.now) (sym (count_is c)) c.requires.tested

pub returns : goal.returns
returns c =
    let a = c.args in
    let f = a.file.now in
    let held = c.in_ok-effect.ensures in
    let walked = c.in_ok-end.ensures in
    let diagram = c.diagram_past-diagram.ensures in
    let set = c.apply_at.ensures.state_after in
    record {
      passed = subst (λ (k : ℕ). Passed (nodes_in f a.sizes.now a.nodes.now 0 k) a.state.now a.list.now a.from c.in_ok-end.end) (count_is (goal.at.returns c).After-diagram_past-diagram) walked.passed;
      moves =
          ap (λ (s : List ℕ). next s (c.diagram_past-diagram.result.incoming + c.in_ok-end.cost)) set
          ∙ performs f a.at a.nodes.now a.state.now (λ w. w.cost) held.ends_alike (cost_is f c.in_ok-effect.effect a.nodes.now a.state.now diagram.0 diagram.1 walked.cost_is) held.result_value;
      state = set ∙ ap (λ p. apply p a.state.now) (alike_partial f held.ends_alike);
      small = omega (arith, walked.small, diagram.2, diagram.3);
    }
