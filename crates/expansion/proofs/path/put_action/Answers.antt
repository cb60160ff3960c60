-- `expansion::path::put_action` meets its contract: the effect stands where the precondition ends, and the path is taken in the state before the effect.
use mathlib.Core.Path.{◌≡◌, sym, ap, subst, ◌∙◌}
use Prim.Native.Nat.{ℕ, ◌+◌}
use mathlib.Core.List.{List}
use native.Mathlib.Omega.{arith}
use lib.ListN.{length}
use Rattle.std.specs.Prelude.{Option, option_map}
use Rattle.facts.specs.Answers.{move_of}
use Rattle.expansion.specs.declared.path.Path.{Path}
use Rattle.facts.specs.Run.{next as went}
use Rattle.facts.specs.Write.{Wrote}
use Rattle.facts.specs.Fields.{word_at}
use Rattle.taskfile.specs.WalkInPlace.{node_count}
use Rattle.taskfile.specs.WalkInPlaceLaws.{weight_behind, count_behind, cost_is}
use Rattle.taskfile.specs.MoveInPlaceLaws.{performs, performs_not}
use Rattle.taskfile.specs.PartsInPlace.{nodes_in, Tested}
use Rattle.probe_writer.specs.ExtentLaws.{count_in_lem}
use Rattle.numbering.specs.InPlace.{entries_of, Writable}
use Rattle.expansion.proofs.path.put_action.Goals as goal
use Rattle.expansion.proofs.path.put_action.Goals.{After-byte_at-count}

-- the number of nodes
count_is : (c : goal.After-byte_at-count) → let a = c.args in c.byte_at-count.result ≡ node_count a.file.now a.at
count_is c = count_in_lem c.args.file.now c.args.at c.requires.weighs.place c.byte_at-count.ensures

pub put_path-path-requires : goal.put_path-path-requires
put_path-path-requires c =
    let a = c.args in
    let count = count_is (goal.at.put_path-path-requires c).After-byte_at-count in (
      omega (arith, count, c.requires.weighs.few),
      subst (λ (n : ℕ). Writable a.sizes.now (nodes_in a.file.now a.sizes.now a.nodes.now 0 n) a.steps.edges.now a.steps.first a.steps.next a.state.now (length a.out.now)) (sym count) c.requires.writable.0,
      subst (Tested a.file.now a.nodes.now) (sym count) c.requires.writable.1,
    )

pub returns-in_err-effect-clause-state_after : goal.returns-in_err-effect-clause-state_after
returns-in_err-effect-clause-state_after c =
    let a = c.args in
    ap (λ (r : Option Path). move_of (option_map (λ path. path.cost) r) a.state.now) c.from_residual.ensures
    ∙ performs_not a.file.now a.at a.nodes.now a.state.now (λ w. w.cost) c.in_err-effect.ensures.result_value

pub returns-clause-state_after : goal.returns-clause-state_after
returns-clause-state_after c =
    let a = c.args in
    let f = a.file.now in
    let held = c.in_ok-effect.ensures in
    let weight_is = c.word_at-weight.ensures.0 ∙ ap (word_at f) c.requires.weighs.place ∙ sym (weight_behind f a.at held.ends_alike) in
    let count = count_is (goal.at.returns-clause-state_after c).After-byte_at-count ∙ sym (count_behind f a.at held.ends_alike) in
    let paid = cost_is f c.in_ok-effect.effect a.nodes.now a.state.now weight_is count c.put_path-path.ensures.cost_value.0 in
    ap (λ (z : List ℕ). went z (c.word_at-weight.result + c.put_path-path.result.cost)) c.apply_at.ensures.state_after
    ∙ performs f a.at a.nodes.now a.state.now (λ w. w.cost) held.ends_alike paid held.result_value

pub returns-clause-wrote : goal.returns-clause-wrote
returns-clause-wrote c =
    let a = c.args in
    subst (λ (n : ℕ). Wrote (entries_of a.steps.first (nodes_in a.file.now a.sizes.now a.nodes.now 0 n) a.state.now) a.out.now c.put_path-path.new.out c.put_path-path.result.written)
    (count_is (goal.at.returns-clause-wrote c).After-byte_at-count) c.put_path-path.ensures.wrote
