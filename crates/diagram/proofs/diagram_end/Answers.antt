-- `diagram::diagram_end` meets its contract: count, nodes and the variables along the edges, each refusal where it stands; the part
-- of the row that was lent comes back noted.
use Prim.Native.Nat.{◌+◌, ◌≤◌}
use mathlib.Core.Path.{refl, sym, ◌∙◌}
use lib.ListN.{length}
use Rattle.facts.specs.AnswerLaws.{handed}
use Rattle.taskfile.specs.Row.{nodes_from}
use Rattle.taskfile.specs.NotedLaws.{all_terminal, back, marked_part, length_part, levels_part, count_fits, count_most, all_inside, placed}
use Rattle.taskfile.specs.TargetLaws.{drawn_no_count, drawn_no_nodes, drawn_falls, drawn_good}
use borrow.Rule.Slice.PartMut.{mid_len}
use native.Mathlib.Omega.{arith}
use Rattle.diagram.proofs.diagram_end.Goals as goal

pub overflow_add-at : goal.overflow_add-at
overflow_add-at c = omega (arith, count_fits _ c.args.sizes.now _ _ (sym c.in_ok-m.ensures))

pub nodes_end-requires : goal.nodes_end-requires
nodes_end-requires c =
    let most = count_most _ c.args.sizes.now _ _ (sym c.in_ok-m.ensures) in
    (omega (arith, most), omega (arith, c.requires.0, c.requires.1, most, mid_len (nodes_from + c.args.used) (length c.args.row.now) c.args.row.now (omega arith)), omega (arith, most), all_terminal 256)

pub nodes_rise-requires : goal.nodes_rise-requires
nodes_rise-requires c =
    let inside : nodes_from + c.args.used ≤ length c.args.row.now = omega (arith, c.requires) in
    let k = marked_part _ _ _ _ (nodes_from + c.args.used) c.args.row.now inside c.in_ok-end.ensures.marked in
    let count = sym c.in_ok-m.ensures in
    (omega (arith, c.requires.0, c.requires.1, count_most _ c.args.sizes.now _ _ count, length_part (nodes_from + c.args.used) c.args.row.now c.nodes_end.new.offsets inside, c.nodes_end.auto.offsets, mid_len (nodes_from + c.args.used) (length c.args.row.now) c.args.row.now (omega arith)), all_inside _ _ _ _ count (sym c.in_ok-end.ensures.result_value) k)

pub returns-in_err-m-clause-result_value : goal.returns-in_err-m-clause-result_value
returns-in_err-m-clause-result_value c = handed _ _ c.from_residual.ensures.1 ∙ sym (drawn_no_count _ _ _ _ (sym c.in_err-m.ensures))

pub returns-in_err-end-clause-result_value : goal.returns-in_err-end-clause-result_value
returns-in_err-end-clause-result_value c =
    handed _ _ c.from_residual-in_err-end.ensures.1 ∙ sym (drawn_no_nodes _ _ _ _ (sym c.in_ok-m.ensures) (sym c.in_err-end.ensures.result_value))

pub returns-in_err-nodes_rise-clause-result_value : goal.returns-in_err-nodes_rise-clause-result_value
returns-in_err-nodes_rise-clause-result_value c =
    let k = marked_part _ _ _ _ (nodes_from + c.args.used) c.args.row.now (omega (arith, c.requires)) c.in_ok-end.ensures.marked in
    let row = levels_part _ _ (nodes_from + c.args.used) c.args.row.now (omega (arith, c.requires)) (c.in_ok-end.ensures.by_index _ refl) in
    handed _ _ c.from_residual-in_err-nodes_rise.ensures.1
    ∙ sym (drawn_falls _ _ _ _ (sym c.in_ok-m.ensures) (sym c.in_ok-end.ensures.result_value) k row c.requires.2 (sym c.in_err-nodes_rise.ensures))

pub returns-clause-result_value : goal.returns-clause-result_value
returns-clause-result_value c =
    let k = marked_part _ _ _ _ (nodes_from + c.args.used) c.args.row.now (omega (arith, c.requires)) c.in_ok-end.ensures.marked in
    let row = levels_part _ _ (nodes_from + c.args.used) c.args.row.now (omega (arith, c.requires)) (c.in_ok-end.ensures.by_index _ refl) in
    sym (drawn_good _ _ _ _ (sym c.in_ok-m.ensures) (sym c.in_ok-end.ensures.result_value) k row c.requires.2 (sym c.in_ok-nodes_rise.ensures))

pub returns-clause-by_index : goal.returns-clause-by_index
returns-clause-by_index c =
    λ p q. placed _ _ _ _ (sym c.in_ok-m.ensures) (back (nodes_from + c.args.used) c.args.row.now _ (omega (arith, c.requires))) c.in_ok-end.ensures.marked (c.in_ok-end.ensures.by_index _ refl)
    c.in_ok-end.ensures.by_index_2
