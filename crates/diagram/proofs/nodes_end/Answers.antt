-- `diagram::nodes_end` meets its contract: what is left answers what the whole answers, and the offsets and variables up to here are noted.
use Prim.Native.Nat.{ℕ, ◌+◌, ◌≤◌, ◌<◌}
use mathlib.Core.Path.{◌≡◌, refl, sym, ap, ◌∙◌}
use lib.ListN.{get_or, set, length-set}
use lib.Seq.{get_or-set_other}
use Rattle.facts.specs.Read.{accepted}
use Rattle.facts.specs.Lists.{up_from}
use Rattle.facts.specs.ListLaws.{length_up_from}
use Rattle.facts.specs.AnswerLaws.{handed}
use Rattle.facts.specs.Fields.{next_of}
use Rattle.facts.specs.EachLaws.{each_done}
use Rattle.facts.specs.InPlaceLaws.{marks_more}
use Rattle.taskfile.specs.Task.{max_nodes}
use Rattle.taskfile.specs.TaskFile.{read_node, read_nodes}
use Rattle.taskfile.specs.InPlace.{read_first}
use Rattle.taskfile.specs.NotedLaws.{levels_none, node_noted, noted_length, noted_other, levels_more, left_on, left_stops, first_more, marked_none}
use native.Mathlib.Omega.{arith}
use Rattle.diagram.proofs.nodes_end.Goals as goal
use Rattle.diagram.proofs.nodes_end.Goals.{After-byte_at-variable}

-- the node of this turn is noted, and the entries from m on are kept
kept : (c : goal.After-byte_at-variable) (k : ℕ) → c.args.m ≤ k → k < max_nodes → get_or (node_noted c.loop-j.j c.loop-j.at c.byte_at-variable.result c.loop-j.offsets) k 0 ≡ get_or c.args.offsets.now k 0
kept c k l h =
    let o = c.loop-j in
    noted_other o.j o.at c.byte_at-variable.result o.offsets k (λ q. omega (arith, l, q, c.loop-j-test.true)) (λ q. omega (arith, h, q)) ∙ o.invariant.6 k l h

pub loop-j-init : goal.loop-j-init
unfolding read_nodes read_first
loop-j-init c = (refl, refl, refl, λ k l. absurd (omega arith), refl, levels_none c.requires.3, λ k l h. refl)

pub returns-in_err-at-clause-result_value : goal.returns-in_err-at-clause-result_value
returns-in_err-at-clause-result_value c =
    let l = c.loop-j in
    let a = c.args in
    handed _ _ c.from_residual.ensures.1 ∙ sym (l.invariant.1 ∙ left_stops a.file.now a.sizes.now a.m l.j l.at c.loop-j-test.true (sym c.in_err-at.ensures))

pub returns-in_err-at-clause-marked : goal.returns-in_err-at-clause-marked
returns-in_err-at-clause-marked c =
    let l = c.loop-j in
    let a = c.args in
    marked_none a.file.now a.sizes.now a.m a.from (node_noted l.j l.at c.byte_at-variable.result l.offsets)
    (l.invariant.1 ∙ left_stops a.file.now a.sizes.now a.m l.j l.at c.loop-j-test.true (sym c.in_err-at.ensures))

pub loop-j-preserved : goal.loop-j-preserved
loop-j-preserved c =
    let l = c.loop-j in
    let a = c.args in
    let v = c.byte_at-variable.result in
    let node = sym c.in_ok-at.ensures in (
      noted_length l.j l.at v l.offsets ∙ l.invariant.0,
      l.invariant.1 ∙ left_on a.file.now a.sizes.now a.m l.j l.at c.loop-j-test.true node,
      first_more a.file.now a.sizes.now a.m a.from l.j l.invariant.2 node,
      marks_more (λ k. next_of (read_first a.file.now a.sizes.now a.m k a.from)) (set l.offsets (max_nodes + l.j) v) l.j l.at (omega (arith, l.invariant.0, c.requires.1, length-set l.offsets (max_nodes + l.j) v)) l.invariant.2
          (λ k b. l.invariant.3 k b ∙ ap accepted (sym (get_or-set_other l.offsets (max_nodes + l.j) k v 0 (λ q. omega (arith, b, q))))),
      length-set l.levels (1 + l.j) v ∙ l.invariant.4,
      levels_more l.at l.invariant.5 (omega (arith, c.loop-j-test.true, c.requires.0)) (omega (arith, l.invariant.0, c.loop-j-test.true, c.requires.1)) (omega (arith, l.invariant.4, c.loop-j-test.true, c.requires.2)) c.byte_at-variable.ensures,
      kept (goal.at.loop-j-preserved c).After-byte_at-variable,
    )

pub returns-clause-result_value : goal.returns-clause-result_value
returns-clause-result_value c =
    let l = c.loop-j in
    let a = c.args in
    sym (l.invariant.1 ∙ each_done (read_node a.file.now a.sizes.now a.m) (up_from 1 a.m) 0 l.j l.at (omega (arith, length_up_from 1 a.m)))
