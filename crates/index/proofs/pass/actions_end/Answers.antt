-- `index::pass::actions_end` meets its contract: the actions up to here are read and noted; one more, or the refusal that is the whole's.
use Prim.Native.Nat.{ℕ, ◌+◌}
use mathlib.Core.Path.{◌≡◌, refl, sym, ◌∙◌}
use mathlib.Core.List.{List}
use lib.ListN.{length, set, length-set}
use Rattle.facts.specs.AnswerLaws.{handed}
use Rattle.taskfile.specs.Row.{firsts_from}
use Rattle.taskfile.specs.IndexLaws.{start_noted, Going, going_start, going_next, going_stop, listed_none}
use native.Mathlib.Omega.{arith}
use Rattle.index.proofs.pass.actions_end.Goals as goal
use Rattle.index.proofs.pass.actions_end.Goals.{In_ok-next}

-- the actions up to the next are read and noted
after : (c : goal.In_ok-next) → let l = c.loop-a in let a = c.args in Going a.file.now a.sizes.now (l.a + 1) a.from c.in_ok-next.next (l.used + c.in_ok-next.nodes) c.action_end.new.row
after c =
    let l = c.loop-a in
    going_next l.invariant.1 (omega (arith, c.loop-a-test.true, c.requires.0)) (omega (arith, l.invariant.0, c.requires.1)) (sym c.in_ok-next.ensures.result_value) (c.in_ok-next.ensures.by_index _ refl)

-- a store keeps the row's length
stored : (row : List ℕ) (a at used : ℕ) {n : ℕ} → length row ≡ n → length (start_noted a at used row) ≡ n
stored row a at used e = length-set (set row (firsts_from + a) used) a at ∙ length-set row (firsts_from + a) used ∙ e

pub loop-a-init : goal.loop-a-init
loop-a-init c = (refl, going_start _ _ _ _)

pub overflow_add-used : goal.overflow_add-used
overflow_add-used c = omega (arith, (after c).within)

pub returns-in_err-next-clause-result_value : goal.returns-in_err-next-clause-result_value
returns-in_err-next-clause-result_value c =
    handed _ _ c.from_residual.ensures.1 ∙ sym (going_stop c.loop-a.invariant.1 c.loop-a-test.true (sym c.in_err-next.ensures.result_value))

pub returns-in_err-next-clause-listed : goal.returns-in_err-next-clause-listed
returns-in_err-next-clause-listed c = listed_none _ _ _ _ _ (going_stop c.loop-a.invariant.1 c.loop-a-test.true (sym c.in_err-next.ensures.result_value))

pub loop-a-preserved : goal.loop-a-preserved
loop-a-preserved c = let l = c.loop-a in (c.action_end.auto.row ∙ stored l.row l.a l.at l.used l.invariant.0, after c)
