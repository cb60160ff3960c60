-- `head::read_head` meets its contract: the fields one after the other, each refusal where it stands.
use mathlib.Core.Path.{sym, ◌∙◌}
use Rattle.facts.specs.AnswerLaws.{handed}
use Rattle.facts.specs.HeadLaws.{head_sizes, head_no_count, head_no_sizes, head_no_values, head_no_goal, head_good}
use native.Mathlib.Omega.{arith}
use Rattle.head.proofs.read_head.Goals as goal

-- the sizes end n bytes past the first byte, within the file

pub slice_bounds-sizes-count : goal.slice_bounds-sizes-count
slice_bounds-sizes-count c = omega (arith, head_sizes _ _ _ (sym c.in_ok-count.ensures) (sym c.in_ok-at.ensures))

pub slice_bounds-sizes-start : goal.slice_bounds-sizes-start
slice_bounds-sizes-start c = omega (arith, head_sizes _ _ _ (sym c.in_ok-count.ensures) (sym c.in_ok-at.ensures))

pub slice_bounds-sizes-end : goal.slice_bounds-sizes-end
slice_bounds-sizes-end c = (head_sizes _ _ _ (sym c.in_ok-count.ensures) (sym c.in_ok-at.ensures)).1

pub returns-in_err-count : goal.returns-in_err-count
returns-in_err-count c = handed _ _ c.from_residual.ensures.1 ∙ sym (head_no_count _ _ _ (sym c.in_err-count.ensures))

pub returns-in_err-at : goal.returns-in_err-at
returns-in_err-at c = handed _ _ c.from_residual-in_err-at.ensures.1 ∙ sym (head_no_sizes _ _ _ (sym c.in_ok-count.ensures) (sym c.in_err-at.ensures))

pub returns-in_err-goal : goal.returns-in_err-goal
returns-in_err-goal c = handed _ _ c.from_residual-in_err-goal.ensures.1 ∙ sym (head_no_values _ _ _ (sym c.in_ok-count.ensures) (sym c.in_ok-at.ensures) (sym c.in_err-goal.ensures))

pub returns-in_err-end : goal.returns-in_err-end
returns-in_err-end c =
    handed _ _ c.from_residual-in_err-end.ensures.1
    ∙ sym (head_no_goal _ _ _ (sym c.in_ok-count.ensures) (sym c.in_ok-at.ensures) (sym c.in_ok-goal.ensures) (sym c.in_err-end.ensures))

pub returns : goal.returns
returns c = sym (head_good _ _ _ (sym c.in_ok-count.ensures) (sym c.in_ok-at.ensures) (sym c.in_ok-goal.ensures) (sym c.in_ok-end.ensures))
