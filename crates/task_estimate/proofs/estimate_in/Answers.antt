-- `task_estimate::estimate_in` meets its contract: the state is turned down, or rounds answer.
use Prim.Native.Nat.{ℕ, ◌+◌, ◌*◌, ◌-◌}
use mathlib.Core.Path.{◌≡◌, sym, ap, ◌∙◌}
use native.Mathlib.Omega.{arith}
use Rattle.facts.specs.Read.{with_value}
use Rattle.facts.specs.AnswerLaws.{handed}
use Rattle.estimate.specs.Number.{number}
use Rattle.taskfile.proofs.AnswerLaws.{starts}
use Rattle.relaxation.specs.EstimateTaskLaws.{estimable, turned_down}
use Rattle.relaxation.proofs.EstimateTaskLaws.{answered}
use Rattle.task_estimate.proofs.estimate_in.Goals as goal

-- the domain sizes and the goal as the code counts their bytes
less_one : (n : ℕ) → 1 + n - 1 ≡ n
less_one n = omega arith

twice : (n : ℕ) → 1 + n + n ≡ 1 + 2 * n
twice n = omega arith

pub overflow_add-init : goal.overflow_add-init
overflow_add-init c = omega (arith, (starts _ c.requires).fits)

pub slice_bounds-sizes-end : goal.slice_bounds-sizes-end
slice_bounds-sizes-end c = omega (arith, (starts _ c.requires).fits)

pub settle-requires : goal.settle-requires
settle-requires c = estimable c.args.file.now c.requires (less_one c.args.variables) (twice c.args.variables)

pub returns-in_err-check_state : goal.returns-in_err-check_state
returns-in_err-check_state c =
    ap (with_value number) (handed _ _ c.from_residual.ensures.1) ∙ sym (turned_down c.args.file.now c.requires (less_one c.args.variables) (twice c.args.variables) c.args.state.now (sym c.in_err-check_state.ensures))

pub returns : goal.returns
returns c = answered c.args.file.now c.requires (less_one c.args.variables) (twice c.args.variables) c.args.state.now (sym c.in_ok-check_state.ensures) c.settle.ensures
