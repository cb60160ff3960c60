-- `probe_estimate::estimate_from` meets its contract: the state is turned down, or rounds answer.
use Prim.Native.Nat.{ℕ, ◌+◌, ◌-◌, ◌*◌}
use mathlib.Core.Path.{◌≡◌, sym, ap, ◌∙◌}
use native.Mathlib.Omega.{arith}
use Rattle.facts.specs.Read.{with_value}
use Rattle.facts.specs.AnswerLaws.{handed}
use Rattle.estimate.specs.Number.{number}
use Rattle.probe_estimate.specs.EstimateLaws.{ready, turned_down, answered}
use Rattle.probe_estimate.proofs.estimate_from.Goals as goal

-- the domain sizes and the goal as the code counts their bytes
less_one : (n : ℕ) → 1 + n - 1 ≡ n
less_one n = omega arith

twice : (n : ℕ) → 1 + n + n ≡ 1 + 2 * n
twice n = omega arith

pub settle-requires : goal.settle-requires
settle-requires c = ready c.requires (less_one c.args.variables) (twice c.args.variables)

pub returns-in_err-check_state : goal.returns-in_err-check_state
returns-in_err-check_state c =
    ap (with_value number) (handed _ _ c.from_residual.ensures.1) ∙ sym (turned_down c.requires (less_one c.args.variables) (twice c.args.variables) _ (sym c.in_err-check_state.ensures))

pub returns : goal.returns
returns c = answered c.requires (less_one c.args.variables) (twice c.args.variables) _ (sym c.in_ok-check_state.ensures) c.settle.ensures
