-- `value::value_place` meets its contract: the place so far and the lower bits that are left make the place. Assumes nothing.
use Prim.Native.Nat.{◌+◌, ◌-◌, ◌/◌}
use mathlib.Core.Path.{◌≡◌, ap}
use mathlib.Core.Logic.{⊎_elim}
use native.Mathlib.Omega.{arith}
use Rattle.value.specs.Value.{lower_standing}
use Rattle.value.specs.ValueLaws.{lower_turn, lower_most, place_counts}
use Rattle.value.proofs.value_place.Goals as goal

pub overflow_add-place : goal.overflow_add-place
overflow_add-place c = omega (arith, c.loop.invariant, lower_most c.args.map c.args.variable c.ranges.map.fits)

pub loop-preserved : goal.loop-preserved
loop-preserved c =
    let l = c.loop in
    let n = c.args.variable in
    let next : n - l.counter - 1 ≡ n - (l.counter + 1) = omega arith in
    let left = ap (lower_standing (l.rest / 2)) next in
    ⊎_elim (λ none. omega (arith, l.invariant, none, left)) (λ turn. omega (arith, l.invariant, turn, left)) (lower_turn l.rest (n - l.counter))

pub returns : goal.returns
returns c =
    let l = c.loop in
    let none : c.args.variable - l.counter ≡ 0 = omega arith in
    omega (arith, l.invariant, ap (lower_standing l.rest) none, place_counts c.args.map c.args.variable)
