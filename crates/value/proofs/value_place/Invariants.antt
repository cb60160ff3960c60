use Prim.Native.Nat.{◌+◌, ◌-◌}
use mathlib.Core.Path.{◌≡◌}
use Rattle.value.specs.Value.{lower_standing}
use Rattle.value.proofs.value_place.Given as goal

abbrev pub invariant-loop : goal.invariant-loop
invariant-loop l = l.place + lower_standing l.rest (l.variable - l.counter) ≡ 8 + lower_standing l.map l.variable
