-- `facts::write::write_partial` meets its contract: the tests say whether all of it fits. Assumes nothing.
use Prim.Native.Nat.{◌+◌}
use mathlib.Core.Path.{◌≡◌, ap, ◌∙◌}
use mathlib.Core.List.{◌++◌}
use lib.ListN.{length, length-append}
use Rattle.facts.specs.Partial.{Partial, write_partial}
use Rattle.facts.specs.PartialLaws.{length_written}
use Rattle.facts.specs.WriteLaws.{wrote_none, wrote_all}
use native.Mathlib.Omega.{arith}
use Rattle.facts.proofs.write.write_partial.Goals as goal
use Rattle.facts.proofs.write.write_partial.Goals.{Start}

-- what is to be written, and its length
abbrev whole : goal.Start → Partial
whole c = record { map = c.args.map; values = c.args.values.now ++ c.args.further.now }

needed : (c : goal.Start) → length (write_partial (whole c)) ≡ 8 + (length c.args.values.now + length c.args.further.now)
needed c = length_written (whole c) ∙ ap (λ n. 8 + n) (length-append c.args.values.now c.args.further.now)

pub returns-then-out-lt8 : goal.returns-then-out-lt8
returns-then-out-lt8 c = wrote_none (write_partial (whole (goal.at.returns-then-out-lt8 c).Start)) c.args.out.now (omega (arith, needed (goal.at.returns-then-out-lt8 c).Start))

pub returns-then-out-values : goal.returns-then-out-values
returns-then-out-values c = wrote_none (write_partial (whole (goal.at.returns-then-out-values c).Start)) c.args.out.now (omega (arith, needed (goal.at.returns-then-out-values c).Start))

pub returns-then-out-values-2 : goal.returns-then-out-values-2
returns-then-out-values-2 c = wrote_none (write_partial (whole (goal.at.returns-then-out-values-2 c).Start)) c.args.out.now (omega (arith, needed (goal.at.returns-then-out-values-2 c).Start))

pub put_partial-requires : goal.put_partial-requires
put_partial-requires c = omega (arith, needed (goal.at.put_partial-requires c).Start)

pub returns : goal.returns
returns c = wrote_all (omega (arith, needed (goal.at.returns c).Start)) c.put_partial.ensures
