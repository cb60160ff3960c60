-- `diagram::targets_rise` meets its contract: what is left answers what the whole answers.
use Prim.Native.Nat.{◌+◌, ◌-◌}
use mathlib.Core.Path.{◌≡◌, sym, ap, ◌∙◌}
use Rattle.taskfile.specs.InPlace.{targets_rise}
use Rattle.taskfile.specs.TargetLaws.{targets_fall, targets_on, targets_done}
use native.Mathlib.Omega.{arith}
use Rattle.diagram.proofs.targets_rise.Goals as goal

pub returns-then-level_of-v : goal.returns-then-level_of-v
returns-then-level_of-v c =
    let l = c.loop in
    sym (l.invariant.1 ∙ targets_fall _ _ _ _ _ (omega arith) (omega (arith, c.level_of.ensures, c.if-level_of-v.true)))

pub loop-preserved : goal.loop-preserved
loop-preserved c =
    let l = c.loop in
    let less : c.args.count - l.counter - 1 ≡ c.args.count - (l.counter + 1) = omega arith in (
      omega arith,
      l.invariant.1 ∙ targets_on _ _ _ _ _ (omega arith) (omega (arith, c.level_of.ensures, c.if-level_of-v.false)) ∙ ap (λ k. targets_rise c.args.file.now c.args.levels.now c.args.v k (l.at + 3)) less,
    )

pub returns : goal.returns
returns c = sym (c.loop.invariant.1 ∙ targets_done _ _ _ _ _ (omega arith))
