-- `task_relaxed::relaxed::met_at` meets its contract: the pass goes over the narrowed copy, which is a relaxed state of the action.
use Prim.Native.Nat.{ℕ}
use mathlib.Core.Path.{◌≡◌, sym, ap, ◌∙◌}
use mathlib.Core.List.{List, ◌++◌}
use lib.ListN.{length, take, drop, replicate}
use lib.Seq.{length-take-le, take_at}
use Rattle.facts.specs.AnswerLaws.{handed}
use Rattle.facts.specs.Read.{Read, accepted}
use Rattle.facts.specs.Partial.{partial_at}
use Rattle.taskfile.specs.Task.{max_variables}
use Rattle.taskfile.specs.PartsInPlace.{action_in}
use Rattle.relaxation.specs.RelaxedTask.{check_meets}
use Rattle.relaxation.specs.Narrowing.{narrowed}
use Rattle.relaxation.specs.NarrowingLaws.{length_narrowed}
use Rattle.relaxation.specs.RelaxedTaskLaws.{none_empty, in_lacking}
use Rattle.relaxation.proofs.RelaxedTaskLaws.{copy_relaxable, copy_cost}
use Rattle.task_relaxed.proofs.relaxed.met_at.Goals as goal
use Rattle.task_relaxed.proofs.relaxed.met_at.Goals.{In_ok-narrow, Start}

-- a copy of zeros
abbrev zeros : List ℕ
zeros = replicate max_variables 0

-- after narrowing: the copy
ok : (c : goal.In_ok-narrow) → check_meets (partial_at c.args.file.now c.args.at) c.args.sets.now ≡ accepted tt
ok c = sym c.in_ok-narrow.ensures.result_value

copied : (c : goal.In_ok-narrow) → c.narrow.new.copy ≡ narrowed (partial_at c.args.file.now c.args.at) c.args.sets.now
copied c = c.in_ok-narrow.ensures.narrows (ok c)

long : (c : goal.In_ok-narrow) → length c.narrow.new.copy ≡ length c.args.sets.now
long c = ap length (copied c) ∙ length_narrowed 0 (partial_at c.args.file.now c.args.at) c.args.sets.now

copy_is : (c : goal.In_ok-narrow) → take (length c.args.sets.now) (c.narrow.new.copy ++ drop (length c.args.sets.now) zeros) ≡ narrowed (partial_at c.args.file.now c.args.at) c.args.sets.now
copy_is c = take_at c.narrow.new.copy (drop (length c.args.sets.now) zeros) (length c.args.sets.now) (long c) ∙ copied c

pub narrow-requires : goal.narrow-requires
narrow-requires c = (none_empty c.requires.0, length-take-le (length c.args.sets.now) zeros c.requires.1)

pub relaxed_at-requires : goal.relaxed_at-requires
relaxed_at-requires c = copy_relaxable c.requires.0 (ok (goal.at.relaxed_at-requires c).In_ok-narrow) (copy_is (goal.at.relaxed_at-requires c).In_ok-narrow)

pub returns-in_err-narrow : goal.returns-in_err-narrow
returns-in_err-narrow c = handed _ _ c.from_residual.ensures.1 ∙ sym (in_lacking (action_in c.args.file.now c.args.sizes.now c.args.at c.args.nodes.now) c.args.sets.now (sym c.in_err-narrow.ensures.result_value))

pub returns : goal.returns
returns c = ap {B = Read ℕ} accepted c.relaxed_at.ensures ∙ sym (copy_cost c.requires.0 (ok (goal.at.returns c).In_ok-narrow) (copy_is (goal.at.returns c).In_ok-narrow))
