-- What a relaxed cost that is given says, of every file, action number and relaxed state. Document 02, W5.
use Rattle.std.specs.Prelude.{◌≡◌, ℕ, List}
use Rattle.std.proofs.Common.{sym, ◌∙◌, arith}
use Rattle.facts.specs.Read.{accepted}
use Rattle.facts.specs.ReadLaws.{through}
use Rattle.facts.specs.Lists.{At}
use Rattle.taskfile.specs.TaskFile.{ask_task}
use Rattle.taskfile.proofs.TaskReadLaws.{task_wf, task_limits}
use Rattle.taskfile.specs.AnswerLaws.{ask_accepted}
use Rattle.relaxation.specs.Relaxed.{relaxed_cost}
use Rattle.relaxation.specs.RelaxedTask.{check_relaxed, check_meets, relaxed_in, relaxed_task}
use Rattle.relaxation.specs.NarrowingLaws.{relaxed_most}
use Rattle.relaxation.proofs.NarrowingLaws.{relaxed_had}
use Rattle.relaxation.proofs.UntestedLaws.{untested_same}
use Rattle.relaxation.specs.RelaxedTaskLaws.{small_sizes}
use Rattle.relaxation.proofs.RelaxedTaskLaws.{relaxed_inside}
use Rattle.relaxation.specs.GivenLaws.{RelaxedGiven}

pub relaxed_given : (f : List ℕ) (a : ℕ) (sets : List ℕ) {c : ℕ} → relaxed_task f a sets ≡ accepted c → RelaxedGiven f a sets c
unfolding relaxed_task relaxed_in
relaxed_given f a sets {c} h =
    let o = through (ask_task check_relaxed (λ x sets. x) f a sets) h in
    let x = o.got in
    let asked = ask_accepted check_relaxed (λ x sets. x) f a sets o.first in
    let u = through (check_meets x.pre sets) o.then in
    let is : relaxed_cost x sets ≡ c = let e = u.then in cc in
    let t = asked.task in
    let found : At t.actions a x = rw asked.is at asked.found in
    let wf = (task_wf f asked.reads).actions found in
    let small = small_sizes t.sizes (task_limits f asked.reads).sizes in
    let inside = relaxed_inside t.sizes sets asked.good in
    let had = relaxed_had wf small sets inside u.first in
    record {
      task = t;
      reads = asked.reads;
      action = x;
      there = found;
      most = λ s i applies. omega (arith, is, relaxed_most wf small sets inside s i applies);
      state = had.state;
      in_sets = had.in_sets;
      applies = had.applies;
      costs = had.costs ∙ is;
      unmoved = λ untested. sym is ∙ untested_same wf small sets inside u.first untested;
    }
