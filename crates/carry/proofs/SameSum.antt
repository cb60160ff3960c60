-- Demand 3 as one theorem over files, `same_sum`, and demand 2's sentence on plans carried across and back, `across_and_back`. What they say, with each sentence of a
-- demand quoted, is in specs/SameSum.antt.
use Rattle.std.specs.Prelude.{◌≡◌, ℕ, ◌≤◌, List, length, take}
use Rattle.std.proofs.Common.{sym, ap, subst, ◌∙◌}
use Rattle.facts.specs.Read.{Read, accepted}
use Rattle.facts.specs.Bytes.{Bytes}
use Rattle.taskfile.specs.Task.{Task, max_list}
use Rattle.taskfile.specs.TaskFile.{read_task}
use Rattle.taskfile.proofs.TaskReadLaws.{task_wf}
use Rattle.probefile.specs.Probe.{Probe, ProbePlan}
use Rattle.probefile.specs.ProbeFile.{read_probe, write_probe}
use Rattle.compilation.specs.Compile.{probe_of}
use Rattle.compilation.proofs.CompiledLaws.{compiled_reads}
use Rattle.compilation.specs.CompileFile.{compile_file, compiled_buffer}
use Rattle.compilation.specs.CompileFileLaws.{compiled_from}
use Rattle.plans.specs.Carry.{contract}
use Rattle.plans.proofs.Plans.{carries}
use Rattle.carry.specs.CarryFile.{expanded, contracted}
use Rattle.carry.specs.SameSumLaws.{answer_in_lem, buffer_in_lem, answer_inv, compiled_bytes, compiled_answers, expanded_plan, contracted_plan}
use Rattle.carry.proofs.SameSumLaws.{expanded_back, contracted_back}
use Rattle.carry.specs.SameSum.{Returns, SameSum, WrittenFile, AcrossAndBack}

-- ---- the theorems, and their proofs

-- A list that is carried is returned.
returned : {carried : Read (List ℕ × ℕ)} {list : List ℕ} {c : ℕ} → carried ≡ accepted (list, c) → Returns carried list c
returned h out l = record { answer = answer_in_lem h l; buffer = buffer_in_lem h out l }

-- Demand 3: "The sum is the same on either side, for every accepted task and for plans of any length."
pub same_sum : (f : List ℕ) → Bytes f → (t : Task) → read_task f ≡ accepted t → WrittenFile f t
same_sum f bytes t h =
    let plans = carries t (task_wf f h) in
    record {
      p = probe_of t;
      written = λ out n e. ap read_probe (compiled_bytes f out h e) ∙ compiled_reads f bytes h;
      room = λ out l. (length (write_probe (probe_of t)), compiled_answers f h l);
      sums = record {
        expands = plans.expands;
        contracts = λ probe-list c q.
            let s = plans.contracts probe-list c q in
            record { list = contract t probe-list; plan = s.plan; comes = s.comes; only = s.only };
        within = plans.within;
        expanding = λ list c q few. returned (expanded_plan f h q few);
        contracting = λ list c q few. returned (contracted_plan f h q few);
      };
    }

-- The same from what compiling answers: a file for which it answers a length has a task.
pub same_sum_compiled : (f : List ℕ) → Bytes f → (out : List ℕ) {n : ℕ} → compile_file f (length out) ≡ accepted n
    → (t : Task) × (p : Probe) × (read_task f ≡ accepted t) × (read_probe (take n (compiled_buffer f out)) ≡ accepted p) × SameSum f t p
same_sum_compiled f bytes out {n} e =
    let a = compiled_from f out e in
    let w = same_sum f bytes a.t a.task in
    (a.t, w.p, a.task, w.written out n e, w.sums)

-- Demand 2: "A plan carried across and back is the plan it began as."
pub across_and_back : (f : List ℕ) → AcrossAndBack f
across_and_back f = record {
  source = λ list between out n c e l.
      let a = answer_inv (expanded f list) between e in
      returned (ap (contracted f) a.front ∙ expanded_back f list a.is) out l;
  probe = λ probe-list between out n c e l.
      let a = answer_inv (contracted f probe-list) between e in
      returned (ap (expanded f) a.front ∙ contracted_back f probe-list a.is) out l;
}

-- And of each probe plan that comes from at most 256 actions: contracting it returns its source plan, and expanding that returns the probe plan.
pub probe_carried : {f : List ℕ} {t : Task} {p : Probe} (s : SameSum f t p) (probe-list : List ℕ) (c : ℕ) (q : ProbePlan p probe-list c) → length (s.contracts probe-list c q).list ≤ max_list
    → Returns (contracted f probe-list) (s.contracts probe-list c q).list c × Returns (expanded f (s.contracts probe-list c q).list) probe-list c
probe_carried {f} {t} s probe-list c q few =
    let from = s.contracts probe-list c q in (
      subst (λ (z : List ℕ). Returns (contracted f z) from.list c) (sym from.comes) (s.contracting from.list c from.plan few),
      subst (λ (z : List ℕ). Returns (expanded f from.list) z c) (sym from.comes) (s.expanding from.list c from.plan few),
    )
