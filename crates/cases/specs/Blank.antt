-- Document 02's W1, sentence by sentence, and the answers of every operation on the blank task, as one checked list. Each is about the definitions that the contracts of the operations cite.
use Rattle.std.specs.Prelude.{◌≡◌, refl, ◌↔◌, true, ℕ, ◌≤◌, ◌<◌, List, [], ◌∷◌, length}
use Rattle.std.proofs.Common.{sym, ap, ◌∙◌, arith, drop_of_length-le, le-ltb}
use Rattle.std.proofs.lemmas.Bool.{lt-leb}
use Rattle.facts.specs.Read.{accepted, refused}
use Rattle.facts.specs.Bytes.{number_at}
use Rattle.facts.specs.Partial.{Partial, empty, holds}
use Rattle.facts.specs.Write.{over, length_in}
use Rattle.facts.specs.WriteLaws.{length_in_lem, written_in_lem}
use Rattle.facts.specs.Fields.{read_number, field, read_count, read_head}
use Rattle.facts.specs.Run.{Move, blocked, run_from, at_most, Reaches, ends, steps}
use Rattle.facts.specs.RunLaws.{not_blocked, list_long, list_fits}
use Rattle.estimate.specs.Number.{exact}
use Rattle.taskfile.specs.Task.{Task, Plan, task_sum, task_passed, task_run, action_move}
use Rattle.taskfile.specs.TaskFile.{read_bytes, blank, read_task, check_task, action_of, ask_task, cost_task, run_task}
use Rattle.taskfile.specs.Examples.{lone_byte_01}
use Rattle.taskfile.specs.BlankLaws.{blank_read, others_read, no_actions}
use Rattle.relaxation.specs.RelaxedTask.{relaxed_task}
use Rattle.relaxation.specs.EstimateTask.{estimate_task}
use Rattle.relaxation.specs.FileExamples.{estimate_blank}
use Rattle.probefile.specs.Probe.{ProbePlan, step_move, probe_sum}
use Rattle.probefile.specs.ProbeFile.{read_probe, check_probe}
use Rattle.compilation.specs.Compile.{probe_of, steps_of}
use Rattle.compilation.proofs.CompiledLaws.{compiled_reads}
use Rattle.compilation.specs.CompileFile.{probe_file_of, compile_file, compiled_buffer}
use Rattle.compilation.specs.CompileFileLaws.{file_of_lem}
use Rattle.compilation.specs.Examples.{blank_probe, blank_compiled, blank_file, blank_written}
use Rattle.plans.specs.Carry.{expand, contract}
use Rattle.carry.specs.CarryFile.{expanded, contracted}
use Rattle.carry.specs.SameSum.{WrittenFile, AcrossAndBack}
use Rattle.carry.proofs.SameSum.{same_sum, across_and_back}

-- what a list of at least one number, within the limit, is refused by
abbrev NoSuch : ℕ → (List ℕ → Type 0) → Type 0
NoSuch most refuses = (a : ℕ) (list : List ℕ) → length list < most → refuses (a ∷ list)

pub record BlankTask : Type 0 where
  -- "A task file of zero bytes shall now mean the blank task: one variable of 2 values at 0, an empty goal, no actions."
  pub means : read_task [] ≡ accepted (record { sizes = 2 ∷ []; init = 0 ∷ []; goal = empty; actions = [] })
  pub checks : check_task [] ≡ accepted tt
  -- "Its probe file has 16 bytes, two variables and no steps"
  pub compiles : (room : ℕ) → 16 ≤ room → compile_file [] room ≡ accepted 16
  pub short : (room : ℕ) → room < 16 → compile_file [] room ≡ refused 7 16
  pub written : (out : List ℕ) → length out ≡ 16 → compiled_buffer [] out ≡ blank_file
  pub accepts : read_probe blank_file ≡ accepted (record { sizes = 2 ∷ 2 ∷ []; init = 0 ∷ 0 ∷ []; goal = record { map = 2; values = 0 ∷ [] }; steps = [] })
  -- "and its one plan is the empty list."
  pub plans : (list : List ℕ) (c : ℕ) → Plan blank list c ↔ ((list ≡ []) × (c ≡ 0))
  pub probe_plans : (list : List ℕ) (c : ℕ) → ProbePlan blank_probe list c ↔ ((list ≡ []) × (c ≡ 0))
  -- "Nothing else with zero actions becomes legal."; every other file is read as it was
  pub only : (f : List ℕ) (t : Task) → read_task f ≡ accepted t → t.actions ≡ [] → f ≡ []
  pub others : (f : List ℕ) → 1 ≤ length f → read_task f ≡ read_bytes f
  -- "An empty probe file is still turned down by 1 at 0."
  pub empty_probe : check_probe [] ≡ refused 1 0
  -- "the lone byte 01, refused at place 1"
  pub lone_byte : check_task (1 ∷ []) ≡ refused 1 1
  -- "Blank tasks join the sum guarantee."
  pub sums : WrittenFile [] blank
  pub across : AcrossAndBack []
  -- lists: the empty one has the sum 0 and is carried to itself
  pub runs : run_task [] [] ≡ accepted (record { cost = 0; passed = 0 })
  pub expands : expanded [] [] ≡ accepted ([], 0)
  pub contracts : contracted [] [] ≡ accepted ([], 0)
  -- any other is 11 at 0, or 8 over its limit
  pub no_run : NoSuch 256 (λ list. run_task [] list ≡ refused 11 0)
  pub no_expansion : NoSuch 256 (λ list. expanded [] list ≡ refused 11 0)
  pub no_contraction : NoSuch 6656 (λ list. contracted [] list ≡ refused 11 0)
  pub long_run : (list : List ℕ) → 256 < length list → (run_task [] list ≡ refused 8 256) × (expanded [] list ≡ refused 8 256)
  pub long_contraction : (list : List ℕ) → 6656 < length list → contracted [] list ≡ refused 8 6656
  -- there is no action to be costed
  pub costs : (a : ℕ) (s : List ℕ) → (cost_task [] a s ≡ refused 11 0) × (relaxed_task [] a s ≡ refused 11 0)
  -- the goal holds in both states
  pub estimates : (estimate_task [] (0 ∷ []) ≡ accepted (exact 0)) × (estimate_task [] (1 ∷ []) ≡ accepted (exact 0))

-- ---- the list, checked

-- where nothing applies and the goal holds, the empty list is the one plan
module _ {move : ℕ → List ℕ → Move} {goal : Partial} {s : List ℕ} (still : (a : ℕ) → move a s ≡ blocked) (met : holds goal s ≡ true) where
  nothing_else : {sum : ℕ} {list : List ℕ} {c : ℕ} → Reaches move goal sum list s c → (list ≡ []) × (c ≡ sum)
  nothing_else (ends h) = (refl, refl)
  nothing_else (steps {a = a} m r) = absurd (not_blocked (sym (still a) ∙ m))

  one_plan : (list : List ℕ) (c : ℕ) → Reaches move goal 0 list s c ↔ ((list ≡ []) × (c ≡ 0))
  one_plan list c = (nothing_else, λ e. rw (e.0, e.1) (ends met))

blank_plans : (list : List ℕ) (c : ℕ) → Plan blank list c ↔ ((list ≡ []) × (c ≡ 0))
unfolding action_move
blank_plans = one_plan (λ a. refl) refl

blank_probe_plans : (list : List ℕ) (c : ℕ) → ProbePlan blank_probe list c ↔ ((list ≡ []) × (c ≡ 0))
unfolding step_move
blank_probe_plans = one_plan (λ a. refl) refl

no_run : NoSuch 256 (λ list. run_task [] list ≡ refused 11 0)
unfolding run_task read_task task_run task_sum run_from
no_run a list l = rw (list_fits 256 (a ∷ list) (omega arith), le-ltb a 0 (omega arith))

no_expansion : NoSuch 256 (λ list. expanded [] list ≡ refused 11 0)
unfolding expanded read_task task_sum run_from
no_expansion a list l = rw (list_fits 256 (a ∷ list) (omega arith), le-ltb a 0 (omega arith))

no_contraction : NoSuch 6656 (λ list. contracted [] list ≡ refused 11 0)
unfolding contracted read_task probe_of steps_of probe_sum run_from
no_contraction a list l = rw (list_fits 6656 (a ∷ list) (omega arith), le-ltb a 0 (omega arith))

long_run : (list : List ℕ) → 256 < length list → (run_task [] list ≡ refused 8 256) × (expanded [] list ≡ refused 8 256)
unfolding run_task expanded read_task
long_run list l = rw (list_long 256 list l) (refl, refl)

long_contraction : (list : List ℕ) → 6656 < length list → contracted [] list ≡ refused 8 6656
unfolding contracted read_task
long_contraction list l = rw (list_long 6656 list l)

no_costs : (a : ℕ) (s : List ℕ) → (cost_task [] a s ≡ refused 11 0) × (relaxed_task [] a s ≡ refused 11 0)
unfolding ask_task read_task action_of relaxed_task
no_costs a s = (refl, refl)

empty_runs : (run_task [] [] ≡ accepted (record { cost = 0; passed = 0 })) × (expanded [] [] ≡ accepted ([], 0)) × (contracted [] [] ≡ accepted ([], 0))
unfolding run_task expanded contracted read_task task_run task_sum task_passed run_from probe_of steps_of probe_sum at_most expand contract
empty_runs = (refl, refl, refl)

-- its probe file, by the law for every task
file : probe_file_of [] ≡ accepted blank_file
file = rw blank_written at (file_of_lem [] blank_read)

too_short : (room : ℕ) → room < 16 → compile_file [] room ≡ refused 7 16
unfolding length_in
too_short room l = rw (file, lt-leb 16 room l)

filled : (out : List ℕ) → length out ≡ 16 → compiled_buffer [] out ≡ blank_file
unfolding over
filled out e = rw (written_in_lem file out (omega (arith, e)), drop_of_length-le out {i = 16} (omega (arith, e)))

reads : read_probe blank_file ≡ accepted blank_probe
reads = ap read_probe (sym blank_written) ∙ compiled_reads [] tt blank_read ∙ ap accepted blank_compiled

checked : check_task [] ≡ accepted tt
unfolding check_task read_task
checked = refl

no_probe : check_probe [] ≡ refused 1 0
unfolding check_probe read_probe read_head read_count field read_number number_at
no_probe = refl

pub blank_task : BlankTask
blank_task = record {
  means = blank_read;
  checks = checked;
  compiles = λ room l. length_in_lem file l;
  short = too_short;
  written = filled;
  accepts = reads;
  plans = blank_plans;
  probe_plans = blank_probe_plans;
  only = λ f t h none. no_actions f h none;
  others = others_read;
  empty_probe = no_probe;
  lone_byte = lone_byte_01;
  sums = same_sum [] tt blank blank_read;
  across = across_and_back [];
  runs = empty_runs.0;
  expands = empty_runs.1;
  contracts = empty_runs.2;
  no_run = no_run;
  no_expansion = no_expansion;
  no_contraction = no_contraction;
  long_run = long_run;
  long_contraction = long_contraction;
  costs = no_costs;
  estimates = estimate_blank;
}
