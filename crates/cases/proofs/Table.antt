-- Document 01's table of refusals, and document 02's rows, row by row, in their order and with their words: each number is given exactly if its condition holds and no earlier
-- one does, at the place that the row gives. A site is come to if the file is accepted up to it (specs/Sites.antt, specs/TaskSites.antt); what an
-- accepted field is, `accepted_field` says, and what accepted parts are, `head_read`, `operator_read` and `diagram_read` of the crates below. What a row
-- says of files, lists, states and estimates is defined in specs/Table.antt.
use Rattle.std.specs.Prelude.{◌≡◌, refl, ◌↔◌, ◌⊎◌, ℕ, ◌≤◌, ◌<◌, List, length}
use Rattle.std.proofs.Common.{inl, inr, arith}
use Rattle.facts.specs.Read.{Read, accepted, refused}
use Rattle.facts.specs.ReadLaws.{not_made}
use Rattle.estimate.specs.Number.{Number}
use Rattle.estimate.specs.Additive.{estimate_file}
use Rattle.facts.specs.Lists.{At}
use Rattle.taskfile.specs.Task.{Action, Task}
use Rattle.taskfile.specs.TaskFile.{read_task, check_task, cost_task, run_task}
use Rattle.probefile.specs.Probe.{Probe, ProbePlan}
use Rattle.probefile.specs.ProbeFile.{read_probe, check_probe, write_probe, run_probe}
use Rattle.probe_estimate.specs.Estimate.{probe_estimate, estimate_probe}
use Rattle.relaxation.specs.Estimate.{estimate}
use Rattle.relaxation.specs.EstimateTask.{estimate_task}
use Rattle.relaxation.specs.Relaxed.{RelaxedInside}
use Rattle.relaxation.specs.RelaxedTask.{relaxed_task}
use Rattle.compilation.specs.Compile.{probe_of}
use Rattle.compilation.specs.CompileFile.{compile_file}
use Rattle.carry.specs.CarryFile.{expanded, contracted, answer_in}
use Rattle.cases.specs.Sites.{falling}
use Rattle.cases.proofs.TaskSiteLaws.{task_faults, probe_faults}
use Rattle.cases.specs.FileRows.{Ends, Trailing, Wrong, ends_row, trailing_row, wrong_row, rules_row}
use Rattle.cases.specs.ListRows.{System, Missing, Blocked, Unmet, ListFault}
use Rattle.cases.proofs.ListRows.{list_numbers, long_row, blocked_row, unmet_row, missing_row}
use Rattle.cases.specs.StartRows.{Over}
use Rattle.cases.proofs.Numbers.{not_task, not_probe, not_seven, numbers_of_lists}
use Rattle.cases.specs.OperationRows.{after_file, either, file_alone, Short, task_system, probe_system, Overfull, compile_room, answer_room}
use Rattle.cases.proofs.OperationRows.{run_task_lem, run_probe_lem, expand_list, contract_list}
use Rattle.cases.specs.StateRows.{Beyond, NoSet, AskFault, Outside, Stray, estimate_row, cost_row, action_row, state_row, wrong_length_row, bad_row, state_numbers, ask_numbers}
use Rattle.cases.specs.LackingRows.{LowestLacking}
use Rattle.cases.proofs.LackingRows.{relaxed_row, asking_row, lacking_row}
use Rattle.cases.specs.Table.{InFiles, InLists, InStates, InEstimates}

-- ---- what a row says

-- a refusal of contracting other than 8, in other words
not_full : (f list : List ℕ) {n p : ℕ} (condition : Task → Type 0) → (n ≡ 8 → ⊥) → ((t : Task) → ListFault 6656 (probe_system (probe_of t)) list n p ↔ condition t)
    → (t : Task) → (ListFault 6656 (probe_system (probe_of t)) list n p ⊎ Overfull f list n p t) ↔ condition t
not_full f list condition never same t = (λ d. elim d [ inl e ↦ (same t).0 e | inr o ↦ absurd (never o.0) ], λ c. inl ((same t).1 c))

-- of a refusal of lists other than 8, in other words, all that the row says
in_lists : (n : ℕ) (condition : System → List ℕ → List ℕ → ℕ → Type 0) → 9 ≤ n → ((most : ℕ) (y : System) (list : List ℕ) (p : ℕ) → ListFault most y list n p ↔ ((length list ≤ most) × condition y list y.init p))
    → InLists n condition
in_lists n condition l row = record {
  running = λ f list p. after_file (not_task f (omega arith)) (λ t. row 256 (task_system t) list p) (run_task_lem f list n p);
  running_probe = λ f list p. after_file (not_probe f (omega arith)) (λ y. row 6656 (probe_system y) list p) (run_probe_lem f list n p);
  expanding = λ f list p. after_file (not_task f (omega arith)) (λ t. row 256 (task_system t) list p) (expand_list f list n p);
  contracting = λ f list p. after_file (not_task f (omega arith)) (not_full f list _ (λ e. omega arith) (λ t. row 6656 (probe_system (probe_of t)) list p)) (contract_list f list n p);
}

-- of an action number and a state, whatever is wrong with a variable of it, all that the row says
in_states : (n : ℕ) (condition : Task → ℕ → List ℕ → ℕ → Type 0) → 7 ≤ n → n ≤ 12
    → ((Bad : ℕ → ℕ → Type 0) (t : Task) (a : ℕ) (s : List ℕ) (p : ℕ) → AskFault Bad t a s n p ↔ condition t a s p) → InStates n condition
in_states n condition l m row = record {
  costing = λ f a s p. after_file (not_task f l) (λ t. row Beyond t a s p) (cost_row f a s n p);
  relaxed_costing = λ f a sets p. after_file (not_task f l) (λ t. row NoSet t a sets p) (asking_row f a sets n p (λ e. omega arith));
}

-- of any kind of file that has no 12
in_estimates : {X : Type 0} (sizes : X → List ℕ) (estimate : X → List ℕ → Number) (read : List ℕ → Read X) → ((f : List ℕ) (p : ℕ) → read f ≡ refused 12 p → ⊥)
    → InEstimates sizes read (λ f s. estimate_file sizes estimate (read f) s)
in_estimates sizes estimate read never = record {
  row_4 = λ f s p. either (λ x. bad_row p) (estimate_row sizes estimate (read f) s 4 p);
  row_12 = λ f s p. after_file (never f p) (λ x. wrong_length_row p) (estimate_row sizes estimate (read f) s 12 p);
  file_first = λ f s n p l d. file_alone (λ x c. elim (state_numbers {n = n} c) [ inl e ↦ d e | inr e ↦ omega arith ]) (estimate_row sizes estimate (read f) s n p);
}

-- 7, in other words
needed : {room length p : ℕ} → Short room length 7 p ↔ ((room < length) × (p ≡ length))
needed = (λ c. (c.1, c.2), λ c. (refl, c.0, c.1))

-- ---- the rows

-- 1, "file ends before or inside a field": at the "field's first byte".
pub row_1 : InFiles 1 Ends
row_1 f p = (ends_row (task_faults f) p, ends_row (probe_faults f) p)

-- 2, "bytes after the last field".
pub row_2 : InFiles 2 Trailing
row_2 f p = (trailing_row (task_faults f) p, trailing_row (probe_faults f) p)

-- 3, 4 and 5
wrong_rows : (n : ℕ) → 3 ≤ n → n ≤ 5 → InFiles n (λ f come. Wrong f come n)
wrong_rows n l u f p = (wrong_row (task_faults f) n p l u, wrong_row (probe_faults f) n p l u)

-- 3, "a count or domain size outside its range, or nodes past 64".
pub row_3 : InFiles 3 (λ f come. Wrong f come 3)
row_3 = wrong_rows 3 (omega arith) (omega arith)

-- 4, "value outside its domain".
pub row_4 : InFiles 4 (λ f come. Wrong f come 4)
row_4 = wrong_rows 4 (omega arith) (omega arith)

-- 4, of a state: at the variable's number. The file may have it too.
pub row_4_cost : (f : List ℕ) (a : ℕ) (s : List ℕ) (p : ℕ) → (cost_task f a s ≡ refused 4 p)
    ↔ ((read_task f ≡ refused 4 p) ⊎ ((t : Task) × (read_task f ≡ accepted t) × ((a < length t.actions) × ((length s ≡ length t.sizes) × Outside t.sizes s p))))
row_4_cost f a s p = either (λ t. state_row (λ e. omega arith) (bad_row p)) (cost_row f a s 4 p)

-- 4, "relaxed set empty or with a stray bit".
pub row_4_relaxed : (f : List ℕ) (a : ℕ) (sets : List ℕ) (p : ℕ) → (relaxed_task f a sets ≡ refused 4 p)
    ↔ ((read_task f ≡ refused 4 p) ⊎ ((t : Task) × (read_task f ≡ accepted t) × ((a < length t.actions) × ((length sets ≡ length t.sizes) × Stray t.sizes sets p))))
row_4_relaxed f a sets p = either (λ t. state_row (λ e. omega arith) (bad_row p)) (asking_row f a sets 4 p (λ e. omega arith))

-- 4 and 12, of the state that an estimate is from; the file comes first.
pub rows_of_task_estimates : InEstimates (λ t. t.sizes) read_task estimate_task
rows_of_task_estimates = in_estimates (λ t. t.sizes) estimate read_task (λ f p. not_task f (omega arith))

pub rows_of_estimates : InEstimates (λ y. y.sizes) read_probe estimate_probe
rows_of_estimates = in_estimates (λ y. y.sizes) probe_estimate read_probe (λ f p. not_probe f (omega arith))

-- 5, "map bit for no variable".
pub row_5 : InFiles 5 (λ f come. Wrong f come 5)
row_5 = wrong_rows 5 (omega arith) (omega arith)

-- 6, "node variable or target against the rules": also "once its action's nodes are read, at the first bad target byte".
pub row_6 : InFiles 6 (λ f come p. Wrong f come 6 p ⊎ come falling p)
row_6 f p = (rules_row (task_faults f) p, rules_row (probe_faults f) p)

-- 7, "output buffer shorter than the result": the place is the "length needed".
pub row_7_compile : (f : List ℕ) (room p : ℕ)
    → (compile_file f room ≡ refused 7 p) ↔ ((t : Task) × (read_task f ≡ accepted t) × ((room < length (write_probe (probe_of t))) × (p ≡ length (write_probe (probe_of t)))))
row_7_compile f room p = after_file (not_task f (omega arith)) (λ t. needed) (compile_room f room 7 p)

pub row_7_expanding : (f list : List ℕ) (room p : ℕ)
    → (answer_in room (expanded f list) ≡ refused 7 p) ↔ ((c : List ℕ × ℕ) × (expanded f list ≡ accepted c) × ((room < length c.0) × (p ≡ length c.0)))
row_7_expanding f list room p = after_file (λ h. not_seven ((numbers_of_lists f list 7 p).2 h)) (λ c. needed) (answer_room room (expanded f list) 7 p)

pub row_7_contracting : (f list : List ℕ) (room p : ℕ)
    → (answer_in room (contracted f list) ≡ refused 7 p) ↔ ((c : List ℕ × ℕ) × (contracted f list ≡ accepted c) × ((room < length c.0) × (p ≡ length c.0)))
row_7_contracting f list room p = after_file (λ h. not_seven ((numbers_of_lists f list 7 p).3 h)) (λ c. needed) (answer_room room (contracted f list) 7 p)

-- 8, "list over its limit": the place is "the limit".
pub row_8_running : (f list : List ℕ) (p : ℕ) → (run_task f list ≡ refused 8 p) ↔ ((t : Task) × (read_task f ≡ accepted t) × ((256 < length list) × (p ≡ 256)))
row_8_running f list p = after_file (not_task f (omega arith)) (λ t. long_row p) (run_task_lem f list 8 p)

pub row_8_running_probe : (f list : List ℕ) (p : ℕ) → (run_probe f list ≡ refused 8 p) ↔ ((y : Probe) × (read_probe f ≡ accepted y) × ((6656 < length list) × (p ≡ 6656)))
row_8_running_probe f list p = after_file (not_probe f (omega arith)) (λ y. long_row p) (run_probe_lem f list 8 p)

pub row_8_expanding : (f list : List ℕ) (p : ℕ) → (expanded f list ≡ refused 8 p) ↔ ((t : Task) × (read_task f ≡ accepted t) × ((256 < length list) × (p ≡ 256)))
row_8_expanding f list p = after_file (not_task f (omega arith)) (λ t. long_row p) (expand_list f list 8 p)

-- 8 in contracting: also, for a plan, "if over 256 actions would come out: the place is the 257th start's index".
pub row_8_contracting : (f list : List ℕ) (p : ℕ) → (contracted f list ≡ refused 8 p)
    ↔ ((t : Task) × (read_task f ≡ accepted t) × (((6656 < length list) × (p ≡ 6656)) ⊎ ((length list ≤ 6656) × (sum : ℕ) × ProbePlan (probe_of t) list sum × Over t.actions 256 list p)))
row_8_contracting f list p = after_file (not_task f (omega arith)) (λ t. (
  λ d. elim d [ inl e ↦ inl ((long_row p).0 e) | inr o ↦ inr (o.1, o.2, o.3, o.4) ],
  λ c. elim c [ inl e ↦ inl ((long_row p).1 e) | inr o ↦ inr (refl, o.0, o.1, o.2, o.3) ],
)) (contract_list f list 8 p)

-- 9, "step does not apply": at the step's index. Its precondition does not hold there (`action_blocked`, `step_blocked`).
pub row_9 : InLists 9 Blocked
row_9 = in_lists 9 Blocked (omega arith) (λ most y list p. blocked_row p)

-- 10, "goal not met at the end": the place is the "list length".
pub row_10 : InLists 10 Unmet
row_10 = in_lists 10 Unmet (omega arith) (λ most y list p. unmet_row p)

-- 11, "no such action or step": at the entry's index.
pub row_11 : InLists 11 Missing
row_11 = in_lists 11 Missing (omega arith) (λ most y list p. missing_row p)

-- 11, of an action number: "0 for an action number".
pub row_11_states : InStates 11 (λ t a s p. (length t.actions ≤ a) × (p ≡ 0))
row_11_states = in_states 11 _ (omega arith) (omega arith) (λ Bad t a s p. action_row p)

-- 12, "state's length is not the variable count": the place is 0. For an estimate, rows-of-estimates.
pub row_12_states : InStates 12 (λ t a s p. (a < length t.actions) × ((length s ≡ length t.sizes → ⊥) × (p ≡ 0)))
row_12_states = in_states 12 _ (omega arith) (omega arith) (λ Bad t a s p. state_row (λ e. omega arith) (wrong_length_row p))

-- 17, of document 02, "where a set lacks a precondition value": "at the lowest such variable, after 4".
pub row_17 : (f : List ℕ) (a : ℕ) (sets : List ℕ) (p : ℕ) → (relaxed_task f a sets ≡ refused 17 p)
    ↔ ((t : Task) × (read_task f ≡ accepted t) × ((x : Action) × At t.actions a x × RelaxedInside t.sizes sets × LowestLacking x.pre sets p))
row_17 f a sets p = after_file (not_task f (omega arith)) (λ t. lacking_row) (relaxed_row f a sets 17 p)

-- ---- the file comes first: an operation gives 1 to 6 exactly if its file has them, but for the 4 of a state

pub files_first : (f list : List ℕ) (n p : ℕ) → n ≤ 6 → ((run_task f list ≡ refused n p) ↔ (read_task f ≡ refused n p)) × ((run_probe f list ≡ refused n p) ↔ (read_probe f ≡ refused n p))
    × ((expanded f list ≡ refused n p) ↔ (read_task f ≡ refused n p)) × ((contracted f list ≡ refused n p) ↔ (read_task f ≡ refused n p))
files_first f list n p l = (
  file_alone (λ t d. let u = list_numbers d in omega arith) (run_task_lem f list n p),
  file_alone (λ y d. let u = list_numbers d in omega arith) (run_probe_lem f list n p),
  file_alone (λ t d. let u = list_numbers d in omega arith) (expand_list f list n p),
  file_alone (λ t d. elim d [ inl e ↦ let u = list_numbers e in omega arith | inr o ↦ let e = o.0 in omega arith ]) (contract_list f list n p),
)

pub file_first_compiling : (f : List ℕ) (room n p : ℕ) → n ≤ 6 → (compile_file f room ≡ refused n p) ↔ (read_task f ≡ refused n p)
file_first_compiling f room n p l = file_alone (λ t c. let e = c.0 in omega arith) (compile_room f room n p)

pub file_first_costing : (f : List ℕ) (a : ℕ) (s : List ℕ) (n p : ℕ) → n ≤ 6 → (n ≡ 4 → ⊥)
    → ((cost_task f a s ≡ refused n p) ↔ (read_task f ≡ refused n p)) × ((relaxed_task f a s ≡ refused n p) ↔ (read_task f ≡ refused n p))
file_first_costing f a s n p l d = (file_alone (λ t. never) (cost_row f a s n p), file_alone (λ t. never) (asking_row f a s n p (λ e. omega arith)))
  where
    never : {Bad : ℕ → ℕ → Type 0} {t : Task} → AskFault Bad t a s n p → ⊥
    never c = elim (ask_numbers {n = n} c) [ inl e ↦ d e | inr u ↦ omega arith ]

-- Checking a file is refused as the file is.
pub checking : (f : List ℕ) (n p : ℕ) → ((check_task f ≡ refused n p) ↔ (read_task f ≡ refused n p)) × ((check_probe f ≡ refused n p) ↔ (read_probe f ≡ refused n p))
unfolding check_task check_probe
checking f n p = ((not_made _ (read_task f), λ e. rw e), (not_made _ (read_probe f), λ e. rw e))

-- 7 comes last: any other refusal is that of the list.
pub seven_last : (room : ℕ) (carried : Read (List ℕ × ℕ)) (n p : ℕ) → (n ≡ 7 → ⊥) → (answer_in room carried ≡ refused n p) ↔ (carried ≡ refused n p)
seven_last room carried n p d = file_alone (λ c s. d s.0) (answer_room room carried n p)
