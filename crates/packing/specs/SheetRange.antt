-- How large the answer of a plan's sheet can be, for every file, list and buffer, and which numbers its refusals have.
use Rattle.std.specs.Prelude.{◌≡◌, ◌⊎◌, ℕ, ◌≤◌, List}
use Rattle.std.proofs.Common.{sym, ap, ◌∙◌, subst, inl, inr, arith}
use Rattle.facts.specs.Read.{refused, with_value}
use Rattle.facts.specs.ReadLaws.{not_made}
use Rattle.facts.specs.Bytes.{Bytes}
use Rattle.taskfile.specs.Task.{Walk}
use Rattle.taskfile.specs.TaskFile.{run_task}
use Rattle.probefile.specs.Probe.{max_list as maxProbeList}
use Rattle.carry.specs.CarryFile.{answer_in}
use Rattle.sheet.specs.SheetFile.{sheet_of}
use Rattle.sheet.specs.FileLaws.{most_sheet, as_in_a_run, sheet_most}
use Rattle.cases.specs.PlaceLaws.{Within, made_within, of_made, more_within}
use Rattle.cases.specs.OperationRows.{by_given, answer_room}
use Rattle.cases.specs.Numbers.{OfLists}
use Rattle.cases.proofs.Numbers.{numbers_of_lists}
use Rattle.cases.specs.Ranges.{most_of_task, Written, answer_range}
use Rattle.cases.proofs.Ranges.{run_task_range}

pub sheet_range : (f : List ℕ) → Bytes f → (list : List ℕ) (room : ℕ) → Within (Written most_sheet most_of_task) maxProbeList (answer_in room (sheet_of f list))
sheet_range f bytes list room =
    let run : Within (λ sum. sum ≤ most_of_task) maxProbeList (with_value (λ (w : Walk). w.cost) (run_task f list)) = made_within _ (more_within (run_task_range f bytes list) (omega arith)) (λ w h g. g.1) in
    answer_range room (omega arith) (of_made (λ (c : List ℕ × ℕ). c.1) (sheet_of f list) (subst (Within (λ sum. sum ≤ most_of_task) maxProbeList) (sym (as_in_a_run f list)) run) (λ c h g. (sheet_most f list bytes h, g)))

pub numbers_of_sheets : (f list : List ℕ) (room n p : ℕ) → answer_in room (sheet_of f list) ≡ refused n p → OfLists n ⊎ (n ≡ 7)
numbers_of_sheets f list room n p h =
    by_given (λ e. inl ((numbers_of_lists f list n p).0 (not_made (λ (w : Walk). w.cost) (run_task f list) (sym (as_in_a_run f list) ∙ ap (with_value (λ (c : List ℕ × ℕ). c.1)) e)))) (λ c s. inr s.0) ((answer_room room (sheet_of f list) n p).0 h)
