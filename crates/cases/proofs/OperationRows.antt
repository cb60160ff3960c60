-- Rows 8 to 11 of document 01's table, for the operations that give them: the law of each.
use Rattle.std.specs.Prelude.{◌≡◌, ◌↔◌, ◌⊎◌, ℕ, List, leb, length}
use Rattle.std.proofs.Math.Path.{sym}
use Rattle.std.proofs.Common.{◌∙◌}
use Rattle.std.proofs.Math.Logic.{inl, inr}
use borrow.Author.Tests.{leb-true}
use Rattle.facts.specs.Read.{Read, accepted, refused, check, ◌>>=◌}
use Rattle.facts.specs.ReadLaws.{through, checked, bind_assoc}
use Rattle.facts.specs.Run.{at_most}
use Rattle.facts.specs.RunLaws.{list_fits}
use Rattle.taskfile.specs.Task.{Task, task_sum}
use Rattle.taskfile.specs.TaskFile.{read_task, run_task}
use Rattle.probefile.specs.Probe.{probe_sum}
use Rattle.probefile.specs.ProbeLaws.{probe_plan}
use Rattle.probefile.specs.ProbeFile.{read_probe, run_probe}
use Rattle.compilation.specs.Compile.{probe_of}
use Rattle.plans.specs.Carry.{expand, contract}
use Rattle.carry.specs.CarryFile.{expanded, starts_at_most, contracted}
use Rattle.carry.specs.LongList.{refused_alike}
use Rattle.cases.specs.SiteLaws.{first, after, stops, stopped, unmade}
use Rattle.cases.specs.StartRows.{starts_row}
use Rattle.cases.specs.ListRows.{ListFault, list_sum}
use Rattle.cases.proofs.ListRows.{list_row}
use Rattle.cases.specs.OperationRows.{Given, given, task_system, probe_system, Overfull}

-- ---- lists

module _ (f list : List ℕ) (n p : ℕ) where
  pub run_probe_lem : (run_probe f list ≡ refused n p) ↔ Given (read_probe f) (λ y. ListFault 6656 (probe_system y) list n p) n p
  unfolding run_probe probe_sum
  run_probe_lem = given (read_probe f) _ _ n p (λ y. list_row (probe_system y) 6656 list n p)

  pub expand_list : (expanded f list ≡ refused n p) ↔ Given (read_task f) (λ t. ListFault 256 (task_system t) list n p) n p
  unfolding expanded task_sum
  expand_list = given (read_task f) _ _ n p (λ t.
      let sum = list_sum (task_system t) 256 list in
      let e = bind_assoc (at_most 256 list) (λ u. task_sum t list) (λ sum. accepted (expand t list, sum)) in
      let r = list_row (task_system t) 256 list n p in
      (λ h. r.0 (unmade sum _ (e ∙ h)), λ d. sym e ∙ stopped _ (r.1 d)))

  -- a run is refused where expanding is
  pub run_task_lem : (run_task f list ≡ refused n p) ↔ Given (read_task f) (λ t. ListFault 256 (task_system t) list n p) n p
  run_task_lem = let alike = refused_alike f list n p in (λ h. expand_list.0 (alike.0 h), λ d. alike.1 (expand_list.1 d))

  -- what follows the run, and the whole
  abbrev rest : Task → ℕ → Read (List ℕ × ℕ)
  rest t sum = ◌>>=◌ (starts_at_most t.actions 256 0 list) (λ u. accepted (contract t list, sum))

  abbrev whole : Task → Read (List ℕ × ℕ)
  whole t = ◌>>=◌ (at_most 6656 list) (λ u. ◌>>=◌ (probe_sum (probe_of t) list) (rest t))

  joined : (t : Task) → ◌>>=◌ (list_sum (probe_system (probe_of t)) 6656 list) (rest t) ≡ whole t
  unfolding probe_sum
  joined t = bind_assoc (at_most 6656 list) (λ u. probe_sum (probe_of t) list) (rest t)

  contract_found : (t : Task) → whole t ≡ refused n p → ListFault 6656 (probe_system (probe_of t)) list n p ⊎ Overfull f list n p t
  unfolding probe_sum at_most
  contract_found t h = elim (stops (list_sum (probe_system (probe_of t)) 6656 list) (joined t ∙ h)) [
    | first g ↦ inl ((list_row (probe_system (probe_of t)) 6656 list n p).0 g)
    | after sum a g ↦
        let o = through (check (leb (length list) 6656) 8 6656) a in
        let q = (starts_row t.actions 256 list n p).0 (unmade (starts_at_most t.actions 256 0 list) _ g) in
        inr (q.0, leb-true (length list) 6656 (checked (leb (length list) 6656) 8 6656 o.first), sum, (probe_plan (probe_of t) list sum).1 o.then, q.1)
  ]

  contract_answers : (t : Task) → ListFault 6656 (probe_system (probe_of t)) list n p ⊎ Overfull f list n p t → whole t ≡ refused n p
  contract_answers t (inl d) = sym (joined t) ∙ stopped (rest t) ((list_row (probe_system (probe_of t)) 6656 list n p).1 d)
  contract_answers t (inr o) = rw (list_fits 6656 list o.1, (probe_plan (probe_of t) list o.2).0 o.3, (starts_row t.actions 256 list n p).1 (o.0, o.4))

  pub contract_list : (contracted f list ≡ refused n p) ↔ Given (read_task f) (λ t. ListFault 6656 (probe_system (probe_of t)) list n p ⊎ Overfull f list n p t) n p
  unfolding contracted
  contract_list = given (read_task f) _ _ n p (λ t. (contract_found t, contract_answers t))
