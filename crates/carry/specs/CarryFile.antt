-- The operations: plans carried across between a task file and the probe file written from it. Document 01, "Carrying plans across", "Turned down".
use Rattle.std.specs.Prelude.{ℕ, zero, suc, List, [], ◌∷◌, None, Some}
use Rattle.facts.specs.Read.{Read, accepted, refused, with_value, ◌>>=◌}
use Rattle.facts.specs.Write.{length_in, written_in}
use Rattle.facts.specs.Run.{at_most}
use Rattle.taskfile.specs.Task.{Action, max_list, task_sum}
use Rattle.taskfile.specs.TaskFile.{read_task}
use Rattle.probefile.specs.Probe.{probe_sum}
use Rattle.probefile.specs.Probe.{max_list as maxProbeList}
use Rattle.compilation.specs.Compile.{probe_of}
use Rattle.plans.specs.Carry.{expand, started_by, contract}

-- the probe list that comes from a list of actions, and its sum: 1 to 6 for the file, 8, then per action 11 before 9, and 10 at the end
unfoldable pub expanded : List ℕ → List ℕ → Read (List ℕ × ℕ)
expanded f list = do
  t ← read_task f
  _ ← at_most max_list list
  sum ← task_sum t list
  accepted (expand t list, sum)

-- at most so many starts in a probe list, whose first entry has the index i; else 8 at the index of the first start past them
abbrev pub starts_at_most : List Action → ℕ → ℕ → List ℕ → Read (Unit {0})
starts_at_most actions most i [] = accepted tt
starts_at_most actions most i (r ∷ list) =
    elim (started_by 0 0 actions r) [
      | None ↦ starts_at_most actions most (suc i) list
      | Some a ↦ elim most [ zero ↦ refused 8 i | suc left ↦ starts_at_most actions left (suc i) list ]
    ]

-- the list of actions that a probe list comes from, and its sum: 1 to 6 for the file, 8, then per step 11 before 9, 10 at the end, and 8 for more
-- than 256 actions
unfoldable pub contracted : List ℕ → List ℕ → Read (List ℕ × ℕ)
contracted f list = do
  t ← read_task f
  _ ← at_most maxProbeList list
  sum ← probe_sum (probe_of t) list
  _ ← starts_at_most t.actions max_list 0 list
  accepted (contract t list, sum)

-- the list that is carried, without its sum
abbrev pub list_of : Read (List ℕ × ℕ) → Read (List ℕ)
list_of carried = with_value (λ (c : List ℕ × ℕ). c.0) carried

-- the answer, with a buffer that has room for so many entries: the length, as for every operation that writes, and the sum
unfoldable pub answer_in : ℕ → Read (List ℕ × ℕ) → Read (ℕ × ℕ)
answer_in room carried = do
  (list, sum) ← carried
  with_value (λ (n : ℕ). (n, sum)) (length_in room (accepted list))

-- the buffer afterwards, as for every operation that writes
abbrev pub buffer_in : List ℕ → Read (List ℕ × ℕ) → List ℕ
buffer_in out carried = written_in out (list_of carried)
