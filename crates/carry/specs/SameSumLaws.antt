-- Laws that the statement about sums rests on: what compiling wrote, and what expanding and contracting answer for a plan.
use Rattle.std.specs.Prelude.{◌≡◌, refl, ℕ, ◌≤◌, leb, length, take}
use Rattle.std.proofs.Common.{sym, ap, ◌∙◌, le_trans, leb-true}
use mathlib.Core.List.{List}
use Rattle.facts.specs.Read.{Read, accepted, refused, with_value}
use Rattle.facts.specs.ReadLaws.{through, onward, checked, made}
use Rattle.facts.specs.Bytes.{Bytes}
use Rattle.facts.specs.Write.{over, length_in}
use Rattle.facts.specs.WriteLaws.{length_in_lem, written_in_lem, written_inv}
use Rattle.facts.specs.Run.{at_most}
use Rattle.facts.specs.RunLaws.{list_fits}
use Rattle.taskfile.specs.Task.{Task, max_list, Plan, max_written}
use Rattle.taskfile.specs.TaskFile.{read_task}
use Rattle.taskfile.proofs.TaskReadLaws.{task_wf, task_limits}
use Rattle.taskfile.specs.TaskLaws.{task_plan}
use Rattle.probefile.specs.Probe.{max_list as maxProbeList}
use Rattle.probefile.specs.ProbeFile.{read_probe, write_probe}
use Rattle.probefile.specs.ProbeLaws.{probe_plan}
use Rattle.compilation.specs.Compile.{probe_of}
use Rattle.compilation.proofs.CompiledLaws.{compiled_reads}
use Rattle.compilation.proofs.CompiledLengthLaws.{compiled_length}
use Rattle.compilation.specs.CompileFile.{probe_file_of, compile_file, compiled_buffer}
use Rattle.compilation.specs.CompileFileLaws.{file_of_lem, compiled_from}
use Rattle.plans.specs.Carry.{expand, contract}
use Rattle.plans.proofs.Forward.{forward}
use Rattle.plans.proofs.Contract.{contract_expand}
use Rattle.plans.proofs.LengthLaws.{expand_fits}
use Rattle.carry.specs.CarryFile.{expanded, contracted, list_of, answer_in, buffer_in}
use Rattle.carry.specs.StartLaws.{starts_within}

-- ---- what stands in a buffer

-- The answer without the sum is that of the list.
pub answer_length : (room : ℕ) (carried : Read (List ℕ × ℕ)) → with_value (λ (c : ℕ × ℕ). c.0) (answer_in room carried) ≡ length_in room (list_of carried)
unfolding answer_in length_in
answer_length room (accepted c) = go (length_in room (accepted c.0))
  where
    go : (r : Read ℕ) → with_value (λ (c : ℕ × ℕ). c.0) (with_value (λ (n : ℕ). (n, c.1)) r) ≡ r
    go (accepted n) = refl
    go (refused n p) = refl
answer_length room (refused n p) = refl

module _ {carried : Read (List ℕ × ℕ)} {list : List ℕ} {c : ℕ} (h : carried ≡ accepted (list, c)) where
  -- The answer is that of the list, with the sum.
  pub answer_with : (room : ℕ) → answer_in room carried ≡ with_value (λ (n : ℕ). (n, c)) (length_in room (list_of carried))
  unfolding answer_in
  answer_with room = rw h

  -- With room for a list that is carried, the answer is its length and its sum.
  pub answer_in_lem : {room : ℕ} → length list ≤ room → answer_in room carried ≡ accepted (length list, c)
  answer_in_lem {room} l = answer_with room ∙ ap (with_value (λ (n : ℕ). (n, c))) (length_in_lem (ap list_of h) l)

  -- And the list is written at the buffer's front.
  pub buffer_in_lem : (out : List ℕ) → length list ≤ length out → buffer_in out carried ≡ over list out
  buffer_in_lem out l = written_in_lem (ap list_of h) out l

-- a list is carried, and stands at the front of the buffer
pub record Answered (carried : Read (List ℕ × ℕ)) (out : List ℕ) (n c : ℕ) : Type 0 where
  pub list : List ℕ
  pub is : carried ≡ accepted (list, c)
  pub front : take n (buffer_in out carried) ≡ list

-- Where a length and a sum are answered, so many entries of the buffer are the list that is carried.
pub answer_inv : (carried : Read (List ℕ × ℕ)) (out : List ℕ) {n c : ℕ} → answer_in (length out) carried ≡ accepted (n, c) → Answered carried out n c
unfolding answer_in
answer_inv carried out {n} {c} h =
    let a = through carried h in
    let m = made (λ (n : ℕ). (n, a.got.1)) (length_in (length out) (accepted a.got.0)) a.then in
    let front = written_inv (list_of carried) out (sym (answer_length (length out) carried) ∙ ap (with_value (λ (c : ℕ × ℕ). c.0)) h) in
    record {
      list = a.got.0;
      is = a.first ∙ ap (λ (k : ℕ). accepted (a.got.0, k)) (ap (λ (c : ℕ × ℕ). c.1) m.value);
      front = cc (front, ap list_of a.first);
    }

-- ---- what compiling writes

-- If f has the task t, what is written is the probe file of t.
pub compiled_bytes : (f out : List ℕ) {t : Task} {n : ℕ} → read_task f ≡ accepted t → compile_file f (length out) ≡ accepted n → take n (compiled_buffer f out) ≡ write_probe (probe_of t)
compiled_bytes f out h e = cc (written_inv (probe_file_of f) out e, file_of_lem f h)

-- the file `written` has the probe of the task of f
pub record WrittenFrom (f written : List ℕ) : Type 0 where
  pub t : Task
  pub task : read_task f ≡ accepted t
  pub probe : read_probe written ≡ accepted (probe_of t)

-- What compiling wrote has.
pub written_from : (f : List ℕ) → Bytes f → (out : List ℕ) {now : List ℕ} {n : ℕ} → compile_file f (length out) ≡ accepted n → now ≡ compiled_buffer f out → WrittenFrom f (take n now)
written_from f bytes out {now} {n} h e =
    let w = compiled_from f out h in
    record { t = w.t; task = w.task; probe = ap (λ (z : List ℕ). read_probe (take n z)) e ∙ ap read_probe w.bytes ∙ compiled_reads f bytes w.task }

-- A buffer of 13,846 bytes has room for the probe file of each accepted task.
pub compiled_answers : (f : List ℕ) {t : Task} → read_task f ≡ accepted t → {room : ℕ} → max_written ≤ room → compile_file f room ≡ accepted (length (write_probe (probe_of t)))
compiled_answers f h l = length_in_lem (file_of_lem f h) (le_trans (compiled_length f h) l)

-- ---- what the operations answer for a plan of at most 256 actions

module _ (f : List ℕ) {t : Task} (h : read_task f ≡ accepted t) {list : List ℕ} {c : ℕ} (p : Plan t list c) (few : length list ≤ max_list) where
  -- Expanding answers the probe list that comes from it, with its sum.
  pub expanded_plan : expanded f list ≡ accepted (expand t list, c)
  unfolding expanded
  expanded_plan = rw (h, list_fits max_list list few, (task_plan t list c).0 p)

  -- Contracting that probe list answers the plan, with its sum.
  pub contracted_plan : contracted f (expand t list) ≡ accepted (list, c)
  unfolding contracted contract
  contracted_plan =
      let wf = task_wf f h in
      let back = contract_expand t wf list c p in
      onward _ h
      (onward _ (list_fits maxProbeList (expand t list) (expand_fits t wf (task_limits f h) list few))
      (onward _ ((probe_plan (probe_of t) (expand t list) c).0 (forward t wf list c p))
      (onward _ (starts_within t.actions (expand t list) max_list 0 (rw back few)) (ap (λ (l : List ℕ). accepted (l, c)) back))))

-- ---- what an answer tells

-- A list that was not refused is within its limit.
pub fits_inv : (most : ℕ) (list : List ℕ) {u : Unit {0}} → at_most most list ≡ accepted u → length list ≤ most
unfolding at_most
fits_inv most list h = leb-true (length list) most (checked (leb (length list) most) 8 most h)
