-- Demand 3 over files, as one record, `WrittenFile` with `SameSum`, and demand 2's sentence on plans carried across and back, `AcrossAndBack`. Each sentence of a demand is
-- quoted above what states it. The theorems `same_sum` and `across_and_back`, with their proofs, are in proofs/SameSum.antt.
--
-- The words: a task is accepted if `read_task` answers it for its file. `Plan t list c` (crate `taskfile`) and `ProbePlan p list c` (crate `probefile`) say that a list
-- of any length applies step by step, ends where the goal holds, and has the sum c, a number of any size. `expand t list` (crate `plans`) is the probe list
-- that comes from a source plan: for each action in turn its start, the edge for the state's value at each node passed, and its end. The contracts
-- say what the operations answer and write: `compile_file` and `compiled_buffer` for compiling (crate `compilation`), `expanded` and `contracted` for the two
-- translators, each with `answer_in` and `buffer_in` (CarryFile.antt).
use Rattle.std.specs.Prelude.{◌≡◌, ◌↔◌, ℕ, ◌≤◌, List, length, take}
use Rattle.facts.specs.Read.{Read, accepted}
use Rattle.facts.specs.Write.{over}
use Rattle.taskfile.specs.Task.{Task, Plan, max_list, max_written}
use Rattle.probefile.specs.Probe.{Probe, ProbePlan}
use Rattle.probefile.specs.ProbeFile.{read_probe}
use Rattle.compilation.specs.CompileFile.{compile_file, compiled_buffer}
use Rattle.plans.specs.Carry.{expand}
use Rattle.carry.specs.CarryFile.{expanded, contracted, answer_in, buffer_in}

-- ---- demand 3

-- "comes from exactly one source plan, with the same sum"
pub record OneSource (t : Task) (probe-list : List ℕ) (c : ℕ) : Type 0 where
  pub list : List ℕ
  pub plan : Plan t list c
  pub comes : probe-list ≡ expand t list
  pub only : (other : List ℕ) (k : ℕ) → Plan t other k → probe-list ≡ expand t other → other ≡ list

-- "returns": the answer is the list's length and the sum, and the list stands at the front of the buffer, which is else as it was
pub record Returned (carried : Read (List ℕ × ℕ)) (list : List ℕ) (c : ℕ) (out : List ℕ) : Type 0 where
  pub answer : answer_in (length out) carried ≡ accepted (length list, c)
  pub buffer : buffer_in out carried ≡ over list out

-- "wherever the list returned fits the buffer lent for it"
abbrev pub Returns : Read (List ℕ × ℕ) → List ℕ → ℕ → Type 0
Returns carried list c = (out : List ℕ) → length list ≤ length out → Returned carried list c out

-- f is a task file, t its task, and p the probe of the file written from it
pub record SameSum (f : List ℕ) (t : Task) (p : Probe) : Type 0 where
  -- "The probe list that comes from a source plan is a plan of the written file, with the same sum."
  pub expands : (list : List ℕ) (c : ℕ) → Plan t list c → ProbePlan p (expand t list) c
  -- "Each probe plan of that file comes from exactly one source plan, with the same sum."
  pub contracts : (probe-list : List ℕ) (c : ℕ) → ProbePlan p probe-list c → OneSource t probe-list c
  -- "For every whole number N there is a source plan costing at most N exactly when there is a probe plan costing at most N."
  pub within : (N : ℕ) → ((list : List ℕ) × (c : ℕ) × Plan t list c × (c ≤ N)) ↔ ((list : List ℕ) × (c : ℕ) × ProbePlan p list c × (c ≤ N))
  -- "Our two translators carry every source plan of at most 256 actions, wherever the list returned fits the buffer lent for it. Expanding the plan returns
  -- the probe list that comes from it; .. each returns that same sum too."
  pub expanding : (list : List ℕ) (c : ℕ) → Plan t list c → length list ≤ max_list → Returns (expanded f list) (expand t list) c
  -- ".. contracting that list returns the source plan; each returns that same sum too."
  pub contracting : (list : List ℕ) (c : ℕ) → Plan t list c → length list ≤ max_list → Returns (contracted f (expand t list)) list c

-- the file written from the task file f
pub record WrittenFile (f : List ℕ) (t : Task) : Type 0 where
  pub p : Probe
  -- the bytes that compiling f writes, into whatever buffer, are read as the probe p
  pub written : (out : List ℕ) (n : ℕ) → compile_file f (length out) ≡ accepted n → read_probe (take n (compiled_buffer f out)) ≡ accepted p
  -- it does write them where a buffer has room for 13,846 bytes
  pub room : (out : List ℕ) → max_written ≤ length out → (n : ℕ) × (compile_file f (length out) ≡ accepted n)
  pub sums : SameSum f t p

-- ---- demand 2

-- "A plan carried across and back is the plan it began as."
pub record AcrossAndBack (f : List ℕ) : Type 0 where
  -- Where expanding a list answers n entries and the sum c, contracting the n entries at the front of its buffer returns that list, and the sum c.
  pub source : (list between out : List ℕ) (n c : ℕ) → answer_in (length between) (expanded f list) ≡ accepted (n, c) → length list ≤ length out
      → Returned (contracted f (take n (buffer_in between (expanded f list)))) list c out
  -- Where contracting a probe list answers n entries and the sum c, expanding the n entries at the front of its buffer returns that probe list, and the sum c.
  pub probe : (probe-list between out : List ℕ) (n c : ℕ) → answer_in (length between) (contracted f probe-list) ≡ accepted (n, c) → length probe-list ≤ length out
      → Returned (expanded f (take n (buffer_in between (contracted f probe-list)))) probe-list c out
