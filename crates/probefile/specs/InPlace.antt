-- Steps in place: what code does that goes over the bytes of an accepted file, without reading it into values.
use Rattle.std.specs.Prelude.{◌≡◌, ℕ, ◌+◌, ◌≤◌, ◌<◌, List, length, get_or, Result, Ok, Err}
use Rattle.facts.specs.Refusal.{number, place}
use Rattle.facts.specs.Read.{Read, accepted, refused, with_value}
use Rattle.facts.specs.Lists.{At}
use Rattle.facts.specs.Partial.{partial_at, past_partial}
use Rattle.facts.specs.Fields.{next_of, value_of, head_at, word_at}
use Rattle.facts.specs.Run.{Move}
use Rattle.probefile.specs.Probe.{Step, Probe, perform, max_variables, max_values}
use Rattle.probefile.specs.ProbeFile.{read_step, read_step_count, read_steps, read_probe}
use Rattle.facts.specs.declared.Refusal.{Refusal}

-- how many variables and how many steps the file has
unfoldable pub probe_at : List ℕ → Read (ℕ × ℕ)
probe_at f = with_value (λ p. (length p.sizes, length p.steps)) (read_probe f)

-- what is told of what stands before the steps is the head's end and the counts, or why the file is refused
abbrev pub CountedIn : List ℕ → Result (ℕ × ℕ × ℕ) Refusal → Type 0
CountedIn f (Ok (variables, at, steps)) = (head_at f max_variables max_values ≡ accepted (variables, at)) × (value_of (read_step_count f at) ≡ accepted steps)
CountedIn f (Err why) = probe_at f ≡ refused (number why) (place why)

-- the step at an offset, as its bytes stand
unfoldable pub step_at : List ℕ → ℕ → Step
step_at f at = record {
  pre = partial_at f at;
  eff = partial_at f (past_partial f at);
  cost = word_at f (past_partial f (past_partial f at));
}

-- what step number r does in the state s, where `offsets` has the offset of each step
unfoldable pub move_at : List ℕ → List ℕ → ℕ → List ℕ → Move
move_at f offsets r s = perform (step_at f (get_or offsets r 0)) s

-- each offset is one of the file
abbrev pub Within : List ℕ → List ℕ → Type 0
Within f offsets = (k : ℕ) → k < length offsets → get_or offsets k 0 ≤ length f

-- `offsets` has, where each of the count steps from an offset on is accepted, the offset of each
pub record Marked (f sizes : List ℕ) (count from : ℕ) (offsets : List ℕ) : Type 0 where
  pub marks : {end : ℕ} → next_of (read_steps f sizes count from) ≡ accepted end → (j : ℕ) → j < count → next_of (read_steps f sizes j from) ≡ accepted (get_or offsets j 0)

-- `offsets` has the offset of each step of an accepted file, which ends where the next one starts, and the last one where the file ends
pub record Located (f offsets : List ℕ) : Type 0 where
  pub lies : (p : Probe) → read_probe f ≡ accepted p → (r : ℕ) (st : Step) → At p.steps r st
      → (next : ℕ) × (read_step f p.sizes (get_or offsets r 0) ≡ accepted (st, next)) × (r + 1 < length p.steps → next ≡ get_or offsets (r + 1) 0) × (r + 1 ≡ length p.steps → next ≡ length f)

-- the last two bytes before an offset are the cost of the step at another
pub record CostBefore (f : List ℕ) (at next : ℕ) : Type 0 where
  pub place : ℕ
  pub ends : next ≡ place + 2
  pub cost : word_at f place ≡ (step_at f at).cost

-- the cost of each step stands before the next one, and that of the last before the end of the file
pub record Costed (f offsets : List ℕ) : Type 0 where
  pub inner : (k : ℕ) → k + 1 < length offsets → CostBefore f (get_or offsets k 0) (get_or offsets (k + 1) 0)
  pub last : (k : ℕ) → k + 1 ≡ length offsets → CostBefore f (get_or offsets k 0) (length f)
