-- The estimate of a probe file from a state. Document 01, "Relaxed cost and estimate": "For a probe file the same, with fixed costs."
use Rattle.std.specs.Prelude.{◌≡◌, ℕ, ◌+◌, ◌*◌, ◌≤◌, List, map, length, take, drop}
use Rattle.facts.specs.Read.{Read, accepted}
use Rattle.facts.specs.Lists.{All}
use Rattle.facts.specs.Partial.{partial_at}
use Rattle.facts.specs.WellFormed.{WfPartial}
use Rattle.estimate.specs.Number.{Number, exact}
use Rattle.estimate.specs.Additive.{Achiever, WfAchiever, additive, estimate_file}
use Rattle.estimate.specs.Facts.{most_facts}
use Rattle.estimate.specs.Ranks.{Roomy}
use Rattle.estimate.specs.InTurn.{after_own}
use Rattle.probefile.specs.Probe.{Step, Probe, WfProbe}
use Rattle.probefile.specs.ProbeFile.{read_probe}
use Rattle.probefile.specs.InPlace.{step_at, Costed}

-- a step for the heuristic
abbrev pub step_achiever : Step → Achiever
step_achiever st = record { pre = st.pre; eff = st.eff; cost = λ of. exact st.cost }

-- the estimate from the state s
abbrev pub probe_estimate : Probe → List ℕ → Number
probe_estimate p s = additive p.sizes (map step_achiever p.steps) p.goal s

-- the operation: 1 to 5 for the file, then 12 and 4 for the state
abbrev pub estimate_probe : List ℕ → List ℕ → Read Number
estimate_probe f s = estimate_file (λ p. p.sizes) probe_estimate (read_probe f) s

-- ---- in place

-- the step at an offset, for the heuristic
abbrev pub achiever_at : List ℕ → ℕ → Achiever
achiever_at f at = step_achiever (step_at f at)

-- the numbers after its offer by themselves, for n variables
unfoldable pub after_step : List ℕ → ℕ → ℕ → (ℕ → ℕ → Number) → ℕ → ℕ → Number
after_step f at n of = after_own n (achiever_at f at) of

-- domain sizes, goal and steps as they stand in a file, well-formed, so that offers in turn end on their estimate
pub record Ready (f sizes : List ℕ) (goal : ℕ) (offsets : List ℕ) : Type 0 where
  pub room : Roomy sizes most_facts
  pub costs : Costed f offsets
  pub steps : All (WfAchiever sizes) (map (achiever_at f) offsets)
  pub goal_is : WfPartial sizes (partial_at f goal)

-- a file that is accepted, with so many variables, and the offset of each of its steps
pub record InPlace (f : List ℕ) (variables : ℕ) (offsets : List ℕ) : Type 0 where
  pub probe : Probe
  pub reads : read_probe f ≡ accepted probe
  pub wf : WfProbe probe
  pub fits : 1 + 2 * variables ≤ length f
  pub sizes : take variables (drop 1 f) ≡ probe.sizes
  pub goal : partial_at f (1 + 2 * variables) ≡ probe.goal
  pub steps : map (step_at f) offsets ≡ probe.steps
  pub costs : Costed f offsets
