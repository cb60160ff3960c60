-- How many rounds the estimate of a probe file has.
use Rattle.std.specs.Prelude.{ℕ, List, map}
use Rattle.estimate.specs.Number.{exact}
use Rattle.estimate.specs.FallLaws.{constant_supported, all_supported}
use Rattle.estimate.specs.RoundBound.{FewRounds}
use Rattle.estimate.proofs.RoundBound.{rounds_few}
use Rattle.probefile.specs.Probe.{Probe}
use Rattle.probe_estimate.specs.Estimate.{step_achiever}

-- "Rounds go on until one changes nothing.": at most as many change something as the file has facts. The code makes turns, of which this says nothing.
pub probe_rounds : (p : Probe) (s : List ℕ) → FewRounds p.sizes (map step_achiever p.steps) s
probe_rounds p s = rounds_few p.sizes _ s (all_supported step_achiever (λ st. constant_supported (exact st.cost)) p.steps)
