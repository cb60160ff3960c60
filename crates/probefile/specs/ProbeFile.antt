-- Probe files as bytes: read and written. Document 01, "The probe file", "Turned down". It knows nothing of tasks or diagrams.
use Rattle.std.specs.Prelude.{ℕ, List, ◌++◌, leb, length}
use Rattle.facts.specs.Read.{Read, accepted, with_value, ◌>>=◌}
use Rattle.facts.specs.Lists.{up_from}
use Rattle.facts.specs.Bytes.{bytes_of}
use Rattle.facts.specs.Fields.{each, field, read_operator, read_head, read_end, write_each, write_operator, write_head}
use Rattle.facts.specs.Run.{at_most}
use Rattle.probefile.specs.Probe.{Step, Probe, max_variables, max_values, max_steps, max_list, probe_sum}

-- ---- reading the file f

module _ (f : List ℕ) where
  -- precondition, effect, cost
  unfoldable pub read_step : List ℕ → ℕ → Read (Step × ℕ)
  read_step sizes at = do
    (o, at) ← read_operator f sizes at
    accepted (record { pre = o.pre; eff = o.eff; cost = o.weight }, at)

  -- the step count: two bytes
  unfoldable pub read_step_count : ℕ → Read (ℕ × ℕ)
  read_step_count at = field f 2 (λ n. leb n max_steps) 3 at

  unfoldable pub read_steps : List ℕ → ℕ → ℕ → Read (List Step × ℕ)
  read_steps sizes count at = each (λ r. read_step sizes) (up_from 0 count) at

  unfoldable pub read_probe : Read Probe
  read_probe = do
    (head, at) ← read_head f max_variables max_values
    (count, at) ← read_step_count at
    (steps, at) ← read_steps head.sizes count at
    _ ← read_end f at
    accepted (record { sizes = head.sizes; init = head.init; goal = head.goal; steps = steps })

-- ---- writing

unfoldable pub write_step : Step → List ℕ
write_step st = write_operator (record { pre = st.pre; eff = st.eff; weight = st.cost })

unfoldable pub write_probe : Probe → List ℕ
write_probe p = write_head (record { sizes = p.sizes; init = p.init; goal = p.goal }) ++ (bytes_of 2 (length p.steps) ++ write_each write_step p.steps)

-- ---- the operations

-- accepted, or the refusal
unfoldable pub check_probe : List ℕ → Read (Unit {0})
check_probe f = with_value (λ p. tt) (read_probe f)

-- the sum of a list of at most 6,656 steps: 1 to 5 for the file, 8 for the list, then per step 11 before 9, and 10 at the end
unfoldable pub run_probe : List ℕ → List ℕ → Read ℕ
run_probe f list = do
  p ← read_probe f
  _ ← at_most max_list list
  probe_sum p list
