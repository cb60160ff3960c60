-- How long what is written is: a step, steps and a probe. That the file written for a task has at most 13,846 bytes: proofs/CompiledLengthLaws.antt.
use Rattle.std.specs.Prelude.{◌≡◌, refl, ℕ, zero, suc, ◌+◌, ◌≤◌, List, [], ◌∷◌, ◌++◌, length}
use Rattle.std.proofs.Common.{◌∙◌, arith, length-append}
use Rattle.std.proofs.lemmas.Nat.{ones-le}
use Rattle.facts.specs.Lists.{total}
use Rattle.facts.specs.Bytes.{bytes_of}
use Rattle.facts.specs.Partial.{Partial, write_partial}
use Rattle.facts.specs.PartialLaws.{length_written}
use Rattle.facts.specs.WellFormed.{WfPartial}
use Rattle.facts.specs.Fields.{write_each, write_operator, write_head}
use Rattle.probefile.specs.Probe.{Step, Probe}
use Rattle.probefile.specs.ProbeFile.{write_step, write_probe}
use Rattle.compilation.specs.Extend.{extend, clear}

-- ---- a step

-- The length of a step in bytes: two maps with their values, and the cost.
abbrev pub step_bytes : Step → ℕ
step_bytes st = 18 + length st.pre.values + length st.eff.values

-- A step is written in that many bytes.
pub step_written : (st : Step) → length (write_step st) ≡ step_bytes st
unfolding write_step write_operator
step_written st =
    omega (arith, length-append (write_partial st.pre) (write_partial st.eff ++ bytes_of 2 st.cost), length-append (write_partial st.eff) (bytes_of 2 st.cost), length_written st.pre, length_written st.eff)

-- Steps are written in the sum of their bytes.
pub steps_written : (steps : List Step) → length (write_each write_step steps) ≡ total step_bytes steps
steps_written [] = refl
steps_written (st ∷ steps) = omega (arith, length-append (write_step st) (write_each write_step steps), step_written st, steps_written steps)

-- A probe is written in a byte, one for each size and initial value, the goal, two bytes for the step count, and the steps.
pub probe_written : (p : Probe) → length (write_probe p) ≡ 11 + length p.sizes + length p.init + length p.goal.values + total step_bytes p.steps
unfolding write_probe write_head
probe_written p =
    let goal = write_partial p.goal in
    let head = bytes_of 1 (length p.sizes) ++ (p.sizes ++ (p.init ++ goal)) in
    let count = bytes_of 2 (length p.steps) in
    let steps = write_each write_step p.steps in
    omega (
      arith,
      length-append head (count ++ steps),
      length-append (bytes_of 1 (length p.sizes)) (p.sizes ++ (p.init ++ goal)),
      length-append p.sizes (p.init ++ goal),
      length-append p.init goal,
      length-append count steps,
      length_written p.goal,
      steps_written p.steps,
    )

-- ---- the steps of a compiled task

-- A well-formed partial state has at most a value for each variable.
pub values_most : {sizes : List ℕ} {p : Partial} → WfPartial sizes p → length p.values ≤ length sizes
values_most {sizes} {p} w = omega (arith, w.count, ones-le (length sizes) p.map w.map_below)

-- k zeros are k values more.
pub clear_length : (p : Partial) (v k : ℕ) → length (clear p v k).values ≡ length p.values + k
clear_length p v zero = omega arith
clear_length p v (suc k) = clear_length (extend p v 0) (suc v) k ∙ simp length-append (omega arith)
