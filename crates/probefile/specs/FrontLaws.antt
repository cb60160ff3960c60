-- Laws of the front of a probe file: an accepted one has at most 76,214 bytes, and nothing is lost where only the first 76,215 are read.
use Rattle.std.specs.Prelude.{◌≡◌, refl, ℕ, suc, ◌+◌, ◌*◌, ◌≤◌, List, length, take}
use Rattle.std.proofs.Common.{arith}
use Rattle.std.proofs.Math.Dec.{leb}
use Rattle.facts.specs.Read.{accepted}
use Rattle.facts.specs.ReadLaws.{through, next_of_lem}
use Rattle.facts.specs.Lists.{up_from}
use Rattle.facts.specs.ListLaws.{length_up_from}
use Rattle.facts.specs.Fields.{read_number, read_operator, read_end}
use Rattle.facts.specs.FieldLaws.{end_read}
use Rattle.facts.specs.HeadLaws.{head_read}
use Rattle.facts.specs.FrontLaws.{operator_reach, operator_reach_lem, head_reach_lem, each_most, then_same, field_same, each_same, head_same, operator_same, number_front, end_front}
use Rattle.probefile.specs.Probe.{Step, Probe, max_variables, max_values, max_steps, max_bytes}
use Rattle.probefile.specs.ProbeFile.{read_step, read_step_count, read_steps, read_probe}
use Rattle.probefile.specs.ProbeLaws.{probe_lines, count_most}

step_reach : (f sizes : List ℕ) (at : ℕ) {st : Step} {e : ℕ} → length sizes ≤ max_variables → read_step f sizes at ≡ accepted (st, e) → e ≤ at + operator_reach max_variables
unfolding read_step
step_reach f sizes at few h = let o = through (read_operator f sizes at) h in omega (arith, operator_reach_lem f sizes max_variables at few o.first, next_of_lem o.then)

steps_reach : (f sizes : List ℕ) (count at : ℕ) {steps : List Step} {e : ℕ} → length sizes ≤ max_variables → read_steps f sizes count at ≡ accepted (steps, e) → e ≤ at + operator_reach max_variables * count
unfolding read_steps
steps_reach f sizes count at few h =
    omega (arith, length_up_from 0 count, each_most (λ (r : ℕ). read_step f sizes) (operator_reach max_variables) (λ r st at e g. step_reach f sizes at few g) (up_from 0 count) at h)

pub probe_length : (f : List ℕ) {p : Probe} → read_probe f ≡ accepted p → length f ≤ max_bytes
probe_length f h =
    let l = probe_lines f h in
    let head = (head_read f max_variables max_values l.head_is).wf in
    omega (arith, head_reach_lem f max_variables max_values l.head_is, count_most f l.at₁ l.count_is, steps_reach f l.head.sizes l.count l.at₂ head.variables l.steps_are, end_read f l.at₃ l.end_is)

-- two files f and g with the same numbers among their first b bytes: what is read there is the same
module _ (f g : List ℕ) (b : ℕ) (same : (k at : ℕ) → at + k ≤ b → read_number g k at ≡ read_number f k at) where
  step_same : (sizes : List ℕ) (at : ℕ) → length sizes ≤ max_variables → at + operator_reach max_variables ≤ b → read_step g sizes at ≡ read_step f sizes at
  unfolding read_step
  step_same sizes at few l = then_same _ _ (operator_same f g b same sizes max_variables at few l) (λ o h. refl)

  steps_same : (sizes : List ℕ) (count at : ℕ) → length sizes ≤ max_variables → at + operator_reach max_variables * count ≤ b → read_steps g sizes count at ≡ read_steps f sizes count at
  unfolding read_steps
  steps_same sizes count at few l =
      each_same f g b same (λ (r : ℕ). read_step f sizes) (λ r. read_step g sizes) (operator_reach max_variables) (λ r at l. step_same sizes at few l) (λ r st at e h. step_reach f sizes at few h) (up_from 0 count) at
      (omega (arith, length_up_from 0 count))

  probe_same : max_bytes ≤ b → ((at : ℕ) → at ≤ max_bytes → read_end g at ≡ read_end f at) → read_probe g ≡ read_probe f
  unfolding read_probe read_step_count
  probe_same l end =
      then_same _ _ (head_same f g b same max_variables max_values (omega arith)) (λ p h.
      let few = (head_read f max_variables max_values h).wf.variables in
      let a = head_reach_lem f max_variables max_values h in
      then_same _ _ (field_same f g b same 2 (λ n. leb n max_steps) 3 p.1 (omega arith)) (λ q h.
      let c = count_most f p.1 h in
      then_same _ _ (steps_same p.0.sizes q.0 q.1 few (omega (arith, c.0, c.1))) (λ r h.
      then_same _ _ (end r.1 (omega (arith, c.0, c.1, steps_reach f p.0.sizes q.0 q.1 few h))) (λ u h. refl))))

-- one byte more than the longest probe file has is enough to answer for the whole file
pub front_enough : (f : List ℕ) → read_probe (take (suc max_bytes) f) ≡ read_probe f
front_enough f = probe_same f (take (suc max_bytes) f) (suc max_bytes) (number_front f (suc max_bytes)) (omega arith) (λ at l. end_front f (suc max_bytes) at (omega arith))
