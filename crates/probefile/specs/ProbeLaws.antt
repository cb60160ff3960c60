-- Laws of probe files: a file that is accepted is well-formed, one that is written is read back, and a plan is what a run says it is.
use Rattle.std.specs.Prelude.{◌≡◌, ◌↔◌, ℕ, ◌+◌, ◌≤◌, ◌<◌, List, ◌++◌, Option, None, Some, slice_get}
use Rattle.std.proofs.Math.Path.{refl, subst, subst₂}
use Rattle.std.proofs.Common.{ap, ◌∙◌, zero-add, arith}
use Rattle.std.proofs.Math.Bool.{true}
use Rattle.std.proofs.Math.Dec.{leb}
use Rattle.std.proofs.Math.ListN.{length, length-append}
use borrow.Author.Tests.{le-leb, leb-true}
use Rattle.facts.specs.Read.{accepted}
use Rattle.facts.specs.ReadLaws.{through, onward, carried}
use Rattle.facts.specs.Lists.{up_from, At}
use Rattle.facts.specs.ListLaws.{length_up_from, zip_length, zip_all, zip_map, all_zip, look, found, at_length}
use Rattle.facts.specs.Bytes.{bytes_of, Bytes}
use Rattle.facts.specs.BytesLaws.{little_bytes, two_below}
use Rattle.facts.specs.State.{Inside}
use Rattle.facts.specs.WellFormed.{WfPartial, WfHead}
use Rattle.facts.specs.Run.{Move, next, blocked}
use Rattle.facts.specs.RunLaws.{not_blocked, plan_answers}
use Rattle.facts.specs.Fields.{Head, read_operator, read_head, read_end, write_each, write_head}
use Rattle.facts.specs.EachLaws.{each_zip}
use Rattle.facts.specs.FieldLaws.{taken}
use Rattle.facts.specs.OperatorLaws.{operator_read}
use Rattle.facts.specs.HeadLaws.{head_read}
use Rattle.facts.specs.ReadBack.{operator_reads, Lies, lies_whole, lies_left, lies_right, Reads, field_reads, each_reads, head_reads}
use Rattle.probefile.specs.Probe.{Step, Probe, max_steps, perform, step_move, probe_sum, ProbePlan, WfStep, WfProbe, max_variables, max_values}
use Rattle.probefile.specs.ProbeFile.{read_step, read_step_count, read_steps, read_probe, write_step, write_probe}

-- ---- an accepted file

-- the lines of the reader, taken apart
pub record Lines (f : List ℕ) (p : Probe) : Type 0 where
  pub head : Head
  pub at₁ : ℕ
  pub count : ℕ
  pub at₂ : ℕ
  pub at₃ : ℕ
  pub head_is : read_head f max_variables max_values ≡ accepted (head, at₁)
  pub count_is : read_step_count f at₁ ≡ accepted (count, at₂)
  pub steps_are : read_steps f head.sizes count at₂ ≡ accepted (p.steps, at₃)
  pub end_is : read_end f at₃ ≡ accepted tt
  pub sizes : head.sizes ≡ p.sizes
  pub init : head.init ≡ p.init
  pub goal : head.goal ≡ p.goal

pub probe_lines : (f : List ℕ) {p : Probe} → read_probe f ≡ accepted p → Lines f p
unfolding read_probe
probe_lines f {p} h =
    let a = through (read_head f max_variables max_values) h in
    let b = through (read_step_count f a.got.1) a.then in
    let c = through (read_steps f a.got.0.sizes b.got.0 b.got.1) b.then in
    let d = through (read_end f c.got.1) c.then in
    let same : record { sizes = a.got.0.sizes; init = a.got.0.init; goal = a.got.0.goal; steps = c.got.0 } ≡ p = cc d.then in
    record {
      head = a.got.0;
      at₁ = a.got.1;
      count = b.got.0;
      at₂ = b.got.1;
      at₃ = c.got.1;
      head_is = a.first;
      count_is = b.first;
      steps_are = c.first ∙ ap (λ (q : Probe). accepted (q.steps, c.got.1)) same;
      end_is = d.first;
      sizes = ap (λ (q : Probe). q.sizes) same;
      init = ap (λ (q : Probe). q.init) same;
      goal = ap (λ (q : Probe). q.goal) same;
    }

pub count_most : (f : List ℕ) (at : ℕ) {n e : ℕ} → read_step_count f at ≡ accepted (n, e) → (n ≤ max_steps) × (e ≡ at + 2) × (at + 2 ≤ length f)
unfolding read_step_count
count_most f at {n} h = let t = taken f 2 (λ n. leb n max_steps) 3 at h in (leb-true n max_steps t.passes, t.next, t.number.fits)

module _ (f : List ℕ) (bytes : Bytes f) where
  step_wf : (sizes : List ℕ) (at : ℕ) {st : Step} {e : ℕ} → read_step f sizes at ≡ accepted (st, e) → WfStep sizes st
  unfolding read_step
  step_wf sizes at h =
      let a = through (read_operator f sizes at) h in
      let o = operator_read f sizes at a.first in
      carried a.then (λ st e. WfStep sizes st) (record { pre = o.pre.wf; eff = o.eff.wf; cost = rw o.weight.value at (two_below f o.place bytes) })

  pub probe_wf : {p : Probe} → read_probe f ≡ accepted p → WfProbe p
  unfolding read_steps
  probe_wf {p} h =
      let l = probe_lines f h in
      let g = (head_read f max_variables max_values l.head_is).wf in
      let z = each_zip (λ (r : ℕ). read_step f l.head.sizes) (λ r st. WfStep l.head.sizes st) (λ r st at e g. step_wf l.head.sizes at g) (up_from 0 l.count) l.at₂ l.steps_are in
      record {
        some_variable = rw (← l.sizes) g.some_variable;
        variables = rw (← l.sizes) g.variables;
        sizes = rw (← l.sizes) g.sizes;
        init = subst₂ Inside l.sizes l.init g.init;
        goal = subst₂ WfPartial l.sizes l.goal g.goal;
        step_count = omega (arith, zip_length z, length_up_from 0 l.count, (count_most f l.at₁ l.count_is).0);
        steps = rw (← l.sizes) (zip_all (WfStep l.head.sizes) (λ r st w. w) z);
      }

-- ---- a written file

module _ (f : List ℕ) where
  step_reads : (sizes : List ℕ) (st : Step) → length sizes ≤ 64 → WfStep sizes st → Reads f (read_step f sizes) (write_step st) st
  unfolding read_step write_step
  step_reads sizes st h w at l = onward _ (operator_reads f sizes (record { pre = st.pre; eff = st.eff; weight = st.cost }) h w.pre w.eff w.cost at l) refl

  count_reads : (n : ℕ) → n ≤ max_steps → Reads f (read_step_count f) (bytes_of 2 n) n
  unfolding read_step_count
  count_reads n h at l = field_reads f 2 n (λ n. leb n max_steps) 3 (bytes_of 2 n) refl (little_bytes 2 n (omega arith)) (le-leb n max_steps h) at l

  probe_reads : (p : Probe) → WfProbe p → Lies f 0 (write_probe p) → length f ≡ length (write_probe p) → read_probe f ≡ accepted p
  unfolding read_probe read_steps read_end write_probe
  probe_reads p w l whole =
      let h : Head = record { sizes = p.sizes; init = p.init; goal = p.goal } in
      let head = write_head h in
      let count = bytes_of 2 (length p.steps) in
      let steps = write_each write_step p.steps in
      let l₂ : Lies f (length head) (count ++ steps) = subst (λ (at : ℕ). Lies f at (count ++ steps)) (zero-add (length head)) (lies_right head (count ++ steps) l) in
      let good : WfHead max_variables max_values h = record { some_variable = w.some_variable; variables = w.variables; sizes = w.sizes; init = w.init; goal = w.goal } in
      let small : length p.sizes ≤ 64 = omega (arith, w.variables) in
      let end : leb (length f) (length head + 2 + length steps) ≡ true = le-leb (length f) (length head + 2 + length steps) (omega (arith, length-append head (count ++ steps), length-append count steps)) in
      onward _ (head_reads f max_variables max_values h (omega arith) (omega arith) good (lies_left head (count ++ steps) l))
      (onward _ (count_reads (length p.steps) w.step_count (length head) (lies_left count steps l₂))
      (onward _ (each_reads f (λ (r : ℕ). read_step f p.sizes) write_step (zip_map (λ r st. Reads f (read_step f p.sizes) (write_step st) st) (λ r st u. step_reads p.sizes st small u) (all_zip (WfStep p.sizes) 0 p.steps w.steps)) (length head + 2) (lies_right count steps l₂))
      (rw end)))

-- a well-formed probe written and read back is itself
pub read_written : (p : Probe) → WfProbe p → read_probe (write_probe p) ≡ accepted p
read_written p w = probe_reads (write_probe p) p w (lies_whole (write_probe p)) refl

-- ---- plans

pub move_at_lem : (steps : List Step) {r : ℕ} {st : Step} (s : List ℕ) → At steps r st → step_move steps r s ≡ perform st s
unfolding step_move
move_at_lem steps s a = rw (look a, step_move)

move_known : (steps : List Step) (r : ℕ) (s e : List ℕ) (c : ℕ) → step_move steps r s ≡ next e c → r < length steps
unfolding step_move
move_known steps r s e c h = go (slice_get steps r) refl h
  where
    go : (o : Option Step) → slice_get steps r ≡ o → elim o as (λ o. Move) [ None ↦ blocked | Some st ↦ perform st s ] ≡ next e c → r < length steps
    go None q h = absurd (not_blocked h)
    go (Some st) q h = at_length (found steps r q)

-- a list of any length is a plan with the sum c exactly if its run answers c
pub probe_plan : (p : Probe) (list : List ℕ) (c : ℕ) → ProbePlan p list c ↔ (probe_sum p list ≡ accepted c)
unfolding probe_sum
probe_plan p list c = plan_answers (length p.steps) (step_move p.steps) p.goal (move_known p.steps) list p.init c
