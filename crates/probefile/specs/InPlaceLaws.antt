-- Laws of going over the bytes of a probe file: the ways in which reading can go, and that steps in place are the steps that were read.
use Rattle.std.specs.Prelude.{◌≡◌, ℕ, ◌+◌, ◌-◌, ◌≤◌, ◌<◌, true, false, List, length}
use Rattle.std.proofs.Math.Path.{refl, sym}
use Rattle.std.proofs.Common.{ap, ◌∙◌, add-one, arith, le-leb}
use Rattle.std.specs.Int.Count.{ones}
use Rattle.std.proofs.Math.Dec.{leb}
use Rattle.std.proofs.lemmas.Bool.{lt-leb}
use Rattle.facts.specs.Read.{Read, accepted, refused, ◌>>=◌}
use Rattle.facts.specs.ReadLaws.{not_refused, through, carried}
use Rattle.facts.specs.Partial.{Partial, Alike, holds, apply, partial_at, past_partial}
use Rattle.facts.specs.Run.{next, blocked, attempt}
use Rattle.facts.specs.Fields.{next_of, Operator, read_number, word_at, read_operator}
use Rattle.facts.specs.EachLaws.{next_snoc}
use Rattle.facts.specs.FieldLaws.{field_refused, field_wrong, field_good}
use Rattle.facts.specs.OperatorLaws.{operator_read}
use Rattle.facts.specs.InPlaceLaws.{word_is, past_read, alike_partial, alike_past, alike_word}
use Rattle.probefile.specs.Probe.{Step, max_steps, perform}
use Rattle.probefile.specs.ProbeFile.{read_step, read_step_count, read_steps}
use Rattle.probefile.specs.InPlace.{step_at, Marked, CostBefore}

-- ---- a step of the file f

step_is : (f : List ℕ) (at : ℕ) (pre eff : Partial) (a b w : ℕ) → pre ≡ partial_at f at → a ≡ at + (8 + ones pre.map) → eff ≡ partial_at f a → b ≡ a + (8 + ones eff.map) → word_at f b ≡ w
    → step_at f at ≡ record { pre = pre; eff = eff; cost = w }
unfolding step_at
step_is f at pre eff a b w p n q m c =
    rw (past_read f at p n, past_read f a q m, c, ← p, ← q)

module _ (f sizes : List ℕ) (at : ℕ) where
  -- a step that was read is the step as its bytes stand
  pub record StepRead (st : Step) (e : ℕ) : Type 0 where
    pub same : step_at f at ≡ st
    pub fits : at ≤ length f
    pub ends : e ≤ length f
    pub before : CostBefore f at e

  pub step_read : {st : Step} {e : ℕ} → read_step f sizes at ≡ accepted (st, e) → StepRead st e
  unfolding read_step
  step_read h =
      let a = through (read_operator f sizes at) h in
      let o = operator_read f sizes at a.first in
      let word = word_is f o.place o.weight.fits o.weight.value in
      let same = step_is f at a.got.0.pre a.got.0.eff o.effect o.place a.got.0.weight o.pre.same o.pre.next o.eff.same o.eff.next word in
      carried a.then StepRead (record {
        same = same;
        fits = omega (arith, o.pre.next, o.pre.fits);
        ends = omega (arith, o.weight.next, o.weight.fits);
        before = record { place = o.place; ends = o.weight.next; cost = word ∙ sym (ap (λ (st : Step). st.cost) same) };
      })

  -- past a step is past its operator
  pub next_step : next_of (read_step f sizes at) ≡ next_of (read_operator f sizes at)
  unfolding read_step
  next_step = go (read_operator f sizes at)
    where
      go : (r : Read (Operator × ℕ)) → next_of {X = Step} (◌>>=◌ r (λ (p : Operator × ℕ). accepted (record { pre = p.0.pre; eff = p.0.eff; cost = p.0.weight }, p.1))) ≡ next_of r
      go (accepted p) = refl
      go (refused n p) = refl

-- two bytes before its end a step has its cost
pub cost_before : (f : List ℕ) {at end : ℕ} → CostBefore f at end → word_at f (end - 2) ≡ (step_at f at).cost
cost_before f {end = end} b = let here : end - 2 ≡ b.place = omega (arith, b.ends) in ap (word_at f) here ∙ b.cost

-- ---- the step count

module _ (f : List ℕ) (at : ℕ) where
  pub count_refused : {n p : ℕ} → read_number f 2 at ≡ refused n p → read_step_count f at ≡ refused n p
  unfolding read_step_count
  count_refused h = field_refused f 2 (λ n. leb n max_steps) 3 at h

  pub count_high : {n : ℕ} → read_number f 2 at ≡ accepted n → max_steps < n → read_step_count f at ≡ refused 3 at
  unfolding read_step_count
  count_high {n} h l = field_wrong f 2 (λ n. leb n max_steps) 3 at h (lt-leb n max_steps l)

  pub count_good : {n : ℕ} → read_number f 2 at ≡ accepted n → n ≤ max_steps → read_step_count f at ≡ accepted (n, at + 2)
  unfolding read_step_count
  count_good {n} h l = field_good f 2 (λ n. leb n max_steps) 3 at h (le-leb n max_steps l)

-- ---- marking the steps

pub steps_more : (f sizes : List ℕ) (from i : ℕ) {at q : ℕ} → next_of (read_steps f sizes i from) ≡ accepted at → next_of (read_step f sizes at) ≡ accepted q → next_of (read_steps f sizes (i + 1) from) ≡ accepted q
unfolding read_steps
steps_more f sizes from i h g = rw (add-one i) (next_snoc (λ (r : ℕ). read_step f sizes) 0 i from h g)

-- where a step is refused there is nothing to mark
pub marked_none : (f sizes : List ℕ) (count from : ℕ) (offsets : List ℕ) {n p : ℕ} → next_of (read_steps f sizes count from) ≡ refused n p → Marked f sizes count from offsets
marked_none f sizes count from offsets h = record { marks = λ e j l. absurd (not_refused (sym h ∙ e)) }

-- ---- steps in place

module _ (f : List ℕ) (at : ℕ) (s : List ℕ) where
  pub performs : {effect cost : ℕ} → Alike f effect (past_partial f at) → Alike f cost (past_partial f effect) → true ≡ holds (partial_at f at) s
      → next (apply (partial_at f effect) s) (word_at f cost) ≡ perform (step_at f at) s
  unfolding step_at
  performs {effect} {cost} e c h =
      let word : word_at f cost ≡ word_at f (past_partial f (past_partial f at)) = alike_word f c ∙ alike_word f (alike_past f e) in
      rw (← h, attempt, alike_partial f e, word)

  pub performs_not : false ≡ holds (partial_at f at) s → blocked ≡ perform (step_at f at) s
  unfolding step_at
  performs_not h = rw (← h, attempt)
