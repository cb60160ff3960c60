-- What the probe of an accepted task rests on: its domain sizes, and partial states extended. That it is well-formed and is read back as itself: proofs/CompiledLaws.antt.
use Rattle.std.specs.Prelude.{◌≡◌, refl, ℕ, zero, suc, ◌+◌, ◌*◌, ◌%◌, ◌^◌, ◌≤◌, ◌<◌, length, get_or}
use Rattle.std.proofs.Common.{sym, ◌∙◌, subst, add-zero, lt_of_lt_of_le, get_or-append-add, pow_mono}
use Rattle.std.proofs.Math.Path.{ap}
use native.Mathlib.Omega.{arith}
use mathlib.Core.List.{List, [], ◌∷◌, ◌++◌, map}
use Rattle.std.proofs.Math.ListN.{length-append, get_or-append}
use Rattle.std.proofs.lemmas.List.{length-map}
use Rattle.std.proofs.Math.Seq.{get_or-append_seam}
use Rattle.std.proofs.Math.Pow.{pow_pos}
use Rattle.std.specs.Int.Count.{ones, ones_cat}
use Rattle.facts.specs.Read.{accepted}
use Rattle.facts.specs.Lists.{At}
use Rattle.facts.specs.Bytes.{Bytes}
use Rattle.facts.specs.Partial.{Partial, above, empty}
use Rattle.facts.specs.PartialLaws.{Below, wf_below}
use Rattle.facts.specs.State.{Inside}
use Rattle.facts.specs.WellFormed.{Fits, Values, WfPartial}
use Rattle.taskfile.specs.Task.{Action, Task, WfTask, Limits, Weights}
use Rattle.taskfile.specs.TaskFile.{read_task}
use Rattle.taskfile.specs.TaskReadLaws.{task_weights}
use Rattle.taskfile.proofs.TaskReadLaws.{task_wf, task_limits}
use Rattle.compilation.specs.Extend.{extend, clear}
use Rattle.compilation.specs.Compile.{variables, marker, marker_size}
use Rattle.compilation.specs.ExtendLaws.{below_empty, below_more, above_extend, below_extend, extend_bit}
use Rattle.compilation.specs.StepLaws.{map_at}

-- ---- values inside their domains

-- One more value behind the others: the first variable's still fits.
fits_snoc : (b : ℕ) (values : List ℕ) (x d : ℕ) → Fits b values d → Fits b (values ++ (x ∷ [])) d
fits_snoc zero values x d h = tt
fits_snoc (suc b) [] x d h = absurd h
fits_snoc (suc b) (v ∷ values) x d h = h

-- No values are inside any domains.
pub values_empty : (sizes : List ℕ) → Values empty sizes
values_empty [] = tt
values_empty (d ∷ sizes) = (tt, values_empty sizes)

-- More variables do not matter to facts of the first ones.
pub values_append : (sizes more : List ℕ) (p : Partial) → Below (length sizes) p → Values p sizes → Values p (sizes ++ more)
values_append [] more p h v = rw h (values_empty more)
values_append (d ∷ sizes) more p h v = (v.0, values_append sizes more (above p) h.1 v.1)

-- One more fact, of a value inside its variable's domain.
pub values_extend : (x v : ℕ) (p : Partial) (sizes : List ℕ) → Below v p → Values p sizes → x < get_or sizes v 0 → Values (extend p v x) sizes
values_extend x v p [] h u l = tt
values_extend x zero p (d ∷ sizes) h u l = rw h (l, values_empty sizes)
values_extend x (suc v) p (d ∷ sizes) h u l = (
  rw (extend_bit p.map v) (fits_snoc (p.map % 2) p.values x d u.0),
  subst (λ (q : Partial). Values q sizes) (sym (above_extend x p v h)) (values_extend x v (above p) sizes h.1 u.1 l),
)

-- Facts of variables below v, inside the domains.
pub record FactsBelow (sizes : List ℕ) (v : ℕ) (p : Partial) : Type 0 where
  pub below : Below v p
  pub map_below : p.map < 2 ^ v
  pub count : ones p.map ≡ length p.values
  pub values : Values p sizes

-- The new bit stands above the old ones.
bit_above : (m w : ℕ) → m + 2 ^ w ≡ 1 * 2 ^ w + m
bit_above m w = omega arith

module _ {sizes : List ℕ} where
  -- Facts of variables that there are make a well-formed partial state.
  pub facts_wf : {v : ℕ} {p : Partial} → FactsBelow sizes v p → v ≤ length sizes → WfPartial sizes p
  facts_wf h l = record { map_below = lt_of_lt_of_le h.map_below (pow_mono l); count = h.count; values = h.values }

  -- Facts of variables below v are facts of variables below any larger number.
  pub facts_more : {v w : ℕ} {p : Partial} → FactsBelow sizes v p → v ≤ w → FactsBelow sizes w p
  facts_more {v} {w} {p} h l = record { below = below_more v w p h.below l; map_below = lt_of_lt_of_le h.map_below (pow_mono l); count = h.count; values = h.values }

  -- No facts are facts of variables below any number.
  pub facts_empty : (v : ℕ) → FactsBelow sizes v empty
  unfolding ones
  facts_empty v = record { below = below_empty v; map_below = pow_pos v; count = refl; values = values_empty sizes }

  -- One more fact above the others, of a value inside its domain.
  pub facts_extend : {v : ℕ} {p : Partial} (w x : ℕ) → FactsBelow sizes v p → v ≤ w → x < get_or sizes w 0 → FactsBelow sizes (suc w) (extend p w x)
  unfolding ones
  facts_extend {v} {p} w x h l u =
      let g = facts_more {v = v} {w = w} h l in
      let b : p.map < 2 ^ w = g.map_below in
      record {
        below = below_extend x w p g.below;
        map_below = omega arith;
        count = ap ones (bit_above p.map w) ∙ ones_cat w 1 p.map b ∙ simp length-append (omega (arith, h.count));
        values = values_extend x w p sizes g.below h.values u;
      }

  -- A row of zeros above the others, of variables that there are.
  pub facts_clear : {p : Partial} (v k : ℕ) → FactsBelow sizes v p → ((w : ℕ) → w < v + k → 0 < get_or sizes w 0) → FactsBelow sizes (v + k) (clear p v k)
  facts_clear {p} v zero h u = rw (add-zero v) h
  facts_clear {p} v (suc k) h u =
      subst (λ (w : ℕ). FactsBelow sizes w (clear p v (suc k))) (omega arith) (facts_clear {p = extend p v 0} (suc v) k (facts_extend v 0 h (omega arith) (u v (omega arith))) (λ w l. u w (omega arith)))

-- Joined states are inside joined domains.
pub inside_append : (sizes more s z : List ℕ) → Inside sizes s → Inside more z → Inside (sizes ++ more) (s ++ z)
inside_append [] more [] z h g = g
inside_append [] more (x ∷ s) z h g = absurd h
inside_append (d ∷ sizes) more [] z h g = absurd h
inside_append (d ∷ sizes) more (x ∷ s) z h g = (h.0, inside_append sizes more s z h.1 g)

-- ---- what the file of a task guarantees

-- All that is known of the task of an accepted file.
pub record AcceptedTask (t : Task) : Type 0 where
  pub wf : WfTask t
  pub limits : Limits t
  pub weights : {a : ℕ} {x : Action} → At t.actions a x → Weights x

-- The task of an accepted file of bytes has all of it.
pub task_accepted : (f : List ℕ) → Bytes f → {t : Task} → read_task f ≡ accepted t → AcceptedTask t
task_accepted f bytes h = record { wf = task_wf f h; limits = task_limits f h; weights = task_weights f h bytes }

-- ---- the probe of a task

module _ (t : Task) where
  -- The domain sizes of the probe: the task's, the semaphore's, and a marker's for each action.
  abbrev pub all_sizes : List ℕ
  all_sizes = t.sizes ++ (2 ∷ map marker_size t.actions)

  -- A variable for each of the task's, the semaphore, and a marker for each action.
  pub sizes_length : length all_sizes ≡ variables t + suc (length t.actions)
  sizes_length = simp (length-append, length-map t.actions marker_size)

  -- The task's variables keep their domains.
  pub task_size : (v : ℕ) → v < variables t → get_or all_sizes v 0 ≡ get_or t.sizes v 0
  task_size v h = get_or-append t.sizes (2 ∷ map marker_size t.actions) 0 v h

  -- The semaphore has two values.
  pub semaphore_size : get_or all_sizes (variables t) 0 ≡ 2
  semaphore_size = get_or-append_seam t.sizes 2 (map marker_size t.actions) 0

  -- The marker of an action has a value for 0, each node and the terminal.
  pub marker_size_lem : {a : ℕ} {x : Action} → At t.actions a x → get_or all_sizes (marker (variables t) a) 0 ≡ marker_size x
  marker_size_lem {a} h = get_or-append-add t.sizes (2 ∷ map marker_size t.actions) (suc a) 0 ∙ map_at marker_size h

  -- A partial state of the task is one of the probe.
  pub task_facts_lem : {p : Partial} → WfPartial t.sizes p → FactsBelow all_sizes (variables t) p
  task_facts_lem {p} h = record {
    below = wf_below h;
    map_below = h.map_below;
    count = h.count;
    values = values_append t.sizes (2 ∷ map marker_size t.actions) p (wf_below h) h.values;
  }
