-- Laws of relaxed costs of task files: the ways in which the check of a relaxed state can go, what an accepted one is, and the relaxed cost of an action
-- in place, with the sets narrowed in a copy.
use Rattle.std.specs.Prelude.{◌≡◌, refl, true, ℕ, suc, ◌^◌, List, ltb}
use Rattle.std.proofs.Common.{sym, subst, ◌∙◌, arith, ltb-true}
use Rattle.std.proofs.Math.Path.{ap}
use Rattle.std.proofs.Math.Bool.{and-eq-true_iff}
use Rattle.facts.specs.Read.{accepted}
use Rattle.facts.specs.Lists.{nil, cons}
use Rattle.facts.specs.ListLaws.{zip_map, zip_length}
use Rattle.facts.specs.Partial.{partial_at}
use Rattle.facts.specs.State.{check_values}
use Rattle.facts.specs.StateLaws.{with_good}
use Rattle.taskfile.specs.PartsInPlace.{action_in}
use Rattle.relaxation.specs.Relaxed.{SetInside, RelaxedInside}
use Rattle.relaxation.specs.RelaxedPass.{relaxed_by_pass}
use Rattle.relaxation.specs.Narrowing.{narrowed}
use Rattle.relaxation.specs.NarrowingLaws.{meets_inside}
use Rattle.relaxation.proofs.NarrowingLaws.{relaxed_by_pass_lem}
use Rattle.relaxation.specs.RelaxedInPlace.{Relaxable}
use Rattle.relaxation.specs.RelaxedTask.{good_set, check_relaxed, check_meets, relaxed_in}
use Rattle.relaxation.specs.RelaxedTaskLaws.{set_good, relaxed_values}

-- ---- the test of a set

set_inside : (size set : ℕ) → good_set size set ≡ true → SetInside size set
set_inside size set h =
    let both = (and-eq-true_iff (ltb 0 set) (ltb set (2 ^ size))).0 h in
    record { some = ltb-true 0 set both.0; no_stray = ltb-true set (2 ^ size) both.1 }

-- ---- the check

module _ (sizes sets : List ℕ) where
  pub relaxed_inside : {u : Unit {0}} → check_relaxed sizes sets ≡ accepted u → RelaxedInside sizes sets
  unfolding check_relaxed
  relaxed_inside h = zip_map SetInside set_inside (with_good good_set sizes sets h)

each_good : (v : ℕ) {sizes sets : List ℕ} → RelaxedInside sizes sets → check_values good_set v sizes sets ≡ accepted tt
each_good v nil = refl
each_good v (cons {a = size} {b = set} r z) = let some = r.some in rw (set_good size set (λ e. omega arith) r.no_stray) (each_good (suc v) z)

pub relaxed_accepted : (sizes sets : List ℕ) → RelaxedInside sizes sets → check_relaxed sizes sets ≡ accepted tt
relaxed_accepted sizes sets inside = relaxed_values sizes sets (sym (zip_length inside)) ∙ each_good 0 inside

-- ---- the action at an offset

module _ {f sizes : List ℕ} {at : ℕ} {offsets sets : List ℕ} (r : Relaxable f sizes at offsets sets) where
  module _ {copy : List ℕ} (meets : check_meets (partial_at f at) sets ≡ accepted tt) (is : copy ≡ narrowed (partial_at f at) sets) where
    -- the narrowed copy is a relaxed state of it
    pub copy_relaxable : Relaxable f sizes at offsets copy
    copy_relaxable = record { wf = r.wf; small = r.small; few = r.few; inside = subst (RelaxedInside sizes) (sym is) (meets_inside (partial_at f at) meets r.inside) }

    -- and the pass over it finds the relaxed cost
    pub copy_cost : relaxed_in (action_in f sizes at offsets) sets ≡ accepted (relaxed_by_pass (action_in f sizes at offsets) copy)
    unfolding relaxed_in
    copy_cost = rw meets (ap accepted (relaxed_by_pass_lem r.wf r.small sets r.inside meets ∙ ap (relaxed_by_pass (action_in f sizes at offsets)) (sym is)))
