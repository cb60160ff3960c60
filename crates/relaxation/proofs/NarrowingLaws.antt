-- Laws of relaxed costs: the states of the narrowed sets are those of the sets that meet the precondition; so the relaxed cost is found by one pass, is at most the
-- cost in each such state, and is the cost in one.
use Rattle.std.specs.Prelude.{◌≡◌, length}
use Rattle.std.proofs.Common.{sym, subst, ◌∙◌}
use Rattle.std.proofs.Math.Path.{ap}
use mathlib.Core.List.{List, map}
use Prim.Native.Nat.{ℕ, ◌≤◌, ◌<◌, min}
use Rattle.facts.specs.Read.{accepted}
use Rattle.facts.specs.Lists.{nil, cons, All}
use Rattle.facts.specs.ListLaws.{zip_length}
use Rattle.facts.specs.Partial.{holds}
use Rattle.facts.specs.PartialLaws.{Below, wf_below}
use Rattle.taskfile.specs.Task.{Action, max_values, cost, WfAction}
use Rattle.relaxation.specs.Least.{least_of}
use Rattle.relaxation.specs.LeastLaws.{states_some}
use Rattle.relaxation.specs.Relaxed.{values_in, RelaxedInside, states_in, states_meeting, relaxed_cost}
use Rattle.relaxation.specs.RelaxedTask.{check_meets}
use Rattle.relaxation.specs.RelaxedPass.{relaxed_by_pass}
use Rattle.relaxation.specs.Narrowing.{narrowed}
use Rattle.relaxation.specs.RelaxedLaws.{set_some, sets_by_pass}
use Rattle.relaxation.specs.PassingLaws.{passing_in, least_attained}
use Rattle.relaxation.specs.NarrowingLaws.{listed_in, narrowed_states, meets_inside, Had}

-- ---- where no set lacks a value of the precondition

sets_some : {sizes sets : List ℕ} → RelaxedInside sizes sets → All (λ d. d ≤ max_values) sizes → All (λ (values : List ℕ). 0 < length values) (map values_in sets)
sets_some nil few = tt
sets_some (cons r z) few = (set_some r few.0, sets_some z few.1)

-- ---- the relaxed cost of an action

module _ {sizes : List ℕ} {x : Action} (wf : WfAction sizes x) (small : All (λ d. d ≤ max_values) sizes) (sets : List ℕ) (inside : RelaxedInside sizes sets) where
  meeting : states_meeting x.pre sets ≡ states_in (narrowed x.pre sets)
  meeting = narrowed_states x.pre sets (subst (λ (n : ℕ). Below n x.pre) (zip_length inside) (wf_below wf.pre))

  module _ {u : Unit {0}} (meets : check_meets x.pre sets ≡ accepted u) where
    -- There is such a state.
    pub meets_some : 0 < length (states_meeting x.pre sets)
    meets_some =
        subst (λ (l : List (List ℕ)). 0 < length l) (sym meeting) (states_some (map values_in (narrowed x.pre sets)) (sets_some (meets_inside x.pre meets inside) small))

    pub relaxed_had : Had wf small sets inside meets
    unfolding relaxed_cost
    relaxed_had =
        let a = least_attained (cost x) (states_meeting x.pre sets) meets_some in
        let p = passing_in (holds x.pre) (states_in sets) a.1.1 in
        record { state = a.0; in_sets = listed_in sets p.0.1; applies = p.1; costs = a.2 }

    -- One pass over the diagram finds it, with the sets narrowed.
    pub relaxed_by_pass_lem : relaxed_cost x sets ≡ relaxed_by_pass x (narrowed x.pre sets)
    unfolding relaxed_cost
    relaxed_by_pass_lem = ap (λ (l : List (List ℕ)). least_of min 0 (map (cost x) l)) meeting ∙ sets_by_pass wf small (narrowed x.pre sets) (meets_inside x.pre meets inside)
