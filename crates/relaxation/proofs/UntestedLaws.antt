-- "Where costs and preconditions share no variable, no cost given moves."
use Rattle.std.specs.Prelude.{◌≡◌, refl, ℕ, zero, suc, ◌+◌, ◌-◌, ◌≤◌, min, None}
use Rattle.std.proofs.Common.{sym, ap₂, ◌∙◌, arith}
use Rattle.std.proofs.Math.Path.{ap}
use mathlib.Core.List.{List, [], ◌∷◌, map}
use Rattle.std.proofs.Math.ListN.{get_or}
use Rattle.facts.specs.Read.{accepted}
use Rattle.facts.specs.Lists.{All, At, here, there}
use Rattle.facts.specs.Partial.{Partial}
use Rattle.value.specs.Value.{value_of}
use Rattle.taskfile.specs.Task.{Node, Action, max_values, WfAction}
use Rattle.relaxation.specs.Least.{least_of}
use Rattle.relaxation.specs.Relaxed.{values_in, RelaxedInside, relaxed_cost}
use Rattle.relaxation.specs.RelaxedTask.{check_meets}
use Rattle.relaxation.specs.Pass.{by_edge, least_froms}
use Rattle.relaxation.specs.RelaxedPass.{relaxed_pass, relaxed_by_pass}
use Rattle.relaxation.specs.Narrowing.{kept_set, narrowed_from, narrowed}
use Rattle.relaxation.specs.RelaxedLaws.{sets_by_pass}
use Rattle.relaxation.proofs.NarrowingLaws.{relaxed_by_pass_lem}
use Rattle.relaxation.specs.UntestedLaws.{unrestricted_cost, Untested}

-- ---- a pass depends on the sets of the variables that are tested

module _ (sets others : List ℕ) where
  abbrev Same : List Node → Type 0
  Same nodes = (j : ℕ) (nd : Node) → At nodes j nd → get_or sets nd.var 0 ≡ get_or others nd.var 0

  -- the least from a node on, by its variable's set and what is found later
  abbrev least_by : ℕ → Node → ℕ → List ℕ → ℕ
  least_by i nd set later = least_of min 0 (map (by_edge (relaxed_pass sets) nd (λ k. get_or later (k - suc i) 0)) (values_in set))

  froms_same : (i : ℕ) (nodes : List Node) → Same nodes → least_froms (relaxed_pass sets) i nodes ≡ least_froms (relaxed_pass others) i nodes
  froms_same i [] h = refl
  froms_same i (nd ∷ nodes) h = ap₂ (λ (set : ℕ) (later : List ℕ). least_by i nd set later ∷ later) (h 0 nd here) (froms_same (suc i) nodes (λ j nd a. h (suc j) nd (there a)))

  pass_same : (x : Action) → Same x.nodes → relaxed_by_pass x sets ≡ relaxed_by_pass x others
  unfolding relaxed_by_pass
  pass_same x h = ap (λ (froms : List ℕ). x.incoming + get_or froms 0 0) (froms_same 1 x.nodes h)

-- a set whose variable has no value in the precondition stays
narrowed_same : (v : ℕ) (p : Partial) (sets : List ℕ) (k q : ℕ) → q ≡ v + k → value_of p q ≡ None → get_or (narrowed_from v p sets) k 0 ≡ get_or sets k 0
narrowed_same v p [] k q e h = refl
narrowed_same v p (set ∷ sets) zero q e h = let z : v ≡ q = omega arith in ap (kept_set set) (ap (value_of p) z ∙ h)
narrowed_same v p (set ∷ sets) (suc k) q e h = narrowed_same (suc v) p sets k q (omega arith) h

-- ---- the law: where 17 does not refuse, what is given is what was given

pub untested_same : {sizes : List ℕ} {x : Action} → WfAction sizes x → All (λ d. d ≤ max_values) sizes → (sets : List ℕ) → RelaxedInside sizes sets → {u : Unit {0}}
    → check_meets x.pre sets ≡ accepted u → Untested x → relaxed_cost x sets ≡ unrestricted_cost x sets
unfolding unrestricted_cost
untested_same {x = x} wf small sets inside meets untested =
    relaxed_by_pass_lem wf small sets inside meets
    ∙ pass_same (narrowed x.pre sets) sets x (λ j nd a. narrowed_same 0 x.pre sets nd.var nd.var (omega arith) (untested j nd a))
    ∙ sym (sets_by_pass wf small sets inside)
