-- The least cost of an action over all states whose every value is in some sets is what one pass over its diagram finds.
use Rattle.std.specs.Prelude.{◌≡◌, refl, List, [], ◌∷◌, map, length, get_or}
use Rattle.std.proofs.Math.Path.{ap, fun_ext}
use Rattle.std.proofs.Common.{◌∙◌, add_comm, add_assoc, arith, pow_mono}
use Prim.Native.Nat.{ℕ, zero, suc, ◌+◌, ◌/◌, ◌%◌, ◌^◌, ◌≤◌, ◌<◌, min}
use Rattle.facts.specs.Lists.{All, nil, cons, At, here, there}
use Rattle.facts.specs.ListLaws.{at_get_d, all_at}
use Rattle.taskfile.specs.Task.{Node, Action, max_values, WfAction, cost}
use Rattle.relaxation.specs.Least.{least_of, least_over, values_sum, MinPlus}
use Rattle.relaxation.specs.Relaxed.{values_from, values_in, SetInside, RelaxedInside}
use Rattle.relaxation.specs.PassLaws.{at_value, Above, edges_above, pass_agrees}
use Rattle.relaxation.specs.LeastByPass.{weighed, Usable, Choices, last, next, least_by_pass}
use Rattle.relaxation.specs.RelaxedPass.{relaxed_pass, relaxed_by_pass}

-- ---- the values of a set

-- the first value by its bit
abbrev pub with_bit : ℕ → ℕ → List ℕ → List ℕ
with_bit b d more = elim b [ zero ↦ more | suc c ↦ d ∷ more ]

-- the empty set has none
pub no_values : (n d : ℕ) → values_from n d 0 ≡ []
no_values zero d = refl
no_values (suc n) d = no_values n (suc d)

-- no value is outside the domain if no bit is
values_below : (n d set size most : ℕ) → set < 2 ^ size → most ≡ d + size → All (λ y. y < most) (values_from n d set)
values_below zero d set size most h e = tt
values_below (suc n) d set zero most h e = let z : set ≡ 0 = omega arith in rw (z, no_values (suc n) d) tt
values_below (suc n) d set (suc size) most h e = go (set % 2) (values_below n (suc d) (set / 2) size most (omega arith) (omega arith))
  where
    go : (b : ℕ) → All (λ y. y < most) (values_from n (suc d) (set / 2)) → All (λ y. y < most) (with_bit b d (values_from n (suc d) (set / 2)))
    go zero more = more
    go (suc b) more = (omega arith, more)

-- a set that is not empty has a value
values_some : (n d set : ℕ) → 0 < set → set < 2 ^ n → 0 < length (values_from n d set)
values_some zero d set h l = absurd (omega arith)
values_some (suc n) d set h l = go (set % 2) refl (λ k. values_some n (suc d) (set / 2) k (omega arith))
  where
    go : (b : ℕ) → set % 2 ≡ b → (0 < set / 2 → 0 < length (values_from n (suc d) (set / 2))) → 0 < length (with_bit b d (values_from n (suc d) (set / 2)))
    go zero e more = more (omega arith)
    go (suc b) e more = omega arith

module _ {size set : ℕ} (h : SetInside size set) where
  -- none outside the domain
  pub set_below : All (λ d. d < size) (values_in set)
  set_below = values_below max_values 0 set size size h.no_stray (omega arith)

  -- and some
  pub set_some : size ≤ max_values → 0 < length (values_in set)
  set_some few = let p : 2 ^ size ≤ 2 ^ max_values = pow_mono few in values_some max_values 0 set h.some (omega (arith, h.no_stray))

-- ---- costs as a min-plus algebra, in which no value has a number of its own

pub costs : MinPlus ◌+◌ min (λ (n : ℕ). n)
costs = record {
  sum_comm = add_comm;
  sum_assoc = add_assoc;
  lesser_assoc = λ a b c. omega arith;
  sum_lesser = λ a b c. omega arith;
  of_sum = λ m n. refl;
}

-- the number of each value
abbrev nothing : ℕ → ℕ → ℕ
nothing v d = 0

-- the least of zeros
least_nothing : (values : List ℕ) (v : ℕ) → least_of min 0 (map (nothing v) values) ≡ 0
least_nothing [] v = refl
least_nothing (d ∷ []) v = refl
least_nothing (d ∷ e ∷ values) v = omega arith

-- their sum
sum_nothing : (v : ℕ) (s : List ℕ) → values_sum ◌+◌ 0 nothing v s ≡ 0
sum_nothing v [] = refl
sum_nothing v (d ∷ s) = omega (arith, sum_nothing (suc v) s)

-- ---- the law

-- the set of a variable
pub inside_set : {sizes sets : List ℕ} (v : ℕ) → RelaxedInside sizes sets → v < length sizes → SetInside (get_or sizes v 0) (get_or sets v 0)
inside_set v nil l = absurd (omega arith)
inside_set zero (cons r z) l = r
inside_set (suc v) (cons r z) l = inside_set v z (omega arith)

module _ {sizes : List ℕ} {x : Action} (wf : WfAction sizes x) (small : All (λ d. d ≤ max_values) sizes) (sets : List ℕ) (inside : RelaxedInside sizes sets) where
  -- the values that the pass goes by
  abbrev set_values : ℕ → List ℕ
  set_values v = values_in (get_or sets v 0)

  usable : Usable costs 0 nothing set_values wf
  usable = record {
    some = λ {j} {nd} h.
        let l = (wf.nodes h).var_below in
        set_some (inside_set nd.var inside l) (all_at (λ d. d ≤ max_values) small (at_get_d sizes nd.var 0 l));
    inside = λ {j} {nd} h. set_below (inside_set nd.var inside (wf.nodes h).var_below);
  }

  -- the edges for values in the sets lead up
  pub relaxed_above : {j : ℕ} {nd : Node} → At x.nodes j nd → Above (relaxed_pass sets) (suc j) nd
  relaxed_above h = edges_above (relaxed_pass sets) wf h (usable.inside h)

  -- the sets of the variables from v on
  choices_from : (v : ℕ) {sizes-left sets-left : List ℕ} → RelaxedInside sizes-left sets-left → All (λ d. d ≤ max_values) sizes-left → v + length sizes-left ≡ length sizes
      → ((k q set : ℕ) → At sets-left k set → q ≡ v + k → set ≡ get_or sets q 0) → Choices costs 0 nothing set_values wf v (map values_in sets-left)
  choices_from v nil few n is = last {v = v} (omega arith)
  choices_from v (cons {b = set} r z) few n is =
      next
      (record { some = set_some r few.0; neutral = least_nothing (values_in set) v; tested = λ h q. ap values_in (is 0 v set here (omega arith)) })
      (choices_from (suc v) z few.1 (omega arith) (λ k q set a e. is (suc k) q set (there a) (omega arith)))

  -- the least cost over all states whose every value is in the sets: one pass finds it
  pub sets_by_pass : least_over min 0 (map values_in sets) (cost x) ≡ relaxed_by_pass x sets
  unfolding relaxed_by_pass
  sets_by_pass =
      ap (least_over min 0 (map values_in sets)) (fun_ext (λ s. omega (arith, sum_nothing 0 s)))
      ∙ least_by_pass costs 0 nothing set_values wf usable (choices_from 0 inside small (omega arith) (λ k q set a e. at_value 0 a (omega arith)))
      ∙ ap (λ c. x.incoming + c)
      (pass_agrees (weighed ◌+◌ min (λ (n : ℕ). n) 0 nothing set_values) (relaxed_pass sets).across x.nodes
      (λ j nd a k d b. fun_ext (λ w. fun_ext (λ later. omega arith))) 1)
