-- The least cost of an action by the old numbers, over all valuations, is what one pass over its diagram finds, where each variable has a value
-- with the number 0.
use Rattle.std.specs.Prelude.{◌≡◌, refl, Bool, true, false, ◌||◌, List, [], ◌∷◌, map, eqb, length}
use Rattle.std.proofs.Common.{sym, ◌∙◌, eq-eqb}
use Rattle.std.proofs.Math.Path.{ap, fun_ext}
use Prim.Native.Nat.{ℕ, suc, ◌+◌, ◌<◌}
use native.Mathlib.Omega.{arith}
use Rattle.std.proofs.lemmas.Bool.{false≢true}
use Rattle.std.proofs.Math.ListN.{get_or}
use Rattle.facts.specs.Lists.{up_from, At, here, there}
use Rattle.facts.specs.ListLaws.{length_up_from, at_none, at_up_from}
use Rattle.estimate.specs.Number.{Number, exact, never, capped, sum, lesser}
use Rattle.estimate.specs.NumberLaws.{lesser_comm, lesser_zero}
use Rattle.taskfile.specs.Task.{Node, Action, WfAction}
use Rattle.relaxation.specs.Least.{least_of}
use Rattle.relaxation.specs.PassLaws.{pass_agrees}
use Rattle.relaxation.specs.LeastByPass.{weighed, Usable, Choice, Choices, last, next, least_by_pass}
use Rattle.relaxation.specs.Estimate.{tests, tested_values, valuations, tested_number, least_cost}
use Rattle.relaxation.specs.EstimatePass.{number_pass, least_cost_by_pass}
use Rattle.relaxation.specs.LeastCostLaws.{numbers, up_from_below, Grounded}

-- ---- the numbers of the estimate as a min-plus algebra

-- nothing is less than 0
least_zero : (f : ℕ → Number) {values : List ℕ} {k z : ℕ} → At values k z → f z ≡ exact 0 → least_of lesser never (map f values) ≡ exact 0
least_zero f {values = []} a e = absurd (at_none a)
least_zero f {values = d ∷ []} here e = e
least_zero f {values = d ∷ []} (there a) e = absurd (at_none a)
least_zero f {values = d ∷ c ∷ values} here e = ap (λ a. lesser a (least_of lesser never (map f (c ∷ values)))) e ∙ lesser_zero (least_of lesser never (map f (c ∷ values)))
least_zero f {values = d ∷ c ∷ values} (there a) e = ap (lesser (f d)) (least_zero f a e) ∙ lesser_comm (f d) (exact 0) ∙ lesser_zero (f d)

-- ---- the variables that a diagram tests

-- the variable of a node is tested
tests_node : {nodes : List Node} {j : ℕ} {nd : Node} → At nodes j nd → tests nodes nd.var ≡ true
tests_node (here {x = nd} {xs = nodes}) = ap (λ b. b || tests nodes nd.var) (eq-eqb nd.var nd.var refl)
tests_node (there {x = nd} {y = y} h) = go (eqb y.var nd.var) (tests_node h)
  where
    go : {rest : Bool} (b : Bool) → rest ≡ true → (b || rest) ≡ true
    go true e = refl
    go false e = e

module _ (nodes : List Node) (v : ℕ) where
  -- a valuation may give a tested variable any value
  values_tested : (size : ℕ) → tests nodes v ≡ true → tested_values nodes v size ≡ up_from 0 size
  values_tested size e = ap (λ (b : Bool). elim b as (λ b. List ℕ) [ true ↦ up_from 0 size | false ↦ 0 ∷ [] ]) e

  -- and an untested one the value 0
  values_untested : (size : ℕ) → tests nodes v ≡ false → tested_values nodes v size ≡ 0 ∷ []
  values_untested size e = ap (λ (b : Bool). elim b as (λ b. List ℕ) [ true ↦ up_from 0 size | false ↦ 0 ∷ [] ]) e

  -- a value of a tested variable adds its number
  number_tested : (of : ℕ → ℕ → Number) → tests nodes v ≡ true → tested_number of nodes v ≡ of v
  number_tested of e = fun_ext (λ d. rw (e, tested_number))

  -- and one of an untested variable 0
  number_untested : (of : ℕ → ℕ → Number) (d : ℕ) → tests nodes v ≡ false → tested_number of nodes v d ≡ exact 0
  number_untested of d e = rw (e, tested_number)

-- ---- the law

module _ {sizes : List ℕ} {x : Action} (wf : WfAction sizes x) (of : ℕ → ℕ → Number) (grounded : (v : ℕ) → v < length sizes → Grounded of (get_or sizes v 0) v) where
  -- the values that the pass goes by
  abbrev values : ℕ → List ℕ
  values v = up_from 0 (get_or sizes v 0)

  -- the number that a valuation adds for a value
  abbrev added : ℕ → ℕ → Number
  added = tested_number of x.nodes

  -- a variable that has such a value has values
  some_value : (v size : ℕ) → Grounded of size v → 0 < length (up_from 0 size)
  some_value v size g = omega (arith, length_up_from 0 size, g.inside)

  usable : Usable numbers never added values wf
  usable = record {
    some = λ {j} {nd} h. some_value nd.var (get_or sizes nd.var 0) (grounded nd.var (wf.nodes h).var_below);
    inside = λ {j} {nd} h. up_from_below 0 (get_or sizes nd.var 0) (get_or sizes nd.var 0) (omega arith);
  }

  -- one variable's values
  choice : (v size : ℕ) → size ≡ get_or sizes v 0 → Grounded of size v → (b : Bool) → tests x.nodes v ≡ b → Choice numbers never added values wf v (tested_values x.nodes v size)
  choice v size is g true e =
      rw (values_tested x.nodes v size e)
      (record {
        some = some_value v size g;
        neutral = ap (λ f. least_of lesser never (map f (up_from 0 size))) (number_tested x.nodes v of e) ∙ least_zero (of v) (at_up_from 0 size g.value g.value g.inside (omega arith)) g.is_zero;
        tested = λ h q. ap (up_from 0) is;
      })
  choice v size is g false e =
      rw (values_untested x.nodes v size e)
      (record {
        some = omega arith;
        neutral = number_untested x.nodes v of 0 e;
        tested = λ h q. absurd (false≢true (sym e ∙ ap (tests x.nodes) (sym q) ∙ tests_node h));
      })

  -- the valuations of the variables from v on
  choices_from : (v : ℕ) (left : List ℕ) → v + length left ≡ length sizes → ((k q : ℕ) → k < length left → q ≡ v + k → get_or left k 0 ≡ get_or sizes q 0)
      → Choices numbers never added values wf v (valuations x.nodes v left)
  choices_from v [] n is = last {v = v} (omega arith)
  choices_from v (size ∷ left) n is =
      let here-is : size ≡ get_or sizes v 0 = is 0 v (omega arith) (omega arith) in
      next
      (choice v size here-is (rw here-is (grounded v (omega arith))) (tests x.nodes v) refl)
      (choices_from (suc v) left (omega arith) (λ k q l e. is (suc k) q (omega arith) (omega arith)))

  -- "the least, over all valuations of the variables that its diagram tests, of cost plus the old numbers of those values": one pass finds it.
  pub least_cost_by_pass_lem : least_cost sizes of x ≡ least_cost_by_pass sizes of x
  unfolding least_cost least_cost_by_pass
  least_cost_by_pass_lem =
      least_by_pass numbers never added values wf usable (choices_from 0 sizes (omega arith) (λ k q l e. let z : k ≡ q = omega arith in ap (λ (n : ℕ). get_or sizes n 0) z))
      ∙ ap (sum (capped x.incoming))
      (pass_agrees (weighed sum lesser capped never added values) (number_pass sizes of).across x.nodes
      (λ j nd a k d b. ap {B = ℕ → Number → Number} (λ (number : ℕ → Number) (w : ℕ) (later : Number). sum (capped w) (sum (number d) later)) (number_tested x.nodes nd.var of (tests_node a))) 1)
