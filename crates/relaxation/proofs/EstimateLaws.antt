-- The estimate of a task is what it is by one pass over each diagram.
use Rattle.std.specs.Prelude.{◌≡◌, ℕ, List, map, length, get_or}
use Rattle.std.proofs.Common.{sym, ap, ◌∙◌}
use Rattle.std.proofs.lemmas.Simd.{map-map}
use Rattle.facts.specs.State.{Inside}
use Rattle.facts.specs.PartialLaws.{inside_at}
use Rattle.estimate.specs.Number.{Number, sum}
use Rattle.estimate.specs.Additive.{fact_number, sum_from, offer_of}
use Rattle.estimate.specs.AdditiveLaws.{additive_agrees}
use Rattle.taskfile.specs.Task.{Task, WfTask}
use Rattle.relaxation.specs.LeastLaws.{map_agree}
use Rattle.relaxation.specs.Estimate.{least_cost, action_achiever, estimate}
use Rattle.relaxation.specs.EstimatePass.{least_cost_by_pass, estimate_by_pass}
use Rattle.relaxation.proofs.LeastCostLaws.{least_cost_by_pass_lem}

pub estimate_by_pass_lem : {t : Task} → WfTask t → (s : List ℕ) → Inside t.sizes s → estimate t s ≡ estimate_by_pass t s
estimate_by_pass_lem {t} wf s inside =
    let sizes = t.sizes in
    let valued = action_achiever least_cost sizes in
    let passed = action_achiever least_cost_by_pass sizes in
    additive_agrees sizes s inside (map valued t.actions) (map passed t.actions) t.goal (λ numbers own.
    let of = fact_number sizes numbers in
    let offer = offer_of (length sizes) of in
    map-map offer valued t.actions
    ∙ map_agree (λ x. offer (valued x)) (λ x. offer (passed x)) t.actions (λ a x h.
    ap (λ (least : Number). record { effect = x.eff; number = sum (sum_from of 0 (length sizes) x.pre) least })
    (least_cost_by_pass_lem (wf.actions h) of (λ v l. record { value = get_or s v 0; inside = inside_at sizes s v inside l; is_zero = own.is_zero v l })))
    ∙ sym (map-map offer passed t.actions))
