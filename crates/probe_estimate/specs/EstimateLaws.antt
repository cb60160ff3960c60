-- Laws of the estimate of a probe file in place: the offer of a step, the offers of all, and the file that was read.
use Rattle.std.specs.Prelude.{◌≡◌, refl, Bool, ◌||◌, ℕ, ◌+◌, ◌*◌, ◌≤◌, ◌<◌, length, take}
use Rattle.std.proofs.Common.{sym, ap₂, ◌∙◌, subst, subst₂, add-one, arith, drop_of_length-le}
use Rattle.std.proofs.Math.Path.{ap}
use mathlib.Core.List.{List, [], ◌∷◌, map, map-map}
use Rattle.std.proofs.Math.ListN.{get_or, drop}
use Rattle.std.proofs.Math.Seq.{drop-cons}
use Rattle.facts.specs.Read.{accepted, refused}
use Rattle.facts.specs.Bytes.{Bytes}
use Rattle.facts.specs.Lists.{All}
use Rattle.facts.specs.Partial.{Partial, partial_at, past_partial, Alike}
use Rattle.facts.specs.InPlaceLaws.{alike_partial}
use Rattle.facts.specs.HeadLaws.{head_read}
use Rattle.facts.specs.WellFormed.{WfPartial}
use Rattle.facts.specs.State.{check_state}
use Rattle.estimate.specs.Number.{Number, exact, never, sum}
use Rattle.estimate.specs.NumberLaws.{sum_never_first}
use Rattle.estimate.specs.Facts.{most_facts}
use Rattle.estimate.specs.Additive.{sum_from, offer_of, Achiever, WfAchiever, additive}
use Rattle.estimate.specs.AdditiveLaws.{estimate_refused, estimate_turned_down, estimate_answers}
use Rattle.estimate.specs.Ranks.{rank_number, Roomy, HasRanks, Fell, after_offer}
use Rattle.estimate.specs.OfferLaws.{offer_same, offer_never}
use Rattle.estimate.specs.RanksLaws.{roomy}
use Rattle.estimate.specs.FallLaws.{Supported, constant_supported, all_supported}
use Rattle.estimate.specs.InTurn.{InTurn}
use Rattle.estimate.specs.InTurnLaws.{Turning, turning_more, turning_end}
use Rattle.offers.specs.Rounds.{WellPosed}
use Rattle.probefile.specs.Probe.{Step, WfStep, max_variables, max_values}
use Rattle.probefile.specs.ProbeLaws.{probe_lines, probe_wf}
use Rattle.probefile.specs.InPlace.{probe_at, step_at, Located, Costed}
use Rattle.probefile.specs.IndexLaws.{not_read, steps_in_place, costs_in_place, accepted_probe, starts}
use Rattle.probe_estimate.specs.Estimate.{step_achiever, probe_estimate, estimate_probe, achiever_at, after_step, Ready, InPlace}

-- ---- the offers of steps

-- the offer of the step at an offset, from its parts
pub step_offered : (f : List ℕ) (at n : ℕ) (of : ℕ → ℕ → Number) {effect cost : ℕ} {offer : Number} {ranks : List ℕ} → Alike f effect (past_partial f at) → cost ≡ (step_at f at).cost
    → offer ≡ sum (sum_from of 0 n (partial_at f at)) (exact cost) → HasRanks ranks (after_offer (record { effect = partial_at f effect; number = offer }) of)
    → HasRanks ranks (after_step f at n of)
unfolding step_at after_step
step_offered f at n of e q o h = offer_same of (sym (alike_partial f e)) (sym (o ∙ ap (λ (w : ℕ). sum (sum_from of 0 n (partial_at f at)) (exact w)) q)) h

-- a step that is never open offers nothing
pub step_never : (f : List ℕ) (at n : ℕ) (ranks : List ℕ) → sum_from (rank_number ranks) 0 n (partial_at f at) ≡ never → HasRanks ranks (after_step f at n (rank_number ranks))
unfolding step_at after_step
step_never f at n ranks e = offer_never (offer_of n (rank_number ranks) (achiever_at f at)) ranks (sym (sum_never_first _ e))

module _ (f offsets : List ℕ) (n : ℕ) where
  -- the steps from the k-th on are left to offer
  abbrev pub TurningFrom : ℕ → List ℕ → List ℕ → Bool → Type 0
  TurningFrom k before ranks fell = Turning n (map (achiever_at f) offsets) (map (achiever_at f) (drop k offsets)) before ranks fell

  -- one step more
  pub steps_more : (k : ℕ) {before ranks next : List ℕ} {x y fell : Bool} → TurningFrom k before ranks x → k < length offsets
      → HasRanks next (after_step f (get_or offsets k 0) n (rank_number ranks)) → Fell ranks next y → (x || y) ≡ fell → TurningFrom (k + 1) before next fell
  unfolding after_step
  steps_more k {before} {ranks} {x = x} g l h =
      let split : drop k offsets ≡ get_or offsets k 0 ∷ drop (k + 1) offsets = drop-cons offsets k 0 l ∙ ap (λ (j : ℕ). get_or offsets k 0 ∷ drop j offsets) (sym (add-one k)) in
      turning_more (subst (λ (ats : List ℕ). Turning n (map (achiever_at f) offsets) (map (achiever_at f) ats) before ranks x) split g) h

  -- past the last step
  pub steps_all : (k : ℕ) {before ranks : List ℕ} {fell : Bool} → TurningFrom k before ranks fell → length offsets ≤ k → InTurn n (map (achiever_at f) offsets) before ranks fell
  steps_all k {before} {ranks} {fell} g l =
      turning_end (subst (λ (ats : List ℕ). Turning n (map (achiever_at f) offsets) (map (achiever_at f) ats) before ranks fell) (drop_of_length-le offsets l) g)

-- a step has a fixed cost
pub steps_supported : (f offsets : List ℕ) → All (λ a. Supported a.cost) (map (achiever_at f) offsets)
steps_supported f offsets = all_supported (achiever_at f) (λ at. constant_supported (exact (step_at f at).cost)) offsets

-- offers of steps end on their estimate
pub posed : {f sizes : List ℕ} {goal : ℕ} {offsets : List ℕ} → Ready f sizes goal offsets → WellPosed sizes (map (achiever_at f) offsets) (partial_at f goal)
posed {f} {offsets = offsets} r = record { achievers_wf = r.steps; supported = steps_supported f offsets; goal_wf = r.goal_is }

-- ---- the file that was read

-- a well-formed step is one for the heuristic
steps_ready : (sizes : List ℕ) (steps : List Step) → All (WfStep sizes) steps → All (WfAchiever sizes) (map step_achiever steps)
steps_ready sizes [] w = tt
steps_ready sizes (st ∷ steps) w = (record { pre = w.0.pre; cost = λ of new h. refl }, steps_ready sizes steps w.1)

-- the file is refused
pub estimate_not_read : (f s : List ℕ) {n p : ℕ} → probe_at f ≡ refused n p → estimate_probe f s ≡ refused n p
estimate_not_read f s h = estimate_refused (λ p. p.sizes) probe_estimate s (not_read f h)

-- an accepted file in place, by the offsets that were noted
pub in_place : (f : List ℕ) {n k : ℕ} → Bytes f → probe_at f ≡ accepted (n, k) → (offsets : List ℕ) → Located f offsets → k ≤ length offsets → InPlace f n (take k offsets)
in_place f {n} {k} bytes h offsets loc few =
    let a = accepted_probe f h in
    let st = starts f h in
    let l = probe_lines f a.reads in
    let count : length l.head.sizes ≡ n = ap length l.sizes ∙ a.variables in
    record {
      probe = a.probe;
      reads = a.reads;
      wf = probe_wf f bytes a.reads;
      fits = st.fits;
      sizes = ap (λ (n : ℕ). take n (drop 1 f)) (sym count) ∙ sym (head_read f max_variables max_values l.head_is).sizes ∙ l.sizes;
      goal = st.goal;
      steps = ap (λ (j : ℕ). map (step_at f) (take j offsets)) (sym a.steps) ∙ steps_in_place f offsets a.reads loc (omega (arith, a.steps));
      costs = subst (λ (j : ℕ). Costed f (take j offsets)) a.steps (costs_in_place f offsets a.reads loc (omega (arith, a.steps)));
    }

module _ {f : List ℕ} {variables : ℕ} {offsets : List ℕ} (g : InPlace f variables offsets) where
  -- the steps in place, for the heuristic
  achievers_are : map (achiever_at f) offsets ≡ map step_achiever g.probe.steps
  achievers_are = sym (map-map step_achiever (step_at f) offsets) ∙ ap (map step_achiever) g.steps

  -- domain sizes and goal as code finds them
  module _ {k : ℕ} (e : k ≡ variables) {goal : ℕ} (q : goal ≡ 1 + 2 * variables) where
    abbrev sizes : List ℕ
    sizes = take k (drop 1 f)

    sizes_are : sizes ≡ g.probe.sizes
    sizes_are = ap (λ (k : ℕ). take k (drop 1 f)) e ∙ g.sizes

    goal_is : partial_at f goal ≡ g.probe.goal
    goal_is = ap (partial_at f) q ∙ g.goal

    pub ready : Ready f sizes goal offsets
    ready =
        let w = g.wf in
        record {
          room = subst (λ (sizes : List ℕ). Roomy sizes most_facts) (sym sizes_are) (roomy g.probe.sizes w.variables (omega arith) w.sizes (omega arith) (omega arith));
          costs = g.costs;
          steps = subst₂ (λ (sizes : List ℕ) (achievers : List Achiever). All (WfAchiever sizes) achievers) (sym sizes_are) (sym achievers_are) (steps_ready g.probe.sizes g.probe.steps w.steps);
          goal_is = subst₂ WfPartial (sym sizes_are) (sym goal_is) w.goal;
        }

    module _ (s : List ℕ) where
      -- the check of the state is that of the probe's
      state_is : check_state g.probe.sizes s ≡ check_state sizes s
      state_is = ap (λ (sizes : List ℕ). check_state sizes s) (sym sizes_are)

      -- the state is turned down
      pub turned_down : {n p : ℕ} → check_state sizes s ≡ refused n p → estimate_probe f s ≡ refused n p
      turned_down c = estimate_turned_down (λ p. p.sizes) probe_estimate s g.reads (state_is ∙ c)

      -- the estimate in place is that of the probe
      pub answered : {r : Number} {u : Unit {0}} → check_state sizes s ≡ accepted u → r ≡ additive sizes (map (achiever_at f) offsets) (partial_at f goal) s → accepted r ≡ estimate_probe f s
      answered c h =
          ap accepted
          (h
          ∙ ap₂ (λ (sizes : List ℕ) (achievers : List Achiever). additive sizes achievers (partial_at f goal) s) sizes_are achievers_are
          ∙ ap (λ (p : Partial). additive g.probe.sizes (map step_achiever g.probe.steps) p s) goal_is)
          ∙ sym (estimate_answers (λ p. p.sizes) probe_estimate s g.reads (state_is ∙ c))
