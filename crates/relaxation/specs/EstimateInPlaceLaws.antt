-- Laws of the least cost by the old numbers in place, and of the actions of a task for the heuristic.
use Rattle.std.specs.Prelude.{◌≡◌, refl, Bool, false, ◌||◌, ℕ, suc, ◌+◌, ◌-◌, ◌*◌, ◌≤◌, ◌<◌, List, [], ◌∷◌, map, length, get_or, drop, set, replicate}
use Rattle.std.proofs.Common.{sym, ap, ap₂, subst, ◌∙◌, add-one, arith, le-leb}
use Rattle.facts.specs.Lists.{up_from, All}
use Rattle.facts.specs.ListLaws.{all_at}
use Rattle.facts.specs.Partial.{partial_at, past_partial, Alike}
use Rattle.facts.specs.InPlaceLaws.{alike_partial}
use Rattle.facts.specs.Fields.{word_at}
use Rattle.estimate.specs.Number.{Number, exact, never, largest, capped, sum, lesser, ranked}
use Rattle.estimate.specs.NumberLaws.{sum_never_first, sum_never_second}
use Rattle.estimate.specs.Additive.{sum_from, Achiever, WfAchiever}
use Rattle.estimate.specs.Ranks.{rank_number, HasRanks, Fell, after_offer}
use Rattle.estimate.specs.OfferLaws.{offer_same}
use Rattle.estimate.specs.InTurn.{after_own, InTurn}
use Rattle.estimate.specs.InTurnLaws.{Turning, turning_start, turning_more, turning_end}
use Rattle.taskfile.specs.Task.{Action, max_weight, WfAction}
use Rattle.taskfile.specs.TaskFile.{edge_bytes}
use Rattle.taskfile.specs.Row.{own_from}
use Rattle.taskfile.specs.WalkInPlace.{incoming_place, node_count}
use Rattle.taskfile.specs.PartsInPlace.{edge_in, node_in, nodes_in, action_in}
use Rattle.relaxation.specs.Least.{least_of}
use Rattle.relaxation.specs.LeastLaws.{least_taken}
use Rattle.relaxation.specs.Pass.{least_at, least_from, Filled}
use Rattle.relaxation.specs.PassLaws.{edge_inside, Above, pass_agrees}
use Rattle.relaxation.specs.PassInPlaceLaws.{node_there, table_start, table_next, table_end}
use Rattle.relaxation.specs.Estimate.{action_achiever}
use Rattle.relaxation.specs.EstimatePass.{number_pass, least_cost_by_pass}
use Rattle.relaxation.specs.LeastCostLaws.{numbers, up_from_below}
use Rattle.relaxation.specs.EstimateInPlace.{number_for, achiever_in, achievers_in, Priceable, Climbing}

-- a weight is exact
pub weight_exact : (w : ℕ) → w ≤ max_weight → exact w ≡ capped w
weight_exact w l = rw (le-leb w largest (omega arith), capped)

-- ---- an action by the numbers of facts alone

-- the values of a variable
pub values_inside : (sizes : List ℕ) (v : ℕ) → All (λ d. d < get_or sizes v 0) (up_from 0 (get_or sizes v 0))
values_inside sizes v = up_from_below 0 (get_or sizes v 0) (get_or sizes v 0) (omega arith)

pub achiever_wf : {sizes : List ℕ} {x : Action} → WfAction sizes x → WfAchiever sizes (action_achiever least_cost_by_pass sizes x)
unfolding least_cost_by_pass
achiever_wf {sizes} {x} wf = record {
  pre = wf.pre;
  cost = λ of new same.
      ap (sum (capped x.incoming))
      (pass_agrees (number_pass sizes of) (number_pass sizes new).across x.nodes (λ j nd h k d a.
      ap {B = ℕ → Number → Number} (λ (number : Number) (w : ℕ) (later : Number). sum (capped w) (sum number later))
      (same nd.var d (all_at (λ d. d < get_or sizes nd.var 0) (values_inside sizes nd.var) a))) 1);
}

-- ---- the least at the node at an offset, chosen value by value

-- `best` so far, and the values from d on, n of them
pub record Picking (number_of : ℕ → Number) (size n d : ℕ) (best : Number) : Type 0 where
  pub left : least_of lesser never (map number_of (up_from 0 size)) ≡ least_of lesser never (best ∷ map number_of (up_from d n))

-- never is no less than any
never_first : (cs : List Number) → least_of lesser never cs ≡ least_of lesser never (never ∷ cs)
never_first [] = refl
never_first (c ∷ cs) = refl

module _ {number_of : ℕ → Number} {size : ℕ} where
  pub picking_start : {n : ℕ} → n ≡ size → Picking number_of size n 0 never
  picking_start e = rw e (record { left = never_first (map number_of (up_from 0 size)) })

  pub picking_on : {n k d q : ℕ} {best number least : Number} → Picking number_of size n d best → n ≡ suc k → q ≡ suc d → number ≡ number_of d → least ≡ lesser best number
      → Picking number_of size k q least
  picking_on {n} {k} {d} {q} {best} {number} {least} g more up is lesser_is =
      record {
        left =
            g.left
            ∙ ap (λ (m : ℕ). least_of lesser never (best ∷ map number_of (up_from d m))) more
            ∙ least_taken numbers never best (number_of d) (map number_of (up_from (suc d) k))
            ∙ ap₂ (λ (c : Number) (e : ℕ). least_of lesser never (c ∷ map number_of (up_from e k))) (ap (lesser best) (sym is) ∙ sym lesser_is) (sym up);
      }

  pub picking_end : {n d : ℕ} {best : Number} → Picking number_of size n d best → n ≡ 0 → best ≡ least_of lesser never (map number_of (up_from 0 size))
  picking_end {n} {d} {best} g none = sym (g.left ∙ ap (λ (m : ℕ). least_of lesser never (best ∷ map number_of (up_from d m))) none)

-- the edge for a value whose number is never comes to never
pub number_never : (f : List ℕ) (node : ℕ) (of : ℕ → ℕ → Number) (v : ℕ) (table : List ℕ) (d : ℕ) → of v d ≡ never → never ≡ number_for f node of v table d
number_never f node of v table d h =
    let e = edge_in f (node + (1 + edge_bytes * d)) in sum_never_second (capped e.weight) (sym (sum_never_first (ranked (get_or table e.target 0)) h))

-- ---- the table of a diagram in place

-- the edges of an action that stands in an accepted file lead to higher numbers
pub climbing : {f sizes : List ℕ} {at : ℕ} {offsets : List ℕ} → Priceable f sizes at offsets → {count : ℕ} → count ≡ node_count f at → Climbing f sizes offsets count
climbing {f} {sizes} {at} {offsets} r e =
    subst (Climbing f sizes offsets) (sym e) (record { few = r.few; above = λ j l d low. (edge_inside r.wf (node_there f sizes offsets l refl) low).above })

module _ {f sizes offsets : List ℕ} {count : ℕ} (r : Climbing f sizes offsets count) (of : ℕ → ℕ → Number) where
  -- the table from number k on
  abbrev pub Ranked : ℕ → List ℕ → Type 0
  Ranked k table = Filled (number_pass sizes of) ranked (nodes_in f sizes offsets 0 count) k table

  -- no entry yet
  pub ranked_start : (n : ℕ) {k : ℕ} → k ≡ count → Ranked k (replicate n 0)
  ranked_start n = table_start (number_pass sizes of) ranked f sizes offsets count n refl

  climbs : {j node : ℕ} → j < count → node ≡ get_or offsets j 0 → Above (number_pass sizes of) (suc j) (node_in f sizes node)
  climbs {j} l n =
      let var = get_or f (get_or offsets j 0) 0 in
      subst (λ (node : ℕ). Above (number_pass sizes of) (suc j) (node_in f sizes node)) (sym n) (λ k d a. r.above j l d (all_at (λ d. d < get_or sizes var 0) (values_inside sizes var) a))

  -- one entry more
  pub ranked_next : (e : ℕ) {j node k : ℕ} {table : List ℕ} → j < count → node ≡ get_or offsets j 0 → k ≡ suc j → Ranked k table → k < length table
      → ranked e ≡ least_at (number_pass sizes of) (node_in f sizes node) (λ t. ranked (get_or table t 0)) → Ranked j (set table k e)
  ranked_next e l n = table_next (number_pass sizes of) ranked f sizes offsets count e l n (climbs l n)

  -- all entries
  pub ranked_end : {k : ℕ} {table : List ℕ} → k < 1 → Ranked k table → ranked (get_or table 1 0) ≡ least_from (number_pass sizes of) (nodes_in f sizes offsets 0 count) 1
  ranked_end none full = table_end (number_pass sizes of) ranked f sizes offsets count none full

-- the least cost of an action, from its parts
pub cost_in_place : (f sizes : List ℕ) (at : ℕ) (offsets : List ℕ) (of : ℕ → ℕ → Number) {incoming count : ℕ} {least : Number} → incoming ≡ word_at f (incoming_place f at) → incoming ≤ max_weight
    → count ≡ node_count f at → least ≡ least_from (number_pass sizes of) (nodes_in f sizes offsets 0 count) 1 → sum (exact incoming) least ≡ least_cost_by_pass sizes of (action_in f sizes at offsets)
unfolding least_cost_by_pass
cost_in_place f sizes at offsets of {incoming} w small c l =
    ap₂ sum (weight_exact incoming small ∙ ap capped w) (l ∙ ap (λ (count : ℕ). least_from (number_pass sizes of) (nodes_in f sizes offsets 0 count) 1) c)

-- ---- the offers of actions

-- the offer of the action at an offset, from its parts
pub action_offered : (f sizes : List ℕ) (at : ℕ) (offsets : List ℕ) (of : ℕ → ℕ → Number) {effect : ℕ} {offer : Number} {ranks : List ℕ} → Alike f effect (past_partial f at)
    → offer ≡ sum (sum_from of 0 (length sizes) (partial_at f at)) (least_cost_by_pass sizes of (action_in f sizes at offsets))
    → HasRanks ranks (after_offer (record { effect = partial_at f effect; number = offer }) of) → HasRanks ranks (after_own (length sizes) (achiever_in f sizes at offsets) of)
action_offered f sizes at offsets of e o h = offer_same of (sym (alike_partial f e)) (sym o) h

module _ (f sizes row : List ℕ) (count : ℕ) where
  -- some of them from number a on, and all
  abbrev from : ℕ → ℕ → List Achiever
  from a some = achievers_in f sizes row a some

  abbrev all : List Achiever
  all = from 0 count

  -- the actions from number a on are left to offer
  abbrev pub TurningFrom : ℕ → List ℕ → List ℕ → Bool → Type 0
  TurningFrom a before ranks fell = Turning (length sizes) all (from a (count - a)) before ranks fell

  -- before the first action
  pub actions_none : (ranks : List ℕ) → TurningFrom 0 ranks ranks false
  actions_none ranks =
      let same : count ≡ count - 0 = omega arith in
      subst (λ (some : ℕ). Turning (length sizes) all (from 0 some) ranks ranks false) same turning_start

  -- one action more
  pub actions_more : (a : ℕ) {before ranks next own : List ℕ} {x y fell : Bool} → TurningFrom a before ranks x → a < count → own ≡ drop (own_from row a) row
      → HasRanks next (after_own (length sizes) (achiever_in f sizes (get_or row a 0) own) (rank_number ranks)) → Fell ranks next y → (x || y) ≡ fell → TurningFrom (a + 1) before next fell
  actions_more a {before} {ranks} {next} {x = x} g l own_is h =
      let more : count - a ≡ suc (count - (a + 1)) = omega arith in
      let first = achiever_in f sizes (get_or row a 0) (drop (own_from row a) row) in
      let split : from a (count - a) ≡ first ∷ from (a + 1) (count - (a + 1)) =
      ap (from a) more ∙ ap (λ (b : ℕ). first ∷ from b (count - (a + 1))) (sym (add-one a)) in
      turning_more (subst (λ (left : List Achiever). Turning (length sizes) all left before ranks x) split g)
      (subst (λ (os : List ℕ). HasRanks next (after_own (length sizes) (achiever_in f sizes (get_or row a 0) os) (rank_number ranks))) own_is h)

  -- past the last action
  pub actions_all : (a : ℕ) {before ranks : List ℕ} {fell : Bool} → TurningFrom a before ranks fell → count ≤ a → InTurn (length sizes) all before ranks fell
  actions_all a {before} {ranks} {fell} g l =
      let none : count - a ≡ 0 = omega arith in
      turning_end (subst (λ (some : ℕ). Turning (length sizes) all (from a some) before ranks fell) none g)
