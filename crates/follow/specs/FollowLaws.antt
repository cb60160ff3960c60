-- Laws of following a probe list in place: the path of one action entry by entry, then the actions one after the other.
use Rattle.std.specs.Prelude.{◌≡◌, Bool, true, false, ℕ, suc, ◌+◌, ◌*◌, ◌-◌, ◌≤◌, ◌<◌, eqb, get_or, drop, set, Option, None, Some}
use Rattle.std.proofs.Math.Path.{refl, sym, ap, ap₂, subst}
use Rattle.std.proofs.Common.{◌∙◌, arith, drop_of_length-le, drop-cons, eqb-true, lt-ltb}
use Rattle.std.proofs.Math.Numerals.{add-one}
use mathlib.Core.List.{List, [], ◌∷◌, ◌++◌, append-nil, append_assoc}
use Rattle.std.proofs.Math.ListN.{length, take, length-set}
use Rattle.std.proofs.Math.Seq.{length-take-le}
use Rattle.facts.specs.Lists.{total}
use Rattle.facts.specs.ListLaws.{look, at_length}
use Rattle.facts.specs.Read.{accepted}
use Rattle.facts.specs.Write.{Wrote, over}
use Rattle.facts.specs.WriteLaws.{over_front}
use Rattle.facts.specs.Partial.{Partial, holds, apply, partial_at}
use Rattle.facts.specs.PartialLaws.{apply_inside, length_apply}
use Rattle.facts.specs.State.{Inside}
use Rattle.facts.specs.Run.{run_from}
use Rattle.taskfile.specs.Task.{Action, Task, WfAction, max_weight, max_list, task_sum}
use Rattle.taskfile.specs.TaskLaws.{task_plan}
use Rattle.taskfile.specs.Blank.{file_of}
use Rattle.taskfile.specs.Index.{Ready}
use Rattle.taskfile.specs.AnswerLaws.{there as task-there}
use Rattle.taskfile.proofs.AnswerLaws.{starts}
use Rattle.taskfile.specs.Row.{firsts_from, own_from}
use Rattle.taskfile.proofs.MoveInPlaceLaws.{sum_in_place}
use Rattle.taskfile.specs.WalkInPlace.{way_from, max_walk, move_by, move_at}
use Rattle.taskfile.specs.WalkInPlaceLaws.{turn_none}
use Rattle.taskfile.specs.PartsInPlace.{nodes_in, action_in, actions_in}
use Rattle.taskfile.specs.PartsInPlaceLaws.{reads}
use Rattle.compilation.specs.Compile.{step_count}
use Rattle.plans.specs.Carry.{path_steps, first_step_of, action_list, expand_from, expand, started_by}
use Rattle.plans.specs.ListLaws.{total_take}
use Rattle.carry.specs.CarryFile.{contracted}
use Rattle.numbering.specs.InPlace.{entries_of, Numbered, Noted, NotedIn}
use Rattle.carry.specs.SameSumLaws.{contracted_plan}
use Rattle.carry.specs.AnswerLaws.{wrote_entry}
use Rattle.numbering.specs.NumberLaws.{actions_at, total_next, actions_are, steps_few, all_tested, actions_wf}
use Rattle.numbering.specs.ActionLaws.{Visited, path_entry, path_last}
use Rattle.follow.specs.Follow.{Walkable, Followable, PathPassed, ActionPassed, PlanFollowed, PlanTo, ContractsTo}

-- ---- the path of one action

-- before node k the entries up to index i are passed, and their edges cost so much
pub record Tracing (f sizes offsets : List ℕ) (count : ℕ) (s list : List ℕ) (from i cost k : ℕ) : Type 0 where
  pub low : 1 ≤ k
  pub high : k ≤ suc count
  pub later : from < i
  pub within : i ≤ length list
  pub paid : (way_from f offsets count s 1).cost ≡ cost + (way_from f offsets count s k).cost
  pub small : cost + max_weight ≤ max_weight * k
  pub left : (rest : List ℕ) → drop i list ≡ path_steps (suc (get_or list from 0)) 1 (nodes_in f sizes offsets 0 count) k s ++ rest
      → drop from list ≡ entries_of (get_or list from 0) (nodes_in f sizes offsets 0 count) s ++ rest

module _ {f sizes offsets : List ℕ} {count : ℕ} {s list : List ℕ} {from : ℕ} where
  -- At first only the start is.
  pub tracing_start : from < length list → Tracing f sizes offsets count s list from (1 + from) 0 1
  tracing_start l =
      let one : 1 + from ≡ suc from = omega arith in
      record {
        low = omega arith;
        high = omega arith;
        later = omega arith;
        within = omega arith;
        paid = omega arith;
        small = omega arith;
        left = λ rest h. drop-cons list from 0 l ∙ ap (λ (z : List ℕ). get_or list from 0 ∷ z) (rw one at h);
      }

  module _ {first_edge : List ℕ} {next i cost k : ℕ} (w : Walkable sizes (nodes_in f sizes offsets 0 count) first_edge (get_or list from 0) next s) (p : Tracing f sizes offsets count s list from i cost k) where
    -- The entry of node k's edge is passed: the walk goes on from its target.
    pub tracing_node : {node value target weight edge : ℕ} → Visited f sizes offsets count s k node value target → edge ≡ get_or first_edge (k - 1) 0 → i < length list → get_or list i 0 ≡ edge + value
        → (way_from f offsets count s k).cost ≡ weight + (way_from f offsets count s target).cost → weight ≤ max_weight → Tracing f sizes offsets count s list from (i + 1) (cost + weight) target
    tracing_node {target = target} v e l step paid few =
        let steps : path_steps (suc (get_or list from 0)) 1 (nodes_in f sizes offsets 0 count) k s ≡ get_or list i 0 ∷ path_steps (suc (get_or list from 0)) 1 (nodes_in f sizes offsets 0 count) target s =
        path_entry f sizes offsets count w v e ∙ ap (λ (r : ℕ). r ∷ path_steps (suc (get_or list from 0)) 1 (nodes_in f sizes offsets 0 count) target s) (sym step) in
        record {
          low = omega (arith, v.above);
          high = v.within;
          later = omega (arith, p.later);
          within = omega arith;
          paid = omega (arith, p.paid, paid);
          small = omega (arith, p.small, few, v.above);
          left = λ rest h. p.left rest (drop-cons list i 0 l ∙ ap (λ (z : List ℕ). get_or list i 0 ∷ z) (rw (add-one i) at h) ∙ ap (λ (z : List ℕ). z ++ rest) (sym steps));
        }

    -- The end is passed, past the last node.
    pub tracing_end : count < k → i < length list → get_or list i 0 ≡ next - 1 → PathPassed f sizes offsets count s list from (i + 1) cost
    tracing_end past l step =
        let steps : path_steps (suc (get_or list from 0)) 1 (nodes_in f sizes offsets 0 count) k s ≡ get_or list i 0 ∷ [] = path_last f sizes offsets count w past ∙ ap {B = List ℕ} (λ (r : ℕ). r ∷ []) (sym step) in
        record {
          passed = record { entries = p.left (drop (i + 1) list) (drop-cons list i 0 l ∙ rw (steps, add-one i)); later = omega (arith, p.later); within = omega arith };
          cost_is = omega (arith, p.paid, (turn_none f offsets count s k past).0);
          small = omega (arith, p.small, p.high);
        }

-- ---- which action a start belongs to

-- the action with this number starts with step r, where the first of all actions has the number k and starts with step `first`
record StartsWith (first k : ℕ) (actions : List Action) (r number : ℕ) : Type 0 where
  a : ℕ
  is : number ≡ k + a
  below : a < length actions
  step : r ≡ first + first_step_of actions a

-- A start is that of its action: the first of all, or a later one.
started_one : (first k : ℕ) (x : Action) (actions : List Action) (r : ℕ) {q : ℕ} → (started_by (first + step_count x) (suc k) actions r ≡ Some q → StartsWith (first + step_count x) (suc k) actions r q)
    → (b : Bool) → eqb r first ≡ b → started_by first k (x ∷ actions) r ≡ Some q → StartsWith first k (x ∷ actions) r q
started_one first k x actions r {q} on true e h =
    let z : ◌≡◌ {A = Option ℕ} (Some k) (Some q) = rw (e, started_by) at h in
    let same : k ≡ q = cc in
    record { a = 0; is = omega arith; below = omega arith; step = omega (arith, eqb-true r first e) }
started_one first k x actions r on false e h =
    let later = on (rw (e, started_by) at h) in
    record { a = suc later.a; is = omega (arith, later.is); below = omega (arith, later.below); step = omega (arith, later.step) }

started_by_lem : (first k : ℕ) (actions : List Action) (r : ℕ) {q : ℕ} → started_by first k actions r ≡ Some q → StartsWith first k actions r q
started_by_lem first k [] r {q} h = let z : ◌≡◌ {A = ℕ} 0 1 = cc in absurd (omega arith)
started_by_lem first k (x ∷ actions) r h = started_one first k x actions r (started_by_lem (first + step_count x) (suc k) actions r) (eqb r first) refl h

-- What is noted at a step that is a start.
pub noted_start : {actions : List Action} {action_of_lem : List ℕ} → Noted actions action_of_lem → {r action : ℕ} → action ≡ get_or action_of_lem r 0 → (action ≡ 0 → ⊥) → (action - 1 < length actions) × (r ≡ first_step_of actions (action - 1))
noted_start {actions} {action_of_lem} n {r} {action} e some-start = go (started_by 0 0 actions r) refl
  where
    go : (o : Option ℕ) → started_by 0 0 actions r ≡ o → (action - 1 < length actions) × (r ≡ first_step_of actions (action - 1))
    go None h = absurd (some-start (e ∙ n.notes r ∙ rw h))
    go (Some q) h =
        let s = started_by_lem 0 0 actions r h in
        let number : get_or action_of_lem r 0 ≡ suc q = n.notes r ∙ rw h in
        let same : action - 1 ≡ s.a = omega (arith, e, number, s.is) in
        rw same (s.below, omega (arith, s.step))

-- ---- the actions of a list, one after the other

-- What an action is followed by, in a state inside the domains.
pub walkable_there : {f sizes : List ℕ} {count : ℕ} {row first_step first_edge action_of_lem s : List ℕ} → Followable f sizes count row first_step first_edge action_of_lem → Inside sizes s
    → {a next r : ℕ} {own own-edges : List ℕ} → a < count → own ≡ drop (own_from row a) row → own-edges ≡ drop (get_or row (firsts_from + a) 0) first_edge
    → next ≡ get_or first_step (a + 1) 0 → r ≡ first_step_of (actions_in f sizes row 0 count) a → Walkable sizes (action_in f sizes (get_or row a 0) own).nodes own-edges r next s
walkable_there {f} {sizes} {count} {row} {first_step} {s = s} p inside {a} {next} {r = step} {own-edges = own-edges} known o oe n r =
    let element = actions_at f sizes row a count known in
    let one : a + 1 ≡ suc a = omega arith in
    let after = n ∙ ap (λ (k : ℕ). get_or first_step k 0) one ∙ p.numbered.numbers (suc a) (omega (arith, at_length element)) ∙ total_next step_count element in
    subst (λ (own : List ℕ). Walkable sizes (action_in f sizes (get_or row a 0) own).nodes own-edges step next s) (sym o)
    (rw (oe, r, after)
    (record {
      well_formed = (p.well_formed a known).nodes;
      inside = inside;
      edges = p.numbered.edges element;
      next_is = omega arith;
      few = omega (arith, total_take step_count element, p.few);
      fits = omega arith;
    }))

-- The first i entries of the list come from actions that lead from the state `from` to s with this sum, and that are written at the front of a buffer.
pub record Following (f sizes : List ℕ) (count : ℕ) (row : List ℕ) (goal : Partial) (list from before now s : List ℕ) (i sum written : ℕ) : Type 0 where
  pub done : List ℕ
  pub wrote : Wrote done before now written
  pub same : length now ≡ length before
  pub room : written ≤ length before
  pub within : i ≤ length list
  pub small : sum ≤ max_walk * written
  pub inside : Inside sizes s
  pub keeps : length s ≡ length from
  pub runs : (rest : List ℕ) → run_from count (move_at f row) goal 0 0 (done ++ rest) from ≡ run_from count (move_at f row) goal written sum rest s
  pub comes : (rest : List ℕ) → drop i list ≡ expand_from (actions_in f sizes row 0 count) rest s → list ≡ expand_from (actions_in f sizes row 0 count) (done ++ rest) from

module _ {f sizes : List ℕ} {count : ℕ} {row : List ℕ} {goal : Partial} {list : List ℕ} where
  -- At first none do.
  pub following_start : (from out : List ℕ) → Inside sizes from → Following f sizes count row goal list from out out from 0 0 0
  unfolding over
  following_start from out inside = record {
    done = [];
    wrote = record { count = refl; buffer = refl };
    same = refl;
    room = omega arith;
    within = omega arith;
    small = omega arith;
    inside = inside;
    keeps = refl;
    runs = λ rest. refl;
    comes = λ rest h. h;
  }

  module _ {from before now s : List ℕ} {i sum written : ℕ} (g : Following f sizes count row goal list from before now s i sum written) where
    -- One action more, whose entries come next.
    pub following_next : {a next' cost : ℕ} {own after : List ℕ} → a < count → own ≡ drop (own_from row a) row → i < length list → get_or list i 0 ≡ first_step_of (actions_in f sizes row 0 count) a
        → WfAction sizes (action_in f sizes (get_or row a 0) (drop (own_from row a) row)) → written < length before → ActionPassed f sizes (get_or row a 0) own s list i after next' cost
        → Following f sizes count row goal list from before (set now written a) after next' (sum + cost) (written + 1)
    unfolding move_by run_from
    following_next {a} {next'} {cost} {own} {after} known o l start wf room passed =
        let p = subst (λ (z : List ℕ). ActionPassed f sizes (get_or row a 0) z s list i after next' cost) o passed in
        let element = actions_at f sizes row a count known in
        let x = action_in f sizes (get_or row a 0) (drop (own_from row a) row) in
        record {
          done = g.done ++ (a ∷ []);
          wrote = wrote_entry a (omega (arith, g.wrote.count)) g.wrote;
          same = length-set now written a ∙ g.same;
          room = omega arith;
          within = p.passed.within;
          small = omega (arith, g.small, p.small);
          inside = rw p.state (apply_inside x.eff sizes s wf.eff.values g.inside);
          keeps = ap length p.state ∙ length_apply x.eff s ∙ g.keeps;
          runs = λ rest.
              ap (λ (z : List ℕ). run_from count (move_at f row) goal 0 0 z from) (append_assoc g.done (a ∷ []) rest)
              ∙ g.runs (a ∷ rest)
              ∙ rw (lt-ltb a count known, ← p.moves, add-one written);
          comes = λ rest h.
              let whole : expand_from (actions_in f sizes row 0 count) (a ∷ rest) s ≡ action_list (first_step_of (actions_in f sizes row 0 count) a) x s ++ expand_from (actions_in f sizes row 0 count) rest (apply x.eff s) = rw (look element, expand_from) in
              g.comes (a ∷ rest)
              (p.passed.entries
              ∙ ap₂ (λ (r : ℕ) (z : List ℕ). entries_of r x.nodes s ++ z) start (h ∙ ap (expand_from (actions_in f sizes row 0 count) rest) p.state)
              ∙ sym whole)
              ∙ ap (λ (z : List ℕ). expand_from (actions_in f sizes row 0 count) z from) (sym (append_assoc g.done (a ∷ []) rest));
        }

    -- The list ends where the goal holds.
    pub following_end : {place : ℕ} → goal ≡ partial_at f place → length list ≤ i → true ≡ holds goal s → PlanFollowed f sizes place count row list from now written sum
    unfolding run_from
    following_end {place} e l met =
        let front : take written now ≡ g.done = ap₂ (λ (k : ℕ) (z : List ℕ). take k z) g.wrote.count g.wrote.buffer ∙ over_front g.done before in
        let all = append-nil g.done in
        record {
          within = omega (arith, g.room, g.same);
          comes = g.comes [] (drop_of_length-le list l) ∙ ap (λ (z : List ℕ). expand_from (actions_in f sizes row 0 count) z from) (all ∙ sym front);
          runs =
              rw (← e, front)
              (ap (λ (z : List ℕ). run_from count (move_at f row) goal 0 0 z from) (sym all) ∙ g.runs [] ∙ rw (← met));
        }

-- ---- a list on an accepted file

module _ (f : List ℕ) {variables count : ℕ} {row : List ℕ} (ready : Ready f variables count row) where
  -- the file's task
  abbrev t : Task
  t = (task-there f ready).task

  -- It can be followed.
  pub followable : {sizes first_step first_edge action_of_lem : List ℕ} → sizes ≡ t.sizes → Numbered (actions_in f sizes row 0 count) row first_step first_edge → NotedIn (file_of f) action_of_lem
      → Followable f sizes count row first_step first_edge action_of_lem
  followable {action_of_lem = action_of_lem} e n noted = record {
    long = omega (arith, ready.long, (starts f ready).actions);
    well_formed = actions_wf f ready e;
    tested = all_tested f ready;
    numbered = n;
    few = omega (arith, ap (total step_count) (actions_are f ready e), steps_few f ready);
    noted = subst (λ (xs : List Action). Noted xs action_of_lem) (sym (actions_are f ready e)) (noted.noted t (reads f ready));
  }

  -- Where it is followed to its end, it is contracted to the actions that it comes from.
  pub followed_contracts : {sizes state list out : List ℕ} {n sum : ℕ} → sizes ≡ t.sizes → state ≡ t.init → length out ≤ max_list
      → PlanFollowed f sizes (1 + 2 * variables) count row list state out n sum → (n ≤ length out) × (contracted (file_of f) list ≡ accepted (take n out, sum))
  unfolding expand
  followed_contracts {sizes} {state} {list} {out} {n} {sum} e s few p =
      let plan = take n out in
      let short : length plan ≤ max_list = omega (arith, length-take-le n out p.within, p.within) in
      let run : task_sum t plan ≡ accepted sum = sym (sum_in_place f (reads f ready) ready.located (sym (task-there f ready).actions) (1 + 2 * variables) plan state s (starts f ready).goal) ∙ p.runs in
      let comes : list ≡ expand t plan = p.comes ∙ ap₂ (λ (xs : List Action) (z : List ℕ). expand_from xs plan z) (actions_are f ready e) s in
      (p.within, ap (contracted (file_of f)) comes ∙ contracted_plan (file_of f) (reads f ready) ((task_plan t plan sum).1 run) short)

  -- Whatever is answered.
  pub followed_answers : {sizes state : List ℕ} (list out : List ℕ) → sizes ≡ t.sizes → state ≡ t.init → length out ≤ max_list → (r : Option (ℕ × ℕ))
      → PlanTo f sizes (1 + 2 * variables) count row list state out r → ContractsTo (file_of f) list out r
  followed_answers list out e s few (Some (n, sum)) p = followed_contracts e s few p
  followed_answers list out e s few None p = tt
