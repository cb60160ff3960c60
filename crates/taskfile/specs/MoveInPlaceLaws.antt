-- Laws of moves in place: what an action does by its bytes, and that a run by the offsets of an accepted file is one of the actions that were read.
use Rattle.std.specs.Prelude.{◌≡◌, ℕ, ◌+◌, ◌-◌, ◌≤◌, ◌<◌, min, true, false, length, take, drop}
use Rattle.std.proofs.Common.{sym, ◌∙◌, lt_of_not-le, arith, length-drop, drop_of_length-le}
use Rattle.std.proofs.Math.Path.{ap₂}
use Rattle.std.proofs.Math.Decide.{dec_le}
use mathlib.Core.List.{List, []}
use Rattle.std.proofs.Math.ListN.{get_or}
use Rattle.std.proofs.Math.Seq.{take-length}
use Rattle.facts.specs.Read.{accepted, refused}
use Rattle.facts.specs.Lists.{At}
use Rattle.facts.specs.ListLaws.{at_get_d}
use Rattle.facts.specs.Partial.{Partial, Alike, holds, apply, partial_at, past_partial}
use Rattle.facts.specs.InPlaceLaws.{alike_partial}
use Rattle.facts.specs.State.{Inside}
use Rattle.facts.specs.Run.{Move, next, blocked, attempt, run_from}
use Rattle.facts.specs.RunLaws.{attempt_length, run_missing, run_blocked, run_next, run_unmet, run_met, list_long, list_fits}
use Rattle.taskfile.specs.Task.{Action, Task, Walk, max_list, walk}
use Rattle.taskfile.specs.TaskFile.{read_task}
use Rattle.taskfile.specs.Row.{own_from}
use Rattle.taskfile.specs.Blank.{file_of}
use Rattle.taskfile.specs.InPlace.{Located}
use Rattle.taskfile.specs.WalkInPlace.{walk_past, walk_at, perform_by, move_by, move_at, run_list}
use Rattle.taskfile.specs.WalkInPlaceLaws.{walk_behind, perform_in_place}

-- ---- what an action in place does

module _ (f : List ℕ) (at : ℕ) (nodes s : List ℕ) (measure : Walk → ℕ) where
  pub performs : {effect cost : ℕ} → Alike f effect (past_partial f at) → cost ≡ measure (walk_past f effect nodes s) → true ≡ holds (partial_at f at) s
      → next (apply (partial_at f effect) s) cost ≡ perform_by measure f at nodes s
  unfolding perform_by
  performs e c h = rw (← h, attempt, alike_partial f e, c, walk_behind f at e nodes s)

  pub performs_not : false ≡ holds (partial_at f at) s → blocked ≡ perform_by measure f at nodes s
  unfolding perform_by
  performs_not h = rw (← h, attempt)

-- ---- moves

-- the offsets of an action's own nodes: those from index n on, where the index k is n, or the end of all offsets
pub own_nodes : (nodes : List ℕ) (n : ℕ) {k : ℕ} → k ≡ min n (length nodes) → take (length nodes - k) (drop k nodes) ≡ drop n nodes
own_nodes nodes n {k} e =
    let whole : take (length nodes - k) (drop k nodes) ≡ drop k nodes = rw (← length-drop k nodes) (take-length (drop k nodes)) in
    whole
    ∙ elim (dec_le n (length nodes)) [
      | yes h ↦ let same : k ≡ n = omega arith in rw same
      | no h ↦ drop_of_length-le nodes {i = k} (omega (arith, lt_of_not-le h)) ∙ sym (drop_of_length-le nodes {i = n} (omega (arith, lt_of_not-le h)))
    ]

module _ (f row : List ℕ) (a : ℕ) (s : List ℕ) where
  -- what the action at an offset does is what its number does
  pub moves : (measure : Walk → ℕ) {at k : ℕ} {m : Move} → at ≡ get_or row a 0 → k ≡ min (own_from row a) (length row) → m ≡ perform_by measure f at (take (length row - k) (drop k row)) s → m ≡ move_by measure f row a s
  unfolding move_by
  moves measure o e h = h ∙ ap₂ (λ (at : ℕ) (own : List ℕ). perform_by measure f at own s) o (own_nodes row (own_from row a) e)

  -- a state keeps its length
  pub move_length : {e : List ℕ} {c : ℕ} → move_at f row a s ≡ next e c → length e ≡ length s
  unfolding move_by perform_by
  move_length h =
      let at = get_or row a 0 in
      attempt_length (partial_at f at) (partial_at f (past_partial f at)) (walk_at f at (drop (own_from row a) row) s).cost s h

-- ---- a run, number by number

-- what is left of the list from number i on answers in the state s, with `sum` paid, what the whole list answers in the state `from`
pub record Running (count : ℕ) (move : ℕ → List ℕ → Move) (goal : Partial) (list from : List ℕ) (i sum : ℕ) (s : List ℕ) : Type 0 where
  pub left : run_list count move goal list from ≡ run_from count move goal i sum (drop i list) s

module _ (count : ℕ) (move : ℕ → List ℕ → Move) (goal : Partial) (list from : List ℕ) where
  -- a list over its limit
  pub run_long : max_list < length list → refused 8 max_list ≡ run_list count move goal list from
  unfolding run_list
  run_long h = rw (list_long max_list list h)

  -- all of a list within it is left at first
  pub run_starts : length list ≤ max_list → Running count move goal list from 0 0 from
  unfolding run_list
  run_starts h = record { left = rw (list_fits max_list list h) }

-- the ways in which it goes on
module _ {count : ℕ} {move : ℕ → List ℕ → Move} {goal : Partial} {list from : List ℕ} {i sum : ℕ} {s : List ℕ} (r : Running count move goal list from i sum s) where
  pub running_missing : i < length list → count ≤ get_or list i 0 → refused 11 i ≡ run_list count move goal list from
  running_missing l h = sym (r.left ∙ run_missing count move goal list s i sum l h)

  pub running_blocked : i < length list → get_or list i 0 < count → blocked ≡ move (get_or list i 0) s → refused 9 i ≡ run_list count move goal list from
  running_blocked l h m = sym (r.left ∙ run_blocked count move goal list s i sum l h (sym m))

  pub running_next : {e : List ℕ} {c : ℕ} → i < length list → get_or list i 0 < count → next e c ≡ move (get_or list i 0) s → Running count move goal list from (i + 1) (sum + c) e
  running_next l h m = record { left = r.left ∙ run_next count move goal list s i sum l h (sym m) }

  pub running_met : length list ≤ i → true ≡ holds goal s → accepted sum ≡ run_list count move goal list from
  running_met l h = sym (r.left ∙ run_met count move goal list s i sum l (sym h))

  pub running_unmet : length list ≤ i → false ≡ holds goal s → refused 10 i ≡ run_list count move goal list from
  running_unmet l h = sym (r.left ∙ run_unmet count move goal list s i sum l (sym h))

-- ---- an accepted file

module _ (f : List ℕ) {t : Task} (r : read_task (file_of f) ≡ accepted t) {row : List ℕ} (loc : Located f row) {count : ℕ} (all : count ≡ length t.actions) where
  abbrev nothing : Action
  nothing = record { pre = record { map = 0; values = [] }; eff = record { map = 0; values = [] }; incoming = 0; nodes = [] }

  pub at_action : (a : ℕ) → a < count → At t.actions a (get_or t.actions a nothing)
  at_action a l = at_get_d t.actions a nothing (omega arith)

  -- by a measure of walks, where `move` is by that measure what the actions do that were read
  module _ (measure : Walk → ℕ) (move : ℕ → List ℕ → Move) (does : (a : ℕ) (x : Action) (s : List ℕ) → At t.actions a x → move a s ≡ attempt x.pre x.eff (measure (walk x s)) s) where
    pub move_in_place : (a : ℕ) (s : List ℕ) → a < count → Inside t.sizes s → let x = get_or t.actions a nothing in move_by measure f row a s ≡ attempt x.pre x.eff (measure (walk x s)) s
    unfolding move_by
    move_in_place a s l inside = perform_in_place f (loc.lies t r a (get_or t.actions a nothing) (at_action a l)) s inside measure

    -- the moves agree in a state of the task
    pub move_same : (a : ℕ) (s : List ℕ) → a < count → Inside t.sizes s → move_by measure f row a s ≡ move a s
    move_same a s l inside = move_in_place a s l inside ∙ sym (does a (get_or t.actions a nothing) s (at_action a l))
