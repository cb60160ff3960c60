-- Laws of the sheet of a plan: what it says, that its numbers fit their fields, and how long it is.
use Rattle.std.specs.Prelude.{ℕ, suc, ◌+◌, ◌*◌, ◌≤◌, ◌≡◌, List, [], ◌∷◌, length}
use Rattle.std.proofs.Common.{sym, ap, subst, ◌∙◌, arith}
use Rattle.facts.specs.Read.{accepted}
use Rattle.facts.specs.Lists.{All, At}
use Rattle.facts.specs.Bytes.{Bytes}
use Rattle.facts.specs.State.{Inside}
use Rattle.facts.specs.Run.{attempt, Reaches, ends, steps}
use Rattle.taskfile.specs.Task.{Action, Task, max_cost, max_list, walk, action_move, Plan}
use Rattle.taskfile.specs.TaskFile.{read_task}
use Rattle.taskfile.proofs.TaskReadLaws.{task_wf, task_limits}
use Rattle.taskfile.specs.TaskLaws.{move_at_lem, move_known}
use Rattle.taskfile.proofs.TaskLaws.{action_kept}
use Rattle.taskfile.specs.Blank.{file_of}
use Rattle.taskfile.specs.InPlace.{Located}
use Rattle.taskfile.specs.WalkInPlace.{move_at}
use Rattle.taskfile.specs.MoveInPlaceLaws.{move_same}
use Rattle.taskfile.proofs.MoveInPlaceLaws.{move_inside}
use Rattle.line_writer.specs.Lines.{entries_from, line_text, last_text}
use Rattle.line_writer.specs.EntryLaws.{text_long}
use Rattle.sheet.specs.Sheet.{costs_from, costs, entries, sheet_text}
use Rattle.line_writer.specs.Columns.{line_bytes, most_sum, Narrow}
use Rattle.line_writer.specs.LineLaws.{Whole, lines_whole, last_whole}
use Rattle.sheet.specs.CostLaws.{costs_more, costs_all, costs_same}
use Rattle.sheet.specs.TellLaws.{Tells, tells, Spends, spends}

-- ---- a plan of any task, of any length

-- Indexes from 0, the plan's actions, costs that add up to its sum, and its sum as the last running sum.
pub sheet_tells : (t : Task) (list : List ℕ) (c : ℕ) → Plan t list c → Tells 0 0 list c (entries t list)
unfolding costs
sheet_tells t list c p = tells (length t.actions) (action_move t.actions) t.goal (move_known t.actions) 0 0 list t.init c p

-- The costs are those of the run: each is what its action costs in the state before it.
pub sheet_spends : (t : Task) (list : List ℕ) (c : ℕ) → Plan t list c → Spends (action_move t.actions) list t.init (costs t list)
unfolding costs
sheet_spends t list c p = spends (length t.actions) (action_move t.actions) t.goal (move_known t.actions) 0 list t.init c p

-- A cost for each entry of the list.
pub costs_count : (t : Task) (list : List ℕ) (c : ℕ) → Plan t list c → length (costs t list) ≡ length list
unfolding costs
costs_count t list c p = costs_all (length t.actions) (action_move t.actions) t.goal (move_known t.actions) 0 list t.init c p

-- ---- a task of an accepted file

module _ (f : List ℕ) {t : Task} (r : read_task f ≡ accepted t) (bytes : Bytes f) where
  narrow : (i paid : ℕ) (list s : List ℕ) (c : ℕ) → Reaches (action_move t.actions) t.goal paid list s c → Inside t.sizes s → i + length list ≤ max_list → paid ≤ max_cost * i
      → All Narrow (entries_from i paid list (costs_from (length t.actions) (action_move t.actions) list s)) × (c ≤ max_cost * max_list)
  narrow i paid [] s c (ends g) inside l m = (tt, omega arith)
  narrow i paid (a ∷ list) s c (steps {paid = k} {s' = e} h q) inside l m =
      let (on, most) = action_kept f r bytes a s e k inside h in
      let known = move_known t.actions a s e k h in
      let few = (task_limits f r).actions in
      let rest = narrow (suc i) (paid + k) list e c q on (omega arith) (omega arith) in (
        subst (λ (cs : List ℕ). All Narrow (entries_from i paid (a ∷ list) cs)) (sym (costs_more (length t.actions) (action_move t.actions) a list s known h))
            (record { index = omega arith; action = omega arith; cost = omega arith; sum = omega arith }, rest.0),
        rest.1,
      )

  module _ (list : List ℕ) (c : ℕ) (l : length list ≤ max_list) (p : Plan t list c) where
    -- The widths suffice: of each action index, number, cost and running sum have at most 3, 2, 7 and 9 digits, and so has the sum.
    pub sheet_narrow : All Narrow (entries t list) × (c ≤ most_sum)
    unfolding costs
    sheet_narrow = let n = narrow 0 0 list t.init c p (task_wf f r).init (omega arith) (omega arith) in (n.0, omega (arith, n.1))

    -- "a line of exactly 24 characters and a newline": every line of every plan, and the last one
    pub sheet_lines : All (λ e. Whole (line_text e)) (entries t list) × Whole (last_text c)
    sheet_lines = (lines_whole (entries t list) sheet_narrow.0, last_whole c sheet_narrow.1)

    -- So a sheet has 25 bytes for each action, and 25 for the last line.
    pub sheet_long : length (sheet_text t list c) ≡ line_bytes * (length list + 1)
    unfolding sheet_text
    sheet_long = text_long list (costs t list) (costs_count t list c p) sheet_narrow.0 sheet_narrow.1

-- ---- in place

-- The costs by the bytes of an accepted file are those of its task.
pub costs_in_place : (f : List ℕ) {t : Task} (r : read_task (file_of f) ≡ accepted t) {row : List ℕ} (loc : Located f row) {count : ℕ} (all : count ≡ length t.actions) (list init : List ℕ) → init ≡ t.init
    → costs_from count (move_at f row) list init ≡ costs t list
unfolding costs
costs_in_place f {t} r loc {count} all list init e =
    let does : (a : ℕ) (x : Action) (s : List ℕ) → At t.actions a x → action_move t.actions a s ≡ attempt x.pre x.eff (walk x s).cost s = λ a x s h. move_at_lem t.actions s h in
    ap (costs_from count (move_at f _) list) e
    ∙ costs_same count (move_at f _) (action_move t.actions) (Inside t.sizes) (move_same f r loc all (λ w. w.cost) (action_move t.actions) does) (move_inside f r loc all (λ w. w.cost) (action_move t.actions) does) list t.init (task_wf _ r).init
    ∙ ap (λ (n : ℕ). costs_from n (action_move t.actions) list t.init) all
