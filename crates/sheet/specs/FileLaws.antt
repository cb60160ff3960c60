-- Laws of the operation: its refusals and its sum are those of a run, what it answers for a plan, and that a refusal writes nothing.
use Prim.Native.Nat.{ℕ, ◌+◌, ◌*◌, ◌≤◌}
use Rattle.std.specs.Prelude.{◌≡◌, leb, drop}
use Rattle.std.proofs.Math.Path.{refl, sym, ap, ap₂}
use Rattle.std.proofs.Common.{◌∙◌, arith}
use mathlib.Core.List.{List, ◌++◌}
use Rattle.std.proofs.Math.ListN.{length, take}
use Rattle.facts.specs.Read.{Read, accepted, refused, check, with_value, ◌>>=◌}
use Rattle.facts.specs.ReadLaws.{through, agree, not_made, value_of_lem, with_value_bind}
use Rattle.facts.specs.Bytes.{Bytes}
use Rattle.facts.specs.Run.{at_most}
use Rattle.facts.specs.Lists.{All}
use Rattle.facts.specs.Partial.{partial_at}
use Rattle.facts.specs.Write.{over, length_in}
use Rattle.facts.specs.WriteLaws.{over_front}
use Rattle.taskfile.specs.Task.{Task, Walk, max_list, task_sum, Plan}
use Rattle.taskfile.specs.TaskFile.{read_task, check_task, run_task, sum_task}
use Rattle.taskfile.specs.TaskLaws.{task_plan}
use Rattle.taskfile.specs.Blank.{file_of}
use Rattle.taskfile.specs.BlankLaws.{file_bytes}
use Rattle.taskfile.specs.Index.{Ready}
use Rattle.taskfile.specs.WalkInPlace.{move_at, run_list}
use Rattle.taskfile.specs.AnswerLaws.{there}
use Rattle.taskfile.proofs.AnswerLaws.{starts, sum_is}
use Rattle.carry.specs.CarryFile.{answer_in, buffer_in}
use Rattle.carry.specs.SameSumLaws.{fits_inv}
use Rattle.carry.specs.LongList.{sum_of_run}
use Rattle.carry.specs.Untouched.{Untouched, refusals_write_nothing}
use Rattle.line_writer.specs.Lines.{last_text, lines_text, entries_from}
use Rattle.sheet.specs.Sheet.{costs_from, costs, sheet_text}
use Rattle.sheet.specs.SheetFile.{sheet_of}
use Rattle.line_writer.specs.Columns.{line_bytes, most_sum, Narrow}
use Rattle.sheet.specs.SheetLaws.{costs_count, sheet_narrow, sheet_long, costs_in_place}

-- the bytes of the sheet of the longest plan
abbrev pub most_sheet : ℕ
most_sheet = line_bytes * (max_list + 1)

module _ (f list : List ℕ) where
  -- ---- as in a run

  -- A sheet without its text.
  pub sum_of_sheet : with_value (λ (c : List ℕ × ℕ). c.1) (sheet_of f list) ≡ sum_task f list
  unfolding sheet_of sum_task
  sum_of_sheet =
      let sum : List ℕ × ℕ → ℕ = λ c. c.1 in
      with_value_bind sum (read_task f) _ ∙ agree (read_task f) _ _ (λ t h. with_value_bind sum (at_most max_list list) _ ∙ agree (at_most max_list list) _ _ (λ u e. alone t (task_sum t list)))
    where
      alone : (t : Task) (r : Read ℕ) → with_value (λ (c : List ℕ × ℕ). c.1) (◌>>=◌ r (λ sum. accepted (sheet_text t list sum, sum))) ≡ r
      alone t (accepted sum) = refl
      alone t (refused n p) = refl

  -- "Lists that are no plan .. are turned down as in a run": at the same place, and else the sum is the run's.
  pub as_in_a_run : with_value (λ (c : List ℕ × ℕ). c.1) (sheet_of f list) ≡ with_value (λ (w : Walk). w.cost) (run_task f list)
  as_in_a_run = sum_of_sheet ∙ sym (sum_of_run f list)

  -- A refusal changes no byte of the buffer.
  pub sheet_writes_none : Untouched (λ out. answer_in (length out) (sheet_of f list)) (λ out. buffer_in out (sheet_of f list))
  sheet_writes_none = refusals_write_nothing.at_a_sum (sheet_of f list)

  -- ---- the ways in which it goes

  pub sheet_no_file : {n p : ℕ} → check_task f ≡ refused n p → sheet_of f list ≡ refused n p
  unfolding check_task sheet_of
  sheet_no_file h = rw (not_made (λ (t : Task). tt) (read_task f) h)

  pub sheet_refused : {n p : ℕ} → sum_task f list ≡ refused n p → sheet_of f list ≡ refused n p
  sheet_refused h = not_made (λ (c : List ℕ × ℕ). c.1) (sheet_of f list) (sum_of_sheet ∙ h)

  -- what is known of a list whose run answers the sum c
  pub record Planned (t : Task) (c : ℕ) : Type 0 where
    pub few : length list ≤ max_list
    pub plan : Plan t list c
    pub is : sheet_of f list ≡ accepted (sheet_text t list c, c)

  pub sheet_planned : {t : Task} {c : ℕ} → read_task f ≡ accepted t → sum_task f list ≡ accepted c → Planned t c
  unfolding sum_task sheet_of
  sheet_planned {t} {c} r h =
      let listed : ◌>>=◌ (at_most max_list list) (λ u. task_sum t list) ≡ accepted c = sym (ap (λ (m : Read Task). ◌>>=◌ m (λ t. ◌>>=◌ (at_most max_list list) (λ u. task_sum t list))) r) ∙ h in
      let o = through (at_most max_list list) listed in
      record { few = fits_inv max_list list o.first; plan = (task_plan t list c).1 o.then; is = rw (r, o.first, o.then) }

  -- ---- what is answered for a plan: 25 bytes for each action and for the last line, or 7 at that length, and its sum

  pub sheet_answer : {t : Task} {c : ℕ} → Bytes f → read_task f ≡ accepted t → sum_task f list ≡ accepted c → (room : ℕ)
      → answer_in room (sheet_of f list) ≡ ◌>>=◌ (check (leb (line_bytes * (length list + 1)) room) 7 (line_bytes * (length list + 1))) (λ u. accepted (line_bytes * (length list + 1), c))
  unfolding answer_in length_in
  sheet_answer {t} {c} bytes r h room =
      let p = sheet_planned r h in
      rw (p.is, sheet_long f r bytes list c p.few p.plan) (with_sum (check (leb (line_bytes * (length list + 1)) room) 7 (line_bytes * (length list + 1))))
    where
      with_sum : (m : Read (Unit {0})) → with_value {Y = ℕ × ℕ} (λ (n : ℕ). (n, c)) (◌>>=◌ m (λ u. accepted (line_bytes * (length list + 1)))) ≡ ◌>>=◌ m (λ u. accepted (line_bytes * (length list + 1), c))
      with_sum (accepted u) = refl
      with_sum (refused n p) = refl

  -- So the sheet of every list that is accepted has at most 6,425.
  pub sheet_most : Bytes f → {text : List ℕ} {c : ℕ} → sheet_of f list ≡ accepted (text, c) → length text ≤ most_sheet
  unfolding sheet_of
  sheet_most bytes {text} {c} h =
      let r = through (read_task f) h in
      let p = sheet_planned r.first (sym sum_of_sheet ∙ ap (with_value (λ (c : List ℕ × ℕ). c.1)) h) in
      omega (arith, p.few, ap length (value_of_lem (sym h ∙ p.is)) ∙ sheet_long f r.first bytes list c p.few p.plan)

-- ---- in place

-- The bytes f have an accepted file, by its index; the run of the list in place is this.
module _ (f : List ℕ) {n count : ℕ} {row : List ℕ} (ready : Ready f n count row) (list : List ℕ) {ran : Read ℕ} {state : List ℕ}
    (init : state ≡ take n (drop (1 + n) f)) (is : ran ≡ run_list count (move_at f row) (partial_at f (1 + 2 * n)) list state) where
  runs : ran ≡ sum_task (file_of f) list
  runs = is ∙ ap (run_list count (move_at f row) (partial_at f (1 + 2 * n)) list) init ∙ sym (sum_is f ready list)

  pub place_refused : {m p : ℕ} → ran ≡ refused m p → sheet_of (file_of f) list ≡ refused m p
  place_refused h = sheet_refused (file_of f) list (sym runs ∙ h)

  -- the costs that were noted are those of a plan with the sum c
  pub record Noted (costs : List ℕ) (c : ℕ) : Type 0 where
    pub all : length costs ≡ length list
    pub narrow : All Narrow (entries_from 0 0 list costs)
    pub sum : c ≤ most_sum
    pub text : sheet_of (file_of f) list ≡ accepted (lines_text (entries_from 0 0 list costs) ++ last_text c, c)

  pub place_noted : {c : ℕ} → Bytes f → ran ≡ accepted c → (before : List ℕ) {now : List ℕ} → now ≡ over (costs_from count (move_at f row) list state) before → Noted (take (length list) now) c
  unfolding sheet_text
  place_noted {c} bytes h before {now} e =
      let t = there f ready in
      let p = sheet_planned (file_of f) list t.reads (sym runs ∙ h) in
      let narrow = sheet_narrow (file_of f) t.reads (file_bytes f bytes) list c p.few p.plan in
      let long = costs_count t.task list c p.plan in
      let same : now ≡ over (costs t.task list) before = e ∙ ap (λ (cs : List ℕ). over cs before) (costs_in_place f t.reads ready.located (sym t.actions) list state (init ∙ (starts f ready).init)) in
      let front : take (length list) now ≡ costs t.task list = ap₂ (λ (k : ℕ) (z : List ℕ). take k z) (sym long) same ∙ over_front (costs t.task list) before in
      rw front (record { all = long; narrow = narrow.0; sum = narrow.1; text = p.is })
