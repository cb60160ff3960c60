-- From the index of an accepted task file to the operations: what is written from the parts in place is the task's text.
use Rattle.std.specs.Prelude.{ℕ, ◌+◌, ◌*◌, ◌-◌, ◌≤◌, ◌<◌, ◌≡◌, List, [], ◌∷◌, ◌++◌, length, get_or, take, drop}
use Rattle.std.proofs.Common.{sym, ◌∙◌, append_assoc}
use Rattle.std.proofs.Math.Path.{ap}
use native.Mathlib.Omega.{arith}
use Rattle.facts.specs.Read.{Read, accepted, refused}
use Rattle.facts.specs.ReadLaws.{not_made}
use Rattle.facts.specs.Write.{length_in, written_in}
use Rattle.facts.specs.WriteLaws.{short_in, wrote_in}
use Rattle.facts.specs.ListLaws.{look, look_none}
use Rattle.facts.specs.Partial.{partial_at}
use Rattle.taskfile.specs.Task.{Action, Task}
use Rattle.taskfile.specs.TaskFile.{read_task, check_task, action_of}
use Rattle.taskfile.specs.Blank.{file_of}
use Rattle.taskfile.specs.Index.{Ready}
use Rattle.taskfile.specs.AnswerLaws.{there}
use Rattle.taskfile.proofs.AnswerLaws.{starts, sizes_there}
use Rattle.taskfile.specs.PartsInPlace.{actions_in}
use Rattle.taskfile.specs.PartsInPlaceLaws.{at_some, action_here, actions_in_place}
use Rattle.compilation.specs.Compile.{flat}
use Rattle.text.specs.Append.{bytes, largest, Adds}
use Rattle.text.specs.AppendLaws.{adds_end, adds_wrote}
use Rattle.words.specs.Words.{partial_text}
use Rattle.words.specs.Show.{variable_text, action_text, task_text}
use Rattle.words.specs.Dot.{dot_action}
use Rattle.words.specs.DotLaws.{drawing_text, row_one}
use Rattle.words.specs.Rows.{row_from, heading, action_for, showing, drawing}
use Rattle.words.specs.RowLaws.{actions_row, list_row}
use Rattle.words.specs.DescribeFile.{shown, drawn, drawn_action}

-- Variables with these sizes and initial values.
pub variables_row : (sizes init : List ℕ) → row_from (λ v. variable_text v (get_or sizes v 0) (get_or init v 0)) 0 (length sizes) ≡ flat (λ v size. variable_text v size (get_or init v 0)) 0 sizes
variables_row sizes init = sym (list_row (λ v size. variable_text v size (get_or init v 0)) sizes sizes 0 (λ k j l e. let same : j ≡ k = omega arith in rw same))

-- What is written after the variables and the goal.
pub heading_then : (f : List ℕ) (n : ℕ) (rest : List ℕ) → (let sizes = take (1 + n - 1) (drop 1 f) in
    let init = take (1 + n + n - (1 + n)) (drop (1 + n) f) in
    heading f n ++ rest ≡ row_from (λ v. variable_text v (get_or sizes v 0) (get_or init v 0)) 0 (length sizes) ++ (bytes "goal:" ++ (partial_text (length sizes) (partial_at f (1 + n + n)) ++ (bytes "\n" ++ rest))))
unfolding heading
heading_then f n rest =
    let sizes = take (1 + n - 1) (drop 1 f) in
    let init = take (1 + n + n - (1 + n)) (drop (1 + n) f) in
    let names = row_from (λ v. variable_text v (get_or sizes v 0) (get_or init v 0)) 0 (length sizes) in
    let goal = partial_text (length sizes) (partial_at f (1 + n + n)) in
    append_assoc names (bytes "goal:" ++ (goal ++ bytes "\n")) rest ∙ ap (λ (more : List ℕ). names ++ (bytes "goal:" ++ more)) (append_assoc goal (bytes "\n") rest)

-- ---- answers

-- The same answer for a result in other words.
pub answered_as : {whole result : Read (List ℕ)} {answer : Read ℕ} {now : List ℕ} (out : List ℕ) → whole ≡ result → (answer ≡ length_in (length out) result) × (now ≡ written_in out result)
    → (answer ≡ length_in (length out) whole) × (now ≡ written_in out whole)
answered_as out e h = (h.0 ∙ ap (length_in (length out)) (sym e), h.1 ∙ ap (written_in out) (sym e))

-- A text is counted in a buffer of any length, and then written if there is room.
module _ {result : Read (List ℕ)} {text none after : List ℕ} {needed : ℕ} (h : result ≡ accepted text) (few : length text ≤ largest) (count : Adds text none after 0 needed) where
  pub counted_short : (out : List ℕ) → length out < needed → (refused 7 needed ≡ length_in (length out) result) × (out ≡ written_in out result)
  counted_short out l = short_in h out (adds_end few count) l

  pub counted_wrote : {out now : List ℕ} {end : ℕ} → needed ≤ length out → Adds text out now 0 end → (accepted end ≡ length_in (length out) result) × (now ≡ written_in out result)
  counted_wrote {out} l v = let room : length text ≤ length out = omega (arith, adds_end few count) in wrote_in h room (adds_wrote few room v)

module _ (f : List ℕ) where
  -- The file's refusal, for each operation.
  pub shown_refused : {n p : ℕ} → check_task f ≡ refused n p → shown f ≡ refused n p
  unfolding check_task shown
  shown_refused h = rw (not_made (λ (t : Task). tt) (read_task f) h)

  pub drawn_refused : {n p : ℕ} → check_task f ≡ refused n p → drawn f ≡ refused n p
  unfolding check_task drawn
  drawn_refused h = rw (not_made (λ (t : Task). tt) (read_task f) h)

  pub action_refused : (a : ℕ) {n p : ℕ} → check_task f ≡ refused n p → drawn_action f a ≡ refused n p
  unfolding check_task drawn_action
  action_refused a h = rw (not_made (λ (t : Task). tt) (read_task f) h)

  -- ---- the task of an accepted file with this index

  module _ {n count : ℕ} {row : List ℕ} (ready : Ready f n count row) where
    abbrev t : Task
    t = (there f ready).task

    -- Where the head's parts stand, as code counts their bytes.
    pub head_fits : 1 + n + n ≤ length f
    head_fits = omega (arith, (starts f ready).fits)

    pub sizes_in_lem : take (1 + n - 1) (drop 1 f) ≡ t.sizes
    sizes_in_lem = let same : 1 + n - 1 ≡ n = omega arith in sizes_there f ready same

    pub init_in_lem : take (1 + n + n - (1 + n)) (drop (1 + n) f) ≡ t.init
    init_in_lem = let same : 1 + n + n - (1 + n) ≡ n = omega arith in ap (λ (k : ℕ). take k (drop (1 + n) f)) same ∙ (starts f ready).init

    goal_in_lem : partial_at f (1 + n + n) ≡ t.goal
    goal_in_lem = let same : 1 + n + n ≡ 1 + 2 * n = omega arith in ap (partial_at f) same ∙ (starts f ready).goal

    -- The texts of the actions in place are those of the task's.
    pub actions_text : {X : Type 0} (text : ℕ → Action → List X) {sizes : List ℕ} → sizes ≡ t.sizes → row_from (λ a. text a (action_for f sizes row a)) 0 count ≡ flat text 0 t.actions
    actions_text text {sizes} e = sym (actions_row f text sizes row 0 count) ∙ ap (flat text 0) (ap (λ (ds : List ℕ). actions_in f ds row 0 count) e ∙ actions_in_place f ready)

    -- What is written, one part after the other, is the task's text.
    task_text_lem : {sizes init : List ℕ} → sizes ≡ t.sizes → init ≡ t.init
        → row_from (λ v. variable_text v (get_or sizes v 0) (get_or init v 0)) 0 (length sizes)
        ++ (bytes "goal:" ++ (partial_text (length sizes) (partial_at f (1 + n + n)) ++ (bytes "\n" ++ row_from (λ a. action_text (length sizes) a (action_for f sizes row a)) 0 count)))
        ≡ task_text t
    unfolding task_text
    task_text_lem {sizes} {init} s h =
        let names : row_from (λ v. variable_text v (get_or sizes v 0) (get_or init v 0)) 0 (length sizes) ≡ flat (λ v size. variable_text v size (get_or t.init v 0)) 0 t.sizes = rw (s, h) (variables_row t.sizes t.init) in
        rw (names, goal_in_lem, actions_text (action_text (length sizes)) s, s)

    showing_text : showing f n count row ≡ task_text t
    unfolding showing
    showing_text = task_text_lem sizes_in_lem init_in_lem

    -- The whole task.
    pub shown_is : shown (file_of f) ≡ accepted (showing f n count row)
    unfolding shown
    shown_is = rw (there f ready).reads (ap accepted (sym showing_text))

    -- the text of an action's diagram
    abbrev diagram : ℕ → List ℕ
    diagram a = dot_action a (action_for f (take (1 + n - 1) (drop 1 f)) row a)

    -- All diagrams.
    pub drawn_is : drawn (file_of f) ≡ accepted (drawing f n row 0 count)
    unfolding drawn drawing
    drawn_is =
        let all : count - 0 ≡ count = omega arith in
        rw (there f ready).reads (ap accepted (sym (drawing_text 0 t.actions (ap (row_from diagram 0) all ∙ actions_text dot_action sizes_in_lem))))

    module _ (a : ℕ) where
      -- There is no such action.
      pub action_missing : count ≤ a → drawn_action (file_of f) a ≡ refused 11 0
      unfolding drawn_action action_of
      action_missing l = rw ((there f ready).reads, look_none t.actions a (omega (arith, (there f ready).actions)), action_of)

      -- The diagram of one action.
      pub action_is : a < count → drawn_action (file_of f) a ≡ accepted (drawing f n row a (a + 1))
      unfolding drawn_action action_of drawing
      action_is l =
          let x = at_some t.actions a (omega (arith, (there f ready).actions)) in
          let same : action_for f (take (1 + n - 1) (drop 1 f)) row a ≡ x.0 = rw sizes_in_lem (action_here f (ready.located.lies t (there f ready).reads a x.0 x.1)) in
          rw ((there f ready).reads, look x.1, action_of) (ap accepted (sym (drawing_text a (x.0 ∷ []) (row_one diagram a ∙ ap (λ (y : Action). dot_action a y ++ []) same))))
