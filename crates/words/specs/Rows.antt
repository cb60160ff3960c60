-- Rows of texts, and the parts of a task in place by number.
use Rattle.std.specs.Prelude.{ℕ, zero, suc, ◌+◌, ◌*◌, ◌-◌, List, [], ◌++◌, length, get_or, take, drop}
use Rattle.facts.specs.Partial.{partial_at}
use Rattle.taskfile.specs.Task.{Edge, Node, Action}
use Rattle.taskfile.specs.TaskFile.{edge_bytes}
use Rattle.taskfile.specs.Row.{own_from}
use Rattle.taskfile.specs.PartsInPlace.{edge_in, node_in, action_in}
use Rattle.text.specs.Append.{bytes}
use Rattle.words.specs.Words.{partial_text}
use Rattle.words.specs.Show.{variable_text, action_text}
use Rattle.words.specs.Dot.{dot_action}

-- what f gives for each of `count` numbers from i on, each straight after the last one's
abbrev pub row_from : {X : Type 0} → (ℕ → List X) → ℕ → ℕ → List X
row_from f i zero = []
row_from f i (suc count) = f i ++ row_from f (suc i) count

-- the file f
module _ (f : List ℕ) where
  -- the edge for the value d of the node at an offset
  abbrev pub edge_for : ℕ → ℕ → Edge
  edge_for node d = edge_in f (node + (1 + edge_bytes * d))

  -- the node at index j, where these are the offsets of an action's nodes
  abbrev pub node_for : List ℕ → List ℕ → ℕ → Node
  node_for sizes offsets j = node_in f sizes (get_or offsets j 0)

  -- action number a, by the row of the index
  abbrev pub action_for : List ℕ → List ℕ → ℕ → Action
  action_for sizes row a = action_in f sizes (get_or row a 0) (drop (own_from row a) row)

  -- so many variables and the goal in words
  unfoldable pub heading : ℕ → List ℕ
  heading n =
      let sizes = take (1 + n - 1) (drop 1 f) in
      let init = take (1 + n + n - (1 + n)) (drop (1 + n) f) in
      row_from (λ v. variable_text v (get_or sizes v 0) (get_or init v 0)) 0 (length sizes) ++ (bytes "goal:" ++ (partial_text (length sizes) (partial_at f (1 + n + n)) ++ bytes "\n"))

  -- the task in words, for so many variables and actions
  unfoldable pub showing : ℕ → ℕ → List ℕ → List ℕ
  showing n count row =
      let sizes = take (1 + n - 1) (drop 1 f) in
      let init = take (1 + n + n - (1 + n)) (drop (1 + n) f) in
      row_from (λ v. variable_text v (get_or sizes v 0) (get_or init v 0)) 0 (length sizes)
      ++ (bytes "goal:" ++ (partial_text (length sizes) (partial_at f (1 + n + n)) ++ (bytes "\n" ++ row_from (λ a. action_text (length sizes) a (action_for sizes row a)) 0 count)))

  -- the cost diagrams of the actions from one number up to another, in one drawing, for so many variables
  unfoldable pub drawing : ℕ → List ℕ → ℕ → ℕ → List ℕ
  drawing n row from end = bytes "digraph costs {\n" ++ (row_from (λ a. dot_action a (action_for (take (1 + n - 1) (drop 1 f)) row a)) from (end - from) ++ bytes "}\n")
