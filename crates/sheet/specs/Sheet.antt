-- The sheet of a plan, as text: the lines of its actions and the last line, with what each action costs as the plan runs. Document 02, W12.
use Rattle.std.specs.Prelude.{ℕ, true, false, List, [], ◌∷◌, ◌++◌, ltb, length}
use Rattle.facts.specs.Run.{Move, next, blocked}
use Rattle.taskfile.specs.Task.{Task, action_move}
use Rattle.line_writer.specs.Lines.{Entry, last_text, lines_text, entries_from}

-- The costs of the actions of a list that is run from the state s, in their order, up to one that is missing or does not apply: there are `count` actions, and `move a s` is what number a does in the state s.
abbrev pub costs_from : ℕ → (ℕ → List ℕ → Move) → List ℕ → List ℕ → List ℕ
costs_from count move [] s = []
costs_from count move (a ∷ list) s = elim (ltb a count) [ true ↦ elim (move a s) [ next s' c ↦ c ∷ costs_from count move list s' | blocked ↦ [] ] | false ↦ [] ]

-- the costs of a plan's actions, from the initial state
unfoldable pub costs : Task → List ℕ → List ℕ
costs t list = costs_from (length t.actions) (action_move t.actions) list t.init

-- the actions of a plan
abbrev pub entries : Task → List ℕ → List Entry
entries t list = entries_from 0 0 list (costs t list)

-- the sheet of a plan with this sum
unfoldable pub sheet_text : Task → List ℕ → ℕ → List ℕ
sheet_text t list sum = lines_text (entries t list) ++ last_text sum
