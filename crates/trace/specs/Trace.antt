-- A probe list as a trace: of each step its name, what it needs and sets, the sum up to it, and the state after it where asked for; the first step that does not apply ends it.
use Rattle.std.specs.Prelude.{ℕ, ◌+◌, Bool, true, false, List, [], ◌∷◌, ◌++◌, length, None, Some, slice_get}
use Rattle.facts.specs.Partial.{Partial, holds, apply}
use Rattle.text.specs.Text.{decimal}
use Rattle.text.specs.Append.{bytes}
use Rattle.words.specs.Words.{partial_text}
use Rattle.steps.specs.Steps.{StepName, Named, name_text}
use Rattle.failure.specs.Failure.{failures_text}

-- ---- the entries of a list

-- Step number k by name and what it needs: it applied, with what it sets, the sum up to it and the state after it; or it did not, in this state.
pub data Entry : Type 0 where
  went : ℕ → Named → Partial → Partial → ℕ → List ℕ → Entry
  stuck : ℕ → Named → Partial → List ℕ → Entry

-- step number k in the state s, with the sum before it
abbrev pub entry : ℕ → Named → Partial → Partial → ℕ → List ℕ → Entry
entry k x pre eff sum s = elim (holds pre s) [ true ↦ went k x pre eff (sum + x.cost) (apply eff s) | false ↦ stuck k x pre s ]

-- The entries of a list from the state s on, with the sum before it, up to the first that does not apply. The steps have these names, and by number these preconditions
-- and effects; a number that no step has ends them too.
abbrev pub entries : List Named → (ℕ → Partial) → (ℕ → Partial) → ℕ → List ℕ → List ℕ → List Entry
entries names pre eff sum [] s = []
entries names pre eff sum (k ∷ list) s =
    elim (slice_get names k) [
      | None ↦ []
      | Some x ↦ entry k x (pre k) (eff k) sum s ∷ elim (holds (pre k) s) [ true ↦ entries names pre eff (sum + x.cost) list (apply (eff k) s) | false ↦ [] ]
    ]

-- ---- in words

-- the values of a state, a blank before each; and after a label, on a line of their own, if they are asked for
abbrev pub values_text : List ℕ → List ℕ
values_text [] = []
values_text (x ∷ s) = (bytes " " ++ decimal x) ++ values_text s

abbrev pub state_text : Bool → List ℕ → List ℕ → List ℕ
state_text true label s = label ++ (values_text s ++ bytes "\n")
state_text false label s = []

-- step number k by name
abbrev pub step_text : ℕ → StepName → List ℕ
step_text k name = decimal k ++ (bytes " " ++ name_text name)

-- what is said of a step that applied, and of one that did not
abbrev pub went_text : Bool → ℕ → Partial → Partial → ℕ → List ℕ → List ℕ
went_text states cost pre eff sum s =
    bytes ": cost "
    ++ (decimal cost
    ++ (bytes ", sum "
    ++ (decimal sum ++ (bytes "\n  needs:" ++ (partial_text (length s) pre ++ (bytes "\n  sets:" ++ (partial_text (length s) eff ++ (bytes "\n" ++ state_text states (bytes "  state:") s))))))))

abbrev pub stuck_text : Partial → List ℕ → List ℕ
stuck_text pre s = bytes ": does not apply" ++ (bytes "\n  needs:" ++ (partial_text (length s) pre ++ (bytes "\n" ++ failures_text pre s)))

abbrev pub entry_text : Bool → Entry → List ℕ
entry_text states (went k x pre eff sum s) = step_text k x.name ++ went_text states x.cost pre eff sum s
entry_text states (stuck k x pre s) = step_text k x.name ++ stuck_text pre s

abbrev pub entries_text : Bool → List Entry → List ℕ
entries_text states [] = []
entries_text states (e ∷ es) = entry_text states e ++ entries_text states es

-- the trace of a list from the state s
unfoldable pub trace_text : Bool → List Named → (ℕ → Partial) → (ℕ → Partial) → List ℕ → List ℕ → List ℕ
trace_text states names pre eff list s = state_text states (bytes "initial state:") s ++ entries_text states (entries names pre eff 0 list s)
