-- Row 17 of the table, which document 02 adds, for an action number and a relaxed state: the condition. The law of all rows of relaxed costs is in proofs/LackingRows.antt.
use Rattle.std.specs.Prelude.{◌≡◌, ℕ, ◌<◌, List, Some}
use Rattle.facts.specs.Lists.{At}
use Rattle.facts.specs.Partial.{Partial}
use Rattle.value.specs.Value.{value_of, bit_of}
use Rattle.taskfile.specs.Task.{Action, Task}
use Rattle.relaxation.specs.Relaxed.{RelaxedInside}
use Rattle.cases.specs.StateRows.{NoSet, AskFault}

-- ---- the condition

-- The set x of variable v lacks the value that the precondition has for v.
abbrev pub Lacks : Partial → ℕ → ℕ → Type 0
Lacks pre v x = (d : ℕ) × (value_of pre v ≡ Some d) × (bit_of x d ≡ 0)

-- The variable p is the lowest whose set lacks the value that the precondition has for it.
pub record LowestLacking (pre : Partial) (sets : List ℕ) (p : ℕ) : Type 0 where
  pub set : ℕ
  pub has : At sets p set
  pub lacks : Lacks pre p set
  pub before : (q x : ℕ) → q < p → At sets q x → Lacks pre q x → ⊥

-- of an action number and a relaxed state, by number and place: 11, 12 and 4, and then 17
pub data RelaxedFault (t : Task) (a : ℕ) (sets : List ℕ) (n p : ℕ) : Type 0 where
  of_asking : AskFault NoSet t a sets n p → RelaxedFault t a sets n p
  lacking : n ≡ 17 → (x : Action) → At t.actions a x → RelaxedInside t.sizes sets → LowestLacking x.pre sets p → RelaxedFault t a sets n p
