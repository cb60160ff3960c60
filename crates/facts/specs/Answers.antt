-- What the answers of the code mean: the value, or the document's number and place of the refusal.
use Rattle.std.specs.Prelude.{ℕ, List, Result, Ok, Err, Option, Some, None}
use Rattle.facts.specs.declared.Refusal.{Refusal}
use Rattle.facts.specs.Refusal.{number, place}
use Rattle.facts.specs.Read.{Read, accepted, refused}
use Rattle.facts.specs.Run.{Move, next, blocked}

-- a value, or why there is none
abbrev pub answer : {X : Type 0} → Result X Refusal → Read X
answer (Ok x) = accepted x
answer (Err why) = refused (number why) (place why)

-- what an action or a step did: its cost, if it applied, with the state that stands beside the answer
abbrev pub move_of : Option ℕ → List ℕ → Move
move_of (Some cost) s = next s cost
move_of None s = blocked
