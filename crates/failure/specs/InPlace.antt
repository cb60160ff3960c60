-- The same over the bytes of an accepted file, whose actions or steps begin at these offsets.
use Rattle.std.specs.Prelude.{ℕ, ◌≤◌, ◌≡◌, true, false, List, length, get_or, Result, Option, Some, None}
use Rattle.facts.specs.declared.Refusal.{Refusal}
use Rattle.facts.specs.Read.{Read, accepted, with_value}
use Rattle.facts.specs.Answers.{answer}
use Rattle.facts.specs.Partial.{Partial, holds, apply, partial_at, past_partial}
use Rattle.text.specs.Append.{largest}
use Rattle.failure.specs.Failure.{Halt, stopped, ended, halt_from, failure}
use Rattle.failure.specs.declared.Stop.{Stop}

-- the text that is answered has a length
pub record Brief (answer : Read (List ℕ)) : Type 0 where
  pub most : {text : List ℕ} → answer ≡ accepted text → length text ≤ largest

-- the state after an entry with this precondition and effect, where it applies
unfoldable pub advanced : Partial → Partial → List ℕ → List ℕ
advanced pre eff s = elim (holds pre s) [ true ↦ apply eff s | false ↦ s ]

-- the file f
module _ (f : List ℕ) where
  -- precondition and effect by number
  abbrev pub pre_at : List ℕ → ℕ → Partial
  pre_at offsets a = partial_at f (get_or offsets a 0)

  abbrev pub eff_at : List ℕ → ℕ → Partial
  eff_at offsets a = partial_at f (past_partial f (get_or offsets a 0))

  -- where a run comes to its end
  abbrev pub halt_in : List ℕ → ℕ → List ℕ → List ℕ → Read Halt
  halt_in offsets i list s = halt_from (length offsets) (pre_at offsets) (eff_at offsets) i list s

  -- why it is none of a plan, with the goal at an offset
  unfoldable pub failure_in : List ℕ → List ℕ → ℕ → List ℕ → List ℕ → Read (List ℕ)
  failure_in label offsets goal list s = failure label (length offsets) (pre_at offsets) (eff_at offsets) (partial_at f goal) list s

  -- what the code's answers mean, in the state s
  abbrev pub stop_answer : Option Stop → List ℕ → Halt
  stop_answer (Some stop) s = stopped stop.entry stop.number (partial_at f stop.place) s
  stop_answer None s = ended s

  abbrev pub halted_answer : Result (Option Stop) Refusal → List ℕ → Read Halt
  halted_answer result s = with_value (λ stop. stop_answer stop s) (answer result)
