-- Entries in place: what code writes for one, by the bytes of the probe file f.
use Rattle.std.specs.Prelude.{ℕ, ◌+◌, ◌≡◌, Bool, List, Option, is_some, IfSome}
use Rattle.facts.specs.Partial.{holds, partial_at, past_partial}
use Rattle.text.specs.declared.append.Writer.{Writer}
use Rattle.text.specs.Writer.{Appends}
use Rattle.steps.specs.Steps.{Named}
use Rattle.failure.specs.InPlace.{advanced}
use Rattle.trace.specs.Trace.{entry, entry_text}

-- Step number k, at an offset, was written in the state s with the sum before it; where it applies the sum up to it is answered, and the state is the one after it.
pub record Entered (states : Bool) (k : ℕ) (x : Named) (f : List ℕ) (place sum : ℕ) (s : List ℕ) (before now : Writer) (paid : Option ℕ) (after : List ℕ) : Type 0 where
  pub text : Appends (entry_text states (entry k x (partial_at f place) (partial_at f (past_partial f place)) sum s)) before now
  pub applies : is_some paid ≡ holds (partial_at f place) s
  pub sums : IfSome paid (λ total. total ≡ sum + x.cost)
  pub state : after ≡ advanced (partial_at f place) (partial_at f (past_partial f place)) s
