-- What the answers of the code mean.
use Rattle.std.specs.Prelude.{ℕ, ◌≤◌, ◌<◌, Result, Ok, Err, Option, None, Some, List, [], ◌∷◌, length, drop}
use Rattle.text.specs.declared.Flaw.{Flaw}
use Rattle.text.specs.declared.Flaw.TheVariants.{Stray, Large}
use Rattle.text.specs.Text.{Parsed, parsed, stray, large, with_parsed, between, numbers_from}

-- what is wrong with a text
abbrev pub wrong : {X : Type 0} → Flaw → Parsed X
wrong (Stray p) = stray p
wrong (Large p) = large p

-- what was found in a text, or what is wrong with it
abbrev pub found_answer : {X : Type 0} → Result X Flaw → Parsed X
found_answer (Ok x) = parsed x
found_answer (Err why) = wrong why

-- the numbers of a text of which this is the next, with the offset past it
abbrev pub token_answer : ℕ → List ℕ → Result (Option (ℕ × ℕ)) Flaw → Parsed (List ℕ)
token_answer most text (Ok (Some t)) = with_parsed (λ (xs : List ℕ). t.0 ∷ xs) (numbers_from most between t.1 (drop t.1 text))
token_answer most text (Ok None) = parsed []
token_answer most text (Err why) = wrong why

-- a number is at most `most`, and ends after the offset `from` and within the text
abbrev pub Bounds : ℕ → List ℕ → ℕ → Result (Option (ℕ × ℕ)) Flaw → Type 0
Bounds most text from (Ok (Some t)) = (t.0 ≤ most) × (from < t.1) × (t.1 ≤ length text)
Bounds most text from (Ok None) = Unit {0}
Bounds most text from (Err why) = Unit {0}

pub record Ahead (most : ℕ) (text : List ℕ) (from : ℕ) (r : Result (Option (ℕ × ℕ)) Flaw) : Type 0 where
  pub bounds : Bounds most text from r
