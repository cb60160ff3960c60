-- Partial states inside the domains of the variables: what an accepted file guarantees of each of its partial states.
use Rattle.std.specs.Prelude.{◌≡◌, ℕ, zero, suc, ◌%◌, ◌^◌, ◌≤◌, ◌<◌, List, [], ◌∷◌, length}
use Rattle.std.specs.Int.Count.{ones}
use Rattle.facts.specs.Lists.{All}
use Rattle.facts.specs.Partial.{Partial, above}
use Rattle.facts.specs.State.{Inside}
use Rattle.facts.specs.Fields.{Head}

-- the first value, where the bit stands, is inside a domain of d values
abbrev pub Fits : ℕ → List ℕ → ℕ → Type 0
Fits zero values d = Unit {0}
Fits (suc b) [] d = ⊥
Fits (suc b) (v ∷ values) d = v < d

-- each value is inside its variable's domain
abbrev pub Values : Partial → List ℕ → Type 0
Values p [] = Unit {0}
Values p (d ∷ sizes) = Fits (p.map % 2) p.values d × Values (above p) sizes

pub record WfPartial (sizes : List ℕ) (p : Partial) : Type 0 where
  pub map_below : p.map < 2 ^ length sizes
  pub count : ones p.map ≡ length p.values
  pub values : Values p sizes

-- the head of a file with at most `most` variables of at most `largest` values
pub record WfHead (most largest : ℕ) (h : Head) : Type 0 where
  pub some_variable : 1 ≤ length h.sizes
  pub variables : length h.sizes ≤ most
  pub sizes : All (λ d. (2 ≤ d) × (d ≤ largest)) h.sizes
  pub init : Inside h.sizes h.init
  pub goal : WfPartial h.sizes h.goal
