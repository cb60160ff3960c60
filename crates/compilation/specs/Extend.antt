-- Partial states with facts of further variables, above their own.
use Rattle.std.specs.Prelude.{ℕ, zero, suc, ◌+◌, ◌^◌, [], ◌∷◌, ◌++◌}
use Rattle.facts.specs.Partial.{Partial}

-- p with the fact that variable v has the value x, where v is above all variables of p
abbrev pub extend : Partial → ℕ → ℕ → Partial
extend p v x = record { map = p.map + 2 ^ v; values = p.values ++ (x ∷ []) }

-- p with k variables, from v on, at 0
abbrev pub clear : Partial → ℕ → ℕ → Partial
clear p v zero = p
clear p v (suc k) = clear (extend p v 0) (suc v) k
