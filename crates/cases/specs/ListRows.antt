-- Rows 8 to 11 of document 01's table, for a list run on a task or on a probe file: conditions. The law of each row is in proofs/ListRows.antt.
use Rattle.std.specs.Prelude.{◌≡◌, ℕ, ◌≤◌, ◌<◌, false, length, take}
use mathlib.Core.List.{List, [], ◌∷◌}
use Rattle.facts.specs.Read.{Read, ◌>>=◌}
use Rattle.facts.specs.Lists.{At}
use Rattle.facts.specs.Partial.{Partial, holds}
use Rattle.facts.specs.Run.{Move, next, blocked, run_from, at_most}

-- what a list is run on: the number of actions or steps, what each does in a state, the goal and the initial state
pub record System : Type 0 where
  pub count : ℕ
  pub move : ℕ → List ℕ → Move
  pub goal : Partial
  pub init : List ℕ

-- The entries of the list are actions or steps that there are, and apply one after the other, from the state s to the state e.
pub data Leads (y : System) : List ℕ → List ℕ → List ℕ → Type 0 where
  stays : {s : List ℕ} → Leads y [] s s
  goes : {a c : ℕ} {list s s' e : List ℕ} → a < y.count → y.move a s ≡ next s' c → Leads y list s' e → Leads y (a ∷ list) s e

-- ---- conditions

-- The entry at index p is a, and those before it lead from s to e.
pub record Comes (y : System) (list s : List ℕ) (p a : ℕ) (e : List ℕ) : Type 0 where
  pub entry : At list p a
  pub before : Leads y (take p list) s e

-- 11: the run comes to an entry which is no action or step.
abbrev pub Missing : System → List ℕ → List ℕ → ℕ → Type 0
Missing y list s p = (a : ℕ) × (e : List ℕ) × Comes y list s p a e × (y.count ≤ a)

-- 9: the run comes to an entry which does not apply in the state reached.
abbrev pub Blocked : System → List ℕ → List ℕ → ℕ → Type 0
Blocked y list s p = (a : ℕ) × (e : List ℕ) × Comes y list s p a e × (a < y.count) × (y.move a e ≡ blocked)

-- 10: the whole list applies, and the goal does not hold in the state reached; the place is the list's length.
abbrev pub Unmet : System → List ℕ → List ℕ → ℕ → Type 0
Unmet y list s p = (e : List ℕ) × Leads y list s e × (holds y.goal e ≡ false) × (p ≡ length list)

-- the refusals of a run, by number and place
pub data RunFault (y : System) (list s : List ℕ) (n p : ℕ) : Type 0 where
  missing : n ≡ 11 → Missing y list s p → RunFault y list s n p
  does_not_apply : n ≡ 9 → Blocked y list s p → RunFault y list s n p
  unmet : n ≡ 10 → Unmet y list s p → RunFault y list s n p

-- the refusals of a list of at most so many entries, by number and place
pub data ListFault (most : ℕ) (y : System) (list : List ℕ) (n p : ℕ) : Type 0 where
  long : n ≡ 8 → most < length list → p ≡ most → ListFault most y list n p
  runs : length list ≤ most → RunFault y list y.init n p → ListFault most y list n p

-- ---- runs

module _ (y : System) where
  abbrev pub sum_from : ℕ → ℕ → List ℕ → List ℕ → Read ℕ
  sum_from i sum list s = run_from y.count y.move y.goal i sum list s

  -- the sum of a list
  abbrev pub list_sum : ℕ → List ℕ → Read ℕ
  list_sum most list = ◌>>=◌ (at_most most list) (λ u. sum_from 0 0 list y.init)
