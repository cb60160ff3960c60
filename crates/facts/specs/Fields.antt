-- Fields of a file at an offset: what task files and probe files have in common. Document 01, "The task file", "Turned down".
-- A reader gives what it read and the offset of the next field, or the refusal: the number of what is wrong, at the field's first byte.
use Rattle.std.specs.Prelude.{ℕ, zero, suc, ◌+◌, ◌/◌, ◌%◌, ◌^◌, Bool, true, ◌&&◌, List, [], ◌∷◌, ◌++◌, leb, ltb, length}
use Rattle.facts.specs.Read.{Read, accepted, refused, check, with_value, ◌>>=◌}
use Rattle.facts.specs.Lists.{up_from}
use Rattle.facts.specs.Bytes.{number_at, bytes_of}
use Rattle.facts.specs.Partial.{Partial, write_partial}

-- the sizes of the variables whose bits stand in the map
abbrev pub standing : ℕ → List ℕ → List ℕ
standing map [] = []
standing map (d ∷ sizes) = elim (map % 2) [ zero ↦ standing (map / 2) sizes | suc b ↦ d ∷ standing (map / 2) sizes ]

-- one field, or group of fields, for each element of a list
abbrev pub each : {A X : Type 0} → (A → ℕ → Read (X × ℕ)) → List A → ℕ → Read (List X × ℕ)
each read [] at = accepted ([], at)
each read (a ∷ items) at = do
  (x, at) ← read a at
  (xs, at) ← each read items at
  accepted (x ∷ xs, at)

-- the offset alone: what a function answers that only goes past the fields
abbrev pub next_of : {X : Type 0} → Read (X × ℕ) → Read ℕ
next_of r = with_value (λ p. p.1) r

-- the value alone
abbrev pub value_of : {X : Type 0} → Read (X × ℕ) → Read X
value_of r = with_value (λ p. p.0) r

-- A precondition, an effect and a two-byte number: a step of a probe file with its cost, and the front of an action with its incoming weight.
pub record Operator : Type 0 where
  pub pre : Partial
  pub eff : Partial
  pub weight : ℕ

-- what both kinds of file begin with: the domain sizes of the variables, the initial values and the goal
pub record Head : Type 0 where
  pub sizes : List ℕ
  pub init : List ℕ
  pub goal : Partial

-- the file f
module _ (f : List ℕ) where
  -- the number of k bytes; 1 where the file ends before or inside them
  unfoldable pub read_number : ℕ → ℕ → Read ℕ
  read_number k at = do
    _ ← check (leb (at + k) (length f)) 1 at
    accepted (number_at k f at)

  -- the two bytes at an offset, 0 where the file ends before
  unfoldable pub word_at : ℕ → ℕ
  word_at at = elim (read_number 2 at) [ accepted n ↦ n | refused n p ↦ 0 ]

  -- a number of k bytes that passes a test, or refusal `wrong`
  unfoldable pub field : ℕ → (ℕ → Bool) → ℕ → ℕ → Read (ℕ × ℕ)
  field k good wrong at = do
    n ← read_number k at
    _ ← check (good n) wrong at
    accepted (n, at + k)

  -- a count or a domain size, of one byte
  unfoldable pub read_count : ℕ → ℕ → ℕ → Read (ℕ × ℕ)
  read_count low high at = field 1 (λ n. leb low n && leb n high) 3 at

  -- a value of a variable that has d values
  unfoldable pub read_value : ℕ → ℕ → Read (ℕ × ℕ)
  read_value d at = field 1 (λ x. ltb x d) 4 at

  -- a map for n variables
  unfoldable pub read_map : ℕ → ℕ → Read (ℕ × ℕ)
  read_map n at = field 8 (λ map. ltb map (2 ^ n)) 5 at

  -- a weight or a cost: any two bytes
  unfoldable pub read_weight : ℕ → Read (ℕ × ℕ)
  read_weight at = field 2 (λ w. true) 3 at

  -- a value for each of these domain sizes
  unfoldable pub read_values : List ℕ → ℕ → Read (List ℕ × ℕ)
  read_values sizes at = each read_value sizes at

  -- a partial state: one value for each standing bit, lowest first, and no others
  unfoldable pub read_partial : List ℕ → ℕ → Read (Partial × ℕ)
  read_partial sizes at = do
    (map, at) ← read_map (length sizes) at
    (values, at) ← read_values (standing map sizes) at
    accepted (record { map = map; values = values }, at)

  -- precondition, effect, weight
  unfoldable pub read_operator : List ℕ → ℕ → Read (Operator × ℕ)
  read_operator sizes at = do
    (pre, at) ← read_partial sizes at
    (eff, at) ← read_partial sizes at
    (weight, at) ← read_weight at
    accepted (record { pre = pre; eff = eff; weight = weight }, at)

  -- the domain sizes of n variables
  unfoldable pub read_sizes : ℕ → ℕ → ℕ → Read (List ℕ × ℕ)
  read_sizes largest n at = each (λ v. read_count 2 largest) (up_from 0 n) at

  -- at most `most` variables, with at most `largest` values each
  unfoldable pub read_head : ℕ → ℕ → Read (Head × ℕ)
  read_head most largest = do
    (n, at) ← read_count 1 most 0
    (sizes, at) ← read_sizes largest n at
    (init, at) ← read_values sizes at
    (goal, at) ← read_partial sizes at
    accepted (record { sizes = sizes; init = init; goal = goal }, at)

  -- how many variables there are, and the offset of the field after the goal
  unfoldable pub head_at : ℕ → ℕ → Read (ℕ × ℕ)
  head_at most largest = with_value (λ p. (length p.0.sizes, p.1)) (read_head most largest)

  -- nothing after the last field
  unfoldable pub read_end : ℕ → Read (Unit {0})
  read_end at = check (leb (length f) at) 2 at

-- ---- writing

-- the bytes of each, straight after the last one's
abbrev pub write_each : {X : Type 0} → (X → List ℕ) → List X → List ℕ
write_each write [] = []
write_each write (x ∷ xs) = write x ++ write_each write xs

unfoldable pub write_operator : Operator → List ℕ
write_operator o = write_partial o.pre ++ (write_partial o.eff ++ bytes_of 2 o.weight)

unfoldable pub write_head : Head → List ℕ
write_head h = bytes_of 1 (length h.sizes) ++ (h.sizes ++ (h.init ++ write_partial h.goal))
