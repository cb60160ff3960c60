-- Laws of a pass over the nodes of an action in place: its table is filled from the last node to the first.
use Rattle.std.specs.Prelude.{◌≡◌, refl, ℕ, zero, suc, ◌+◌, ◌*◌, ◌<◌, List, length, get_or, set, replicate}
use Rattle.std.proofs.Common.{sym, ap, ◌∙◌, subst, arith}
use Rattle.facts.specs.Lists.{At}
use Rattle.taskfile.specs.TaskFile.{edge_bytes}
use Rattle.taskfile.specs.PartsInPlace.{edge_in, node_in, nodes_in}
use Rattle.taskfile.specs.PartsInPlaceLaws.{edges_at, nodes_long, nodes_at}
use Rattle.relaxation.specs.Pass.{edge_for, Pass, least_at, least_from, Filled}
use Rattle.relaxation.specs.PassLaws.{at_value, Above, filled_start, filled_next, filled_first}

-- a table of zeros has a zero everywhere
pub zeros_at : (n t : ℕ) → ◌≡◌ {A = ℕ} (get_or (replicate n 0) t 0) 0
zeros_at zero t = refl
zeros_at (suc n) zero = refl
zeros_at (suc n) (suc t) = zeros_at n t

-- the node with index j, where the nodes begin at these offsets
pub node_there : (f sizes offsets : List ℕ) {count j node : ℕ} → j < count → node ≡ get_or offsets j 0 → At (nodes_in f sizes offsets 0 count) j (node_in f sizes node)
node_there f sizes offsets {count} {j} l n = rw n (nodes_at f sizes offsets 0 count j j l (omega arith))

-- the edge for a value of its variable, of the node at an offset
pub edge_there : (f sizes : List ℕ) (node d : ℕ) → d < get_or sizes (get_or f node 0) 0 → edge_for (node_in f sizes node) d ≡ edge_in f (node + (1 + edge_bytes * d))
edge_there f sizes node d l =
    sym (at_value (record { target = 0; weight = 0 }) (edges_at f (node + 1) (get_or sizes (get_or f node 0) 0) d (node + (1 + edge_bytes * d)) l (omega arith)) refl)

module _ {C : Type 0} (p : Pass C) (read : ℕ → C) (f sizes offsets : List ℕ) (count : ℕ) where
  -- the table from number k on
  abbrev pub Table : ℕ → List ℕ → Type 0
  Table k table = Filled p read (nodes_in f sizes offsets 0 count) k table

  -- no entry yet
  pub table_start : (n : ℕ) {k : ℕ} → read 0 ≡ p.terminal → k ≡ count → Table k (replicate n 0)
  table_start n same e = filled_start p read (λ t. ap read (zeros_at n t) ∙ same) (omega (arith, nodes_long f sizes offsets 0 count))

  -- one entry more
  pub table_next : (e : ℕ) {j k node : ℕ} {table : List ℕ} → j < count → node ≡ get_or offsets j 0 → Above p (suc j) (node_in f sizes node) → k ≡ suc j → Table k table → k < length table
      → read e ≡ least_at p (node_in f sizes node) (λ t. read (get_or table t 0)) → Table j (set table k e)
  table_next e {table = table} l n up same full room is =
      rw same (filled_next p read (subst (λ (k : ℕ). Table k table) same full) (node_there f sizes offsets l n) up (omega arith) is)

  -- all entries
  pub table_end : {k : ℕ} {table : List ℕ} → k < 1 → Table k table → read (get_or table 1 0) ≡ least_from p (nodes_in f sizes offsets 0 count) 1
  table_end none full = filled_first p read none full
