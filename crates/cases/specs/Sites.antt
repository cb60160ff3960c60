-- The sites of a file: what a reader looks at, at which offset, and what may be wrong there. Document 01, "The task file", "The probe file",
-- "Turned down". A site is come to if all that stands before it is accepted. Limits are written as the document has them, and not by the readers' names.
use Rattle.std.specs.Prelude.{◌≡◌, ℕ, suc, ◌+◌, ◌^◌, ◌≤◌, ◌<◌, Bool, true, false, ◌&&◌, List, leb, ltb, length, take}
use Rattle.facts.specs.Read.{Read, accepted}
use Rattle.facts.specs.Lists.{up_from, At}
use Rattle.facts.specs.Bytes.{number_at}
use Rattle.facts.specs.Partial.{Partial}
use Rattle.facts.specs.Fields.{standing, each, read_count, read_value, read_map, read_values, read_partial, read_sizes}

-- ---- kinds of fields

pub data Kind : Type 0 where
  -- a count or a domain size: lowest and highest
  count : ℕ → ℕ → Kind
  -- a value of a variable that has so many
  value : ℕ → Kind
  -- the map of a partial state over so many variables
  map : ℕ → Kind
  -- a weight or a cost
  weight : Kind
  -- the number of steps of a probe file
  steps : Kind
  -- the variable of a node, of so many
  variable : ℕ → Kind
  -- the target of an edge: the diagram's number of nodes, and the number of the edge's own node
  target : ℕ → ℕ → Kind

-- how many bytes a field has
abbrev pub bytes : Kind → ℕ
bytes (count low high) = 1
bytes (value d) = 1
bytes (map n) = 8
bytes weight = 2
bytes steps = 2
bytes (variable n) = 1
bytes (target m i) = 1

-- the numbers that a field may have
abbrev pub good : Kind → ℕ → Bool
good (count low high) x = leb low x && leb x high
good (value d) x = ltb x d
good (map n) x = ltb x (2 ^ n)
good weight x = true
good steps x = leb x 576
good (variable n) x = ltb x n
good (target m i) x = ltb i x && leb x (suc m)

-- the refusal of any other number; of a weight none is refused
abbrev pub wrong : Kind → ℕ
wrong (count low high) = 3
wrong (value d) = 4
wrong (map n) = 5
wrong weight = 3
wrong steps = 3
wrong (variable n) = 6
wrong (target m i) = 6

-- ---- sites

pub data Site : Type 0 where
  -- a field
  field : Kind → Site
  -- the first target byte of an action whose node's variable is not above its parent's
  falling : Site
  -- the end of the last field
  end : Site

-- Refusal n is due at the site, which is at the offset p.
pub data Due (f : List ℕ) (n p : ℕ) : Site → Type 0 where
  -- the file ends before or inside the field
  cut : {kind : Kind} → n ≡ 1 → length f < p + bytes kind → Due f n p (field kind)
  -- the field's number is none of the good ones
  bad : {kind : Kind} → n ≡ wrong kind → p + bytes kind ≤ length f → good kind (number_at (bytes kind) f p) ≡ false → Due f n p (field kind)
  -- a target's variable is against the rules
  falls : n ≡ 6 → Due f n p falling
  -- there are bytes after the last field
  goes_on : n ≡ 2 → p < length f → Due f n p end

-- Sites, each with its offset: those that a reader comes to.
abbrev pub Sites : Type 1
Sites = Site → ℕ → Type 0

-- Refusal n is due at p at one of these sites.
pub record Fault (f : List ℕ) (come : Sites) (n p : ℕ) : Type 0 where
  pub site : Site
  pub there : come site p
  pub due : Due f n p site

-- one site
pub data Only (site : Site) (p : ℕ) : Site → ℕ → Type 0 where
  only : Only site p site p

-- the sites of items read one after the other: those of the item at index j, once the j before it are accepted
pub record Among {A X : Type 0} (read : A → ℕ → Read (X × ℕ)) (sites : A → ℕ → Sites) (items : List A) (at : ℕ) (site : Site) (p : ℕ) : Type 0 where
  pub j : ℕ
  pub item : A
  pub stands : At items j item
  pub before : List X
  pub from : ℕ
  pub accepts : each read (take j items) at ≡ accepted (before, from)
  pub come : sites item from site p

-- ---- the parts that both kinds of file have, in the file f

module _ (f : List ℕ) where
  -- values for these domain sizes
  abbrev pub ValueSites : List ℕ → ℕ → Sites
  ValueSites sizes at = Among (read_value f) (λ d o. Only (field (value d)) o) sizes at

  -- a partial state
  pub data PartialSites (sizes : List ℕ) (at : ℕ) : Site → ℕ → Type 0 where
    partial_map : PartialSites sizes at (field (map (length sizes))) at
    partial_value : {m from p : ℕ} {site : Site} → read_map f (length sizes) at ≡ accepted (m, from) → ValueSites (standing m sizes) from site p → PartialSites sizes at site p

  -- precondition, effect and a two-byte number
  pub data OperatorSites (sizes : List ℕ) (at : ℕ) : Site → ℕ → Type 0 where
    precondition : {p : ℕ} {site : Site} → PartialSites sizes at site p → OperatorSites sizes at site p
    effect : {from p : ℕ} {pre : Partial} {site : Site} → read_partial f sizes at ≡ accepted (pre, from) → PartialSites sizes from site p → OperatorSites sizes at site p
    number : {from p : ℕ} {pre eff : Partial} → read_partial f sizes at ≡ accepted (pre, from) → read_partial f sizes from ≡ accepted (eff, p) → OperatorSites sizes at (field weight) p

  -- number of variables, domain sizes, initial values and goal
  pub data HeadSites (most largest : ℕ) : Site → ℕ → Type 0 where
    variables : HeadSites most largest (field (count 1 most)) 0
    domain_size : {n from p : ℕ} {site : Site} → read_count f 1 most 0 ≡ accepted (n, from)
        → Among (λ (v : ℕ). read_count f 2 largest) (λ v o. Only (field (count 2 largest)) o) (up_from 0 n) from site p → HeadSites most largest site p
    initial_value : {n from next p : ℕ} {sizes : List ℕ} {site : Site} → read_count f 1 most 0 ≡ accepted (n, from) → read_sizes f largest n from ≡ accepted (sizes, next)
        → ValueSites sizes next site p → HeadSites most largest site p
    goal : {n from next last p : ℕ} {sizes init : List ℕ} {site : Site} → read_count f 1 most 0 ≡ accepted (n, from) → read_sizes f largest n from ≡ accepted (sizes, next)
        → read_values f sizes next ≡ accepted (init, last) → PartialSites sizes last site p → HeadSites most largest site p
