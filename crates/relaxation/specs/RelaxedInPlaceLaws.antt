-- Laws of the relaxed cost in place: the least at a node is chosen value by value, and no entry of the table is large.
use Rattle.std.specs.Prelude.{◌≡◌, refl, List, [], ◌∷◌, map, length, get_or, set as set_at, replicate}
use Rattle.std.proofs.Common.{sym, ap, subst₂, ◌∙◌, arith}
use Rattle.std.proofs.Math.Path.{ap₂}
use Prim.Native.Nat.{ℕ, zero, suc, ◌+◌, ◌-◌, ◌/◌, ◌%◌, ◌^◌, ◌≤◌, ◌<◌, min, max}
use Rattle.facts.specs.Lists.{At}
use Rattle.facts.specs.ListLaws.{at_get_d, all_at}
use Rattle.facts.specs.Fields.{word_at}
use Rattle.taskfile.specs.Task.{Edge, max_values}
use Rattle.taskfile.specs.WalkInPlace.{incoming_place, node_count}
use Rattle.taskfile.specs.PartsInPlace.{node_in, action_in}
use Rattle.relaxation.specs.Least.{least_of}
use Rattle.relaxation.specs.LeastLaws.{map_agree, least_taken}
use Rattle.relaxation.specs.Relaxed.{values_from, values_in, SetInside}
use Rattle.relaxation.specs.Pass.{by_edge, least_at, Filled}
use Rattle.relaxation.specs.PassInPlaceLaws.{edge_there, node_there, table_start, table_next, table_end}
use Rattle.relaxation.specs.RelaxedPass.{relaxed_pass, relaxed_by_pass}
use Rattle.relaxation.specs.RelaxedLaws.{with_bit, no_values, set_below, set_some, costs, inside_set, relaxed_above}
use Rattle.relaxation.specs.RelaxedInPlace.{cost_for, greatest, Choosing, Relaxable}

-- ---- the greatest entry

pub greatest_at : (xs : List ℕ) (k : ℕ) → get_or xs k 0 ≤ greatest xs
greatest_at [] k = omega arith
greatest_at (x ∷ xs) zero = omega arith
greatest_at (x ∷ xs) (suc k) = omega (arith, greatest_at xs k)

pub greatest_set : (xs : List ℕ) (k e : ℕ) → greatest (set_at xs k e) ≤ max (greatest xs) e
greatest_set [] k e = omega arith
greatest_set (x ∷ xs) zero e = omega arith
greatest_set (x ∷ xs) (suc k) e = omega (arith, greatest_set xs k e)

-- ---- the values of a set

-- no bit from n up, no value from n up
values_within : (n k d set : ℕ) → set < 2 ^ n → values_from (n + k) d set ≡ values_from n d set
values_within zero k d set h = let z : set ≡ 0 = omega arith in let e : 0 + k ≡ k = omega arith in rw (e, z) (no_values k d)
values_within (suc n) k d set h =
    let e : suc n + k ≡ suc (n + k) = omega arith in
    ap (λ (m : ℕ). values_from m d set) e ∙ ap (with_bit (set % 2) d) (values_within n k (suc d) (set / 2) (omega arith))

module _ {size set : ℕ} (inside : SetInside size set) (few : size ≤ max_values) where
  -- all of them are among the first `size`
  values_all : values_in set ≡ values_from size 0 set
  values_all =
      let e : max_values ≡ size + (max_values - size) = omega arith in
      ap (λ (n : ℕ). values_from n 0 set) e ∙ values_within size (max_values - size) 0 set inside.no_stray

  -- and there are some
  values_some : values_from size 0 set ≡ [] → ⊥
  values_some none = omega (arith, set_some inside few, ap length (values_all ∙ none))

-- ---- the least at the node at an offset

module _ (f sizes sets table : List ℕ) (node : ℕ) where
  -- its variable, the values of that, and those in the set
  abbrev variable : ℕ
  variable = get_or f node 0

  abbrev size : ℕ
  size = get_or sizes variable 0

  abbrev set : ℕ
  set = get_or sets variable 0

  module _ (inside : SetInside size set) (few : size ≤ max_values) where
    -- it is the least over the values of the set
    least_there : least_of min 0 (map (cost_for f node table) (values_from size 0 set)) ≡ least_at (relaxed_pass sets) (node_in f sizes node) (λ t. get_or table t 0)
    least_there =
        ap (λ (ds : List ℕ). least_of min 0 (map (cost_for f node table) ds)) (sym (values_all inside few))
        ∙ ap (least_of min 0) (map_agree (cost_for f node table) (by_edge (relaxed_pass sets) (node_in f sizes node) (λ t. get_or table t 0)) (values_in set) (λ k d a.
        ap (λ (e : Edge). e.weight + get_or table e.target 0) (sym (edge_there f sizes node d (all_at (λ d. d < size) (set_below inside) a)))))

    -- the same, of what was read
    module _ {v n s : ℕ} (v-is : v ≡ variable) (n-is : n ≡ get_or sizes v 0) (s-is : s ≡ get_or sets v 0) where
      n_same : n ≡ size
      n_same = n-is ∙ ap (λ (v : ℕ). get_or sizes v 0) v-is

      s_same : s ≡ set
      s_same = s-is ∙ ap (λ (v : ℕ). get_or sets v 0) v-is

      pub set_read : SetInside n s
      set_read = subst₂ SetInside (sym n_same) (sym s_same) inside

      pub size_read : n ≤ max_values
      size_read = omega (arith, n_same)

      pub least_in_place : least_of min 0 (map (cost_for f node table) (values_from n 0 s)) ≡ least_at (relaxed_pass sets) (node_in f sizes node) (λ t. get_or table t 0)
      least_in_place = ap₂ (λ (n s : ℕ). least_of min 0 (map (cost_for f node table) (values_from n 0 s))) n_same s_same ∙ least_there

-- ---- the least chosen value by value

module _ {costOf : ℕ → ℕ} {size set top b : ℕ} where
  -- nothing is chosen yet
  pub choosing_start : {n : ℕ} → n ≡ size → SetInside size set → size ≤ max_values → Choosing costOf size set top b n 0 set top
  choosing_start all inside few = rw all (record { left = refl; chosen = λ none. absurd (values_some inside few none) })

  module _ {n k d q rest best : ℕ} (c : Choosing costOf size set top b n d rest best) (more : n ≡ suc k) (up : q ≡ suc d) where
    -- the values that are left, by the lowest bit
    values_left : {bit : ℕ} → rest % 2 ≡ bit → values_from n d rest ≡ with_bit bit d (values_from k q (rest / 2))
    values_left e =
        ap (λ (m : ℕ). values_from m d rest) more
        ∙ ap₂ (λ (bit e : ℕ). with_bit bit d (values_from k e (rest / 2))) e (sym up)

    -- the value d is not in the set
    pub choosing_out : rest % 2 ≡ 0 → Choosing costOf size set top b k q (rest / 2) best
    choosing_out e =
        let same = values_left e in
        record { left = c.left ∙ ap (λ (ds : List ℕ). least_of min 0 (best ∷ map costOf ds)) same; chosen = λ none. c.chosen (same ∙ none) }

    -- it is
    pub choosing_in : {cost least : ℕ} → rest % 2 ≡ 1 → cost ≡ costOf d → cost ≤ b → least ≡ min best cost → Choosing costOf size set top b k q (rest / 2) least
    choosing_in {cost} {least} e is small lesser =
        let later = map costOf (values_from k q (rest / 2)) in
        record {
          left =
              c.left
              ∙ ap (λ (ds : List ℕ). least_of min 0 (best ∷ map costOf ds)) (values_left e)
              ∙ least_taken costs 0 best (costOf d) later
              ∙ ap (λ (x : ℕ). least_of min 0 (x ∷ later)) (ap (min best) (sym is) ∙ sym lesser);
          chosen = λ none. omega arith;
        }

  -- no value is left
  pub choosing_end : {n d rest best : ℕ} → Choosing costOf size set top b n d rest best → n ≡ 0 → b < top
      → (best ≡ least_of min 0 (map costOf (values_from size 0 set))) × (best ≤ b)
  choosing_end {n = n} {d = d} {rest = rest} {best = best} c none high =
      let left : values_from n d rest ≡ [] = ap (λ (n : ℕ). values_from n d rest) none in
      (known (map costOf (values_from size 0 set)) (c.left ∙ ap (λ (ds : List ℕ). least_of min 0 (best ∷ map costOf ds)) left) (c.chosen left), c.chosen left)
    where
      -- what is below the first is the least of the others
      known : (xs : List ℕ) → least_of min 0 (top ∷ xs) ≡ best → best ≤ b → best ≡ least_of min 0 xs
      known [] e l = absurd (omega arith)
      known (x ∷ xs) e l = omega arith

-- ---- the table of an action in place

module _ {f sizes : List ℕ} {at : ℕ} {offsets sets : List ℕ} (r : Relaxable f sizes at offsets sets) where
  -- the table from number k on
  abbrev pub Least : ℕ → List ℕ → Type 0
  Least k table = Filled (relaxed_pass sets) (λ n. n) (action_in f sizes at offsets).nodes k table

  module _ {j node : ℕ} (l : j < node_count f at) (n : node ≡ get_or offsets j 0) where
    there : At (action_in f sizes at offsets).nodes j (node_in f sizes node)
    there = node_there f sizes offsets l n

    -- its variable
    variable_there : get_or f node 0 < length sizes
    variable_there = (r.wf.nodes there).var_below

    -- the set at a node
    pub set_there : SetInside (get_or sizes (get_or f node 0) 0) (get_or sets (get_or f node 0) 0)
    set_there = inside_set (get_or f node 0) r.inside variable_there

    -- and how many values there are
    pub size_there : get_or sizes (get_or f node 0) 0 ≤ max_values
    size_there = all_at (λ d. d ≤ max_values) r.small (at_get_d sizes (get_or f node 0) 0 variable_there)

    -- one entry more
    pub least_next : {k e : ℕ} {table : List ℕ} → k ≡ suc j → Least k table → k < length table
        → e ≡ least_at (relaxed_pass sets) (node_in f sizes node) (λ t. get_or table t 0) → Least j (set_at table k e)
    least_next {e = e} = table_next (relaxed_pass sets) (λ n. n) f sizes offsets (node_count f at) e l n (relaxed_above r.wf r.small sets r.inside there)

  -- no entry yet
  pub least_start : (n : ℕ) {k : ℕ} → k ≡ node_count f at → Least k (replicate n 0)
  least_start n = table_start (relaxed_pass sets) (λ n. n) f sizes offsets (node_count f at) n refl

  -- all entries
  pub least_end : {incoming k : ℕ} {table : List ℕ} → incoming ≡ word_at f (incoming_place f at) → k < 1 → Least k table → incoming + get_or table 1 0 ≡ relaxed_by_pass (action_in f sizes at offsets) sets
  unfolding relaxed_by_pass
  least_end w none full = ap₂ ◌+◌ w (table_end (relaxed_pass sets) (λ n. n) f sizes offsets (node_count f at) none full)
