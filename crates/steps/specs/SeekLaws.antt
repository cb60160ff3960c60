-- Laws of steps found by number.
use Rattle.std.specs.Prelude.{ℕ, zero, suc, ◌+◌, ◌*◌, ◌-◌, ◌≤◌, ◌<◌, ◌≡◌, refl, List, [], ◌∷◌, ◌++◌, get_or, None, Some, slice_get}
use Rattle.std.proofs.Common.{sym, ap, ap₂, ◌∙◌, arith, add-one}
use Rattle.facts.specs.Fields.{word_at}
use Rattle.taskfile.specs.Task.{Edge}
use Rattle.taskfile.specs.TaskFile.{edge_bytes}
use Rattle.taskfile.specs.WalkInPlace.{incoming_place, node_count}
use Rattle.taskfile.specs.PartsInPlace.{edge_in, edges_in, node_in, nodes_in, action_in}
use Rattle.compilation.specs.Compile.{map_from, flat}
use Rattle.words.specs.Rows.{row_from, node_for, action_for}
use Rattle.words.specs.RowLaws.{nodes_row}
use Rattle.steps.specs.Steps.{start, node, end, Named, node_names, action_names}
use Rattle.steps.specs.Seek.{Place, found, past, seek, names_in}

-- What lies past a row is not found in it.
not_found : {k : ℕ} {x : Named} → past k ≡ found x → ⊥
not_found e = let z : ◌≡◌ {A = ℕ} 0 1 = cc in omega arith

-- ---- rows of steps

-- One row and then another.
seek_found : (xs ys : List Named) (k : ℕ) {x : Named} → seek xs k ≡ found x → seek (xs ++ ys) k ≡ found x
seek_found [] ys k h = absurd (not_found h)
seek_found (y ∷ xs) ys zero h = h
seek_found (y ∷ xs) ys (suc k) h = seek_found xs ys k h

seek_past : (xs ys : List Named) (k : ℕ) {l : ℕ} → seek xs k ≡ past l → seek (xs ++ ys) k ≡ seek ys l
seek_past [] ys k {l} h = let e : k ≡ l = cc in ap (seek ys) e
seek_past (y ∷ xs) ys zero h = absurd (not_found (sym h))
seek_past (y ∷ xs) ys (suc k) h = seek_past xs ys k h

-- The same by the elements of a list.
pub look_found : (xs : List Named) (k : ℕ) {x : Named} → seek xs k ≡ found x → slice_get xs k ≡ Some x
look_found [] k h = absurd (not_found h)
look_found (y ∷ xs) zero {x} h = let e : y ≡ x = cc in ap Some e
look_found (y ∷ xs) (suc k) h = look_found xs k h

pub look_past : (xs : List Named) (k : ℕ) {l : ℕ} → seek xs k ≡ past l → slice_get xs k ≡ None
look_past [] k h = refl
look_past (y ∷ xs) zero h = absurd (not_found (sym h))
look_past (y ∷ xs) (suc k) h = look_past xs k h

-- ---- a row that is gone through one part after the other

-- the parts before i are passed, those from i on, up to `end`, are left, and k counts from part i on
pub record Seeking (part : ℕ → List Named) (whole : Place) (i end k : ℕ) : Type 0 where
  pub left : seek (row_from part i (end - i)) k ≡ whole

-- At first all are left.
pub seeking_start : (part : ℕ → List Named) (count k : ℕ) → Seeking part (seek (row_from part 0 count) k) 0 count k
seeking_start part count k = let e : count - 0 ≡ count = omega arith in record { left = ap (λ (n : ℕ). seek (row_from part 0 n) k) e }

module _ {part : ℕ → List Named} {whole : Place} {i end k : ℕ} (g : Seeking part whole i end k) where
  -- part i, and the parts after it
  cut : i < end → seek (part i ++ row_from part (suc i) (end - suc i)) k ≡ whole
  cut l = let e : end - i ≡ suc (end - suc i) = omega arith in sym (ap (λ (n : ℕ). seek (row_from part i n) k) e) ∙ g.left

  -- The step is one of part i.
  pub seeking_found : {x : Named} → i < end → seek (part i) k ≡ found x → found x ≡ whole
  seeking_found l h = sym (seek_found (part i) (row_from part (suc i) (end - suc i)) k h) ∙ cut l

  -- It lies past part i.
  pub seeking_on : {j : ℕ} → i < end → seek (part i) k ≡ past j → Seeking part whole (i + 1) end j
  seeking_on {j} l h = record {
    left = ap (λ (n : ℕ). seek (row_from part n (end - n)) j) (add-one i) ∙ sym (seek_past (part i) (row_from part (suc i) (end - suc i)) k h) ∙ cut l;
  }

  -- It lies past all parts.
  pub seeking_past : end ≤ i → past k ≡ whole
  seeking_past l = let e : end - i ≡ 0 = omega arith in sym (ap (λ (n : ℕ). seek (row_from part i n) k) e) ∙ g.left

-- ---- the steps of a node

module _ (f : List ℕ) (g : ℕ → Edge → Named) where
  -- The edge for the value k, or as many edges passed as there are.
  edge_found : (at d count k o q : ℕ) → k < count → o ≡ at + edge_bytes * k → q ≡ d + k → seek (map_from g d (edges_in f at count)) k ≡ found (g q (edge_in f o))
  edge_found at d zero k o q l e h = absurd (omega arith)
  edge_found at d (suc count) zero o q l e h =
      let same : at ≡ o = omega arith in
      let value : d ≡ q = omega arith in
      ap₂ (λ (o q : ℕ). found (g q (edge_in f o))) same value
  edge_found at d (suc count) (suc k) o q l e h = edge_found (at + edge_bytes) (suc d) count k o q (omega arith) (omega arith) (omega arith)

  edge_past : (at d count k l : ℕ) → count ≤ k → l ≡ k - count → seek (map_from g d (edges_in f at count)) k ≡ past l
  edge_past at d zero k l h e = let same : k ≡ l = omega arith in ap past same
  edge_past at d (suc count) zero l h e = absurd (omega arith)
  edge_past at d (suc count) (suc k) l h e = edge_past (at + edge_bytes) (suc d) count k l (omega arith) (omega arith)

-- the node at an offset
module _ (f sizes : List ℕ) (at a i k : ℕ) {v count : ℕ} (h : v ≡ get_or f at 0) (g : count ≡ get_or sizes v 0) where
  -- as many edges as the variable has values
  values : count ≡ get_or sizes (get_or f at 0) 0
  values = g ∙ ap (λ (v : ℕ). get_or sizes v 0) h

  -- The edge for the value k.
  pub node_found : {weight : ℕ} → k < count → weight ≡ (edge_in f (at + (1 + edge_bytes * k))).weight → found (record { name = node a i v k; cost = weight }) ≡ seek (node_names a i (node_in f sizes at)) k
  node_found l w =
      ap₂ (λ (v w : ℕ). found (record { name = node a i v k; cost = w })) h w
      ∙ sym (edge_found f (λ d (e : Edge). record { name = node a i (get_or f at 0) d; cost = e.weight }) (at + 1) 0 (get_or sizes (get_or f at 0) 0) k (at + (1 + edge_bytes * k)) k (omega (arith, values)) (omega arith) (omega arith))

  -- There is no such value.
  pub node_past : count ≤ k → past (k - count) ≡ seek (node_names a i (node_in f sizes at)) k
  node_past l =
      sym (edge_past f (λ d (e : Edge). record { name = node a i (get_or f at 0) d; cost = e.weight }) (at + 1) 0 (get_or sizes (get_or f at 0) 0) k (k - count) (omega (arith, values)) (omega (arith, values)))

-- ---- the steps of an action

-- The one after a first one.
after_first : (x : Named) (xs : List Named) (k : ℕ) → (k ≡ 0 → ⊥) → seek (x ∷ xs) k ≡ seek xs (k - 1)
after_first x xs zero h = absurd (h refl)
after_first x xs (suc k) h = let e : k ≡ suc k - 1 = omega arith in ap (seek xs) e

-- action a at an offset, whose own nodes begin at these offsets
module _ (f sizes : List ℕ) (at : ℕ) (offsets : List ℕ) (a k : ℕ) where
  -- its steps
  abbrev steps : List Named
  steps = action_names a (action_in f sizes at offsets)

  -- the last of them
  abbrev last : Named
  last = record { name = end a; cost = 0 }

  -- The start.
  pub action_start : {w : ℕ} → k ≡ 0 → w ≡ word_at f (incoming_place f at) → found (record { name = start a; cost = w }) ≡ seek steps k
  action_start e w = ap (λ (w : ℕ). found (record { name = start a; cost = w })) w ∙ ap (seek steps) (sym e)

  module _ {m : ℕ} (c : m ≡ node_count f at) (later : k ≡ 0 → ⊥) where
    -- those of its nodes
    abbrev edges : List Named
    edges = row_from (λ j. node_names a (1 + j) (node_for f sizes offsets j)) 0 m

    -- what follows the start
    among : seek steps k ≡ seek (edges ++ (last ∷ [])) (k - 1)
    among =
        let same : flat (node_names a) 1 (nodes_in f sizes offsets 0 (node_count f at)) ≡ edges =
        ap (λ (n : ℕ). flat (node_names a) 1 (nodes_in f sizes offsets 0 n)) (sym c) ∙ nodes_row f (node_names a) sizes offsets 1 0 m (omega arith) in
        after_first (record { name = start a; cost = word_at f (incoming_place f at) }) (flat (node_names a) 1 (nodes_in f sizes offsets 0 (node_count f at)) ++ (last ∷ [])) k later
        ∙ ap (λ (xs : List Named). seek (xs ++ (last ∷ [])) (k - 1)) same

    -- A step of a node.
    pub action_found : {x : Named} → seek edges (k - 1) ≡ found x → found x ≡ seek steps k
    action_found h = sym (among ∙ seek_found edges (last ∷ []) (k - 1) h)

    -- The end.
    pub action_end : {l : ℕ} → seek edges (k - 1) ≡ past l → l ≡ 0 → found (record { name = end a; cost = 0 }) ≡ seek steps k
    action_end h e = sym (among ∙ seek_past edges (last ∷ []) (k - 1) h ∙ ap (seek (last ∷ [])) e)

    -- It lies past the action.
    pub action_past : {l : ℕ} → seek edges (k - 1) ≡ past l → (l ≡ 0 → ⊥) → past (l - 1) ≡ seek steps k
    action_past {l} h e = sym (among ∙ seek_past edges (last ∷ []) (k - 1) h ∙ after_first last [] l e)

-- ---- the steps of all actions

module _ (f sizes row : List ℕ) where
  -- the steps of action a
  abbrev pub part_of : ℕ → List Named
  part_of a = action_names a (action_for f sizes row a)

  -- At first those of all are left.
  pub names_start : (count k : ℕ) → Seeking part_of (seek (names_in f sizes count row) k) 0 count k
  unfolding names_in
  names_start count k = seeking_start part_of count k
