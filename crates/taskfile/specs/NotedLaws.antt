-- Laws of what is noted of a diagram: the offset of each node, the variable that it tests, and the part of a list that was lent for them.
use Rattle.std.specs.Prelude.{◌≡◌, refl, ℕ, zero, suc, ◌+◌, ◌-◌, ◌≤◌, ◌<◌, List, [], ◌∷◌, ◌++◌, length, get_or, set, take, drop, replicate}
use Rattle.std.proofs.Common.{sym, ap, ap₂, ◌∙◌, lt_of_not-le, add-one, arith, append-nil, length-append, length-set, length-drop, drop_of_length-le, get_or-take, get_or-drop, get_or-set_same, get_or-set_other, take_all, drop_at, length-take-le}
use Rattle.std.proofs.Math.Path.{subst}
use Rattle.std.proofs.Math.Decide.{dec_le}
use Rattle.std.proofs.Math.ListN.{get_or-append}
use borrow.Rule.Slice.PartMut.{put_mid}
use Rattle.facts.specs.Read.{Read, accepted, refused}
use Rattle.facts.specs.ReadLaws.{not_refused, made, value_of_lem}
use Rattle.facts.specs.Lists.{up_from, At}
use Rattle.facts.specs.ListLaws.{length_up_from, at_length, at_get_d}
use Rattle.facts.specs.BytesLaws.{number_one}
use Rattle.facts.specs.Fields.{each, next_of, value_of, read_count}
use Rattle.facts.specs.EachLaws.{next_snoc, each_on, each_stops, each_at, each_length}
use Rattle.facts.specs.FieldLaws.{Counted, count_read}
use Rattle.taskfile.specs.Task.{Node, max_nodes}
use Rattle.taskfile.specs.TaskFile.{read_node, read_nodes, read_diagram}
use Rattle.taskfile.specs.InPlace.{terminal_level, Levels, read_first, Marked, Placed}
use Rattle.taskfile.specs.PartsInPlace.{Tests}
use Rattle.taskfile.specs.DiagramReadLaws.{node_read, node_tests, diagram_read}

-- ---- the row of variables

-- within a list it is no matter what stands past its end
pub get_d_within : (xs : List ℕ) (k d e : ℕ) → k < length xs → get_or xs k d ≡ get_or xs k e
get_d_within [] k d e h = absurd (omega arith)
get_d_within (x ∷ xs) zero d e h = refl
get_d_within (x ∷ xs) (suc k) d e h = get_d_within xs k d e (omega arith)

pub levels_none : {f offsets levels : List ℕ} → ((k : ℕ) → get_or levels k terminal_level ≡ terminal_level) → Levels f 0 offsets levels
levels_none h = record { tested = record { variable = λ j l. absurd (omega arith) }; own = λ j l. absurd (omega arith); terminal = λ k l. h k }

-- a row that has nothing but the terminal
pub all_terminal : (n k : ℕ) → get_or (replicate n terminal_level) k terminal_level ≡ terminal_level
all_terminal zero k = refl
all_terminal (suc n) zero = refl
all_terminal (suc n) (suc k) = all_terminal n k

-- the offset of node j and the variable that it tests are noted
abbrev pub node_noted : ℕ → ℕ → ℕ → List ℕ → List ℕ
node_noted j at v offsets = set (set offsets (max_nodes + j) v) j at

module _ (j at v : ℕ) (offsets : List ℕ) where
  pub noted_length : length (node_noted j at v offsets) ≡ length offsets
  noted_length = length-set (set offsets (max_nodes + j) v) j at ∙ length-set offsets (max_nodes + j) v

  pub noted_other : (k : ℕ) → (k ≡ j → ⊥) → (k ≡ max_nodes + j → ⊥) → get_or (node_noted j at v offsets) k 0 ≡ get_or offsets k 0
  noted_other k a b = get_or-set_other (set offsets (max_nodes + j) v) j k at 0 a ∙ get_or-set_other offsets (max_nodes + j) k v 0 b

  module _ (fits : max_nodes + j < length offsets) where
    noted_offset : get_or (node_noted j at v offsets) j 0 ≡ at
    noted_offset = get_or-set_same (set offsets (max_nodes + j) v) j at 0 (omega (arith, fits, length-set offsets (max_nodes + j) v))

    noted_tested : get_or (node_noted j at v offsets) (max_nodes + j) 0 ≡ v
    noted_tested = get_or-set_other (set offsets (max_nodes + j) v) j (max_nodes + j) at 0 (λ q. omega (arith, q)) ∙ get_or-set_same offsets (max_nodes + j) v 0 fits

-- one node more is noted
pub levels_more : {f offsets levels : List ℕ} {j : ℕ} (at : ℕ) {v : ℕ} → Levels f j offsets levels → j < max_nodes → max_nodes + j < length offsets → j + 1 < length levels → v ≡ get_or f at 0
    → Levels f (j + 1) (node_noted j at v offsets) (set levels (1 + j) v)
levels_more {f} {offsets} {levels} {j} at {v} h few o l e = record {
  tested = record {
    variable = λ k b. elim (dec_le j k) [
      | yes g ↦ let same : k ≡ j = omega (arith, g, b) in rw same (noted_tested j at v offsets o ∙ here)
      | no g ↦ let less = lt_of_not-le g in noted_other j at v offsets (max_nodes + k) (λ q. omega (arith, few, q)) (λ q. omega (arith, less, q)) ∙ h.tested.variable k less ∙ before k less
    ];
  };
  own = λ k b. elim (dec_le j k) [
    | yes g ↦ let same : k ≡ j = omega (arith, g, b) in rw same (get_or-set_same levels (1 + j) v terminal_level (omega arith) ∙ here)
    | no g ↦ let less = lt_of_not-le g in get_or-set_other levels (1 + j) (1 + k) v terminal_level (λ q. omega (arith, less, q)) ∙ h.own k less ∙ before k less
  ];
  terminal = λ k b. get_or-set_other levels (1 + j) k v terminal_level (λ q. omega (arith, b, q)) ∙ h.terminal k (omega (arith, b));
}
  where
    here : v ≡ get_or f (get_or (node_noted j at v offsets) j 0) 0
    here = e ∙ ap (λ (p : ℕ). get_or f p 0) (sym (noted_offset j at v offsets o))

    before : (k : ℕ) → k < j → get_or f (get_or offsets k 0) 0 ≡ get_or f (get_or (node_noted j at v offsets) k 0) 0
    before k less = ap (λ (p : ℕ). get_or f p 0) (sym (noted_other j at v offsets k (λ q. omega (arith, less, q)) (λ q. omega (arith, less, q))))

-- ---- marking the nodes

get_d_up_from : (k n j d : ℕ) → j < n → get_or (up_from k n) j d ≡ k + j
get_d_up_from k zero j d l = absurd (omega arith)
get_d_up_from k (suc n) zero d l = omega arith
get_d_up_from k (suc n) (suc j) d l = get_d_up_from (suc k) n j d (omega arith) ∙ omega arith

-- what is left of the items, at the item number j
module _ (f sizes : List ℕ) (m j at : ℕ) (l : j < m) where
  item : {r : Read ℕ} → next_of (read_node f sizes m (1 + j) at) ≡ r → next_of (read_node f sizes m (get_or (up_from 1 m) j 0) at) ≡ r
  item h = ap (λ (i : ℕ). next_of (read_node f sizes m i at)) (get_d_up_from 1 m j 0 l) ∙ h

  in_list : j < length (up_from 1 m)
  in_list = omega (arith, length_up_from 1 m)

  pub left_on : {q : ℕ} → next_of (read_node f sizes m (1 + j) at) ≡ accepted q
      → next_of (each (read_node f sizes m) (drop j (up_from 1 m)) at) ≡ next_of (each (read_node f sizes m) (drop (j + 1) (up_from 1 m)) q)
  left_on h = each_on (read_node f sizes m) (up_from 1 m) 0 j at in_list (item h)

  pub left_stops : {n p : ℕ} → next_of (read_node f sizes m (1 + j) at) ≡ refused n p → next_of (each (read_node f sizes m) (drop j (up_from 1 m)) at) ≡ refused n p
  left_stops h = each_stops (read_node f sizes m) (up_from 1 m) 0 j at in_list (item h)

pub first_next : (f sizes : List ℕ) (m from j : ℕ) {at q : ℕ} → next_of (read_first f sizes m j from) ≡ accepted at → next_of (read_node f sizes m (suc j) at) ≡ accepted q
    → next_of (read_first f sizes m (suc j) from) ≡ accepted q
unfolding read_first
first_next f sizes m from j {at} {q} h g = next_snoc (read_node f sizes m) 1 j from h (subst (λ (i : ℕ). next_of (read_node f sizes m i at) ≡ accepted q) (omega arith) g)

pub first_more : (f sizes : List ℕ) (m from j : ℕ) {at q : ℕ} → next_of (read_first f sizes m j from) ≡ accepted at → next_of (read_node f sizes m (1 + j) at) ≡ accepted q
    → next_of (read_first f sizes m (j + 1) from) ≡ accepted q
unfolding read_first
first_more f sizes m from j h g = rw (add-one j) (next_snoc (read_node f sizes m) 1 j from h g)

-- where a node is refused there is nothing to mark
pub marked_none : (f sizes : List ℕ) (m from : ℕ) (offsets : List ℕ) {n p : ℕ} → next_of (read_nodes f sizes m from) ≡ refused n p → Marked f sizes m from offsets
marked_none f sizes m from offsets h = record { marks = λ e j l. absurd (not_refused (sym h ∙ e)) }

-- ---- the nodes that were read, where they are noted

pub nodes_length : (f sizes : List ℕ) (m from : ℕ) {nodes : List Node} {end : ℕ} → read_nodes f sizes m from ≡ accepted (nodes, end) → m ≡ length nodes
unfolding read_nodes
nodes_length f sizes m from h = sym (length_up_from 1 m) ∙ each_length (read_node f sizes m) (up_from 1 m) from h

module _ (f sizes : List ℕ) (m from : ℕ) {nodes : List Node} {end : ℕ} (h : read_nodes f sizes m from ≡ accepted (nodes, end)) {offsets : List ℕ} (k : Marked f sizes m from offsets) where
  -- each node lies where it is noted
  pub node_noted_lem : {j : ℕ} {nd : Node} → At nodes j nd → (next : ℕ) × (read_node f sizes m (suc j) (get_or offsets j 0) ≡ accepted (nd, next))
  unfolding read_nodes read_first
  node_noted_lem {j} {nd} a =
      let r = each_at (read_node f sizes m) 1 m from h a (k.marks (ap next_of h) j (omega (arith, at_length a, nodes_length f sizes m from h))) in
      (r.0, subst (λ (i : ℕ). read_node f sizes m i (get_or offsets j 0) ≡ accepted (nd, r.0)) (omega arith) r.1)

  pub noted_inside : (j : ℕ) → j < m → Tests f sizes (get_or offsets j 0)
  noted_inside j l =
      let none : Node = record { var = 0; edges = [] } in
      let r = node_noted_lem (at_get_d nodes j none (omega (arith, nodes_length f sizes m from h))) in
      node_tests f (node_read f sizes m (suc j) (get_or offsets j 0) r.1)

  pub var_noted : {j : ℕ} {nd : Node} → At nodes j nd → get_or f (get_or offsets j 0) 0 ≡ nd.var
  var_noted {j} a =
      let r = node_noted_lem a in
      let v = (node_read f sizes m (suc j) (get_or offsets j 0) r.1).var in
      sym (number_one f (get_or offsets j 0) (omega (arith, v.fits))) ∙ v.value

-- ---- the rest of a list is lent from index `used` on, and comes back as `last`

pub record Back (used : ℕ) (before last after : List ℕ) : Type 0 where
  pub kept : (j : ℕ) → j < used → get_or after j 0 ≡ get_or before j 0
  pub rest : drop used after ≡ last
  pub part : take (length after - used) (drop used after) ≡ last

pub back : (used : ℕ) (before last : List ℕ) → used ≤ length before → Back used before last (put_mid used (length before - used) before last)
back used before last l =
    let all : drop (length before - used) (drop used before) ≡ [] = drop_of_length-le (drop used before) {i = length before - used} (simp length-drop (omega arith)) in
    let whole : take used before ++ last ≡ put_mid used (length before - used) before last
    = ap (λ (xs : List ℕ). take used before ++ xs) (sym (append-nil last)) ∙ ap (λ (xs : List ℕ). take used before ++ (last ++ xs)) (sym all) in
    subst (Back used before last) whole joined
  where
    front : length (take used before) ≡ used
    front = length-take-le used before l

    end : drop used (take used before ++ last) ≡ last
    end = drop_at (take used before) last used front

    joined : Back used before last (take used before ++ last)
    joined = record {
      kept = λ j g. get_or-append (take used before) last 0 j (omega (arith, front)) ∙ get_or-take used before j 0 g;
      rest = end;
      part = ap (take (length (take used before ++ last) - used)) end ∙ take_all (length (take used before ++ last) - used) last (omega (arith, length-append (take used before) last, front));
    }

-- ---- the nodes of a diagram, by their count

module _ (f sizes : List ℕ) (left at : ℕ) where
  module _ {m : ℕ} (h : value_of (read_count f 0 left at) ≡ accepted m) where
    counted : Counted f 0 left at m (at + 1)
    counted =
        let c = made (λ (p : ℕ × ℕ). p.0) (read_count f 0 left at) h in
        let r = count_read f 0 left at c.answer in
        subst (λ (n : ℕ). Counted f 0 left at n (at + 1)) c.value (record { least = r.least; most = r.most; fits = r.fits; value = r.value; next = refl })

    pub count_is : read_count f 0 left at ≡ accepted (m, at + 1)
    count_is =
        let c = made (λ (p : ℕ × ℕ). p.0) (read_count f 0 left at) h in
        c.answer ∙ ap₂ (λ (n e : ℕ). accepted (n, e)) c.value (count_read f 0 left at c.answer).next

    pub count_fits : at + 1 ≤ length f
    count_fits = counted.fits

    pub count_most : m ≤ left
    count_most = counted.most

    module _ {end : ℕ} (g : next_of (read_nodes f sizes m (at + 1)) ≡ accepted end) where
      -- the nodes
      abbrev pub nodes : List Node
      nodes = (made (λ (p : List Node × ℕ). p.1) (read_nodes f sizes m (at + 1)) g).from.0

      pub nodes_are : read_nodes f sizes m (at + 1) ≡ accepted (nodes, end)
      nodes_are = let c = made (λ (p : List Node × ℕ). p.1) (read_nodes f sizes m (at + 1)) g in c.answer ∙ ap (λ (e : ℕ). accepted (nodes, e)) c.value

      module _ {offsets : List ℕ} (k : Marked f sizes m (at + 1) offsets) where
        pub all_inside : (j : ℕ) → j < m → Tests f sizes (get_or offsets j 0)
        all_inside = noted_inside f sizes m (at + 1) nodes_are k

    -- the nodes of an accepted diagram lie where they are noted, with their variables
    module _ {used : ℕ} {before last after : List ℕ} (b : Back used before last after) (k : Marked f sizes m (at + 1) last) {levels : List ℕ} (v : Levels f m last levels) where
      -- an entry of the part that was lent
      lent : (j : ℕ) → get_or last j 0 ≡ get_or after (used + j) 0
      lent j = ap (λ (xs : List ℕ). get_or xs j 0) (sym b.rest) ∙ get_or-drop used after j 0

      module _ {nodes : List Node} {end : ℕ} (r : read_diagram f sizes left at ≡ accepted (nodes, end)) {j : ℕ} {nd : Node} (a : At nodes j nd) where
        all : m ≡ length nodes
        all = value_of_lem (sym count_is ∙ (diagram_read f sizes left at r).count_is)

        marked : Marked f sizes (length nodes) (at + 1) last
        marked = subst (λ (n : ℕ). Marked f sizes n (at + 1) last) all k

        there_it_lies : (next : ℕ) × (read_node f sizes (length nodes) (suc j) (get_or after (used + j) 0) ≡ accepted (nd, next))
        there_it_lies =
            let n = node_noted_lem f sizes (length nodes) (at + 1) (diagram_read f sizes left at r).nodes_are marked a in
            (n.0, subst (λ (o : ℕ). read_node f sizes (length nodes) (suc j) o ≡ accepted (nd, n.0)) (lent j) n.1)

        it_tests : get_or after (used + (max_nodes + j)) 0 ≡ nd.var
        it_tests = sym (lent (max_nodes + j)) ∙ v.tested.variable j (omega (arith, all, at_length a)) ∙ var_noted f sizes (length nodes) (at + 1) (diagram_read f sizes left at r).nodes_are marked a

      pub placed : ((j : ℕ) → m ≤ j → j < max_nodes → get_or last j 0 ≡ get_or (take (length before - used) (drop used before)) j 0) → Placed f sizes left at used before after
      placed same = record {
        kept = b.kept;
        kept_tested = λ i l h.
            let j = i - used in
            let is : used + j ≡ i = omega (arith, l) in
            let whole : take (length before - used) (drop used before) ≡ drop used before = take_all (length before - used) (drop used before) (omega (arith, length-drop used before)) in
            subst (λ (i : ℕ). get_or after i 0 ≡ get_or before i 0) is (sym (lent j) ∙ same j (omega (arith, l, count_most)) (omega (arith, l, h)) ∙ ap (λ (xs : List ℕ). get_or xs j 0) whole ∙ get_or-drop used before j 0);
        lies = λ nodes end r j nd a. there_it_lies r a;
        tested = λ nodes end r j nd a. it_tests r a;
      }

-- what is noted in the part that was lent is noted in that part of the whole
pub marked_part : (f sizes : List ℕ) (m from used : ℕ) (before : List ℕ) {last : List ℕ} → used ≤ length before → Marked f sizes m from last
    → let after = put_mid used (length before - used) before last in Marked f sizes m from (take (length after - used) (drop used after))
marked_part f sizes m from used before {last} l k = subst (Marked f sizes m from) (sym (back used before last l).part) k

pub length_part : (used : ℕ) (before last : List ℕ) → used ≤ length before → let after = put_mid used (length before - used) before last in length (take (length after - used) (drop used after)) ≡ length last
length_part used before last l = ap length (back used before last l).part

pub levels_part : (f : List ℕ) (m used : ℕ) (before : List ℕ) {last levels : List ℕ} → used ≤ length before → Levels f m last levels
    → let after = put_mid used (length before - used) before last in Levels f m (take (length after - used) (drop used after)) levels
levels_part f m used before {last} {levels} l r = subst (λ (offsets : List ℕ). Levels f m offsets levels) (sym (back used before last l).part) r
