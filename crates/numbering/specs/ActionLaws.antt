-- Laws of one action's entries, written from the bytes of an accepted file: its start, an edge for each node passed, its end.
use Rattle.std.specs.Prelude.{◌≡◌, refl, ℕ, suc, ◌+◌, ◌*◌, ◌-◌, ◌≤◌, ◌<◌, List, [], ◌∷◌, ◌++◌, get_or, take, set}
use Rattle.std.proofs.Common.{sym, ap, subst, ◌∙◌, arith, drop-set-lt, get_or-set_same}
use Rattle.std.proofs.Math.ListN.{length, length-set}
use Rattle.std.proofs.Math.Seq.{drop-cons}
use Rattle.facts.specs.Lists.{total, At}
use Rattle.facts.specs.ListLaws.{at_length, at_get_d}
use Rattle.facts.specs.PartialLaws.{inside_at}
use Rattle.facts.specs.Fields.{word_at}
use Rattle.facts.specs.Write.{over, Wrote}
use Rattle.taskfile.specs.Task.{Edge, Node, edge_at, max_nodes, max_weight}
use Rattle.taskfile.specs.WalkInPlace.{way_from}
use Rattle.taskfile.specs.WalkInPlaceLaws.{edge_is, turn_up, turn_none}
use Rattle.compilation.specs.Compile.{edge_count}
use Rattle.taskfile.specs.PartsInPlace.{node_in, nodes_in, Tested}
use Rattle.taskfile.specs.PartsInPlaceLaws.{edges_at, nodes_long, nodes_at}
use Rattle.facts.specs.WriteRowLaws.{Going, going_end}
use Rattle.probe_writer.specs.InPlaceLaws.{edges_long}
use Rattle.plans.specs.Carry.{path_steps}
use Rattle.plans.specs.ListLaws.{total_take, at_same}
use Rattle.plans.specs.PathLaws.{steps_at, steps_end}
use Rattle.numbering.specs.InPlace.{entries_of, Writable}
use Rattle.carry.specs.AnswerLaws.{entry_room, entry_more}

-- ---- the path of a state through an action in place

-- where the edge of a node for a value stands
abbrev edge_place : ℕ → ℕ → ℕ
edge_place node value = node + (1 + 3 * value)

-- Node k of `count` nodes is `node`, and the state s has this value of its variable; its edge for that value leads to `target`.
pub record Visited (f sizes offsets : List ℕ) (count : ℕ) (s : List ℕ) (k node value target : ℕ) : Type 0 where
  pub element : At (nodes_in f sizes offsets 0 count) (k - 1) (node_in f sizes node)
  pub number : k ≡ 1 + (k - 1)
  pub value_is : get_or s (get_or f node 0) 0 ≡ value
  pub below : value < edge_count (node_in f sizes node)
  pub target_is : (edge_at (node_in f sizes node) s).target ≡ target
  pub above : k < target
  pub within : target ≤ suc count

-- What of a path is written before node k, and what the edges up to it cost; `first` is the number of the start.
pub record Passing (f sizes offsets : List ℕ) (count : ℕ) (s : List ℕ) (first : ℕ) (before now : List ℕ) (written cost k : ℕ) : Type 0 where
  pub low : 1 ≤ k
  pub high : k ≤ suc count
  pub going : Going (entries_of first (nodes_in f sizes offsets 0 count) s) (path_steps (suc first) 1 (nodes_in f sizes offsets 0 count) k s) before now written
  pub cost_is : (way_from f offsets count s 1).cost ≡ cost + (way_from f offsets count s k).cost
  pub cost_few : cost + max_weight ≤ max_weight * k

module _ (f sizes offsets : List ℕ) (count : ℕ) {first_edge : List ℕ} {first next : ℕ} {s : List ℕ} {room : ℕ} (w : Writable sizes (nodes_in f sizes offsets 0 count) first_edge first next s room) where
  abbrev nodes : List Node
  nodes = nodes_in f sizes offsets 0 count

  -- A well-formed node is visited: it has an edge for the value of a state inside the domains, and the target is above.
  pub visited : Tested f offsets count → {k node variable value target : ℕ} → 1 ≤ k → k ≤ count → node ≡ get_or offsets (k - 1) 0 → variable ≡ get_or offsets (max_nodes + (k - 1)) 0 → value ≡ get_or s variable 0 → target ≡ get_or f (edge_place node value) 0
      → Visited f sizes offsets count s k node value target
  visited tested {k} {node} {variable} {value} {target} low high n v d t =
      let element : At nodes (k - 1) (node_in f sizes node) = rw n (nodes_at f sizes offsets 0 count (k - 1) (k - 1) (omega arith) (omega arith)) in
      let rules = w.well_formed element in
      let var : variable ≡ get_or f node 0 = v ∙ tested.variable (k - 1) (omega arith) ∙ ap (λ (p : ℕ). get_or f p 0) (sym n) in
      let same : get_or s (get_or f node 0) 0 ≡ value = sym (d ∙ ap (λ (i : ℕ). get_or s i 0) var) in
      let there = at_get_d (node_in f sizes node).edges (get_or s (get_or f node 0) 0) (record { target = 0; weight = 0 }) (omega (arith, rules.edge_count_lem, inside_at sizes s (get_or f node 0) w.inside rules.var_below)) in
      let edge = subst (λ (i : ℕ). At (node_in f sizes node).edges i (edge_at (node_in f sizes node) s)) same there in
      let below = at_length edge in
      let target_is : (edge_at (node_in f sizes node) s).target ≡ target =
      ap (λ (e : Edge). e.target) (at_same edge (edges_at f (node + 1) (get_or sizes (get_or f node 0) 0) value (edge_place node value) (omega (arith, below, edges_long f (node + 1) (get_or sizes (get_or f node 0) 0))) (omega arith)) refl) ∙ sym t in
      let goes = rules.edges there in
      record {
        element = element;
        number = omega arith;
        value_is = same;
        below = below;
        target_is = target_is;
        above = omega (arith, target_is, goes.above);
        within = omega (arith, target_is, goes.within, nodes_long f sizes offsets 0 count);
      }

  -- There is room for the start.
  pub start_room : (out : List ℕ) → length out ≡ room → 0 < length out
  start_room out e = omega (arith, w.fits)

  -- Once it is written, the path from node 1 is left.
  pub passing_start : (out : List ℕ) → length out ≡ room → Passing f sizes offsets count s first (set out 0 first) (set out 0 first) 1 0 1
  unfolding over
  passing_start out e =
      let there : 0 < length (set out 0 first) = omega (arith, length-set out 0 first, start_room out e) in
      record {
        low = omega arith;
        high = omega arith;
        going = record {
          done = first ∷ [];
          wrote = record { count = refl; buffer = drop-cons (set out 0 first) 0 0 there ∙ rw (get_or-set_same out 0 first 0 (start_room out e)) };
          left = refl;
        };
        cost_is = omega arith;
        cost_few = omega arith;
      }

  module _ {k node value target : ℕ} (v : Visited f sizes offsets count s k node value target) {edge : ℕ} (e : edge ≡ get_or first_edge (k - 1) 0) where
    -- the number of the node's first edge
    edge_number_lem : edge ≡ 1 + first + total edge_count (take (k - 1) nodes)
    edge_number_lem = e ∙ w.edges.number (k - 1) (at_length v.element)

    -- The path from node k begins with the node's edge.
    pub path_entry : path_steps (suc first) 1 nodes k s ≡ (edge + value) ∷ path_steps (suc first) 1 nodes target s
    path_entry =
        let entry : suc first + (total edge_count (take (k - 1) nodes) + get_or s (get_or f node 0) 0) ≡ edge + value = omega (arith, edge_number_lem, v.value_is) in
        steps_at s (suc first) 1 k v.element v.number (omega (arith, v.target_is, v.above)) ∙ rw (entry, v.target_is)

  -- Past the last node the path is the end.
  pub path_last : {k : ℕ} → count < k → path_steps (suc first) 1 nodes k s ≡ (next - 1) ∷ []
  path_last {k} past =
      let end : suc first + total edge_count nodes ≡ next - 1 = omega (arith, w.next_is) in
      steps_end s (suc first) 1 k nodes (omega (arith, nodes_long f sizes offsets 0 count)) ∙ rw end

  module _ {before now : List ℕ} {written cost k : ℕ} (p : Passing f sizes offsets count s first before now written cost k) (long : length before ≡ room) where
    fits : length (entries_of first nodes s) ≤ length before
    fits = omega (arith, w.fits)

    module _ {node value target : ℕ} (v : Visited f sizes offsets count s k node value target) {edge : ℕ} (e : edge ≡ get_or first_edge (k - 1) 0) where
      -- The number of the edge is below that of the end.
      pub passing_small : edge + value + 1 < next
      passing_small = omega (arith, edge_number_lem v e, v.below, total_take edge_count v.element, w.next_is)

      -- There is room for it.
      pub passing_room : written < length now
      passing_room = entry_room p.going fits (record { cut = path_entry v e })

      -- Once it is written, the path from the edge's target is left.
      pub passing_next : {weight : ℕ} → ((way_from f offsets count s k).cost ≡ weight + (way_from f offsets count s target).cost) → weight ≤ max_weight
          → Passing f sizes offsets count s first before (set now written (edge + value)) (written + 1) (cost + weight) target
      passing_next paid few = record {
        low = omega (arith, v.above);
        high = v.within;
        going = entry_more p.going fits (record { cut = path_entry v e });
        cost_is = omega (arith, p.cost_is, paid);
        cost_few = omega (arith, p.cost_few, v.above);
      }

    module _ (past : count < k) where
      -- Past the last node all is paid.
      pub passing_paid : cost ≡ (way_from f offsets count s 1).cost
      passing_paid = omega (arith, p.cost_is, (turn_none f offsets count s k past).0)

      -- There is room for the end.
      pub last_room : written < length now
      last_room = entry_room p.going fits (record { cut = path_last past })

      -- Once it is written, all is.
      pub last_wrote : Wrote (entries_of first nodes s) before (set now written (next - 1)) (written + 1)
      last_wrote = going_end (entry_more p.going fits (record { cut = path_last past })) fits refl

-- Nothing is written.
pub wrote_nothing : (out : List ℕ) → Wrote [] out out 0
unfolding over
wrote_nothing out = record { count = refl; buffer = refl }

-- What is written over a first entry that stood there already.
pub wrote_first : {first : ℕ} {entries out now : List ℕ} {n : ℕ} → Wrote (first ∷ entries) (set out 0 first) now n → Wrote (first ∷ entries) out now n
unfolding over
wrote_first {first} {entries} {out} w = record { count = w.count; buffer = w.buffer ∙ ap (λ (rest : List ℕ). first ∷ (entries ++ rest)) (drop-set-lt (suc (length entries)) out 0 first (omega arith)) }

-- What the edge of node k costs that is read for the value of a state.
pub edge_paid : (f offsets : List ℕ) (count : ℕ) (s : List ℕ) (k : ℕ) {node variable value target weight : ℕ} → k ≤ count → node ≡ get_or offsets (k - 1) 0 → variable ≡ get_or offsets (max_nodes + (k - 1)) 0 → value ≡ get_or s variable 0
    → target ≡ get_or f (edge_place node value) 0 → weight ≡ word_at f (edge_place node value + 1) → k < target → (way_from f offsets count s k).cost ≡ weight + (way_from f offsets count s target).cost
edge_paid f offsets count s k {node} {variable} h n v d t w up = let e = edge_is f node variable s d refl t w in (turn_up f offsets count s k n v e.0 e.1 h up).0
