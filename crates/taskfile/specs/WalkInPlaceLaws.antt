-- Laws of walks in place: the ways in which a walk goes on, and that the walk of an action in place is that of the action that was read.
use Rattle.std.specs.Prelude.{◌≡◌, List, length, drop}
use Rattle.std.proofs.Math.Path.{refl, sym, ap, ap₂}
use Rattle.std.proofs.Common.{subst, subst₂, ◌∙◌, lt_of_not-le, le-leb, le-ltb, lt-ltb}
use Prim.Native.Nat.{ℕ, zero, suc, ◌+◌, ◌*◌, ◌-◌, ◌≤◌, ◌<◌}
use Rattle.std.proofs.Math.Decide.{dec_le}
use native.Mathlib.Omega.{arith}
use Rattle.std.proofs.Math.ListN.{get_or, get_or-eq_default}
use Rattle.std.proofs.Math.Seq.{get_or-drop}
use Rattle.std.proofs.lemmas.Bool.{lt-leb}
use Rattle.facts.specs.Lists.{At}
use Rattle.facts.specs.ListLaws.{at_length}
use Rattle.facts.specs.BytesLaws.{number_one}
use Rattle.facts.specs.Partial.{Alike, beyond, past_partial}
use Rattle.facts.specs.State.{Inside}
use Rattle.facts.specs.Run.{attempt}
use Rattle.facts.specs.Fields.{word_at}
use Rattle.facts.specs.PartialReadLaws.{PartialRead}
use Rattle.facts.specs.FieldLaws.{Weighed, number_ends, count_read}
use Rattle.facts.specs.InPlaceLaws.{word_cut, word_is, past_read, alike_past, alike_word, alike_byte}
use Rattle.facts.specs.OperatorLaws.{OperatorRead, operator_read}
use Rattle.taskfile.specs.Task.{Edge, Node, Action, max_nodes, edge_at, Walk, arrived, along, walk_from, walk, WfAction}
use Rattle.taskfile.specs.TaskFile.{edge_bytes}
use Rattle.taskfile.specs.InPlace.{Lies}
use Rattle.taskfile.specs.WalkLaws.{edge_there, edge_wf, walk_node, walk_terminal, walk_induction}
use Rattle.taskfile.specs.DiagramReadLaws.{DiagramRead, diagram_read, node_read, node_edge}
use Rattle.taskfile.specs.TaskReadLaws.{ActionRead, action_read, action_wf}
use Rattle.taskfile.specs.WalkInPlace.{count_past, incoming_place, node_count, edge_of, edge_from, onward, way_up, way_from, walk_for, walk_past, walk_at, perform_by}
use Rattle.taskfile.specs.PartsInPlace.{edge_in}

-- ---- the edge of the node at an offset

module _ (f : List ℕ) (node variable : ℕ) (s : List ℕ) where
  pub edge_is : {d at target weight : ℕ} → d ≡ get_or s variable 0 → at ≡ node + (1 + edge_bytes * d) → target ≡ get_or f at 0 → weight ≡ word_at f (at + 1)
      → (target ≡ (edge_of f node variable s).target) × (weight ≡ (edge_of f node variable s).weight)
  unfolding edge_of
  edge_is {at = at} b c t w =
      let place : at ≡ node + (1 + edge_bytes * get_or s variable 0) = c ∙ ap (λ (d : ℕ). node + (1 + edge_bytes * d)) b in
      (t ∙ ap (λ (p : ℕ). get_or f p 0) place, w ∙ ap (λ (p : ℕ). word_at f (p + 1)) place)

-- past the end of the file there is nothing
pub edge_none : (f : List ℕ) (node d : ℕ) → length f ≤ node → (0 ≡ (edge_in f (node + (1 + edge_bytes * d))).target) × (0 ≡ (edge_in f (node + (1 + edge_bytes * d))).weight)
edge_none f node d h =
    let at = node + (1 + edge_bytes * d) in
    (sym (get_or-eq_default f 0 (omega arith)), sym (word_cut f (at + 1) (number_ends f 2 (at + 1) (omega arith))))

-- ---- the walk through m nodes that are noted in `nodes`

onward_up : (m k target : ℕ) → k < target → onward m k target ≡ target
unfolding onward
onward_up m k target h = rw (lt-ltb k target h, onward)

onward_end : (m k target : ℕ) → target ≤ k → onward m k target ≡ suc m
unfolding onward
onward_end m k target h = rw (le-ltb k target h, onward)

onward_above : (m k target : ℕ) → k ≤ m → k < onward m k target
onward_above m k target l = elim (dec_le target k) [ yes h ↦ omega (arith, onward_end m k target h) | no h ↦ omega (arith, onward_up m k target (lt_of_not-le h)) ]

module _ (f nodes : List ℕ) (m : ℕ) (s : List ℕ) where
  abbrev edge : ℕ → Edge
  edge k = edge_from f nodes s k

  up_past : (n k : ℕ) → m < k → way_up f nodes m s n k ≡ arrived
  unfolding way_up
  up_past zero k h = refl
  up_past (suc n) k h = rw (lt-leb k m h, way_up)

  up_node : (n k : ℕ) → k ≤ m → way_up f nodes m s (suc n) k ≡ along (edge k) (way_up f nodes m s n (onward m k (edge k).target))
  unfolding way_up
  up_node n k h = rw (le-leb k m h, way_up)

  -- more than the nodes that are left are never passed
  up_same : (n l k : ℕ) → m < k + n → m < k + l → way_up f nodes m s n k ≡ way_up f nodes m s l k
  up_same zero l k a b = up_past zero k (omega arith) ∙ sym (up_past l k (omega arith))
  up_same (suc n) zero k a b = up_past (suc n) k (omega arith) ∙ sym (up_past zero k (omega arith))
  up_same (suc n) (suc l) k a b =
      elim (dec_le k m) [
        | yes h ↦
            let up = onward_above m k (edge k).target h in
            up_node n k h ∙ ap (along (edge k)) (up_same n l (onward m k (edge k).target) (omega arith) (omega arith)) ∙ sym (up_node l k h)
        | no h ↦ up_past (suc n) k (lt_of_not-le h) ∙ sym (up_past (suc l) k (lt_of_not-le h))
      ]

  pub way_past : (k : ℕ) → m < k → way_from f nodes m s k ≡ arrived
  unfolding way_from
  way_past k h = up_past (suc m - k) k h

  way_node : (k : ℕ) → k ≤ m → way_from f nodes m s k ≡ along (edge k) (way_from f nodes m s (onward m k (edge k).target))
  unfolding way_from
  way_node k h =
      let on = onward m k (edge k).target in
      let up = onward_above m k (edge k).target h in
      let e : suc m - k ≡ suc (m - k) = omega arith in
      ap (λ (n : ℕ). way_up f nodes m s n k) e ∙ up_node (m - k) k h ∙ ap (along (edge k)) (up_same (m - k) (suc m - on) on (omega arith) (omega arith))

  pub way_up_lem : (k : ℕ) → k ≤ m → k < (edge k).target → way_from f nodes m s k ≡ along (edge k) (way_from f nodes m s (edge k).target)
  way_up_lem k h l = way_node k h ∙ ap (λ (n : ℕ). along (edge k) (way_from f nodes m s n)) (onward_up m k (edge k).target l)

  pub way_ends : (k : ℕ) → k ≤ m → (edge k).target ≤ k → way_from f nodes m s k ≡ along (edge k) arrived
  way_ends k h l = way_node k h ∙ ap (λ (n : ℕ). along (edge k) (way_from f nodes m s n)) (onward_end m k (edge k).target l) ∙ ap (along (edge k)) (way_past (suc m) (omega arith))

  -- one turn at node k, by an edge that was read at the node's offset for the variable that it tests
  module _ (k : ℕ) {node variable target weight : ℕ} (n : node ≡ get_or nodes (k - 1) 0) (v : variable ≡ get_or nodes (max_nodes + (k - 1)) 0) (t : target ≡ (edge_of f node variable s).target) (w : weight ≡ (edge_of f node variable s).weight) (h : k ≤ m) where
    target_same : target ≡ (edge k).target
    target_same = t ∙ ap₂ (λ (o i : ℕ). (edge_of f o i s).target) n v

    weight_same : weight ≡ (edge k).weight
    weight_same = w ∙ ap₂ (λ (o i : ℕ). (edge_of f o i s).weight) n v

    pub turn_up : k < target → ((way_from f nodes m s k).cost ≡ weight + (way_from f nodes m s target).cost) × ((way_from f nodes m s k).passed ≡ 1 + (way_from f nodes m s target).passed)
    turn_up l = let e = way_up_lem k h (rw target_same at l) in rw (target_same, weight_same) (ap (λ (x : Walk). x.cost) e, ap (λ (x : Walk). x.passed) e ∙ omega arith)

    pub turn_ends : target ≤ k → ((way_from f nodes m s k).cost ≡ weight) × ((way_from f nodes m s k).passed ≡ 1)
    turn_ends l = let e = way_ends k h (rw target_same at l) in (ap (λ (x : Walk). x.cost) e ∙ omega (arith, weight_same), ap (λ (x : Walk). x.passed) e)

  pub turn_none : (k : ℕ) → m < k → ((way_from f nodes m s k).cost ≡ 0) × ((way_from f nodes m s k).passed ≡ 0)
  turn_none k h = let e = way_past k h in (ap (λ (x : Walk). x.cost) e, ap (λ (x : Walk). x.passed) e)

-- ---- a walk in place, part by part

module _ (f : List ℕ) (at : ℕ) (nodes s : List ℕ) {effect incoming count : ℕ} (e : effect ≡ past_partial f at) (i : incoming ≡ past_partial f effect) (n : count ≡ get_or f (incoming + 2) 0) where
  place_same : incoming ≡ incoming_place f at
  unfolding incoming_place
  place_same = i ∙ ap (past_partial f) e

  pub count_same : count ≡ node_count f at
  unfolding node_count
  count_same = n ∙ ap (λ (p : ℕ). get_or f (p + 2) 0) place_same

module _ (f : List ℕ) (incoming : ℕ) (nodes s : List ℕ) {weight count : ℕ} (w : weight ≡ word_at f incoming) (n : count ≡ get_or f (incoming + 2) 0) where
  pub cost_for_lem : {cost : ℕ} → cost ≡ (way_from f nodes count s 1).cost → weight + cost ≡ (walk_for f incoming nodes s).cost
  unfolding walk_for
  cost_for_lem c = rw (← n, w, c)

  pub passed_for : {passed : ℕ} → passed ≡ (way_from f nodes count s 1).passed → passed ≡ (walk_for f incoming nodes s).passed
  unfolding walk_for
  passed_for p = rw (← n) p

pub cost_is : (f : List ℕ) (effect : ℕ) (nodes s : List ℕ) {weight count : ℕ} → weight ≡ word_at f (past_partial f effect) → count ≡ count_past f effect → {cost : ℕ} → cost ≡ (way_from f nodes count s 1).cost → weight + cost ≡ (walk_past f effect nodes s).cost
unfolding walk_past count_past
cost_is f effect nodes s w n c = cost_for_lem f (past_partial f effect) nodes s w n c

-- by the place of the incoming weight
pub walk_noted : (f : List ℕ) (at : ℕ) (nodes s : List ℕ) {incoming : ℕ} → incoming ≡ incoming_place f at → walk_for f incoming nodes s ≡ walk_at f at nodes s
unfolding walk_at walk_past incoming_place
walk_noted f at nodes s e = ap (λ (i : ℕ). walk_for f i nodes s) e

pub count_here : (f : List ℕ) (effect : ℕ) {incoming count : ℕ} → incoming ≡ past_partial f effect → count ≡ get_or f (incoming + 2) 0 → count ≡ count_past f effect
unfolding count_past
count_here f effect i n = n ∙ ap (λ (p : ℕ). get_or f (p + 2) 0) i

-- what stands behind the effect, wherever the code found that
module _ (f : List ℕ) (at : ℕ) {effect : ℕ} (e : Alike f effect (past_partial f at)) where
  pub weight_behind : word_at f (past_partial f effect) ≡ word_at f (incoming_place f at)
  unfolding incoming_place
  weight_behind = alike_word f (alike_past f e)

  pub count_behind : count_past f effect ≡ node_count f at
  unfolding count_past node_count incoming_place
  count_behind = alike_byte f (alike_past f e) 2

  pub walk_behind : (nodes s : List ℕ) → walk_past f effect nodes s ≡ walk_at f at nodes s
  unfolding walk_at walk_past walk_for
  walk_behind nodes s = rw (alike_word f (alike_past f e), alike_byte f (alike_past f e) 2)

-- ---- past the end of the file there is nothing

past_on : (f : List ℕ) (at : ℕ) → at ≤ past_partial f at
unfolding past_partial
past_on f at = omega arith

module _ (f : List ℕ) (at : ℕ) (past : length f < at) where
  pub effect_none : Alike f at (past_partial f at)
  effect_none = beyond past (omega (arith, past_on f at))

  incoming_past : length f < incoming_place f at
  unfolding incoming_place
  incoming_past = omega (arith, past_on f at, past_on f (past_partial f at))

  pub count_none : node_count f at ≡ 0
  unfolding node_count
  count_none = get_or-eq_default f 0 (omega (arith, incoming_past))

  pub weight_none : word_at f at ≡ 0
  weight_none = word_cut f at (number_ends f 2 at (omega arith))

  pub byte_none : get_or f (at + 2) 0 ≡ 0
  byte_none = get_or-eq_default f 0 (omega arith)

  pub weight_past : word_at f (past_partial f at) ≡ 0
  weight_past = word_cut f (past_partial f at) (number_ends f 2 (past_partial f at) (omega (arith, past_on f at)))

  pub count_past_lem : count_past f at ≡ 0
  unfolding count_past
  count_past_lem = get_or-eq_default f 0 (omega (arith, past_on f at))

-- ---- an action x that is read at an offset of an accepted file, and its nodes at the offsets from index `first` on

module _ (f : List ℕ) {sizes : List ℕ} {x : Action} {at first : ℕ} {all : List ℕ} (l : Lies f sizes x at first all) where
  a : ActionRead f sizes l.left at x l.next
  a = action_read f sizes l.left at l.action

  o : OperatorRead f sizes at (record { pre = x.pre; eff = x.eff; weight = x.incoming }) a.place
  o = operator_read f sizes at a.front_is

  d : DiagramRead f sizes l.left a.place x.nodes l.next
  d = diagram_read f sizes l.left a.place a.diagram_is

  effect_is : past_partial f at ≡ o.effect
  effect_is = past_read f at o.pre.same o.pre.next

  incoming_is : incoming_place f at ≡ o.place
  unfolding incoming_place
  incoming_is = ap (past_partial f) effect_is ∙ past_read f o.effect o.eff.same o.eff.next

  -- precondition, effect and incoming weight, each where the one before it ends
  pub pre_lies : PartialRead f sizes at x.pre (past_partial f at)
  pre_lies = subst (PartialRead f sizes at x.pre) (sym effect_is) o.pre

  pub eff_lies : PartialRead f sizes (past_partial f at) x.eff (incoming_place f at)
  eff_lies = subst₂ (λ (p q : ℕ). PartialRead f sizes p x.eff q) (sym effect_is) (sym incoming_is) o.eff

  pub incoming_lies : Weighed f (incoming_place f at) x.incoming (incoming_place f at + 2)
  incoming_lies = subst₂ (λ (p q : ℕ). Weighed f p x.incoming q) (sym incoming_is) (omega (arith, incoming_is, o.weight.next)) o.weight

  pub count_is : node_count f at ≡ length x.nodes
  unfolding node_count
  count_is =
      let c = count_read f 0 l.left a.place d.count_is in
      let e : incoming_place f at + 2 ≡ a.place = omega (arith, incoming_is, o.weight.next) in
      rw e (sym (number_one f a.place (omega (arith, c.fits))) ∙ c.value)

  weight_is : word_at f (incoming_place f at) ≡ x.incoming
  weight_is = rw incoming_is (word_is f o.place o.weight.fits o.weight.value)

  module _ (s : List ℕ) (inside : Inside sizes s) where
    abbrev nodes : List ℕ
    nodes = drop first all

    abbrev m : ℕ
    m = length x.nodes

    wf : WfAction sizes x
    wf = action_wf f a

    edge_in_place : {j : ℕ} {nd : Node} → At x.nodes j nd → edge_from f nodes s (suc j) ≡ edge_at nd s
    unfolding edge_of
    edge_in_place {j} {nd} h =
        let node = get_or all (first + j) 0 in
        let n = node_read f sizes m (suc j) node (l.node j nd h).1 in
        let at = node + (1 + edge_bytes * get_or s nd.var 0) in
        let e = node_edge f n (edge_there wf s inside h) at refl in
        let k : suc j - 1 ≡ j = omega arith in
        let place : get_or nodes (suc j - 1) 0 ≡ node = ap (λ (i : ℕ). get_or nodes i 0) k ∙ get_or-drop first all j 0 in
        let var : get_or nodes (max_nodes + (suc j - 1)) 0 ≡ nd.var = ap (λ (i : ℕ). get_or nodes (max_nodes + i) 0) k ∙ get_or-drop first all (max_nodes + j) 0 ∙ l.tested j nd h in
        let t : (edge_at nd s).target ≡ get_or f at 0 = sym e.target ∙ number_one f at (omega (arith, e.fits)) in
        let w : (edge_at nd s).weight ≡ word_at f (at + 1) = sym (word_is f (at + 1) (omega (arith, e.fits)) e.weight) in
        let q = edge_is f node nd.var s refl refl t w in
        ap₂ (λ (p v : ℕ). edge_of f p v s) place var ∙ (λ i. record { target = sym q.0 i; weight = sym q.1 i })

    way_in_place : way_from f nodes m s 1 ≡ walk_from 1 x.nodes 1 s
    way_in_place =
        walk_induction wf s inside (λ k. way_from f nodes m s k ≡ walk_from 1 x.nodes k s)
        (way_past f nodes m s (suc m) (omega arith) ∙ sym (walk_terminal wf s inside))
        (λ j nd h p.
        let e = edge_in_place h in
        let up : suc j < (edge_from f nodes s (suc j)).target = rw e (edge_wf wf s inside h).above in
        way_up_lem f nodes m s (suc j) (omega (arith, at_length h)) up ∙ ap (λ (y : Edge). along y (way_from f nodes m s y.target)) e ∙ ap (along (edge_at nd s)) p ∙ sym (walk_node wf s inside h))

    -- the walk in place is the action's
    pub walk_in_place : walk_at f at (drop first all) s ≡ walk x s
    unfolding walk_at walk_past walk_for node_count incoming_place walk
    walk_in_place = rw (count_is, weight_is, way_in_place)

    pub perform_in_place : (measure : Walk → ℕ) → perform_by measure f at (drop first all) s ≡ attempt x.pre x.eff (measure (walk x s)) s
    unfolding perform_by
    perform_in_place measure = rw (walk_in_place, effect_is, ← o.pre.same, ← o.eff.same)
