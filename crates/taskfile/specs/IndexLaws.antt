-- Laws of the pass that checks a task file and notes where its actions and nodes start.
use Rattle.std.specs.Prelude.{◌≡◌, ◌⊎◌, get_or, set}
use Rattle.std.proofs.Math.Path.{refl, ap, ap₂}
use Rattle.std.proofs.Common.{sym, ◌∙◌, subst, inl, inr, zero-add, lt_of_not-le, length-set, take_at, get_or-set_same, get_or-set_other}
use Prim.Native.Nat.{ℕ, zero, suc, ◌+◌, ◌-◌, ◌≤◌, ◌<◌}
use Rattle.std.proofs.Math.Nat.{suc-add, sub-zero}
use Rattle.std.proofs.Math.Decide.{dec_le}
use native.Mathlib.Omega.{arith}
use mathlib.Core.List.{List, [], ◌∷◌, ◌++◌}
use Rattle.std.proofs.Math.ListN.{length}
use Rattle.std.proofs.lemmas.List.{take-append-le}
use Rattle.facts.specs.Read.{Read, accepted, refused, with_value, ◌>>=◌}
use Rattle.facts.specs.ReadLaws.{not_refused, through, made, not_made, value_of_lem, next_of_lem}
use Rattle.facts.specs.Lists.{total, At, here, there}
use Rattle.facts.specs.ListLaws.{at_none, at_length}
use Rattle.facts.specs.Partial.{Partial, past_partial}
use Rattle.facts.specs.Fields.{next_of, read_partial, Operator, read_operator}
use Rattle.facts.specs.InPlaceLaws.{past_read}
use Rattle.facts.specs.PartialReadLaws.{partial_read}
use Rattle.taskfile.specs.Task.{Node, Action, max_actions, max_nodes}
use Rattle.taskfile.specs.TaskFile.{read_diagram, read_action, read_actions}
use Rattle.taskfile.specs.TaskReadLaws.{action_read, action_nodes}
use Rattle.taskfile.specs.Row.{effects_from, incoming_from, firsts_from, nodes_from, row_long, own_from}
use Rattle.taskfile.specs.InPlace.{diagram_at, Placed, action_at, ActionPlaced, Lies, front_noted, Fronts, nodes_before, Listed}
use Rattle.taskfile.specs.WalkInPlace.{incoming_place}

-- the number of nodes of an action
abbrev size : Action → ℕ
size x = length x.nodes

-- ---- one action

module _ (f sizes : List ℕ) (left at : ℕ) where
  pub action_no_front : {n p : ℕ} → next_of (read_operator f sizes at) ≡ refused n p → action_at f sizes left at ≡ refused n p
  unfolding action_at read_action
  action_no_front h = rw (not_made (λ (p : Operator × ℕ). p.1) (read_operator f sizes at) h)

  module _ {place : ℕ} (h : next_of (read_operator f sizes at) ≡ accepted place) where
    abbrev front : Operator
    front = (made (λ (p : Operator × ℕ). p.1) (read_operator f sizes at) h).from.0

    front_is : read_operator f sizes at ≡ accepted (front, place)
    front_is = let m = made (λ (p : Operator × ℕ). p.1) (read_operator f sizes at) h in m.answer ∙ ap (λ (e : ℕ). accepted (front, e)) m.value

    -- past an action is past its diagram
    pub action_diagram : action_at f sizes left at ≡ diagram_at f sizes left place
    unfolding action_at read_action diagram_at
    action_diagram = rw front_is (go (read_diagram f sizes left place))
      where
        go : (r : Read (List Node × ℕ))
            → with_value {Y = ℕ × ℕ} (λ (p : Action × ℕ). (p.1, length p.0.nodes)) (◌>>=◌ r (λ (p : List Node × ℕ). accepted (record { pre = front.pre; eff = front.eff; incoming = front.weight; nodes = p.0 }, p.1)))
            ≡ with_value {Y = ℕ × ℕ} (λ (p : List Node × ℕ). (p.1, length p.0)) r
        go (accepted p) = refl
        go (refused n p) = refl

    -- its nodes are those of the diagram there
    own_diagram : {x : Action} {end : ℕ} → read_action f sizes left at ≡ accepted (x, end) → read_diagram f sizes left place ≡ accepted (x.nodes, end)
    own_diagram r =
        let o = action_read f sizes left at r in
        let same : o.place ≡ place = next_of_lem (sym o.front_is ∙ front_is) in
        ap (read_diagram f sizes left) (sym same) ∙ o.diagram_is

    pub action_placed : {used : ℕ} {before row after : List ℕ} → before ≡ row → Placed f sizes left place used before after → ActionPlaced f sizes left at used row after
    action_placed e p = record {
      kept = λ j l. p.kept j l ∙ ap (λ (xs : List ℕ). get_or xs j 0) e;
      kept_tested = λ j l h. p.kept_tested j l h ∙ ap (λ (xs : List ℕ). get_or xs j 0) e;
      lies = λ x end r. p.lies x.nodes end (own_diagram r);
      tested = λ x end r. p.tested x.nodes end (own_diagram r);
    }

  -- what was answered of an action that was read
  action_is : {next nodes : ℕ} → action_at f sizes left at ≡ accepted (next, nodes) → (x : Action) × (read_action f sizes left at ≡ accepted (x, next)) × (size x ≡ nodes)
  unfolding action_at
  action_is h =
      let m = made (λ (p : Action × ℕ). (p.1, length p.0.nodes)) (read_action f sizes left at) h in
      (m.from.0, m.answer ∙ ap (λ (e : ℕ). accepted (m.from.0, e)) (ap (λ (p : ℕ × ℕ). p.0) m.value), ap (λ (p : ℕ × ℕ). p.1) m.value)

  action_not : {n p : ℕ} → action_at f sizes left at ≡ refused n p → read_action f sizes left at ≡ refused n p
  unfolding action_at
  action_not h = not_made (λ (p : Action × ℕ). (p.1, length p.0.nodes)) (read_action f sizes left at) h

-- ---- the actions that are left after those that were read

module _ (f sizes : List ℕ) where
  abbrev Joined : List Action → Read (List Action × ℕ) → Read (List Action × ℕ)
  Joined xs r = ◌>>=◌ r (λ (p : List Action × ℕ). accepted (xs ++ p.0, p.1))

  joined_none : (r : Read (List Action × ℕ)) → r ≡ Joined [] r
  joined_none (accepted p) = refl
  joined_none (refused n p) = refl

  joined_one : (x : Action) (xs : List Action) (r : Read (List Action × ℕ)) → ◌>>=◌ (Joined xs r) (λ (p : List Action × ℕ). accepted (x ∷ p.0, p.1)) ≡ Joined (x ∷ xs) r
  joined_one x xs (accepted p) = refl
  joined_one x xs (refused n p) = refl

  actions_after : (a c left at : ℕ) {xs : List Action} {q : ℕ} → read_actions f sizes a left at ≡ accepted (xs, q)
      → read_actions f sizes (a + c) left at ≡ Joined xs (read_actions f sizes c (left - total size xs) q)
  unfolding read_actions
  actions_after zero c left at {xs} {q} h =
      let list = value_of_lem h in
      let next = next_of_lem h in
      rw (zero-add c, ← list, ← next, sub-zero left) (joined_none (read_actions f sizes c left at))
  actions_after (suc a) c left at {xs} {q} h =
      let o = through (read_action f sizes left at) h in
      let x = o.got.0 in
      let p = through (read_actions f sizes a (left - size x) o.got.1) o.then in
      let ys = p.got.0 in
      let list : x ∷ ys ≡ xs = value_of_lem p.then in
      let next : p.got.1 ≡ q = next_of_lem p.then in
      let n : suc a + c ≡ suc (a + c) = suc-add a c in
      let room : left - size x - total size ys ≡ left - (size x + total size ys) = omega arith in
      ap (λ (k : ℕ). read_actions f sizes k left at) n
      ∙ ap (λ (r : Read (Action × ℕ)). ◌>>=◌ r (λ (u : Action × ℕ). ◌>>=◌ (read_actions f sizes (a + c) (left - size u.0) u.1) (λ (v : List Action × ℕ). accepted (u.0 ∷ v.0, v.1)))) o.first
      ∙ ap (λ (r : Read (List Action × ℕ)). ◌>>=◌ r (λ (v : List Action × ℕ). accepted (x ∷ v.0, v.1))) (actions_after a c (left - size x) o.got.1 p.first)
      ∙ joined_one x ys (read_actions f sizes c (left - size x - total size ys) p.got.1)
      ∙ ap (λ (k : ℕ). Joined (x ∷ ys) (read_actions f sizes c k p.got.1)) room
      ∙ ap₂ (λ (zs : List Action) (e : ℕ). Joined zs (read_actions f sizes c (left - total size zs) e)) list next

  pub actions_count : (a left at : ℕ) {xs : List Action} {q : ℕ} → read_actions f sizes a left at ≡ accepted (xs, q) → length xs ≡ a
  unfolding read_actions
  actions_count zero left at h = rw (← value_of_lem h)
  actions_count (suc a) left at h =
      let o = through (read_action f sizes left at) h in
      let p = through (read_actions f sizes a (left - size o.got.0) o.got.1) o.then in
      rw (← value_of_lem p.then) (ap suc (actions_count a (left - size o.got.0) o.got.1 p.first))

  -- one action more
  pub actions_snoc : (a left at : ℕ) {xs : List Action} {q : ℕ} {x : Action} {e : ℕ} → read_actions f sizes a left at ≡ accepted (xs, q) → read_action f sizes (left - total size xs) q ≡ accepted (x, e)
      → read_actions f sizes (a + 1) left at ≡ accepted (xs ++ (x ∷ []), e)
  unfolding read_actions
  actions_snoc a left at h g = actions_after a 1 left at h ∙ rw g

  -- and none more
  pub actions_stop : (a count left at : ℕ) {xs : List Action} {q n p : ℕ} → a < count → read_actions f sizes a left at ≡ accepted (xs, q) → read_action f sizes (left - total size xs) q ≡ refused n p
      → read_actions f sizes count left at ≡ refused n p
  unfolding read_actions
  actions_stop a count left at {xs} {q} {n} {p} l h g =
      let k : count ≡ a + suc (count - suc a) = omega arith in
      ap (λ (j : ℕ). read_actions f sizes j left at) k ∙ actions_after a (suc (count - suc a)) left at h ∙ rw g

-- ---- where effects and incoming weights stand

-- past a partial state
pub past_at : (f sizes : List ℕ) (at : ℕ) {e : ℕ} → next_of (read_partial f sizes at) ≡ accepted e → e ≡ past_partial f at
past_at f sizes at h =
    let m = made (λ (p : Partial × ℕ). p.1) (read_partial f sizes at) h in
    let r = partial_read f sizes at m.answer in
    sym m.value ∙ sym (past_read f at r.same r.next)

-- past two
pub past_both : (f : List ℕ) (at : ℕ) {effect e : ℕ} → effect ≡ past_partial f at → e ≡ past_partial f effect → e ≡ incoming_place f at
unfolding incoming_place
past_both f at h g = g ∙ ap (past_partial f) h

module _ (f places : List ℕ) (a at : ℕ) (few : a < max_actions) where
  -- no other entry changes
  front_other : (k : ℕ) → (k ≡ effects_from + a → ⊥) → (k ≡ incoming_from + a → ⊥) → get_or (front_noted f at a places) k 0 ≡ get_or places k 0
  front_other k h g = get_or-set_other (set places (effects_from + a) (past_partial f at)) (incoming_from + a) k (incoming_place f at) 0 g ∙ get_or-set_other places (effects_from + a) k (past_partial f at) 0 h

  -- above all no action's offset
  front_keeps : (b : ℕ) → b < max_actions → get_or (front_noted f at a places) b 0 ≡ get_or places b 0
  front_keeps b l = front_other b (λ q. omega (arith, l, q)) (λ q. omega (arith, l, q))

  module _ (long : firsts_from ≤ length places) where
    front_effect : get_or (front_noted f at a places) (effects_from + a) 0 ≡ past_partial f at
    front_effect = get_or-set_other (set places (effects_from + a) (past_partial f at)) (incoming_from + a) (effects_from + a) (incoming_place f at) 0 (λ q. omega (arith, q)) ∙ get_or-set_same places (effects_from + a) (past_partial f at) 0 (omega (arith, few, long))

    front_incoming : get_or (front_noted f at a places) (incoming_from + a) 0 ≡ incoming_place f at
    front_incoming = get_or-set_same (set places (effects_from + a) (past_partial f at)) (incoming_from + a) (incoming_place f at) 0 (omega (arith, few, long, length-set places (effects_from + a) (past_partial f at)))

pub fronts_none : {f places : List ℕ} → Fronts f 0 places
fronts_none = record { effect = λ a l. absurd (omega arith); incoming = λ a l. absurd (omega arith) }

-- other entries may change
pub fronts_kept : {f row row' : List ℕ} {count : ℕ} → count ≤ max_actions → ((k : ℕ) → k < firsts_from → get_or row' k 0 ≡ get_or row k 0) → Fronts f count row → Fronts f count row'
fronts_kept {f} few same h = record {
  effect = λ a l. same (effects_from + a) (omega (arith, l, few)) ∙ h.effect a l ∙ ap (past_partial f) (sym (same a (omega (arith, l, few))));
  incoming = λ a l. same (incoming_from + a) (omega (arith, l, few)) ∙ h.incoming a l ∙ ap (incoming_place f) (sym (same a (omega (arith, l, few))));
}

-- those of one action more are noted, once it is noted where it starts
pub fronts_more : {f places : List ℕ} {a : ℕ} (at : ℕ) → Fronts f a places → a < max_actions → firsts_from ≤ length places → Fronts f (a + 1) (front_noted f at a (set places a at))
fronts_more {f} {places} {a} at h few long = record {
  effect = λ b l. elim (dec_le a b) [
    | yes g ↦ let same : b ≡ a = omega (arith, g, l) in rw same (front_effect f (set places a at) a at few there ∙ ap (past_partial f) (sym own))
    | no g ↦ let less = lt_of_not-le g in kept (effects_from + b) (λ q. omega (arith, few, q)) (λ q. omega (arith, less, q)) (λ q. omega (arith, few, less, q)) ∙ h.effect b less ∙ ap (past_partial f) (sym (kept b (λ q. omega (arith, less, q)) (λ q. omega (arith, less, few, q)) (λ q. omega (arith, less, few, q))))
  ];
  incoming = λ b l. elim (dec_le a b) [
    | yes g ↦ let same : b ≡ a = omega (arith, g, l) in rw same (front_incoming f (set places a at) a at few there ∙ ap (incoming_place f) (sym own))
    | no g ↦ let less = lt_of_not-le g in kept (incoming_from + b) (λ q. omega (arith, few, q)) (λ q. omega (arith, few, less, q)) (λ q. omega (arith, less, q)) ∙ h.incoming b less ∙ ap (incoming_place f) (sym (kept b (λ q. omega (arith, less, q)) (λ q. omega (arith, less, few, q)) (λ q. omega (arith, less, few, q))))
  ];
}
  where
    there : firsts_from ≤ length (set places a at)
    there = omega (arith, long, length-set places a at)

    kept : (k : ℕ) → (k ≡ a → ⊥) → (k ≡ effects_from + a → ⊥) → (k ≡ incoming_from + a → ⊥) → get_or (front_noted f at a (set places a at)) k 0 ≡ get_or places k 0
    kept k q r s = front_other f (set places a at) a at few k r s ∙ get_or-set_other places a k at 0 q

    own : get_or (front_noted f at a (set places a at)) a 0 ≡ at
    own = front_keeps f (set places a at) a at few a few ∙ get_or-set_same places a at 0 (omega (arith, few, long))

-- ---- what is noted of an action before its nodes

-- the row with the offset of action a and the number of its first node
abbrev pub start_noted : ℕ → ℕ → ℕ → List ℕ → List ℕ
start_noted a at used row = set (set row (firsts_from + a) used) a at

module _ (f row : List ℕ) (a at used : ℕ) (few : a < max_actions) where
  abbrev after : List ℕ
  after = front_noted f at a (start_noted a at used row)

  -- no entry but the action's own changes
  start_other : (k : ℕ) → (k ≡ a → ⊥) → (k ≡ effects_from + a → ⊥) → (k ≡ incoming_from + a → ⊥) → (k ≡ firsts_from + a → ⊥) → get_or after k 0 ≡ get_or row k 0
  start_other k o e i n = front_other f (start_noted a at used row) a at few k e i ∙ get_or-set_other (set row (firsts_from + a) used) a k at 0 o ∙ get_or-set_other row (firsts_from + a) k used 0 n

  -- above all none about nodes
  start_nodes : (j : ℕ) → get_or after (nodes_from + j) 0 ≡ get_or row (nodes_from + j) 0
  start_nodes j = start_other (nodes_from + j) (λ q. omega (arith, few, q)) (λ q. omega (arith, few, q)) (λ q. omega (arith, few, q)) (λ q. omega (arith, few, q))

  module _ (b : ℕ) (l : b < a) where
    start_before : get_or after b 0 ≡ get_or row b 0
    start_before = start_other b (λ q. omega (arith, l, q)) (λ q. omega (arith, l, few, q)) (λ q. omega (arith, l, few, q)) (λ q. omega (arith, l, few, q))

    first_before : get_or after (firsts_from + b) 0 ≡ get_or row (firsts_from + b) 0
    first_before = start_other (firsts_from + b) (λ q. omega (arith, few, q)) (λ q. omega (arith, few, q)) (λ q. omega (arith, few, q)) (λ q. omega (arith, l, q))

  module _ (long : row_long ≤ length row) where
    start_own : get_or after a 0 ≡ at
    start_own = front_keeps f (start_noted a at used row) a at few a few ∙ get_or-set_same (set row (firsts_from + a) used) a at 0 (omega (arith, few, long, length-set row (firsts_from + a) used))

    first_own : get_or after (firsts_from + a) 0 ≡ used
    first_own =
        front_other f (start_noted a at used row) a at few (firsts_from + a) (λ q. omega (arith, q)) (λ q. omega (arith, q)) ∙ get_or-set_other (set row (firsts_from + a) used) a (firsts_from + a) at 0 (λ q. omega (arith, q))
        ∙ get_or-set_same row (firsts_from + a) used 0 (omega (arith, few, long))

-- ---- the pass over the actions: a of them are read, up to an offset, and have `used` nodes

pub record Going (f sizes : List ℕ) (a from at used : ℕ) (row : List ℕ) : Type 0 where
  pub done : List Action
  pub reads : read_actions f sizes a max_nodes from ≡ accepted (done, at)
  pub uses : total size done ≡ used
  pub within : used ≤ max_nodes
  pub lies : (b : ℕ) (x : Action) → At done b x → Lies f sizes x (get_or row b 0) (own_from row b) row × (get_or row (firsts_from + b) 0 + size x ≤ used) × (get_or row (firsts_from + b) 0 ≡ nodes_before done b)
  pub fronts : Fronts f a row

pub going_start : (f sizes : List ℕ) (from : ℕ) (row : List ℕ) → Going f sizes 0 from from 0 row
unfolding read_actions
going_start f sizes from row = record { done = []; reads = refl; uses = refl; within = omega arith; lies = λ b x a. absurd (at_none a); fronts = fronts_none }

total_snoc : (xs : List Action) (x : Action) → total size (xs ++ (x ∷ [])) ≡ total size xs + size x
total_snoc [] x = omega arith
total_snoc (y ∷ xs) x = omega (arith, total_snoc xs x)

-- an element of a list and one more: it is one of the list, or it is the last
snoc_at : (xs : List Action) (y : Action) {b : ℕ} {x : Action} → At (xs ++ (y ∷ [])) b x → At xs b x ⊎ ((b ≡ length xs) × (y ≡ x))
snoc_at [] y here = inr (refl, refl)
snoc_at [] y (there a) = absurd (at_none a)
snoc_at (z ∷ xs) y here = inl here
snoc_at (z ∷ xs) y (there a) = elim (snoc_at xs y a) [ inl g ↦ inl (there g) | inr g ↦ inr (ap suc g.0, g.1) ]

module _ {f sizes : List ℕ} {a from at used : ℕ} {row : List ℕ} (g : Going f sizes a from at used row) where
  abbrev left : ℕ
  left = max_nodes - used

  count_is : length g.done ≡ a
  count_is = actions_count f sizes a max_nodes from g.reads

  module _ (few : a < max_actions) (long : row_long ≤ length row) {next : ℕ} {x : Action} {row' : List ℕ} (r : read_action f sizes left at ≡ accepted (x, next)) (p : ActionPlaced f sizes left at (nodes_from + used) (front_noted f at a (start_noted a at used row)) row') where
    -- what is noted of an action that was read before stays
    lies_before : {b : ℕ} {y : Action} → b < a → Lies f sizes y (get_or row b 0) (own_from row b) row → get_or row (firsts_from + b) 0 + size y ≤ used → Lies f sizes y (get_or row' b 0) (own_from row' b) row'
    lies_before {b} {y} l o within =
        let first = get_or row (firsts_from + b) 0 in
        let entry : (j : ℕ) → j < used → get_or row' (nodes_from + j) 0 ≡ get_or row (nodes_from + j) 0 = λ j h. p.kept (nodes_from + j) (omega (arith, h)) ∙ start_nodes f row a at used few j in
        let test : (j : ℕ) → max_nodes ≤ j → j < max_nodes + used → get_or row' (nodes_from + j) 0 ≡ get_or row (nodes_from + j) 0 = λ j h k. p.kept_tested (nodes_from + j) (omega (arith, h, g.within)) (omega (arith, k)) ∙ start_nodes f row a at used few j in
        rw (p.kept b (omega (arith, l, few)) ∙ start_before f row a at used few b l, p.kept (firsts_from + b) (omega (arith, l, few)) ∙ first_before f row a at used few b l)
        record {
          left = o.left;
          next = o.next;
          action = o.action;
          node = λ k nd h.
              let i : nodes_from + (first + k) ≡ nodes_from + first + k = omega arith in
              let same : get_or row' (nodes_from + first + k) 0 ≡ get_or row (nodes_from + first + k) 0 = subst (λ (i : ℕ). get_or row' i 0 ≡ get_or row i 0) i (entry (first + k) (omega (arith, at_length h, within))) in
              rw same (o.node k nd h);
          tested = λ k nd h.
              let i : nodes_from + (first + (max_nodes + k)) ≡ nodes_from + first + (max_nodes + k) = omega arith in
              subst (λ (i : ℕ). get_or row' i 0 ≡ get_or row i 0) i (test (first + (max_nodes + k)) (omega arith) (omega (arith, at_length h, within))) ∙ o.tested k nd h;
        }

    own_start : get_or row' a 0 ≡ at
    own_start = p.kept a (omega (arith, few)) ∙ start_own f row a at used few long

    own_first : get_or row' (firsts_from + a) 0 ≡ used
    own_first = p.kept (firsts_from + a) (omega (arith, few)) ∙ first_own f row a at used few long

    -- and its own is noted
    lies_own : Lies f sizes x (get_or row' a 0) (own_from row' a) row'
    lies_own = rw (own_start, own_first) record { left = left; next = next; action = r; node = p.lies x next r; tested = p.tested x next r }

    fronts_all : Fronts f (a + 1) row'
    fronts_all =
        let first = set row (firsts_from + a) used in
        let start : Fronts f a first = fronts_kept (omega (arith, few)) (λ k l. get_or-set_other row (firsts_from + a) k used 0 (λ q. omega (arith, l, q))) g.fronts in
        fronts_kept (omega (arith, few)) (λ k l. p.kept k (omega (arith, l))) (fronts_more at start few (omega (arith, long, length-set row (firsts_from + a) used)))

    going_more : Going f sizes (a + 1) from next (used + size x) row'
    going_more = record {
      done = g.done ++ (x ∷ []);
      reads = actions_snoc f sizes a max_nodes from g.reads (ap (λ (k : ℕ). read_action f sizes (max_nodes - k) at) g.uses ∙ r);
      uses = total_snoc g.done x ∙ ap (λ (k : ℕ). k + size x) g.uses;
      within = omega (arith, g.within, action_nodes f (action_read f sizes left at r));
      lies = λ b y i. elim (snoc_at g.done x i) [
        | inl j ↦
            let o = g.lies b y j in
            let l : b < a = omega (arith, at_length j, count_is) in
            let first : get_or row' (firsts_from + b) 0 ≡ get_or row (firsts_from + b) 0 = p.kept (firsts_from + b) (omega (arith, l, few)) ∙ first_before f row a at used few b l in
            (lies_before l o.0 o.1, omega (arith, first, o.1), first ∙ o.2 ∙ ap (total size) (sym (take-append-le b g.done (x ∷ []) (omega (arith, at_length j)))))
        | inr j ↦
            let n : b ≡ a = j.0 ∙ count_is in
            subst (λ (z : Action). Lies f sizes z (get_or row' b 0) (own_from row' b) row' × (get_or row' (firsts_from + b) 0 + size z ≤ used + size x) × (get_or row' (firsts_from + b) 0 ≡ nodes_before (g.done ++ (x ∷ [])) b)) j.1
            (rw n (lies_own, omega (arith, own_first), own_first ∙ sym (ap (total size) (take_at g.done (x ∷ []) a count_is) ∙ g.uses)))
      ];
      fronts = fronts_all;
    }

  -- one more, by what a reader knows that goes past it
  pub going_next : a < max_actions → row_long ≤ length row → {next m : ℕ} {row' : List ℕ} → action_at f sizes left at ≡ accepted (next, m) → ActionPlaced f sizes left at (nodes_from + used) (front_noted f at a (start_noted a at used row)) row'
      → Going f sizes (a + 1) from next (used + m) row'
  going_next few long {next} {row' = row'} r p =
      let o = action_is f sizes left at r in
      subst (λ (m : ℕ). Going f sizes (a + 1) from next (used + m) row') o.2 (going_more few long o.1 p)

  -- and none more
  pub going_stop : {count n p : ℕ} → a < count → action_at f sizes left at ≡ refused n p → next_of (read_actions f sizes count max_nodes from) ≡ refused n p
  going_stop {count} l r = ap next_of (actions_stop f sizes a count max_nodes from l g.reads (ap (λ (k : ℕ). read_action f sizes (max_nodes - k) at) g.uses ∙ action_not f sizes left at r))

  -- at the last
  pub going_end : {count : ℕ} → a ≡ count → next_of (read_actions f sizes count max_nodes from) ≡ accepted at
  going_end e = rw (← e) (ap next_of g.reads)

  pub going_listed : {count : ℕ} → a ≡ count → Listed f sizes count from row
  going_listed e = rw (← e) (record {
    lies = λ xs end r b x i. (g.lies b x (subst (λ (ys : List Action). At ys b x) (value_of_lem (sym r ∙ g.reads)) i)).0;
    first_is = λ xs end r b x i. let same = value_of_lem (sym r ∙ g.reads) in subst (λ (ys : List Action). get_or row (firsts_from + b) 0 ≡ nodes_before ys b) (sym same) (g.lies b x (subst (λ (ys : List Action). At ys b x) same i)).2;
  })

pub listed_none : (f sizes : List ℕ) (count from : ℕ) (row : List ℕ) {n p : ℕ} → next_of (read_actions f sizes count max_nodes from) ≡ refused n p → Listed f sizes count from row
listed_none f sizes count from row h = record {
  lies = λ xs end r a x i. absurd (not_refused (sym (not_made (λ (p : List Action × ℕ). p.1) (read_actions f sizes count max_nodes from) h) ∙ r));
  first_is = λ xs end r a x i. absurd (not_refused (sym (not_made (λ (p : List Action × ℕ). p.1) (read_actions f sizes count max_nodes from) h) ∙ r));
}
