-- Laws of how many steps the actions of a task have, and how many bytes: counted one action at a time.
use Rattle.std.specs.Prelude.{◌≡◌, ℕ, ◌+◌, ◌*◌, ◌-◌, ◌≤◌, ◌<◌, min, List, [], ◌++◌, take, drop}
use Rattle.std.proofs.Math.Path.{refl, ap}
use Rattle.std.proofs.Common.{sym, ◌∙◌, arith, length-append}
use Rattle.std.specs.Int.Count.{ones-le}
use Rattle.std.proofs.Math.ListN.{length, get_or}
use Rattle.facts.specs.Lists.{total}
use Rattle.facts.specs.Partial.{partial_bytes, partial_at, past_partial}
use Rattle.facts.specs.InPlaceLaws.{past_is}
use Rattle.taskfile.specs.Row.{own_from}
use Rattle.taskfile.specs.WalkInPlace.{incoming_place, node_count}
use Rattle.taskfile.specs.MoveInPlaceLaws.{own_nodes}
use Rattle.probefile.specs.Probe.{Step}
use Rattle.compilation.specs.Compile.{action_steps, edge_count}
use Rattle.compilation.specs.StepLaws.{total_append, action_length}
use Rattle.compilation.specs.CompiledLengthLaws.{step_bytes}
use Rattle.compilation.proofs.CompiledLengthLaws.{action_total}
use Rattle.taskfile.specs.PartsInPlace.{nodes_in, action_in, Tests, Stood}
use Rattle.step_writer.specs.InPlace.{Weighs}
use Rattle.step_writer.specs.PutLaws.{standing_long}
use Rattle.probe_writer.specs.InPlaceLaws.{steps_left, left_next}

-- ---- what is counted and what is left are together all

-- of the steps `whole`, `rest` are left to count, and the others are so many, with so many bytes
pub record Counted (whole rest : List Step) (steps bytes : ℕ) : Type 0 where
  pub steps_are : length whole ≡ steps + length rest
  pub bytes_are : total step_bytes whole ≡ bytes + total step_bytes rest

-- At first all are left.
pub counted_start : {whole rest : List Step} → rest ≡ whole → Counted whole rest 0 0
counted_start {whole} {rest} e = record { steps_are = omega (arith, ap length e); bytes_are = omega (arith, ap (total step_bytes) e) }

-- Then further ones are counted.
counted_more : {whole rest : List Step} {steps bytes : ℕ} (row more : List Step) {s b : ℕ} → Counted whole rest steps bytes → rest ≡ row ++ more
    → length row ≡ s → total step_bytes row ≡ b → Counted whole more (steps + s) (bytes + b)
counted_more row more c e s b = record {
  steps_are = omega (arith, c.steps_are, ap length e ∙ length-append row more, s);
  bytes_are = omega (arith, c.bytes_are, ap (total step_bytes) e ∙ total_append step_bytes row more, b);
}

-- At last all are counted.
pub counted_end : {whole rest : List Step} {steps bytes : ℕ} → Counted whole rest steps bytes → rest ≡ [] → (steps ≡ length whole) × (bytes ≡ total step_bytes whole)
counted_end c e = (omega (arith, c.steps_are, ap length e), omega (arith, c.bytes_are, ap (total step_bytes) e))

-- ---- one action

module _ (f : List ℕ) where
  -- The steps of the action at an offset have the bytes of start and end, of the action's own partial states, and of the edges.
  bytes_in : (sizes : List ℕ) (n a : ℕ) {at : ℕ} {own : List ℕ} → Stood f sizes at own
      → total step_bytes (action_steps n a (action_in f sizes at own))
      ≡ 27 + (partial_bytes (partial_at f at) + partial_bytes (partial_at f (past_partial f at))) + 21 * total edge_count (nodes_in f sizes own 0 (node_count f at))
  bytes_in sizes n a {at} {own} s = omega (arith, action_total n a (action_in f sizes at own), standing_long f at s.pre.fits, standing_long f (past_partial f at) s.eff.fits)

  -- Where the incoming weight of the action at an offset stands, counted from its effect.
  pub incoming_past : (at : ℕ) {effect incoming : ℕ} → effect ≡ past_partial f at → incoming ≡ incoming_place f at → incoming ≡ past_partial f effect
  unfolding incoming_place
  incoming_past at e i = i ∙ ap (past_partial f) (sym e)

  -- The incoming weight stands past the action's own partial states, within the file.
  pub states_are : {sizes own : List ℕ} {at incoming : ℕ} → Stood f sizes at own → incoming ≡ incoming_place f at
      → (incoming ≡ at + (partial_bytes (partial_at f at) + partial_bytes (partial_at f (past_partial f at)))) × (incoming ≤ length f) × (incoming ≤ at + 16 + 2 * length sizes)
  unfolding incoming_place
  states_are {sizes} {own} {at} s e =
      let effect = past_partial f at in
      let pre = past_is f at {n = partial_bytes (partial_at f at)} refl in
      let eff = past_is f effect {n = partial_bytes (partial_at f effect)} refl in
      let k = length sizes in
      (omega (arith, e, pre, eff), omega (arith, e, eff, s.eff.fits), omega (arith, e, pre, eff, ones-le k (partial_at f at).map s.pre.below, ones-le k (partial_at f effect).map s.eff.below))

  -- The number of nodes stands behind the incoming weight.
  pub count_in_lem : (at : ℕ) {incoming count : ℕ} → incoming ≡ incoming_place f at → count ≡ get_or f (incoming + 2) 0 → count ≡ node_count f at
  unfolding node_count
  count_in_lem at e h = h ∙ ap (λ (i : ℕ). get_or f (i + 2) 0) e

  -- Where the incoming weight of an action of an accepted file stands.
  pub weighs : {sizes own : List ℕ} {at incoming : ℕ} → Stood f sizes at own → incoming ≡ incoming_place f at → Weighs f at incoming
  weighs s e = record { place = e; fits = (states_are s e).1; few = s.few }

  -- An action's own nodes as they are lent: each tests one of the variables.
  pub tests_own : (sizes nodes : List ℕ) (at n : ℕ) {k count : ℕ} → Stood f sizes at (drop n nodes) → k ≡ min n (length nodes) → count ≡ node_count f at
      → (j : ℕ) → j < count → Tests f sizes (get_or (take (length nodes - k) (drop k nodes)) j 0)
  tests_own sizes nodes at n s h g j l = rw (own_nodes nodes n h) (s.nodes j (omega (arith, g, l)))

  -- The edges of an action's own nodes, which are those from index n on, where the index k is n, or the end of all offsets.
  pub edges_own : (sizes nodes : List ℕ) (at n : ℕ) {k count edges : ℕ} → k ≡ min n (length nodes) → count ≡ node_count f at
      → edges ≡ total edge_count (nodes_in f sizes (take (length nodes - k) (drop k nodes)) 0 count) → edges ≡ total edge_count (nodes_in f sizes (drop n nodes) 0 (node_count f at))
  edges_own sizes nodes at n h g e = rw (own_nodes nodes n h, g) at e

-- ---- all actions

module _ (f sizes row : List ℕ) (count a : ℕ) where
  -- The steps of action a are counted: its own nodes are noted from entry k of the row on, or it has none.
  pub counted_action : {whole : List Step} {steps bytes k m edges incoming : ℕ} → a < count → Stood f sizes (get_or row a 0) (drop (own_from row a) row)
      → k ≡ min (own_from row a) (length row) → incoming ≡ incoming_place f (get_or row a 0) → m ≡ get_or f (incoming + 2) 0
      → edges ≡ total edge_count (nodes_in f sizes (take (length row - k) (drop k row)) 0 m)
      → Counted whole (steps_left f sizes row count a) steps bytes → Counted whole (steps_left f sizes row count (a + 1)) (steps + (2 + edges)) (bytes + (27 + (incoming - get_or row a 0) + 21 * edges))
  counted_action l stood h i g e c =
      let n = length sizes in
      let x = action_in f sizes (get_or row a 0) (drop (own_from row a) row) in
      let own = edges_own f sizes row (get_or row a 0) (own_from row a) h (count_in_lem f (get_or row a 0) i g) e in
      counted_more (action_steps n a x) (steps_left f sizes row count (a + 1)) c (left_next f sizes row count a l) (omega (arith, action_length n a x, own)) (omega (arith, bytes_in f sizes n a stood, own, (states_are f stood i).0))
