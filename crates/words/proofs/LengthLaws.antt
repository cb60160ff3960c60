-- How long texts about tasks are: for every accepted task file the task in words and its drawings are no longer than the bench tool's buffer.
use Rattle.std.specs.Prelude.{ℕ, zero, suc, ◌+◌, ◌*◌, ◌%◌, ◌≤◌, ◌<◌, ◌≡◌, refl, Bool, true, false, leb, take, drop, Option, None, Some, slice_get}
use Rattle.std.proofs.Common.{ap, ◌∙◌, mul-suc, mul-add, length-drop}
use Rattle.std.proofs.Math.Path.{subst}
use mathlib.Core.List.{List, [], ◌∷◌, ◌++◌}
use native.Mathlib.Omega.{arith}
use Rattle.std.proofs.Math.ListN.{length, get_or, length-append}
use Rattle.facts.specs.Read.{accepted, refused}
use Rattle.facts.specs.ReadLaws.{not_refused, made, through}
use Rattle.facts.specs.Lists.{total, At, here, there, All}
use Rattle.facts.specs.ListLaws.{found, at_length, all_at, total_at}
use Rattle.facts.specs.Bytes.{Bytes}
use Rattle.facts.specs.Partial.{Partial, rest, above}
use Rattle.facts.specs.PartialLaws.{inside_at}
use Rattle.facts.specs.WellFormed.{Fits, Values, WfPartial}
use Rattle.taskfile.specs.Task.{Edge, Node, Action, Task, WfNode, max_variables, max_values, max_nodes, max_weight}
use Rattle.taskfile.specs.TaskFile.{read_task, action_of}
use Rattle.taskfile.specs.DiagramReadLaws.{small_at}
use Rattle.compilation.specs.Compile.{flat}
use Rattle.compilation.specs.CompiledLaws.{AcceptedTask, task_accepted}
use Rattle.compilation.specs.CompiledLengthLaws.{values_most}
use Rattle.text.specs.Text.{decimal}
use Rattle.text.specs.Append.{bytes}
use Rattle.text.specs.PrintLaws.{digits_most}
use Rattle.words.specs.Words.{bit_text, facts_text, some_text, partial_text}
use Rattle.words.specs.Show.{variable_text, target_text, edge_text, node_text, action_text, task_text}
use Rattle.words.specs.Dot.{alike, is_among, also_text, dot_arrow, dot_edge, dot_node, dot_entry, dot_end, dot_action, dot_text}
use Rattle.words.specs.DescribeFile.{shown, drawn, drawn_action}
use Rattle.words.specs.LengthLaws.{most_text}

-- ---- parts

-- A number of a variable, a value, an action or a node has at most two digits, a weight at most five.
pub two : (n : ℕ) → n < 100 → length (decimal n) ≤ 2
two n l = digits_most 1 n l

pub five : (n : ℕ) → n ≤ max_weight → length (decimal n) ≤ 5
five n l = digits_most 4 n (omega arith)

-- A row of texts of at most `a` bytes each, and `b` for each of their parts.
flat_most : {A : Type 0} (text : ℕ → A → List ℕ) (a b : ℕ) (parts : A → ℕ) (k : ℕ) (xs : List A)
    → ((j q : ℕ) (x : A) → At xs j x → q ≡ k + j → length (text q x) ≤ a + b * parts x) → length (flat text k xs) ≤ a * length xs + b * total parts xs
flat_most text a b parts k [] h = omega arith
flat_most text a b parts k (x ∷ xs) h =
    omega (
      arith,
      length-append (text k x) (flat text (suc k) xs),
      h 0 k x here (omega arith),
      flat_most text a b parts (suc k) xs (λ j q y o e. h (suc j) q y (there o) (omega arith)),
      mul-suc a (length xs),
      mul-add b (parts x) (total parts xs),
    )

-- A row of texts of at most `a` bytes each.
pub flat_each : {A : Type 0} (text : ℕ → A → List ℕ) (a k : ℕ) (xs : List A) → ((j q : ℕ) (x : A) → At xs j x → q ≡ k + j → length (text q x) ≤ a) → length (flat text k xs) ≤ a * length xs
flat_each text a k xs h = omega (arith, flat_most text a 0 (λ x. 0) k xs (λ j q x o e. omega (arith, h j q x o e)))

-- ---- partial states

-- A fact has at most six bytes, and takes its value.
bit_most : (v b d : ℕ) (values : List ℕ) → v < 100 → d ≤ 100 → Fits b values d → length (bit_text v b values) + 6 * length (rest b values) ≤ 6 * length values
bit_most v zero d values l m h = omega arith
bit_most v (suc b) d [] l m h = absurd h
bit_most v (suc b) d (x ∷ values) l m h = simp length-append (omega (arith, two v l, two x (omega arith)))

-- So there are six bytes for each value, where a variable has at most `most` of them, a hundred at most.
facts_most : {most : ℕ} (sizes : List ℕ) (v : ℕ) (p : Partial) → most ≤ 100 → v + length sizes ≤ 100 → All (λ d. (2 ≤ d) × (d ≤ most)) sizes → Values p sizes → length (facts_text (length sizes) v p) ≤ 6 * length p.values
facts_most [] v p few l small h = omega arith
facts_most (d ∷ sizes) v p few l small h =
    omega (
      arith,
      length-append (bit_text v (p.map % 2) p.values) (facts_text (length sizes) (suc v) (above p)),
      bit_most v (p.map % 2) d p.values (omega arith) (omega (arith, small.0.1)) h.0,
      facts_most sizes (suc v) (above p) few (omega arith) small.1 h.1,
    )

some_most : (b : ℕ) (facts : List ℕ) → length (some_text b facts) ≤ 5 + length facts
some_most zero facts = omega arith
some_most (suc b) facts = omega arith

pub partial_most_lem : {most : ℕ} {sizes : List ℕ} {p : Partial} → most ≤ 100 → length sizes ≤ 100 → All (λ d. (2 ≤ d) × (d ≤ most)) sizes → WfPartial sizes p → length (partial_text (length sizes) p) ≤ 5 + 6 * length p.values
unfolding partial_text
partial_most_lem {sizes = sizes} {p = p} few l small w = omega (arith, some_most p.map (facts_text (length sizes) 0 p), facts_most sizes 0 p few (omega arith) small w.values)

-- ---- in words

target_most : (m target : ℕ) → target < 100 → length (target_text m target) ≤ 7
unfolding target_text
target_most m target l = go (leb target m)
  where
    go : (t : Bool) → length {A = ℕ} (elim t [ true ↦ bytes "node " ++ decimal target | false ↦ bytes "the end" ]) ≤ 7
    go true = omega (arith, two target l)
    go false = omega arith

pub variable_most : (v size value : ℕ) → v < 100 → size < 100 → value < 100 → length (variable_text v size value) ≤ 40
variable_most v size value l m k = simp length-append (omega (arith, two v l, two size m, two value k))

edge_most : (m d : ℕ) (e : Edge) → d < 100 → e.target < 100 → e.weight ≤ max_weight → length (edge_text m d e) ≤ 40
edge_most m d e l k w = simp length-append (omega (arith, two d l, five e.weight w, target_most m e.target k))

-- ---- for Graphviz

also_most : (e : Edge) (d : ℕ) (g : Edge) → d < 100 → length (also_text e d g) ≤ 3
also_most e d g l = go (alike e g)
  where
    go : (t : Bool) → length {A = ℕ} (elim t [ true ↦ bytes "," ++ decimal d | false ↦ [] ]) ≤ 3
    go true = omega (arith, two d l)
    go false = omega arith

-- an arrow with a value for each of its edges
arrow_most : (a i d : ℕ) (e : Edge) (others : List ℕ) → a < 100 → i < 100 → d < 100 → e.target < 100 → e.weight ≤ max_weight → length others ≤ 3 * max_values → length (dot_arrow a i d e others) ≤ 70
arrow_most a i d e others la li ld k w o = simp length-append (omega (arith, two a la, two i li, two d ld, two e.target k, five e.weight w))

same_most : (a i : ℕ) (edges : List Edge) (d : ℕ) (e : Edge) → length edges ≤ max_values → a < 100 → i < 100 → d < max_values → e.target < 100 → e.weight ≤ max_weight → length (dot_edge a i edges d e) ≤ 70
same_most a i edges d e few la li ld k w = go (is_among e (take d edges))
  where
    later : length (drop (suc d) edges) ≤ max_values
    later = omega (arith, length-drop (suc d) edges)

    others : length (flat (also_text e) (suc d) (drop (suc d) edges)) ≤ 3 * max_values
    others = omega (arith, later, flat_each (also_text e) 3 (suc d) (drop (suc d) edges) (λ j q g o s. also_most e q g (omega (arith, at_length o, later))))

    go : (t : Bool) → length {A = ℕ} (elim t [ true ↦ [] | false ↦ dot_arrow a i d e (flat (also_text e) (suc d) (drop (suc d) edges)) ]) ≤ 70
    go true = omega arith
    go false = arrow_most a i d e (flat (also_text e) (suc d) (drop (suc d) edges)) la li (omega arith) k w others

entry_most : (a incoming : ℕ) → a < 100 → incoming ≤ max_weight → length (dot_entry a incoming) ≤ 80
entry_most a incoming l w = simp length-append (omega (arith, two a l, two 1 (omega arith), five incoming w))

terminal_most : (a i : ℕ) → a < 100 → i < 100 → length (dot_end a i) ≤ 40
terminal_most a i l m = simp length-append (omega (arith, two a l, two i m))

-- ---- an action of an accepted task

module _ {t : Task} (ok : AcceptedTask t) where
  -- what its numbers and counts are below
  few_variables : length t.sizes ≤ max_variables
  few_variables = ok.limits.variables

  -- A partial state has at most a fact for each variable.
  state_most : {p : Partial} → WfPartial t.sizes p → length (partial_text (length t.sizes) p) ≤ 5 + 6 * max_variables
  state_most w = omega (arith, few_variables, values_most w, partial_most_lem {most = max_values} (omega arith) (omega (arith, few_variables)) ok.limits.sizes w)

  module _ {a : ℕ} {x : Action} (h : At t.actions a x) where
    pub number_small : a < 100
    number_small = omega (arith, at_length h, ok.limits.actions)

    pub few_nodes : length x.nodes ≤ max_nodes
    few_nodes = omega (arith, total_at (λ (x : Action). length x.nodes) h, ok.limits.nodes)

    module _ {j : ℕ} {nd : Node} (o : At x.nodes j nd) where
      node_wf : WfNode t.sizes x.nodes (suc j) nd
      node_wf = (ok.wf.actions h).nodes o

      pub variable_small : nd.var < 100
      variable_small = omega (arith, node_wf.var_below, few_variables)

      pub few_edges : length nd.edges ≤ max_values
      few_edges = omega (arith, node_wf.edge_count_lem, small_at t.sizes nd.var ok.limits.sizes node_wf.var_below)

      module _ {d : ℕ} {e : Edge} (u : At nd.edges d e) where
        pub value_small : d < 100
        value_small = omega (arith, at_length u, few_edges)

        target_small : e.target < 100
        target_small = omega (arith, (node_wf.edges u).within, few_nodes)

        pub weight_small : e.weight ≤ max_weight
        weight_small = (ok.weights h).edges o u

      -- The node: its edges have 40 bytes each, or 70.
      node_most_lem : (i m : ℕ) → i < 100 → length (node_text m i nd) ≤ 350
      node_most_lem i m l =
          let edges = flat_each (edge_text m) 40 0 nd.edges (λ d q e u s. edge_most m q e (omega (arith, value_small u)) (target_small u) (weight_small u)) in
          simp length-append (omega (arith, two i l, two nd.var variable_small, few_edges, edges))

      vertex_most : (i : ℕ) → i < 100 → length (dot_node a i nd) ≤ 620
      vertex_most i l =
          let edges = flat_each (dot_edge a i nd.edges) 70 0 nd.edges (λ d q e u s. same_most a i nd.edges q e few_edges number_small l (omega (arith, at_length u, few_edges)) (target_small u) (weight_small u)) in
          simp length-append (omega (arith, two a number_small, two i l, two nd.var variable_small, few_edges, edges))

    -- The action.
    action_most_lem : length (action_text (length t.sizes) a x) ≤ 400 + 350 * length x.nodes
    action_most_lem =
        let nodes = flat_each (node_text (length x.nodes)) 350 1 x.nodes (λ j q nd o s. node_most_lem o q (length x.nodes) (omega (arith, at_length o, few_nodes))) in
        simp length-append
        (omega (
          arith,
          two a number_small,
          state_most (ok.wf.actions h).pre,
          state_most (ok.wf.actions h).eff,
          five x.incoming (ok.weights h).incoming,
          target_most (length x.nodes) 1 (omega arith),
          nodes,
        ))

    diagram_most : length (dot_action a x) ≤ 120 + 620 * length x.nodes
    diagram_most =
        let nodes = flat_each (dot_node a) 620 1 x.nodes (λ j q nd o s. vertex_most o q (omega (arith, at_length o, few_nodes))) in
        omega (
          arith,
          length-append (dot_entry a x.incoming) (flat (dot_node a) 1 x.nodes ++ dot_end a (suc (length x.nodes))),
          length-append (flat (dot_node a) 1 x.nodes) (dot_end a (suc (length x.nodes))),
          entry_most a x.incoming number_small (ok.weights h).incoming,
          nodes,
          terminal_most a (suc (length x.nodes)) number_small (omega (arith, few_nodes)),
        )

  -- ---- the task

  -- In words.
  task_most : length (task_text t) ≤ most_text
  unfolding task_text
  task_most =
      let names = flat_each (λ v size. variable_text v size (get_or t.init v 0)) 40 0 t.sizes (λ j q size o e.
      let below : q < length t.sizes = omega (arith, at_length o) in
      let values = all_at (λ d. (2 ≤ d) × (d ≤ max_values)) ok.limits.sizes o in
      let value : get_or t.init q 0 < 100 = omega (arith, inside_at t.sizes t.init q ok.wf.init below, small_at t.sizes q ok.limits.sizes below) in
      variable_most q size (get_or t.init q 0) (omega (arith, few_variables)) (omega (arith, values)) value) in
      let actions = flat_most (action_text (length t.sizes)) 400 350 (λ x. length x.nodes) 0 t.actions (λ j q x o e. let same : j ≡ q = omega arith in subst (λ (k : ℕ). length (action_text (length t.sizes) k x) ≤ 400 + 350 * length x.nodes) same (action_most_lem o)) in
      simp length-append (omega (arith, names, actions, state_most ok.wf.goal, few_variables, ok.limits.actions, ok.limits.nodes))

  -- All cost diagrams.
  drawing_most : length (dot_text 0 t.actions) ≤ most_text
  unfolding dot_text
  drawing_most =
      let actions = flat_most dot_action 120 620 (λ x. length x.nodes) 0 t.actions (λ j q x o e. let same : j ≡ q = omega arith in subst (λ (k : ℕ). length (dot_action k x) ≤ 120 + 620 * length x.nodes) same (diagram_most o)) in
      simp length-append (omega (arith, actions, ok.limits.actions, ok.limits.nodes))

  -- One of them.
  one_drawing_most : {a : ℕ} {x : Action} → At t.actions a x → length (dot_text a (x ∷ [])) ≤ most_text
  unfolding dot_text
  one_drawing_most {a} {x} h =
      omega (arith, length-append (dot_action a x ++ []) (bytes "}\n"), length-append {A = ℕ} (dot_action a x) [], diagram_most h, few_nodes h)

-- ---- the operations, for every file

pub accepted_same : {x y : List ℕ} → accepted x ≡ accepted y → x ≡ y
accepted_same e = cc

action_at_lem : (actions : List Action) (a : ℕ) {x : Action} → action_of actions a ≡ accepted x → At actions a x
unfolding action_of
action_at_lem actions a {x} h = go (slice_get actions a) refl h
  where
    go : (o : Option Action) → slice_get actions a ≡ o → elim o [ None ↦ refused 11 0 | Some y ↦ accepted y ] ≡ accepted x → At actions a x
    go None e h = absurd (not_refused h)
    go (Some y) e h = let same : y ≡ x = cc in found actions a (e ∙ ap Some same)

module _ (f : List ℕ) (b : Bytes f) {text : List ℕ} where
  pub shown_most : shown f ≡ accepted text → length text ≤ most_text
  unfolding shown
  shown_most h = let m = made task_text (read_task f) h in subst (λ (xs : List ℕ). length xs ≤ most_text) m.value (task_most (task_accepted f b m.answer))

  pub drawn_most : drawn f ≡ accepted text → length text ≤ most_text
  unfolding drawn
  drawn_most h = let m = made (λ (t : Task). dot_text 0 t.actions) (read_task f) h in subst (λ (xs : List ℕ). length xs ≤ most_text) m.value (drawing_most (task_accepted f b m.answer))

  pub drawn_action_most : (a : ℕ) → drawn_action f a ≡ accepted text → length text ≤ most_text
  unfolding drawn_action
  drawn_action_most a h =
      let r = through (read_task f) h in
      let x = through (action_of r.got.actions a) r.then in
      subst (λ (xs : List ℕ). length xs ≤ most_text) (accepted_same x.then) (one_drawing_most (task_accepted f b r.first) (action_at_lem r.got.actions a x.first))
