-- Laws of lists made from numbered elements, and how many steps a compiled task has.
use Rattle.std.specs.Prelude.{◌≡◌, refl, ℕ, zero, suc, ◌+◌, ◌*◌, ◌≤◌, ◌<◌, List, [], ◌∷◌, ◌++◌, map, length, get_or}
use Rattle.std.proofs.Common.{ap, ◌∙◌, arith, length-append}
use Rattle.facts.specs.Lists.{total, All, At, here, there}
use Rattle.taskfile.specs.Task.{Node, Action, Task, WfAction, WfTask, Limits}
use Rattle.taskfile.specs.DiagramReadLaws.{Small}
use Rattle.compilation.specs.Compile.{map_from, flat, variables, edge_step, end_step, node_steps, action_steps, steps_of, edge_count, step_count}
use Rattle.probefile.specs.Probe.{max_steps}

-- ---- a property of each element

-- What holds of the element at each index holds of each.
pub at_all : {A : Type 0} (P : A → Type 0) (xs : List A) → ((j : ℕ) (x : A) → At xs j x → P x) → All P xs
at_all P [] h = tt
at_all P (x ∷ xs) h = (h 0 x here, at_all P xs (λ j y a. h (suc j) y (there a)))

-- What holds of each of two lists holds of the joined list.
pub all_append : {A : Type 0} (P : A → Type 0) (xs ys : List A) → All P xs → All P ys → All P (xs ++ ys)
all_append P [] ys h g = g
all_append P (x ∷ xs) ys h g = (h.0, all_append P xs ys h.1 g)

-- What holds of each element's image holds of each image.
pub all_map : {A B : Type 0} (f : A → B) (P : B → Type 0) (xs : List A) → All (λ x. P (f x)) xs → All P (map f xs)
all_map f P [] h = tt
all_map f P (x ∷ xs) h = (h.0, all_map f P xs h.1)

-- What holds of each number of a list holds of the one at an index.
pub all_get_d : (P : ℕ → Type 0) (xs : List ℕ) (v : ℕ) → All P xs → v < length xs → P (get_or xs v 0)
all_get_d P [] v h l = absurd (omega arith)
all_get_d P (d ∷ xs) zero h l = h.0
all_get_d P (d ∷ xs) (suc v) h l = all_get_d P xs v h.1 (omega arith)

-- The image of the element at an index stands at that index.
pub map_at : {A : Type 0} (f : A → ℕ) {xs : List A} {j : ℕ} {x : A} → At xs j x → get_or (map f xs) j 0 ≡ f x
map_at f here = refl
map_at f (there h) = map_at f h

-- What holds of each element's image, by its number, holds of each image.
pub map_from_all : {A B : Type 0} (f : ℕ → A → B) (P : B → Type 0) (k : ℕ) (xs : List A)
    → ((j q : ℕ) (x : A) → At xs j x → q ≡ k + j → P (f q x)) → All P (map_from f k xs)
map_from_all f P k [] h = tt
map_from_all f P k (x ∷ xs) h = (h 0 k x here (omega arith), map_from_all f P (suc k) xs (λ j q y a e. h (suc j) q y (there a) (omega arith)))

-- What holds of all that each element gives, by its number, holds of all that is given.
pub flat_all : {A B : Type 0} (f : ℕ → A → List B) (P : B → Type 0) (k : ℕ) (xs : List A)
    → ((j q : ℕ) (x : A) → At xs j x → q ≡ k + j → All P (f q x)) → All P (flat f k xs)
flat_all f P k [] h = tt
flat_all f P k (x ∷ xs) h =
    all_append P (f k x) (flat f (suc k) xs) (h 0 k x here (omega arith)) (flat_all f P (suc k) xs (λ j q y a e. h (suc j) q y (there a) (omega arith)))

-- ---- sums

-- Larger sizes have a larger sum.
pub total_le : {A : Type 0} (f g : A → ℕ) (xs : List A) → All (λ x. f x ≤ g x) xs → total f xs ≤ total g xs
total_le f g [] h = omega arith
total_le f g (x ∷ xs) h = omega (arith, total_le f g xs h.1)

-- The sum of joined lists is the sum of their sums.
pub total_append : {A : Type 0} (size : A → ℕ) (xs ys : List A) → total size (xs ++ ys) ≡ total size xs + total size ys
total_append size [] ys = omega arith
total_append size (x ∷ xs) ys = omega (arith, total_append size xs ys)

-- ---- how many there are

-- An element gives one image.
pub map_from_length : {A B : Type 0} (f : ℕ → A → B) (k : ℕ) (xs : List A) → length (map_from f k xs) ≡ length xs
map_from_length f k [] = refl
map_from_length f k (x ∷ xs) = ap suc (map_from_length f (suc k) xs)

-- The length of all that is given is the sum of the lengths that each element gives.
pub flat_length : {A B : Type 0} (f : ℕ → A → List B) (size : A → ℕ) → ((k : ℕ) (x : A) → length (f k x) ≡ size x)
    → (k : ℕ) (xs : List A) → length (flat f k xs) ≡ total size xs
flat_length f size len k [] = refl
flat_length f size len k (x ∷ xs) = length-append (f k x) (flat f (suc k) xs) ∙ rw (len k x, flat_length f size len (suc k) xs)

-- A node has a step for each edge.
pub node_length : (n a i : ℕ) (nd : Node) → length (node_steps n a i nd) ≡ edge_count nd
node_length n a i nd = map_from_length (edge_step n a i nd.var) 0 nd.edges

-- The nodes of an action have a step for each edge.
pub nodes_length : (n a : ℕ) (nodes : List Node) → length (flat (node_steps n a) 1 nodes) ≡ total edge_count nodes
nodes_length n a nodes = flat_length (node_steps n a) edge_count (node_length n a) 1 nodes

-- An action has a start, a step for each edge, and an end.
pub action_length : (n a : ℕ) (x : Action) → length (action_steps n a x) ≡ step_count x
action_length n a x = omega (arith, length-append (flat (node_steps n a) 1 x.nodes) (end_step n a x ∷ []), nodes_length n a x.nodes)

-- A task has the steps of its actions.
pub steps_length : (t : Task) → length (steps_of t) ≡ total step_count t.actions
unfolding steps_of
steps_length t = flat_length (action_steps (variables t)) step_count (action_length (variables t)) 0 t.actions

-- ---- at most how many

-- Nodes with at most 8 edges each have at most 8 times as many edges.
pub edges_most : (nodes : List Node) → All (λ nd. edge_count nd ≤ 8) nodes → total edge_count nodes ≤ 8 * length nodes
edges_most [] h = omega arith
edges_most (nd ∷ nodes) h = omega (arith, edges_most nodes h.1)

-- A well-formed action over domains of at most 8 values has at most 8 edges a node.
pub action_edges : {sizes : List ℕ} {x : Action} → Small sizes → WfAction sizes x → total edge_count x.nodes ≤ 8 * length x.nodes
action_edges {sizes} {x} small w =
    edges_most x.nodes (at_all (λ nd. edge_count nd ≤ 8) x.nodes (λ j nd a.
    let v = w.nodes a in
    omega (arith, v.edge_count_lem, all_get_d (λ d. (2 ≤ d) × (d ≤ 8)) sizes nd.var small v.var_below)))

-- Two steps an action and 8 a node, added up.
total_linear : (actions : List Action) → total (λ x. 2 + 8 * length x.nodes) actions ≡ 2 * length actions + 8 * total (λ x. length x.nodes) actions
total_linear [] = refl
total_linear (x ∷ actions) = omega (arith, total_linear actions)

-- A well-formed task inside the limits has at most 576 steps.
pub steps_most : (t : Task) → WfTask t → Limits t → length (steps_of t) ≤ max_steps
steps_most t wf limits =
    omega (arith, steps_length t, total_le step_count (λ x. 2 + 8 * length x.nodes) t.actions (at_all (λ x. step_count x ≤ 2 + 8 * length x.nodes) t.actions (λ a x h. omega (arith, action_edges limits.sizes (wf.actions h)))), total_linear t.actions, limits.nodes, limits.actions)
