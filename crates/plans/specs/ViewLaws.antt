-- The steps of a compiled task by their numbers: each is the start, an edge or the end of an action, and each of these has its number.
use Rattle.std.specs.Prelude.{◌≡◌, refl, ℕ, suc, ◌+◌, List, [], ◌∷◌, take}
use Rattle.std.proofs.Common.{sym, ap, ◌∙◌, subst, inl, inr, arith}
use Rattle.facts.specs.Lists.{total, At, here, there}
use Rattle.facts.specs.ListLaws.{at_none}
use Rattle.taskfile.specs.Task.{Edge, Node, Action, Task}
use Rattle.probefile.specs.Probe.{Step}
use Rattle.compilation.specs.Compile.{flat, variables, start_step, edge_step, end_step, node_steps, action_steps, steps_of, edge_count, step_count}
use Rattle.compilation.specs.StepLaws.{node_length, nodes_length, action_length}
use Rattle.plans.specs.Carry.{first_step_of}
use Rattle.plans.specs.ListLaws.{at_left, at_right, at_split, map_from_at, map_from_inv, flat_at, flat_inv}

-- the number of the edge for value d of the node at index j of action a, which is x
abbrev pub edge_number : List Action → ℕ → Action → ℕ → ℕ → ℕ
edge_number actions a x j d = suc (first_step_of actions a) + (total edge_count (take j x.nodes) + d)

-- the number of the end of action a, which is x
abbrev pub end_number : List Action → ℕ → Action → ℕ
end_number actions a x = suc (first_step_of actions a) + total edge_count x.nodes

module _ (t : Task) where
  -- the number of variables
  abbrev n : ℕ
  n = variables t

  -- ---- from an action's step to its number

  step_at_lem : {a : ℕ} {x : Action} {i : ℕ} {st : Step} (r : ℕ) → At t.actions a x → At (action_steps n a x) i st → r ≡ first_step_of t.actions a + i → At (steps_of t) r st
  unfolding steps_of
  step_at_lem {a} r h g e = flat_at (action_steps n) step_count (action_length n) 0 a r h g (omega arith) e

  pub start_at : {a : ℕ} {x : Action} → At t.actions a x → At (steps_of t) (first_step_of t.actions a) (start_step n a x)
  start_at {a} h = step_at_lem (first_step_of t.actions a) h here (omega arith)

  pub edge_at_lem : {a : ℕ} {x : Action} {j : ℕ} {nd : Node} {d : ℕ} {e : Edge} → At t.actions a x → At x.nodes j nd → At nd.edges d e
      → At (steps_of t) (edge_number t.actions a x j d) (edge_step n a (suc j) nd.var d e)
  edge_at_lem {a} {x} {j} {nd} {d} h g f =
      let inner = map_from_at (edge_step n a (suc j) nd.var) 0 d f (omega arith) in
      step_at_lem (edge_number t.actions a x j d) h
      (there (at_left (end_step n a x ∷ []) (flat_at (node_steps n a) edge_count (node_length n a) 1 (suc j) (total edge_count (take j x.nodes) + d) g inner (omega arith) refl))) (omega arith)

  pub end_at_lem : {a : ℕ} {x : Action} → At t.actions a x → At (steps_of t) (end_number t.actions a x) (end_step n a x)
  end_at_lem {a} {x} h = step_at_lem (end_number t.actions a x) h (there (at_right (flat (node_steps n a) 1 x.nodes) here refl)) (omega (arith, nodes_length n a x.nodes))

  -- ---- from a number to the step

  -- step number r is a start, an edge or an end
  pub data View (r : ℕ) : Step → Type 0 where
    is_start : {a : ℕ} {x : Action} → At t.actions a x → r ≡ first_step_of t.actions a → View r (start_step n a x)
    is_edge : {a : ℕ} {x : Action} {j : ℕ} {nd : Node} {d : ℕ} {e : Edge} → At t.actions a x → At x.nodes j nd → At nd.edges d e
        → r ≡ edge_number t.actions a x j d → View r (edge_step n a (suc j) nd.var d e)
    is_end : {a : ℕ} {x : Action} → At t.actions a x → r ≡ end_number t.actions a x → View r (end_step n a x)

  node_view : {a : ℕ} {x : Action} {j q : ℕ} {nd : Node} {d r : ℕ} {st : Step} → At t.actions a x → At x.nodes j nd → At (node_steps n a q nd) d st → q ≡ suc j
      → r ≡ edge_number t.actions a x j d → View r st
  node_view {a} {q = q} {nd = nd} {d = d} {r = r} h g f p e =
      let w = map_from_inv (edge_step n a q nd.var) 0 d nd.edges f (omega arith) in
      subst (λ (z : Step). View r z) (ap (λ (i : ℕ). edge_step n a i nd.var d w.0) (sym p) ∙ w.2) (is_edge h g w.1 e)

  last_view : {a : ℕ} {x : Action} {k r : ℕ} {st : Step} → At t.actions a x → At (end_step n a x ∷ []) k st → r ≡ end_number t.actions a x + k → View r st
  last_view h here e = is_end h (omega arith)
  last_view h (there g) e = absurd (at_none g)

  inner_view : {a : ℕ} {x : Action} {i r : ℕ} {st : Step} → At t.actions a x → At (action_steps n a x) i st → r ≡ first_step_of t.actions a + i → View r st
  inner_view h here e = is_start h (omega arith)
  inner_view {a} {x} h (there g) e =
      elim (at_split (flat (node_steps n a) 1 x.nodes) (end_step n a x ∷ []) g) [
        | inl f ↦
            let o = flat_inv (node_steps n a) edge_count (node_length n a) 1 x.nodes f in
            node_view h o.element o.inner (omega (arith, o.number)) (omega (arith, o.place))
        | inr f ↦ last_view h f.2 (omega (arith, nodes_length n a x.nodes))
      ]

  pub view : {r : ℕ} {st : Step} → At (steps_of t) r st → View r st
  unfolding steps_of
  view h =
      let o = flat_inv (action_steps n) step_count (action_length n) 0 t.actions h in
      let q : o.q ≡ o.j = omega (arith, o.number) in
      inner_view o.element (rw q at o.inner) o.place
