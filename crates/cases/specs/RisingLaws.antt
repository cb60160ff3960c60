-- Laws of the variables along edges: refusal 6 is given at the first target byte whose node's variable is not above its parent's, and no other is.
use Rattle.std.specs.Prelude.{◌≡◌, refl, ℕ, suc, ◌+◌, ◌*◌, ◌≤◌, List, [], ◌∷◌, ltb, take}
use Rattle.std.proofs.Common.{ap, subst, arith, ltb-true, ltb-false, lt-ltb, le-ltb}
use Rattle.facts.specs.Read.{accepted, refused, check}
use Rattle.facts.specs.ReadLaws.{through, checked}
use Rattle.facts.specs.Lists.{total, All, At, here, there}
use Rattle.taskfile.specs.Task.{Edge, Node, level}
use Rattle.taskfile.specs.TaskFile.{edge_bytes, node_bytes, check_targets, check_rising}
use Rattle.cases.specs.TaskSites.{Above, EdgeFalls, NodeFalls}
use Rattle.cases.specs.SiteLaws.{first, after, stops, not_accepted, failed}

module _ (sizes : List ℕ) (nodes : List Node) where
  targets_rise_lem : (v : ℕ) (edges : List Edge) (at : ℕ) {u : Unit {0}} → check_targets sizes nodes v edges at ≡ accepted u → All (Above sizes nodes v) edges
  targets_rise_lem v [] at h = tt
  targets_rise_lem v (e ∷ edges) at h =
      let l = level sizes nodes e.target in
      let o = through (check (ltb v l) 6 at) h in
      (ltb-true v l (checked (ltb v l) 6 at o.first), targets_rise_lem v edges (at + edge_bytes) o.then)

  targets_accepted : (v : ℕ) (edges : List Edge) (at : ℕ) → All (Above sizes nodes v) edges → check_targets sizes nodes v edges at ≡ accepted tt
  targets_accepted v [] at h = refl
  targets_accepted v (e ∷ edges) at h = rw (lt-ltb v (level sizes nodes e.target) h.0, targets_accepted v edges (at + edge_bytes) h.1)

  targets_found : (v : ℕ) (edges : List Edge) (at : ℕ) {n p : ℕ} → check_targets sizes nodes v edges at ≡ refused n p → (n ≡ 6) × EdgeFalls sizes nodes v edges at p
  targets_found v [] at h = absurd (not_accepted h)
  targets_found v (e ∷ edges) at h =
      let l = level sizes nodes e.target in
      elim (stops (check (ltb v l) 6 at) h) [
        | first g ↦
            let q = failed (ltb v l) 6 at g in
            (q.1, record { d = 0; edge = e; stands = here; before = tt; low = ltb-false v l q.0; place = omega (arith, q.2) })
        | after u a g ↦
            let q = targets_found v edges (at + edge_bytes) g in
            let r = q.1 in
            (q.0, record { d = suc r.d; edge = r.edge; stands = there r.stands; before = (ltb-true v l (checked (ltb v l) 6 at a), r.before); low = r.low; place = omega (arith, r.place) })
      ]

  targets_refused : (v : ℕ) {edges : List Edge} (at : ℕ) {d p : ℕ} {e : Edge} → At edges d e → All (Above sizes nodes v) (take d edges) → level sizes nodes e.target ≤ v → p ≡ at + edge_bytes * d
      → check_targets sizes nodes v edges at ≡ refused 6 p
  targets_refused v at {p = p} (here {x = e}) h l q = rw (le-ltb v (level sizes nodes e.target) l) (ap (refused 6) (omega arith))
  targets_refused v at (there {y = e} s) h l q = rw (lt-ltb v (level sizes nodes e.target) h.0) (targets_refused v (at + edge_bytes) s h.1 l (omega arith))

  pub rising_found : (left : List Node) (at : ℕ) {n p : ℕ} → check_rising sizes nodes left at ≡ refused n p → (n ≡ 6) × NodeFalls sizes nodes left at p
  rising_found [] at h = absurd (not_accepted h)
  rising_found (nd ∷ left) at {p = p} h = elim (stops (check_targets sizes nodes nd.var nd.edges (at + 1)) h) [
    | first g ↦
        let q = targets_found nd.var nd.edges (at + 1) g in
        (q.0, record { j = 0; node = nd; stands = here; before = tt; edge = q.1 })
    | after u a g ↦
        let q = rising_found left (at + node_bytes nd) g in
        let r = q.1 in
        let place : at + node_bytes nd + (total node_bytes (take r.j left) + 1) ≡ at + (node_bytes nd + total node_bytes (take r.j left) + 1) = omega arith in (
          q.0,
          record {
            j = suc r.j;
            node = r.node;
            stands = there r.stands;
            before = (targets_rise_lem nd.var nd.edges (at + 1) a, r.before);
            edge = subst (λ (o : ℕ). EdgeFalls sizes nodes r.node.var r.node.edges o p) place r.edge;
          },
        )
  ]

  pub rising_refused : {left : List Node} (at : ℕ) {j p : ℕ} {nd : Node} {from : ℕ} → At left j nd → All (λ nd. All (Above sizes nodes nd.var) nd.edges) (take j left)
      → from ≡ at + (total node_bytes (take j left) + 1) → EdgeFalls sizes nodes nd.var nd.edges from p → check_rising sizes nodes left at ≡ refused 6 p
  rising_refused at {p = p} (here {x = nd}) h e r =
      let place : p ≡ at + 1 + edge_bytes * r.d = omega (arith, r.place) in
      rw (targets_refused nd.var (at + 1) r.stands r.before r.low place)
  rising_refused at (there {y = nd} s) h e r = rw (targets_accepted nd.var nd.edges (at + 1) h.0) (rising_refused (at + node_bytes nd) s h.1 (omega arith) r)
