-- `steps::find::find_in_nodes` meets its contract: one node after the other, the steps that are passed taken off.
use Prim.Native.Nat.{ℕ, ◌+◌}
use mathlib.Core.Path.{◌≡◌, sym, ap, ◌∙◌}
use Rattle.taskfile.specs.PartsInPlace.{node_in}
use Rattle.steps.specs.Steps.{node_names}
use Rattle.steps.specs.Seek.{seek}
use Rattle.steps.specs.SeekLaws.{seeking_start, seeking_found, seeking_on, seeking_past}
use Rattle.steps.proofs.find.find_in_nodes.Goals as goal
use Rattle.steps.proofs.find.find_in_nodes.Goals.{After-find_in_node}
use Rattle.steps.proofs.find.find_in_nodes.Invariants.{part}

-- the node in place is the row's
same : (c : goal.After-find_in_node) → let x = c.args in seek (part x.file.now x.sizes.now x.nodes.now x.a c.loop-j.j) c.loop-j.left ≡ seek (node_names x.a (1 + c.loop-j.j) (node_in x.file.now x.sizes.now c.offset_at.result)) c.loop-j.left
same c = let x = c.args in sym (ap (λ (node : ℕ). seek (node_names x.a (1 + c.loop-j.j) (node_in x.file.now x.sizes.now node)) c.loop-j.left) c.offset_at.ensures)

pub loop-j-init : goal.loop-j-init
loop-j-init c = seeking_start _ _ _

pub returns-in-Ok : goal.returns-in-Ok
returns-in-Ok c = seeking_found c.loop-j.invariant c.loop-j-test.true (same (goal.at.returns-in-Ok c).After-find_in_node ∙ sym c.in-Ok.ensures)

pub loop-j-preserved : goal.loop-j-preserved
loop-j-preserved c = seeking_on c.loop-j.invariant c.loop-j-test.true (same (goal.at.loop-j-preserved c).After-find_in_node ∙ sym c.in-Err.ensures)

pub returns : goal.returns
returns c = seeking_past c.loop-j.invariant c.loop-j-test.false
