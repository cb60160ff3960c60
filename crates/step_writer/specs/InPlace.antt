-- The parts of a task in place: what code writes steps from that goes over the bytes of an accepted file, without reading it into values.
use Rattle.std.specs.Prelude.{◌≡◌, ℕ, suc, ◌+◌, ◌≤◌, List, ◌++◌, length}
use Rattle.facts.specs.Partial.{Partial, partial_at, empty}
use Rattle.facts.specs.Fields.{word_at}
use Rattle.taskfile.specs.Task.{max_nodes}
use Rattle.taskfile.specs.WalkInPlace.{incoming_place, node_count}
use Rattle.probefile.specs.Probe.{Step}
use Rattle.compilation.specs.Extend.{extend}
use Rattle.compilation.specs.Compile.{marker}

-- p with further facts, whose bits and values these are
abbrev pub widened : Partial → ℕ → List ℕ → Partial
widened p bits values = record { map = p.map + bits; values = p.values ++ values }

-- the file f
module _ (f : List ℕ) where
  -- the start of action a, at an offset, in a task with n variables, and its end, whose effect stands at an offset; the diagram has `count` nodes
  abbrev pub start_in : ℕ → ℕ → ℕ → Step
  start_in n a at = record {
    pre = extend (extend (partial_at f at) n 0) (marker n a) 0;
    eff = extend (extend empty n 1) (marker n a) 1;
    cost = word_at f (incoming_place f at);
  }

  abbrev pub end_in : ℕ → ℕ → ℕ → ℕ → Step
  end_in n a effect count = record {
    pre = extend empty (marker n a) (suc count);
    eff = extend (extend (partial_at f effect) n 0) (marker n a) 0;
    cost = 0;
  }

  -- the incoming weight of the action at an offset stands at `incoming`, within the file, and the action has not too many nodes
  pub record Weighs (at incoming : ℕ) : Type 0 where
    pub place : incoming ≡ incoming_place f at
    pub fits : incoming ≤ length f
    pub few : node_count f at ≤ max_nodes
