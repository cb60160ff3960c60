-- How long the name of a step is, and how much it costs, in every accepted task.
use Rattle.std.specs.Prelude.{◌≤◌, ◌≡◌, [], ◌∷◌, length}
use Rattle.std.proofs.Common.{arith, length-append}
use Rattle.facts.specs.Lists.{All}
use Rattle.facts.specs.ListLaws.{at_length}
use Rattle.taskfile.specs.Task.{Edge, Task, max_weight}
use Rattle.compilation.specs.Compile.{flat}
use Rattle.compilation.specs.CompiledLaws.{AcceptedTask}
use Rattle.compilation.specs.StepLaws.{all_append, map_from_all, flat_all}
use Rattle.words.proofs.LengthLaws.{two, number_small, few_nodes, variable_small, value_small, weight_small}
use Rattle.steps.specs.Steps.{node, end, Named, node_names, action_names, names_of, name_text}

-- its name in words is short, and its cost has two bytes
pub record Brief (x : Named) : Type 0 where
  pub name : length (name_text x.name) ≤ 40
  pub cost : x.cost ≤ max_weight

-- The steps of an accepted task are.
pub brief_names : {t : Task} → AcceptedTask t → All Brief (names_of t)
unfolding names_of
brief_names {t} ok = flat_all action_names Brief 0 t.actions (λ b a x h e.
    let same : b ≡ a = omega arith in
    let small = two a (omega (arith, number_small ok h)) in
    let last : Brief (record { name = end a; cost = 0 }) = record { name = omega (arith, small); cost = omega arith } in
    let nodes = flat_all (node_names a) Brief 1 x.nodes (λ j i nd o s.
    map_from_all (λ d (e : Edge). record { name = node a i nd.var d; cost = e.weight }) Brief 0 nd.edges (λ c d e u r. record {
      name = simp length-append (omega (arith, small, two i (omega (arith, at_length o, few_nodes ok h)), two nd.var (variable_small ok h o), two d (omega (arith, value_small ok h o u))));
      cost = weight_small ok h o u;
    })) in
    (record { name = omega (arith, small); cost = (ok.weights h).incoming }, all_append Brief (flat (node_names a) 1 x.nodes) (record { name = end a; cost = 0 } ∷ []) nodes (last, tt)))
