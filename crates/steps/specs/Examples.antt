-- The steps of task P of document 01.
use Rattle.std.specs.Prelude.{◌≡◌, refl, [], ◌∷◌}
use Rattle.facts.specs.Read.{refused}
use Rattle.text.specs.Text.{decimal}
use Rattle.text.specs.Append.{bytes}
use Rattle.words.specs.Examples.{task_p}
use Rattle.steps.specs.Steps.{start, node, end, names_of, name_text, check_steps}

-- each with its cost
names : names_of task_p ≡ record { name = start 0; cost = 3 } ∷ record { name = node 0 1 0 0; cost = 5 } ∷ record { name = node 0 1 0 1; cost = 0 } ∷ record { name = end 0; cost = 0 } ∷ []
unfolding names_of
names = refl

in_words : name_text (node 10 1 0 2) ≡ bytes "action 10, node 1 at variable 0 = 2"
unfolding decimal
in_words = refl

no_step : check_steps (names_of task_p) 0 (0 ∷ 4 ∷ []) ≡ refused 11 1
unfolding names_of
no_step = refl
