-- Task P of document 01 and a task of two variables and two actions in words, and their cost diagrams; and the blank task of document 02.
use Rattle.std.specs.Prelude.{◌≡◌, refl, List, [], ◌∷◌, ◌++◌}
use Rattle.facts.specs.Read.{accepted, refused}
use Rattle.facts.specs.Write.{over, fitting, length_in, written_in}
use Rattle.taskfile.specs.Task.{Edge, Task}
use Rattle.taskfile.specs.TaskFile.{read_task}
use Rattle.compilation.specs.Compile.{flat}
use Rattle.text.specs.Text.{decimal}
use Rattle.text.specs.Append.{bytes}
use Rattle.words.specs.Words.{partial_text}
use Rattle.words.specs.Show.{target_text, task_text}
use Rattle.words.specs.Dot.{dot_edge, dot_text}
use Rattle.words.specs.DescribeFile.{shown, drawn}

-- task P
abbrev pub task_p : Task
task_p = record {
  sizes = 2 ∷ [];
  init = 0 ∷ [];
  goal = record { map = 1; values = 1 ∷ [] };
  actions =
      record {
        pre = record { map = 0; values = [] };
        eff = record { map = 1; values = 1 ∷ [] };
        incoming = 3;
        nodes = record { var = 0; edges = record { target = 2; weight = 5 } ∷ record { target = 2; weight = 0 } ∷ [] } ∷ [];
      }
      ∷ [];
}

in_words : task_text task_p ≡ bytes "variable 0: 2 values, starts at 0\ngoal: 0=1\naction 0\n  precondition: none\n  effect: 0=1\n  cost: 3, then node 1\n  node 1 tests variable 0\n    value 0 adds 5, then the end\n    value 1 adds 0, then the end\n"
unfolding task_text partial_text target_text decimal
in_words = refl

drawing : dot_text 0 task_p.actions ≡ bytes "digraph costs {\n  a0 [shape=plaintext, label=\"action 0\"];\n  a0 -> a0n1 [label=\" +3 \"];\n  a0n1 [label=\"node 1\\nvariable 0\"];\n  a0n1 -> a0n2 [label=\" 0: +5 \"];\n  a0n1 -> a0n2 [label=\" 1: +0 \"];\n  a0n2 [shape=box, label=\"end\"];\n}\n"
unfolding dot_text decimal
drawing = refl

-- two variables and two actions, each with a number of its own in every place
abbrev pub task_two : Task
task_two = record {
  sizes = 2 ∷ 3 ∷ [];
  init = 0 ∷ 2 ∷ [];
  goal = record { map = 3; values = 1 ∷ 0 ∷ [] };
  actions =
      record {
        pre = record { map = 2; values = 2 ∷ [] };
        eff = record { map = 1; values = 1 ∷ [] };
        incoming = 3;
        nodes =
            record { var = 0; edges = record { target = 2; weight = 5 } ∷ record { target = 3; weight = 0 } ∷ [] }
            ∷ record { var = 1; edges = record { target = 3; weight = 0 } ∷ record { target = 3; weight = 1 } ∷ record { target = 3; weight = 7 } ∷ [] }
            ∷ [];
      }
      ∷ record {
        pre = record { map = 0; values = [] };
        eff = record { map = 2; values = 0 ∷ [] };
        incoming = 10;
        nodes = record { var = 1; edges = record { target = 2; weight = 4 } ∷ record { target = 2; weight = 0 } ∷ record { target = 2; weight = 12 } ∷ [] } ∷ [];
      }
      ∷ [];
}

two_in_words : task_text task_two ≡ bytes "variable 0: 2 values, starts at 0\nvariable 1: 3 values, starts at 2\ngoal: 0=1 1=0\naction 0\n  precondition: 1=2\n  effect: 0=1\n  cost: 3, then node 1\n  node 1 tests variable 0\n    value 0 adds 5, then node 2\n    value 1 adds 0, then the end\n  node 2 tests variable 1\n    value 0 adds 0, then the end\n    value 1 adds 1, then the end\n    value 2 adds 7, then the end\naction 1\n  precondition: none\n  effect: 1=0\n  cost: 10, then node 1\n  node 1 tests variable 1\n    value 0 adds 4, then the end\n    value 1 adds 0, then the end\n    value 2 adds 12, then the end\n"
unfolding task_text partial_text target_text decimal
two_in_words = refl

two_drawn : dot_text 0 task_two.actions ≡ bytes "digraph costs {\n  a0 [shape=plaintext, label=\"action 0\"];\n  a0 -> a0n1 [label=\" +3 \"];\n  a0n1 [label=\"node 1\\nvariable 0\"];\n  a0n1 -> a0n2 [label=\" 0: +5 \"];\n  a0n1 -> a0n3 [label=\" 1: +0 \"];\n  a0n2 [label=\"node 2\\nvariable 1\"];\n  a0n2 -> a0n3 [label=\" 0: +0 \"];\n  a0n2 -> a0n3 [label=\" 1: +1 \"];\n  a0n2 -> a0n3 [label=\" 2: +7 \"];\n  a0n3 [shape=box, label=\"end\"];\n  a1 [shape=plaintext, label=\"action 1\"];\n  a1 -> a1n1 [label=\" +10 \"];\n  a1n1 [label=\"node 1\\nvariable 1\"];\n  a1n1 -> a1n2 [label=\" 0: +4 \"];\n  a1n1 -> a1n2 [label=\" 1: +0 \"];\n  a1n1 -> a1n2 [label=\" 2: +12 \"];\n  a1n2 [shape=box, label=\"end\"];\n}\n"
unfolding dot_text decimal
two_drawn = refl

-- the edges of the values 0 and 2 lead to the same node with the same weight, the other two agree with them in one of both
abbrev four_edges : List Edge
four_edges = record { target = 2; weight = 0 } ∷ record { target = 3; weight = 0 } ∷ record { target = 2; weight = 0 } ∷ record { target = 2; weight = 7 } ∷ []

as_one_arrow : flat (dot_edge 0 1 four_edges) 0 four_edges ≡ bytes "  a0n1 -> a0n2 [label=\" 0,2: +0 \"];\n  a0n1 -> a0n3 [label=\" 1: +0 \"];\n  a0n1 -> a0n2 [label=\" 3: +7 \"];\n"
unfolding decimal
as_one_arrow = refl

-- a text in a buffer that is shorter, and in one that is longer
short : length_in 3 (accepted (bytes "text")) ≡ refused 7 4
unfolding length_in
short = refl

not_cut : written_in (9 ∷ 9 ∷ 9 ∷ []) (accepted (bytes "text")) ≡ 9 ∷ 9 ∷ 9 ∷ []
unfolding written_in over fitting
not_cut = refl

at_the_front : written_in (9 ∷ 9 ∷ 9 ∷ 9 ∷ 9 ∷ []) (accepted (bytes "text")) ≡ bytes "text" ++ (9 ∷ [])
unfolding written_in over fitting
at_the_front = refl

-- ---- the blank task, which has no actions

blank_in_words : shown [] ≡ accepted (bytes "variable 0: 2 values, starts at 0\ngoal: none\n")
unfolding shown read_task task_text partial_text decimal
blank_in_words = refl

blank_drawn : drawn [] ≡ accepted (bytes "digraph costs {\n}\n")
unfolding drawn read_task dot_text
blank_drawn = refl
