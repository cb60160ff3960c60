-- The examples of document 01's table of refusals, checked.
use Rattle.std.specs.Prelude.{◌≡◌, refl}
use Rattle.std.proofs.Common.{arith}
use Rattle.facts.specs.Read.{refused}
use Rattle.taskfile.specs.Examples.{P, P_bytes, P_read, lone_byte_01, P_and_a_byte, first_byte_00, third_byte_02, goal_map_02, node_variable_01, empty_list, list_1, two_byte_state}
use Rattle.relaxation.specs.FileExamples.{two_byte_sets}
use Rattle.probefile.specs.Examples.{list_0_2_3}
use Rattle.compilation.specs.CompileFile.{compile_file}
use Rattle.compilation.specs.Examples.{P_written}
use Rattle.cases.proofs.Table.{row_7_compile, row_8_running}
use Rattle.cases.specs.TableExamples.{TableExamples}

-- ---- the examples, checked

-- P written to 105 bytes, by its row
short : compile_file P_bytes 105 ≡ refused 7 106
short = (row_7_compile P_bytes 105 106).1 (P, P_read, rw P_written (omega arith, refl))

pub table_examples : TableExamples
table_examples = record {
  example_1 = lone_byte_01;
  example_2 = P_and_a_byte;
  example_3 = first_byte_00;
  example_4 = third_byte_02;
  example_5 = goal_map_02;
  example_6 = node_variable_01;
  example_7 = short;
  example_8 = λ list e. (row_8_running P_bytes list 256).1 (P, P_read, (omega arith, refl));
  example_9 = list_0_2_3;
  example_10 = empty_list;
  example_11 = list_1;
  example_12 = λ x y. (two_byte_state x y, two_byte_sets x y);
}
