-- Document 02's example of a sheet, and others on task P of document 01, computed.
use Rattle.std.specs.Prelude.{◌≡◌, refl, [], ◌∷◌, set, replicate}
use Rattle.facts.specs.Read.{accepted, refused}
use Rattle.facts.specs.Write.{over, fitting, length_in, written_in}
use Rattle.taskfile.specs.Examples.{answering, P_bytes}
use Rattle.carry.specs.CarryFile.{answer_in, buffer_in}
use Rattle.text.specs.Text.{decimal}
use Rattle.text.specs.Append.{bytes}
use Rattle.line_writer.specs.Lines.{field, line_text, last_text}
use Rattle.sheet.specs.Sheet.{costs, sheet_text}
use Rattle.sheet.specs.SheetFile.{sheet_of}

writing : Unit {0}
unfolding answering decimal field line_text last_text costs sheet_text sheet_of over fitting length_in written_in answer_in
writing = tt

-- "List 0 on P prints `  0  0       8         8`, then `sum                    8`."
list_0 : sheet_of P_bytes (0 ∷ []) ≡ accepted (bytes "  0  0       8         8\nsum                    8\n", 8)
unfolding writing
list_0 = refl

-- "An empty plan prints that line alone.": P with the initial value 1, where the goal holds at the start, and the blank task
empty_plan : sheet_of (set P_bytes 2 1) [] ≡ accepted (bytes "sum                    0\n", 0)
unfolding writing
empty_plan = refl

blank_plan : sheet_of [] [] ≡ accepted (bytes "sum                    0\n", 0)
unfolding writing
blank_plan = refl

-- a plan of three actions: P's action costs 8 where the variable is 0, and 3 where it is 1
list_0_0_0 : sheet_of P_bytes (0 ∷ 0 ∷ 0 ∷ []) ≡ accepted (bytes "  0  0       8         8\n  1  0       3        11\n  2  0       3        14\nsum                   14\n", 14)
unfolding writing
list_0_0_0 = refl

-- the widest line: the last index, the last action, the dearest cost and the largest sum fill their fields
widest_line : line_text (record { index = 255; action = 31; cost = 1638375; sum = 419424000 }) ≡ bytes "255 31 1638375 419424000\n"
unfolding writing
widest_line = refl

-- refused as in a run
no_plan : sheet_of P_bytes [] ≡ refused 10 0
unfolding writing
no_plan = refl

no_action : sheet_of P_bytes (0 ∷ 1 ∷ []) ≡ refused 11 1
unfolding writing
no_action = refl

long_list : sheet_of P_bytes (replicate 257 0) ≡ refused 8 256
unfolding writing
long_list = refl

-- a buffer that is one byte short, and one of two bytes more than are needed
one_byte_short : answer_in 49 (sheet_of P_bytes (0 ∷ [])) ≡ refused 7 50
unfolding writing
one_byte_short = refl

two_more : buffer_in (replicate 52 7) (sheet_of P_bytes (0 ∷ [])) ≡ bytes "  0  0       8         8\nsum                    8\n\u{7}\u{7}"
unfolding writing
two_more = refl
