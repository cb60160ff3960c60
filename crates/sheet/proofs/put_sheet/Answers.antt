-- `sheet::put_sheet` meets its contract: a buffer that is too short, or the text.
use Prim.Native.Nat.{◌+◌, ◌*◌}
use mathlib.Core.Path.{◌≡◌, refl, sym}
use mathlib.Core.List.{◌++◌}
use lib.ListN.{length}
use Rattle.carry.specs.AnswerLaws.{short_in, wrote_in}
use Rattle.line_writer.specs.Lines.{last_text, lines_text, entries_from}
use Rattle.line_writer.specs.Columns.{line_bytes}
use Rattle.line_writer.specs.EntryLaws.{text_long}
use native.Mathlib.Omega.{arith}
use Rattle.sheet.proofs.put_sheet.Goals as goal
use Rattle.sheet.proofs.put_sheet.Goals.{Start}

-- how long the sheet is
long : (c : goal.Start) → length (lines_text (entries_from 0 0 c.args.list.now c.args.costs.now) ++ last_text c.args.sum) ≡ line_bytes * (length c.args.list.now + 1)
long c = text_long c.args.list.now c.args.costs.now c.requires.all c.requires.narrow c.requires.small

pub returns-then-out-needed-clause-result_value : goal.returns-then-out-needed-clause-result_value
returns-then-out-needed-clause-result_value c = (short_in {c = c.args.sum} refl c.args.out.now (sym (long (goal.at.returns-then-out-needed-clause-result_value c).Start)) c.if-out-needed.true).0

pub returns-then-out-needed-clause-out_after : goal.returns-then-out-needed-clause-out_after
returns-then-out-needed-clause-out_after c = (short_in {c = c.args.sum} refl c.args.out.now (sym (long (goal.at.returns-then-out-needed-clause-out_after c).Start)) c.if-out-needed.true).1

pub returns-clause-result_value : goal.returns-clause-result_value
returns-clause-result_value c = (wrote_in {c = c.args.sum} refl (omega (arith, long (goal.at.returns-clause-result_value c).Start, c.if-out-needed.false)) (record { count = sym (long (goal.at.returns-clause-result_value c).Start); buffer = c.put_text.ensures.buffer })).0

pub returns-clause-out_after : goal.returns-clause-out_after
returns-clause-out_after c = (wrote_in {c = c.args.sum} refl (omega (arith, long (goal.at.returns-clause-out_after c).Start, c.if-out-needed.false)) (record { count = sym (long (goal.at.returns-clause-out_after c).Start); buffer = c.put_text.ensures.buffer })).1
