-- `draw::draw_in` meets its contract: the drawing is counted, and then written if there is room.
use mathlib.Core.Path.{◌∙◌}
use Rattle.std.proofs.Common.{rules}
use Rattle.words.proofs.PutsLaws.{counted, too_short, all_written}
use Rattle.draw.proofs.draw_in.Goals as goal

pub returns-then-short-clause-result_value : goal.returns-then-short-clause-result_value
returns-then-short-clause-result_value c = (too_short c.requires.end_len_bound c.new-count.ensures c.put_drawing.ensures c.length-needed.ensures c.args.out.now c.if-short.true).0

pub returns-then-short-clause-out_after : goal.returns-then-short-clause-out_after
returns-then-short-clause-out_after c = (too_short c.requires.end_len_bound c.new-count.ensures c.put_drawing.ensures c.length-needed.ensures c.args.out.now c.if-short.true).1

pub returns-clause-result_value : goal.returns-clause-result_value
returns-clause-result_value c =
    let needed = counted c.requires.end_len_bound c.new-count.ensures c.put_drawing.ensures c.length-needed.ensures in
    (all_written c.requires.end_len_bound c.new-text.ensures c.put_drawing-2.ensures c.length.ensures needed c.if-short.false).0

pub returns-clause-out_after : goal.returns-clause-out_after
returns-clause-out_after c =
    let needed = counted c.requires.end_len_bound c.new-count.ensures c.put_drawing.ensures c.length-needed.ensures in
    search rules ∙ (all_written c.requires.end_len_bound c.new-text.ensures c.put_drawing-2.ensures c.length.ensures needed c.if-short.false).1
