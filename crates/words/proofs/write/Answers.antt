-- `words::write` meets its contract: the text is counted, and then written if there is room.
use mathlib.Core.Path.{◌∙◌}
use Rattle.std.proofs.Common.{rules}
use Rattle.words.proofs.PutsLaws.{counted, too_short, all_written}
use Rattle.words.proofs.write.Goals as goal

pub returns-then-short-clause-answered : goal.returns-then-short-clause-answered
returns-then-short-clause-answered g c text p = (too_short p.few c.new-count.ensures (p.each _ _ c.put.ensures) c.length-needed.ensures c.args.out.now c.if-short.true).0

pub returns-then-short-clause-written : goal.returns-then-short-clause-written
returns-then-short-clause-written g c text p = (too_short p.few c.new-count.ensures (p.each _ _ c.put.ensures) c.length-needed.ensures c.args.out.now c.if-short.true).1

pub returns-clause-answered : goal.returns-clause-answered
returns-clause-answered g c text p =
    let needed = counted p.few c.new-count.ensures (p.each _ _ c.put.ensures) c.length-needed.ensures in
    (all_written p.few c.new-text.ensures (p.each _ _ c.put-2.ensures) c.length.ensures needed c.if-short.false).0

pub returns-clause-written : goal.returns-clause-written
returns-clause-written g c text p =
    let needed = counted p.few c.new-count.ensures (p.each _ _ c.put.ensures) c.length-needed.ensures in
    search rules ∙ (all_written p.few c.new-text.ensures (p.each _ _ c.put-2.ensures) c.length.ensures needed c.if-short.false).1
