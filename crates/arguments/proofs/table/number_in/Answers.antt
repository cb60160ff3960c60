-- `arguments::table::number_in` meets its contract: word after word is another, up to the one that is looked for. Assumes nothing.
use mathlib.Core.Path.{sym, ◌∙◌}
use mathlib.Core.Bool.{true≢false}
use lib.Pointwise.{bytes_decides}
use Rattle.arguments.specs.TableLaws.{looking_start, looking_byte, looking_found, looking_other}
use Rattle.arguments.proofs.table.number_in.Goals as goal

pub loop-at-init : goal.loop-at-init
loop-at-init c = looking_start _ _

pub loop-at-preserved-then-table-at-ne32 : goal.loop-at-preserved-then-table-at-ne32
loop-at-preserved-then-table-at-ne32 c = looking_byte c.loop-at.invariant c.loop-at-test.true c.if-table-at-ne32.true

pub returns-then-eq : goal.returns-then-eq
returns-then-eq c = looking_found c.loop-at.invariant c.loop-at-test.true c.if-table-at-ne32.false ((bytes_decides _ _).0 (sym c.eq.ensures ∙ c.if-eq.true))

pub loop-at-preserved : goal.loop-at-preserved
loop-at-preserved c = looking_other c.loop-at.invariant c.loop-at-test.true c.if-table-at-ne32.false (λ e. true≢false (sym ((bytes_decides _ _).1 e) ∙ (sym c.eq.ensures ∙ c.if-eq.false)))
