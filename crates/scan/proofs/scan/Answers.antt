-- `scan::scan` meets its contract: one number after the other is counted. Assumes nothing.
use Rattle.text.specs.TokenLaws.{counting_start}
use Rattle.scan.proofs.scan.Goals as goal

pub loop-end-init : goal.loop-end-init
loop-end-init c = counting_start _ _
