use Rattle.text.specs.TokenLaws.{Filling}
use Rattle.scan.proofs.read.numbers.Given as goal

abbrev pub invariant-loop-i : goal.invariant-loop-i
invariant-loop-i g l = Filling l.bound l.text (g.T.Entry.numbers l.initial.out) (g.T.Entry.numbers l.out) l.at l.i
