-- `sentence::subject_of` meets its contract: one number after the other. Assumes nothing.
use mathlib.Core.Path.{sym, ap}
use native.Mathlib.Omega.{arith}
use Rattle.sentence.specs.Sentence.{subject_of}
use Rattle.sentence.specs.SentenceLaws.{contracted}
use Rattle.sentence.proofs.subject_of.Goals as goal

pub returns-in-0 : goal.returns-in-0
unfolding subject_of
returns-in-0 c = ap subject_of (sym c.in-0.is)

pub returns-in-1 : goal.returns-in-1
unfolding subject_of
returns-in-1 c = ap subject_of (sym c.in-1.is)

pub returns-in-2 : goal.returns-in-2
unfolding subject_of
returns-in-2 c = ap subject_of (sym c.in-2.is)

pub returns-in-3 : goal.returns-in-3
unfolding subject_of
returns-in-3 c = ap subject_of (sym c.in-3.is)

pub returns-in_default : goal.returns-in_default
returns-in_default c = contracted c.args.about (omega arith)
