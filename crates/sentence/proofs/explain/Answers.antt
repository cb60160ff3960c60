-- `sentence::explain` meets its contract: nothing where no refusal has the number, else its sentence.
use Rattle.words.specs.DescribeLaws.{answered_as}
use Rattle.sentence.specs.Sentence.{subject_of}
use Rattle.sentence.specs.SentenceLaws.{said, unsaid}
use Rattle.sentence.proofs.explain.Goals as goal

pub returns-in-None-clause-result_value : goal.returns-in-None-clause-result_value
returns-in-None-clause-result_value c =
    let a = c.args in
    (unsaid a.number a.place c.in-None.ensures (subject_of a.about) a.out.now).0

pub returns-in-None-clause-out_after : goal.returns-in-None-clause-out_after
returns-in-None-clause-out_after c =
    let a = c.args in
    (unsaid a.number a.place c.in-None.ensures (subject_of a.about) a.out.now).1

pub returns-in-Some-clause-result_value : goal.returns-in-Some-clause-result_value
returns-in-Some-clause-result_value c =
    let a = c.args in
    (answered_as a.out.now (said a.number a.place c.in-Some.ensures c.subject_of.ensures) (c.explain_in.ensures.result_value, c.explain_in.ensures.out_after)).0

pub returns-in-Some-clause-out_after : goal.returns-in-Some-clause-out_after
returns-in-Some-clause-out_after c =
    let a = c.args in
    (answered_as a.out.now (said a.number a.place c.in-Some.ensures c.subject_of.ensures) (c.explain_in.ensures.result_value, c.explain_in.ensures.out_after)).1
