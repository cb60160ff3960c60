-- `sentence::explain_in` meets its contract: the sentence is counted, and then written if there is room.
use Rattle.std.proofs.Common.{rules}
use native.Mathlib.Omega.{arith}
use Rattle.explain.specs.LengthLaws.{explanation_most}
use Rattle.sentence.proofs.explain_in.Goals as goal

pub returns-clause-result_value : goal.returns-clause-result_value
returns-clause-result_value c =
    let a = c.args in
    c.write.ensures.answered _ (record { few = omega (arith, explanation_most a.subject a.why c.requires); each = λ before after p. search rules })

pub returns-clause-out_after : goal.returns-clause-out_after
returns-clause-out_after c =
    let a = c.args in
    c.write.ensures.written _ (record { few = omega (arith, explanation_most a.subject a.why c.requires); each = λ before after p. search rules })
