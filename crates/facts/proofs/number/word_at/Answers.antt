-- `facts::number::word_at` meets its contract: two bytes make at most 65,535. Assumes nothing.
use mathlib.Core.Path.{◌≡◌, sym, ap, ◌∙◌}
use Prim.Native.Nat.{zero-le}
use Rattle.facts.specs.Read.{accepted}
use Rattle.facts.specs.Answers.{answer}
use Rattle.facts.specs.Fields.{read_number}
use Rattle.facts.specs.FieldLaws.{word_most}
use Rattle.facts.specs.InPlaceLaws.{word_here, word_cut}
use native.Mathlib.Omega.{arith}
use Rattle.facts.proofs.number.word_at.Goals as goal
use Rattle.facts.proofs.number.word_at.Goals.{In-Ok}

word_is : (c : goal.In-Ok) → read_number c.args.file.now 2 c.args.at ≡ accepted c.in-Ok.word
word_is c = sym c.read_word.ensures ∙ ap answer c.in-Ok.is

pub overflow_cast-result : goal.overflow_cast-result
overflow_cast-result c = omega (arith, word_most _ _ (λ i. (c.type_inv.file i).fits) (word_is c))

pub returns-in-Ok : goal.returns-in-Ok
returns-in-Ok c = (sym (word_here _ _ (word_is c)), word_most _ _ (λ i. (c.type_inv.file i).fits) (word_is c))

pub returns-in-Err : goal.returns-in-Err
returns-in-Err c = (sym (word_cut _ _ (sym c.read_word.ensures ∙ ap answer c.in-Err.is)), zero-le)
