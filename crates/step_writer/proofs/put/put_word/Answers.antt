-- `step_writer::put::put_word` meets its contract: the two lowest bytes of the number, copied to the front.
use Rattle.std.proofs.Common.{refl, ap, ◌∙◌, List, ℕ, ◌++◌, take, drop}
use Rattle.facts.specs.Write.{over}
use Rattle.step_writer.proofs.put.put_word.Goals as goal

pub returns : goal.returns
unfolding over
returns c = record { count = refl; buffer = ap (λ (x : List ℕ). x ++ drop 2 c.args.out.now) (c.copy_from_slice.ensures.after ∙ ap (take 2) c.to_le_bytes.ensures) }
