-- `describe_probe::step::put_step` meets its contract: its states, and then its cost; each part stands where the one before it ends.
use lib.ListN.{length}
use Rattle.text.specs.WriterLaws.{appends_then, appends_as}
use Rattle.describe_probe.specs.ShowLaws.{step_text_lem}
use Rattle.describe_probe.proofs.step.put_step.Goals as goal

pub returns : goal.returns
returns c =
    let a = c.args in
    appends_as (step_text_lem a.file.now (length a.sizes.now) a.k a.place c.effect_at-effect.ensures c.effect_at.ensures c.word_at-cost.ensures.0)
    (appends_then c.put_states.ensures (appends_then c.put_numbered.ensures c.append_byte.ensures))
