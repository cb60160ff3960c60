-- `failure::failure_from` meets its contract: the run to its end, and then the text.
use mathlib.Core.Path.{◌≡◌, sym, ap, ◌∙◌}
use Rattle.std.proofs.Common.{rules}
use Rattle.facts.specs.AnswerLaws.{handed}
use Rattle.facts.specs.Partial.{partial_at}
use Rattle.facts.specs.Read.{accepted}
use Rattle.facts.specs.Write.{length_in, written_in}
use Rattle.facts.specs.WriteLaws.{refused_in}
use Rattle.failure.specs.Failure.{halt_text}
use Rattle.failure.specs.InPlace.{stop_answer, failure_in}
use Rattle.failure.specs.FailureLaws.{failure_missing, failure_at}
use Rattle.failure.proofs.failure_from.Goals.{In_ok-stop}
use Rattle.failure.proofs.failure_from.Goals as goal

pub returns-in_err-stop-clause-result_value : goal.returns-in_err-stop-clause-result_value
returns-in_err-stop-clause-result_value c =
    let a = c.args in
    handed _ _ c.from_residual.ensures.1 ∙ (refused_in a.out.now (failure_missing a.file.now a.label.now a.offsets.now a.goal a.list.now a.state.now (sym c.in_err-stop.ensures))).0

pub returns-in_err-stop-clause-out_after : goal.returns-in_err-stop-clause-out_after
returns-in_err-stop-clause-out_after c =
    let a = c.args in
    (refused_in a.out.now (failure_missing a.file.now a.label.now a.offsets.now a.goal a.list.now a.state.now (sym c.in_err-stop.ensures))).1

-- where the run comes to its end, the text is the one of that
text : (c : In_ok-stop) → let a = c.args in failure_in a.file.now a.label.now a.offsets.now a.goal a.list.now a.state.now ≡ accepted (halt_text a.label.now (partial_at a.file.now a.goal) (stop_answer a.file.now c.in_ok-stop.stop c.halt.new.state))
text c = let a = c.args in failure_at a.file.now a.label.now a.offsets.now a.goal a.list.now a.state.now (sym c.in_ok-stop.ensures)

pub returns-clause-result_value : goal.returns-clause-result_value
returns-clause-result_value c =
    let known = text (goal.at.returns-clause-result_value c).In_ok-stop in
    c.write.ensures.answered _ (record { few = c.requires.most known; each = λ before after p. search rules }) ∙ ap (length_in _) (sym known)

pub returns-clause-out_after : goal.returns-clause-out_after
returns-clause-out_after c =
    let known = text (goal.at.returns-clause-out_after c).In_ok-stop in
    c.write.ensures.written _ (record { few = c.requires.most known; each = λ before after p. search rules }) ∙ ap (written_in _) (sym known)
