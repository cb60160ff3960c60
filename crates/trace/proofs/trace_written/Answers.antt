-- `trace::trace_written` meets its contract: the written file is accepted, its steps stand where its index says, and then the text is written.
use mathlib.Core.Path.{◌≡◌, sym, ap, ◌∙◌}
use Rattle.std.proofs.Common.{rules, ◌+◌, ◌*◌, ◌≤◌}
use Rattle.std.proofs.iter.Serving.{serving}
use lib.ListN.{length, take, drop}
use Rattle.facts.specs.Read.{accepted}
use Rattle.facts.specs.Write.{length_in, written_in}
use Rattle.taskfile.specs.Blank.{file_of}
use Rattle.probefile.specs.Probe.{max_variables, max_list}
use Rattle.probefile.specs.IndexLaws.{starts}
use Rattle.text.specs.Append.{largest}
use Rattle.steps.specs.Seek.{names_in}
use Rattle.failure.specs.InPlace.{pre_at, eff_at}
use Rattle.trace.specs.Trace.{trace_text}
use Rattle.trace.specs.TraceFile.{traced}
use Rattle.trace.specs.FileLaws.{written_accepted, trace_is}
use Rattle.trace.specs.LengthLaws.{traced_most}
use native.Mathlib.Omega.{arith}
use Rattle.trace.proofs.trace_written.Goals.{In_ok-variables}
use Rattle.trace.proofs.trace_written.Goals as goal

pub returns-in_err-variables-clause-result_value : goal.returns-in_err-variables-clause-result_value
returns-in_err-variables-clause-result_value c = absurd (written_accepted c.requires.stated c.requires.written (sym c.in_err-variables.ensures.counted))

pub returns-in_err-variables-clause-out_after : goal.returns-in_err-variables-clause-out_after
returns-in_err-variables-clause-out_after c = absurd (written_accepted c.requires.stated c.requires.written (sym c.in_err-variables.ensures.counted))

-- the trace in place is the file's
module _ (c : In_ok-variables) where
  text : let a = c.args in
      let n = c.in_ok-variables.variables in
      traced a.states (file_of a.file.now) a.list.now
      ≡ accepted (trace_text a.states (names_in a.file.now a.sizes.now a.actions a.row.now) (pre_at a.probe.now c.index.new.offsets) (eff_at a.probe.now c.index.new.offsets) a.list.now (take n (drop (1 + n) a.probe.now)))
  text = trace_is c.requires.stated c.requires.written (sym c.in_ok-variables.ensures.counted) _ c.in_ok-variables.ensures.located c.args.states

  few : let a = c.args in
      let n = c.in_ok-variables.variables in
      length (trace_text a.states (names_in a.file.now a.sizes.now a.actions a.row.now) (pre_at a.probe.now c.index.new.offsets) (eff_at a.probe.now c.index.new.offsets) a.list.now (take n (drop (1 + n) a.probe.now))) ≤ largest
  few = omega (arith, traced_most c.args.states (file_of c.args.file.now) c.args.list.now c.requires.stated.bytes text)

pub write-requires : goal.write-requires
write-requires c =
    let s = starts _ (sym c.in_ok-variables.ensures.counted) in
    let variables : c.in_ok-variables.variables ≤ max_variables = s.variables in
    let values : 1 + 2 * c.in_ok-variables.variables ≤ length c.args.probe.now = s.fits in
    let list : length c.args.list.now ≤ max_list = c.requires.stated.few in
    grind serving

pub returns-clause-result_value : goal.returns-clause-result_value
returns-clause-result_value c =
    let known = (goal.at.returns-clause-result_value c).In_ok-variables in
    c.write.ensures.answered _ (record { few = few known; each = λ before after p. search rules }) ∙ ap (length_in _) (sym (text known))

pub returns-clause-out_after : goal.returns-clause-out_after
returns-clause-out_after c =
    let known = (goal.at.returns-clause-out_after c).In_ok-variables in
    c.write.ensures.written _ (record { few = few known; each = λ before after p. search rules }) ∙ ap (written_in _) (sym (text known))
