-- `expand::expand_by` meets its contract: the run's refusal, and else what was written, copied where there is room.
use Rattle.std.proofs.Common.{sym, ap, ◌∙◌, ℕ, List, ◌++◌, drop, arith}
use Rattle.std.proofs.lemmas.List.{length-replicate}
use Rattle.facts.specs.AnswerLaws.{handed}
use Rattle.facts.specs.WriteLaws.{wrote_inside}
use Rattle.taskfile.specs.PartsInPlaceLaws.{reads}
use Rattle.numbering.specs.ExpandLaws.{expansion_few, expand_no_list, expand_plan, front_copied, copied_front}
use Rattle.carry.specs.AnswerLaws.{refused_in, short_in, wrote_in}
use Rattle.expand.proofs.expand_by.Goals as goal

pub returns-in_err-written-clause-result_value : goal.returns-in_err-written-clause-result_value
returns-in_err-written-clause-result_value g c =
    handed _ _ c.from_residual.ensures.1 ∙ (refused_in c.args.out.now (expand_no_list _ (reads c.args.file.now c.requires.ready) c.args.list.now (sym c.in_err-written.ensures))).0

pub returns-in_err-written-clause-out_after : goal.returns-in_err-written-clause-out_after
returns-in_err-written-clause-out_after g c = (refused_in c.args.out.now (expand_no_list _ (reads c.args.file.now c.requires.ready) c.args.list.now (sym c.in_err-written.ensures))).1

pub returns-then-short-clause-result_value : goal.returns-then-short-clause-result_value
returns-then-short-clause-result_value g c =
    let ran = c.in_ok-written.ensures in
    (short_in (expand_plan _ (reads c.args.file.now c.requires.ready) c.args.list.now (sym ran.0)) c.args.out.now ran.1.count c.if-short.true).0

pub returns-then-short-clause-out_after : goal.returns-then-short-clause-out_after
returns-then-short-clause-out_after g c =
    let ran = c.in_ok-written.ensures in
    (short_in (expand_plan _ (reads c.args.file.now c.requires.ready) c.args.list.now (sym ran.0)) c.args.out.now ran.1.count c.if-short.true).1

pub shared_whole_as_front-copy_from_slice : goal.shared_whole_as_front-copy_from_slice
shared_whole_as_front-copy_from_slice g c =
    let ran = c.in_ok-written.ensures in
    (omega (arith, ran.1.count, expansion_few _ (reads c.args.file.now c.requires.ready) c.args.list.now (sym ran.0), c.requires.room), omega (arith, c.requires.limit))

pub returns-clause-result_value : goal.returns-clause-result_value
returns-clause-result_value g c =
    let ran = c.in_ok-written.ensures in
    let inside = wrote_inside ran.1 (omega (arith, length-replicate {A = ℕ} g.row.N 0, expansion_few _ (reads c.args.file.now c.requires.ready) c.args.list.now (sym ran.0), c.requires.room)) in
    let copied = copied_front c.put_plan.new.out inside (ap (λ (front : List ℕ). front ++ drop c.in_ok-written.written c.args.out.now) c.copy_from_slice.ensures.after) in
    (wrote_in (expand_plan _ (reads c.args.file.now c.requires.ready) c.args.list.now (sym ran.0)) (omega (arith, c.if-short.false, ran.1.count)) (front_copied ran.1 copied)).0

pub returns-clause-out_after : goal.returns-clause-out_after
returns-clause-out_after g c =
    let ran = c.in_ok-written.ensures in
    let inside = wrote_inside ran.1 (omega (arith, length-replicate {A = ℕ} g.row.N 0, expansion_few _ (reads c.args.file.now c.requires.ready) c.args.list.now (sym ran.0), c.requires.room)) in
    let copied = copied_front c.put_plan.new.out inside (ap (λ (front : List ℕ). front ++ drop c.in_ok-written.written c.args.out.now) c.copy_from_slice.ensures.after) in
    (wrote_in (expand_plan _ (reads c.args.file.now c.requires.ready) c.args.list.now (sym ran.0)) (omega (arith, c.if-short.false, ran.1.count)) (front_copied ran.1 copied)).1
