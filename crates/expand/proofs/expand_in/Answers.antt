-- `expand::expand_in` meets its contract: a list that is too long, and else a buffer with room for all that may come.
use Rattle.taskfile.specs.PartsInPlaceLaws.{reads}
use Rattle.numbering.specs.ExpandLaws.{expand_long}
use Rattle.carry.specs.AnswerLaws.{refused_in}
use Rattle.expand.proofs.expand_in.Goals as goal

pub returns-then-list-gt-MAX_LIST-clause-result_value : goal.returns-then-list-gt-MAX_LIST-clause-result_value
returns-then-list-gt-MAX_LIST-clause-result_value c =
    let f = c.args.file.now in
    (refused_in c.args.out.now (expand_long _ (reads f c.requires) c.args.list.now c.if-list-gt-MAX_LIST.true)).0

pub returns-then-list-gt-MAX_LIST-clause-out_after : goal.returns-then-list-gt-MAX_LIST-clause-out_after
returns-then-list-gt-MAX_LIST-clause-out_after c =
    let f = c.args.file.now in
    (refused_in c.args.out.now (expand_long _ (reads f c.requires) c.args.list.now c.if-list-gt-MAX_LIST.true)).1
