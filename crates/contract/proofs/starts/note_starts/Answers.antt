-- `contract::starts::note_starts` meets its contract: the starts that are noted are those of the task of the file.
use Rattle.std.proofs.Common.{◌≡◌, ap, ◌∙◌, ℕ, ◌+◌, ◌-◌, List, take, drop, arith}
use Rattle.taskfile.specs.Index.{Ready}
use Rattle.taskfile.specs.AnswerLaws.{there}
use Rattle.taskfile.proofs.AnswerLaws.{starts}
use Rattle.numbering.specs.NumberLaws.{rows_there, all_tested}
use Rattle.numbering.specs.NoteLaws.{step_below, note_in}
use Rattle.contract.proofs.starts.note_starts.Goals as goal

-- the domain sizes as they stand
sizes_are : (f : List ℕ) {n k : ℕ} {row : List ℕ} (ready : Ready f n k row) → take (1 + n - 1) (drop 1 f) ≡ (there f ready).task.sizes
sizes_are f {n} ready = let same : 1 + n - 1 ≡ n = omega arith in ap (λ (k : ℕ). take k (drop 1 f)) same ∙ (starts f ready).sizes

pub overflow_add-last : goal.overflow_add-last
overflow_add-last c = omega (arith, (starts c.args.file.now c.requires.ready).variables)

pub slice_bounds-note-end : goal.slice_bounds-note-end
slice_bounds-note-end c = omega (arith, (starts c.args.file.now c.requires.ready).fits)

pub note-requires-clause-actions_bound : goal.note-requires-clause-actions_bound
note-requires-clause-actions_bound c = (starts c.args.file.now c.requires.ready).actions

pub note-requires-clause-rows : goal.note-requires-clause-rows
note-requires-clause-rows c = (rows_there c.args.file.now c.requires.ready (sizes_are c.args.file.now c.requires.ready) (omega arith), all_tested c.args.file.now c.requires.ready)

pub note_actions-requires-clause-actions_bound : goal.note_actions-requires-clause-actions_bound
note_actions-requires-clause-actions_bound c = (starts c.args.file.now c.requires.ready).actions

pub note_actions-requires-clause-below : goal.note_actions-requires-clause-below
note_actions-requires-clause-below c = step_below c.args.file.now c.requires.ready (sizes_are c.args.file.now c.requires.ready) c.note.ensures.numbered c.note.ensures.long

pub returns : goal.returns
returns c = note_in c.args.file.now c.requires.ready (sizes_are c.args.file.now c.requires.ready) c.note.ensures.numbered c.note.ensures.long c.requires.zeros c.note_actions.ensures
