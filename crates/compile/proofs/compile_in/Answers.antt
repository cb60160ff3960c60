-- `compile::compile_in` meets its contract: head and steps, as they are written from the index, are the file of the task's probe.
use Prim.Native.Nat.{ℕ, ◌+◌, ◌-◌, ◌≤◌, ◌<◌}
use mathlib.Core.Path.{◌≡◌, ap, ◌∙◌}
use mathlib.Core.List.{List}
use lib.ListN.{length, get_or, take, drop}
use borrow.Rule.Slice.PartMut.{put_mid}
use Rattle.facts.specs.Write.{Wrote}
use Rattle.facts.specs.WriteLaws.{short_in, wrote_in}
use Rattle.taskfile.specs.Task.{max_variables, max_actions}
use Rattle.taskfile.specs.Row.{own_from}
use Rattle.taskfile.specs.Index.{Ready}
use Rattle.taskfile.specs.InPlace.{Fronts}
use Rattle.taskfile.specs.PartsInPlace.{Stood}
use Rattle.taskfile.proofs.TaskReadLaws.{task_wf, task_limits}
use Rattle.taskfile.specs.AnswerLaws.{There, there, Starts}
use Rattle.taskfile.proofs.AnswerLaws.{starts}
use Rattle.probefile.specs.ProbeFile.{write_probe}
use Rattle.compilation.specs.Compile.{probe_of}
use Rattle.compilation.specs.StepLaws.{steps_most}
use Rattle.compilation.proofs.CompiledLengthLaws.{compiled_length}
use Rattle.compilation.specs.CompileFileLaws.{file_of_lem}
use Rattle.probe_writer.specs.ExtentLaws.{weighs}
use Rattle.taskfile.proofs.PartsInPlaceLaws.{actions_stood, goal_stands}
use Rattle.compile.specs.TaskInPlaceLaws.{steps_in_place, file_length, front_room, front_inside, steps_room, file_wrote}
use native.Mathlib.Omega.{arith}
use Rattle.compile.proofs.compile_in.Goals as goal
use Rattle.compile.proofs.compile_in.Goals.{After-head_length, After-put_actions-written, After-put_head-at, Else-short, Start}

-- the file's task, where its parts stand, and the file of its probe
abbrev task : (c : goal.Start) → There c.args.file.now c.requires
task c = there c.args.file.now c.requires

begins : (c : goal.Start) → Starts c.args.file.now c.requires
begins c = starts c.args.file.now c.requires

abbrev probe : goal.Start → List ℕ
probe c = write_probe (probe_of (task c).task)

-- the domain sizes as they stand
sizes_are : (f : List ℕ) {n k : ℕ} {row : List ℕ} (ready : Ready f n k row) → take (1 + n - 1) (drop 1 f) ≡ (there f ready).task.sizes
sizes_are f {n} ready = let same : 1 + n - 1 ≡ n = omega arith in ap (λ (k : ℕ). take k (drop 1 f)) same ∙ (starts f ready).sizes

-- the limits, and where effects and incoming weights stand
limits : (c : goal.Start) → let x = c.args in (length (take (1 + x.variables - 1) (drop 1 x.file.now)) ≤ max_variables) × (x.actions ≤ max_actions) × (x.actions ≤ length x.row.now) × Fronts x.file.now x.actions x.row.now
limits c = (omega (arith, ap length (sizes_are c.args.file.now c.requires), (task c).variables, (begins c).variables), (begins c).actions, omega (arith, (begins c).actions, c.requires.long), c.requires.fronts)

-- where each action stands
stood : (c : goal.Start) → let row = c.args.row.now in (a : ℕ) → a < c.args.actions → Stood c.args.file.now (take (1 + c.args.variables - 1) (drop 1 c.args.file.now)) (get_or row a 0) (drop (own_from row a) row)
stood c = actions_stood c.args.file.now c.requires (sizes_are c.args.file.now c.requires)

-- the length that is needed
needed-is : (c : goal.After-head_length) → c.head_length.result + c.extent_of-extent.result.bytes ≡ length ((write_probe (probe_of ((there c.args.file.now c.requires)).task)))
needed-is c = file_length c.args.file.now c.requires (sizes_are c.args.file.now c.requires) c.head_length.ensures.0 c.extent_of-extent.ensures.bytes_value

-- there is room for it
room : (c : goal.Else-short) → length ((write_probe (probe_of ((there c.args.file.now c.requires)).task))) ≤ length c.args.out.now
room c = omega (arith, (file_length c.args.file.now c.requires (sizes_are c.args.file.now c.requires) c.head_length.ensures.0 c.extent_of-extent.ensures.bytes_value), c.if-short.false)

-- the steps begin within the buffer
inside : (c : goal.After-put_head-at) → c.put_head-at.result ≤ length c.put_head-at.new.out
inside c = front_inside c.args.file.now c.requires (sizes_are c.args.file.now c.requires) c.extent_of-extent.ensures.steps_value ((omega (arith, (file_length c.args.file.now c.requires (sizes_are c.args.file.now c.requires) c.head_length.ensures.0 c.extent_of-extent.ensures.bytes_value), c.if-short.false))) c.put_head-at.ensures

-- the file is written
wrote : (c : goal.After-put_actions-written) → let front = c.put_head-at in Wrote ((write_probe (probe_of ((there c.args.file.now c.requires)).task))) c.args.out.now (put_mid front.result (length front.new.out - front.result) front.new.out c.put_actions-written.new.out) (front.result + c.put_actions-written.result)
wrote c = file_wrote c.args.file.now c.requires (sizes_are c.args.file.now c.requires) c.extent_of-extent.ensures.steps_value ((omega (arith, (file_length c.args.file.now c.requires (sizes_are c.args.file.now c.requires) c.head_length.ensures.0 c.extent_of-extent.ensures.bytes_value), c.if-short.false))) c.put_head-at.ensures c.put_actions-written.ensures

pub overflow_add-last : goal.overflow_add-last
overflow_add-last c = omega (arith, (begins (goal.at.overflow_add-last c).Start).variables)

pub slice_bounds-sizes-end : goal.slice_bounds-sizes-end
slice_bounds-sizes-end c = omega (arith, (begins (goal.at.slice_bounds-sizes-end c).Start).fits)

pub extent_of-extent-requires-clause-sizes_len_bound : goal.extent_of-extent-requires-clause-sizes_len_bound
extent_of-extent-requires-clause-sizes_len_bound c = limits (goal.at.extent_of-extent-requires-clause-sizes_len_bound c).Start

pub extent_of-extent-requires-clause-by_index : goal.extent_of-extent-requires-clause-by_index
extent_of-extent-requires-clause-by_index c = stood (goal.at.extent_of-extent-requires-clause-by_index c).Start

pub head_length-requires : goal.head_length-requires
head_length-requires c = let b = begins (goal.at.head_length-requires c).Start in (b.variables, b.actions, b.fits)

pub overflow_add-needed : goal.overflow_add-needed
overflow_add-needed c = omega (arith, needed-is (goal.at.overflow_add-needed c).After-head_length, compiled_length _ (task (goal.at.overflow_add-needed c).Start).reads)

pub returns-then-short-clause-result_value : goal.returns-then-short-clause-result_value
returns-then-short-clause-result_value c = (short_in (file_of_lem _ (task (goal.at.returns-then-short-clause-result_value c).Start).reads) c.args.out.now (needed-is (goal.at.returns-then-short-clause-result_value c).After-head_length) c.if-short.true).0

pub returns-then-short-clause-out_after : goal.returns-then-short-clause-out_after
returns-then-short-clause-out_after c = (short_in (file_of_lem _ (task (goal.at.returns-then-short-clause-out_after c).Start).reads) c.args.out.now (needed-is (goal.at.returns-then-short-clause-out_after c).After-head_length) c.if-short.true).1

pub put_head-at-requires-clause-n_le_max_variables : goal.put_head-at-requires-clause-n_le_max_variables
put_head-at-requires-clause-n_le_max_variables c =
    let f = c.args.file.now in
    let r = (task (goal.at.put_head-at-requires-clause-n_le_max_variables c).Start).reads in
    let count = c.extent_of-extent.ensures.steps_value in
    ((begins (goal.at.put_head-at-requires-clause-n_le_max_variables c).Start).variables, (begins (goal.at.put_head-at-requires-clause-n_le_max_variables c).Start).actions, omega (arith, count, ap length (steps_in_place f c.requires (sizes_are c.args.file.now c.requires)), steps_most (task (goal.at.put_head-at-requires-clause-n_le_max_variables c).Start).task (task_wf _ r) (task_limits _ r)), goal_stands f c.requires)

pub put_head-at-requires-clause-by_index : goal.put_head-at-requires-clause-by_index
put_head-at-requires-clause-by_index c =
    let f = c.args.file.now in
    let r = (task (goal.at.put_head-at-requires-clause-by_index c).Start).reads in
    let count = c.extent_of-extent.ensures.steps_value in
    (λ a l. weighs f (stood (goal.at.put_head-at-requires-clause-by_index c).Start a l) (c.requires.fronts.incoming a l))

pub put_head-at-requires-clause-steps_in_bounds : goal.put_head-at-requires-clause-steps_in_bounds
put_head-at-requires-clause-steps_in_bounds c =
    let f = c.args.file.now in
    let r = (task (goal.at.put_head-at-requires-clause-steps_in_bounds c).Start).reads in
    let count = c.extent_of-extent.ensures.steps_value in
    front_room f c.requires (sizes_are c.args.file.now c.requires) count (room (goal.at.put_head-at-requires-clause-steps_in_bounds c).Else-short)

pub slice_bounds-put_actions-count : goal.slice_bounds-put_actions-count
slice_bounds-put_actions-count c = inside (goal.at.slice_bounds-put_actions-count c).After-put_head-at

pub slice_bounds-put_actions-start : goal.slice_bounds-put_actions-start
slice_bounds-put_actions-start c = inside (goal.at.slice_bounds-put_actions-start c).After-put_head-at

pub put_actions-written-requires-clause-sizes_len_bound : goal.put_actions-written-requires-clause-sizes_len_bound
put_actions-written-requires-clause-sizes_len_bound c =
    let f = c.args.file.now in
    limits (goal.at.put_actions-written-requires-clause-sizes_len_bound c).Start

pub put_actions-written-requires-clause-by_index : goal.put_actions-written-requires-clause-by_index
put_actions-written-requires-clause-by_index c =
    let f = c.args.file.now in
    stood (goal.at.put_actions-written-requires-clause-by_index c).Start

pub put_actions-written-requires-clause-count_in_bounds : goal.put_actions-written-requires-clause-count_in_bounds
put_actions-written-requires-clause-count_in_bounds c =
    let f = c.args.file.now in
    steps_room f c.requires (sizes_are c.args.file.now c.requires) c.extent_of-extent.ensures.steps_value (room (goal.at.put_actions-written-requires-clause-count_in_bounds c).Else-short) c.put_head-at.ensures

pub overflow_add-result : goal.overflow_add-result
overflow_add-result c = omega (arith, (wrote (goal.at.overflow_add-result c).After-put_actions-written).count, compiled_length _ (task (goal.at.overflow_add-result c).Start).reads)

pub returns-clause-result_value : goal.returns-clause-result_value
returns-clause-result_value c = (wrote_in (file_of_lem _ (task (goal.at.returns-clause-result_value c).Start).reads) (room (goal.at.returns-clause-result_value c).Else-short) (wrote (goal.at.returns-clause-result_value c).After-put_actions-written)).0

pub returns-clause-out_after : goal.returns-clause-out_after
returns-clause-out_after c = (wrote_in (file_of_lem _ (task (goal.at.returns-clause-out_after c).Start).reads) (room (goal.at.returns-clause-out_after c).Else-short) (wrote (goal.at.returns-clause-out_after c).After-put_actions-written)).1
