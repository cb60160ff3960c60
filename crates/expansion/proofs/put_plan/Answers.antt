-- `expansion::put_plan` meets its contract: the parts in place are the task's, and the state is the initial one.
use Prim.Native.Nat.{ℕ, ◌+◌, ◌*◌, ◌-◌, ◌≤◌}
use mathlib.Core.Path.{◌≡◌, sym, ap, ◌∙◌}
use mathlib.Core.List.{List}
use native.Mathlib.Omega.{arith}
use lib.ListN.{length, take, drop}
use lib.Seq.{length-take-le}
use Rattle.facts.specs.Partial.{partial_at}
use Rattle.taskfile.specs.WalkInPlace.{move_at, run_list}
use Rattle.taskfile.specs.AnswerLaws.{There, there, Starts}
use Rattle.taskfile.proofs.AnswerLaws.{starts, sum_is}
use Rattle.numbering.specs.NumberLaws.{rows_there, all_tested}
use Rattle.numbering.specs.ExpandLaws.{init_inside, prepared, wrote_expansion}
use Rattle.expansion.proofs.put_plan.Goals as goal
use Rattle.expansion.proofs.put_plan.Goals.{After-initial-state, Start}

-- the file's task, and where its parts stand
abbrev task : (c : goal.Start) → There c.args.file.now c.requires.ready
task c = there c.args.file.now c.requires.ready

begins : (c : goal.Start) → Starts c.args.file.now c.requires.ready
begins c = starts c.args.file.now c.requires.ready

-- the domain sizes as they stand
sizes_are : (c : goal.Start) → take (1 + c.args.variables - 1) (drop 1 c.args.file.now) ≡ (task c).task.sizes
sizes_are c = let same : 1 + c.args.variables - 1 ≡ c.args.variables = omega arith in ap (λ (k : ℕ). take k (drop 1 c.args.file.now)) same ∙ (begins c).sizes

-- the state has a value for each variable, and they are the initial ones
long : (c : goal.After-initial-state) → c.args.variables ≤ length c.initial-state.result
long c = omega (arith, c.initial-state.ensures.1, ((starts c.args.file.now c.requires.ready)).variables)

state_is : (c : goal.After-initial-state) → take c.args.variables c.initial-state.result ≡ ((there c.args.file.now c.requires.ready)).task.init
state_is c = c.initial-state.ensures.0 ∙ ((starts c.args.file.now c.requires.ready)).init

pub overflow_add-last : goal.overflow_add-last
overflow_add-last c = omega (arith, (begins (goal.at.overflow_add-last c).Start).variables)

pub slice_bounds-sizes-end : goal.slice_bounds-sizes-end
slice_bounds-sizes-end c = omega (arith, (begins (goal.at.slice_bounds-sizes-end c).Start).fits)

pub note-requires-clause-actions_bound : goal.note-requires-clause-actions_bound
note-requires-clause-actions_bound c = omega (arith, (begins (goal.at.note-requires-clause-actions_bound c).Start).actions)

pub note-requires-clause-rows : goal.note-requires-clause-rows
note-requires-clause-rows c = (rows_there c.args.file.now c.requires.ready (sizes_are (goal.at.note-requires-clause-rows c).Start) (omega arith), all_tested c.args.file.now c.requires.ready)

pub initial-state-requires : goal.initial-state-requires
initial-state-requires c = let b = begins (goal.at.initial-state-requires c).Start in (b.variables, b.fits)

pub slice_bounds-state-end : goal.slice_bounds-state-end
slice_bounds-state-end c = long (goal.at.slice_bounds-state-end c).After-initial-state

pub slice_bounds-put_list-end : goal.slice_bounds-put_list-end
slice_bounds-put_list-end c = sym (length-take-le c.args.variables c.initial-state.result (long (goal.at.slice_bounds-put_list-end c).After-initial-state))

pub put_list-requires-clause-prepared : goal.put_list-requires-clause-prepared
put_list-requires-clause-prepared c = prepared c.args.file.now c.requires.ready (sizes_are (goal.at.put_list-requires-clause-prepared c).Start) c.note.ensures.numbered

pub put_list-requires-clause-actions_bound : goal.put_list-requires-clause-actions_bound
put_list-requires-clause-actions_bound c = (begins (goal.at.put_list-requires-clause-actions_bound c).Start).actions

pub put_list-requires-clause-inside : goal.put_list-requires-clause-inside
put_list-requires-clause-inside c =
    let f = c.args.file.now in
    init_inside f c.requires.ready (sizes_are (goal.at.put_list-requires-clause-inside c).Start) (state_is (goal.at.put_list-requires-clause-inside c).After-initial-state)

pub returns : goal.returns
returns c =
    let x = c.args in
    let f = x.file.now in
    let list = x.list.now in
    let put = c.put_list in
    let ran = ap (λ (state : List ℕ). run_list x.actions (move_at f x.row.now) (partial_at f (1 + 2 * x.variables)) list state) c.initial-state.ensures.0 ∙ sym (sum_is f c.requires.ready list) in
    wrote_expansion f c.requires.ready list x.out.now put.new.out put.result (sizes_are (goal.at.returns c).Start) (state_is (goal.at.returns c).After-initial-state) ran put.ensures
