-- `follow::follow_plan` meets its contract: the parts in place are the task's, and the state is the initial one.
use Prim.Native.Nat.{ℕ, ◌+◌, ◌-◌, ◌≤◌}
use mathlib.Core.Path.{◌≡◌, refl, sym, ap, ◌∙◌}
use native.Mathlib.Omega.{arith}
use lib.ListN.{length, take, drop}
use lib.Seq.{length-take-le}
use Rattle.taskfile.specs.AnswerLaws.{There, there, Starts}
use Rattle.taskfile.proofs.AnswerLaws.{starts}
use Rattle.numbering.specs.NumberLaws.{rows_there, all_tested}
use Rattle.numbering.specs.ExpandLaws.{init_inside}
use Rattle.numbering.specs.NoteLaws.{step_below, note_in}
use Rattle.follow.specs.FollowLaws.{followable, followed_answers}
use Rattle.follow.proofs.follow_plan.Goals as goal
use Rattle.follow.proofs.follow_plan.Goals.{After-initial-state, Start}

-- the file's task, and where its parts stand
abbrev task : (c : goal.Start) → There c.args.file.now c.requires.ready
task c = there c.args.file.now c.requires.ready

begins : (c : goal.Start) → Starts c.args.file.now c.requires.ready
begins c = starts c.args.file.now c.requires.ready

-- the domain sizes as they stand
sizes_are : (c : goal.Start) → take (1 + c.args.variables - 1) (drop 1 c.args.file.now) ≡ (task c).task.sizes
sizes_are c = let same : 1 + c.args.variables - 1 ≡ c.args.variables = omega arith in ap (λ (k : ℕ). take k (drop 1 c.args.file.now)) same ∙ (begins c).sizes

-- the state has a value for each variable, and they are the initial ones
long : (c : goal.After-initial-state) → c.args.variables ≤ length c.initial-state.result
long c = omega (arith, c.initial-state.ensures.1, ((starts c.args.file.now c.requires.ready)).variables)

state_is : (c : goal.After-initial-state) → take c.args.variables c.initial-state.result ≡ ((there c.args.file.now c.requires.ready)).task.init
state_is c = c.initial-state.ensures.0 ∙ ((starts c.args.file.now c.requires.ready)).init

pub overflow_add-last : goal.overflow_add-last
overflow_add-last c = omega (arith, (begins (goal.at.overflow_add-last c).Start).variables)

pub slice_bounds-sizes-end : goal.slice_bounds-sizes-end
slice_bounds-sizes-end c = omega (arith, (begins (goal.at.slice_bounds-sizes-end c).Start).fits)

pub note-requires-clause-actions_bound : goal.note-requires-clause-actions_bound
note-requires-clause-actions_bound c = omega (arith, (begins (goal.at.note-requires-clause-actions_bound c).Start).actions)

pub note-requires-clause-rows : goal.note-requires-clause-rows
note-requires-clause-rows c = (rows_there c.args.file.now c.requires.ready (sizes_are (goal.at.note-requires-clause-rows c).Start) (omega arith), all_tested c.args.file.now c.requires.ready)

pub initial-state-requires : goal.initial-state-requires
initial-state-requires c = let b = begins (goal.at.initial-state-requires c).Start in (b.variables, b.fits)

pub slice_bounds-state-end : goal.slice_bounds-state-end
slice_bounds-state-end c = long (goal.at.slice_bounds-state-end c).After-initial-state

pub slice_bounds-follow_list-end-2 : goal.slice_bounds-follow_list-end-2
slice_bounds-follow_list-end-2 c = sym (length-take-le c.args.variables c.initial-state.result (long (goal.at.slice_bounds-follow_list-end-2 c).After-initial-state))

pub note_actions-requires-clause-actions_bound : goal.note_actions-requires-clause-actions_bound
note_actions-requires-clause-actions_bound c = (begins (goal.at.note_actions-requires-clause-actions_bound c).Start).actions

pub note_actions-requires-clause-below : goal.note_actions-requires-clause-below
note_actions-requires-clause-below c = step_below c.args.file.now c.requires.ready (sizes_are (goal.at.note_actions-requires-clause-below c).Start) c.note.ensures.numbered c.note.ensures.long

pub follow_list-requires-clause-followable : goal.follow_list-requires-clause-followable
follow_list-requires-clause-followable c =
    let f = c.args.file.now in
    let sizes = sizes_are (goal.at.follow_list-requires-clause-followable c).Start in
    followable f c.requires.ready sizes c.note.ensures.numbered (note_in f c.requires.ready sizes c.note.ensures.numbered c.note.ensures.long refl c.note_actions.ensures)

pub follow_list-requires-clause-inside : goal.follow_list-requires-clause-inside
follow_list-requires-clause-inside c =
    init_inside c.args.file.now c.requires.ready (sizes_are (goal.at.follow_list-requires-clause-inside c).Start) (state_is (goal.at.follow_list-requires-clause-inside c).After-initial-state)

pub follow_list-requires-clause-actions_bound : goal.follow_list-requires-clause-actions_bound
follow_list-requires-clause-actions_bound c = (begins (goal.at.follow_list-requires-clause-actions_bound c).Start).actions

pub returns : goal.returns
returns c =
    let follow = c.follow_list in
    followed_answers c.args.file.now c.requires.ready c.args.list.now follow.new.plan (sizes_are (goal.at.returns c).Start) (state_is (goal.at.returns c).After-initial-state) (omega (arith, c.follow_list.auto.plan, c.requires.plan_len_bound)) follow.result follow.ensures
