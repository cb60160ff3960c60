-- `task::run_in` meets its contract: the state is a copy of the initial values. Assumes nothing.
use Prim.Native.Nat.{ℕ, ◌+◌, ◌*◌, ◌-◌}
use mathlib.Core.Path.{◌≡◌, sym, ap, ap₂, ◌∙◌}
use mathlib.Core.List.{List, ◌++◌}
use lib.ListN.{length, take, drop, replicate, length-take, length-drop}
use lib.Seq.{length-take-le, take_at}
use Rattle.facts.specs.Read.{Read}
use Rattle.facts.specs.Run.{Move}
use Rattle.facts.specs.Partial.{partial_at}
use Rattle.taskfile.specs.Task.{both, max_variables}
use Rattle.taskfile.specs.WalkInPlace.{move_at, passes_at, run_list}
use Rattle.taskfile.specs.AnswerLaws.{Starts, tallied_both}
use Rattle.taskfile.proofs.AnswerLaws.{starts, run_is}
use native.Mathlib.Omega.{arith}
use Rattle.task.proofs.run_in.Goals as goal
use Rattle.task.proofs.run_in.Goals.{Start, After-copy_from_slice}

begins : (c : goal.Start) → Starts c.args.file.now c.requires
begins c = starts c.args.file.now c.requires

-- the initial values as they stand, one for each variable
abbrev init : goal.Start → List ℕ
init c = let n = c.args.variables in take (1 + n + n - (1 + n)) (drop (1 + n) c.args.file.now)

init_long : (c : goal.Start) → length (init c) ≡ c.args.variables
init_long c = let fits = (begins c).fits in simp (length-take, length-drop) (omega arith)

init_is : (c : goal.Start) → init c ≡ take c.args.variables (drop (1 + c.args.variables) c.args.file.now)
init_is c =
    let v = c.args.variables in
    let n : 1 + v + v - (1 + v) ≡ v = omega arith in
    ap (λ (k : ℕ). take k (drop (1 + v) c.args.file.now)) n

-- a state of zeros
abbrev zeros : List ℕ
zeros = replicate max_variables 0

same : (c : goal.After-copy_from_slice) → let v = c.args.variables in c.copy_from_slice.new.self ≡ take (1 + v + v - (1 + v)) (drop (1 + v) c.args.file.now)
same c = c.copy_from_slice.ensures.after

state_is : (new : List ℕ) (v : ℕ) (f : List ℕ) → new ≡ take (1 + v + v - (1 + v)) (drop (1 + v) f) → length new ≡ v → take v (new ++ drop v zeros) ≡ take (1 + v + v - (1 + v)) (drop (1 + v) f)
state_is new v f same long = take_at new (drop v zeros) v long ∙ same

pub overflow_add-init : goal.overflow_add-init
overflow_add-init c = omega (arith, (begins (goal.at.overflow_add-init c).Start).fits)

pub overflow_add-goal : goal.overflow_add-goal
overflow_add-goal c = omega (arith, (begins (goal.at.overflow_add-goal c).Start).fits)

pub slice_bounds-state-end : goal.slice_bounds-state-end
slice_bounds-state-end c = (begins (goal.at.slice_bounds-state-end c).Start).variables

pub slice_bounds-copy_from_slice-end : goal.slice_bounds-copy_from_slice-end
slice_bounds-copy_from_slice-end c = sym (length-take-le c.args.variables zeros (begins (goal.at.slice_bounds-copy_from_slice-end c).Start).variables)

pub slice_bounds-copy_from_slice-end-2 : goal.slice_bounds-copy_from_slice-end-2
slice_bounds-copy_from_slice-end-2 c = omega (arith, (begins (goal.at.slice_bounds-copy_from_slice-end-2 c).Start).fits)

pub copy_from_slice-requires : goal.copy_from_slice-requires
copy_from_slice-requires c = omega (arith, init_long (goal.at.copy_from_slice-requires c).Start, length-take-le c.args.variables zeros (begins (goal.at.copy_from_slice-requires c).Start).variables)

-- sum and nodes passed are those of the task
pub returns : goal.returns
returns c =
    let r = c.run_list in
    let a = c.args in
    let f = a.file.now in
    let behind : 1 + a.variables + a.variables ≡ 1 + 2 * a.variables = omega arith in
    let run : (ℕ → List ℕ → Move) → ℕ → List ℕ → Read ℕ = λ move at state. run_list a.actions move (partial_at f at) a.list.now state in
    tallied_both r.result
    ∙ ap₂ both r.ensures.result_value r.ensures.result_value_2
    ∙ ap₂ (λ (at : ℕ) (state : List ℕ). both (run (move_at f a.row.now) at state) (run (passes_at f a.row.now) at state)) behind (state_is c.copy_from_slice.new.self a.variables f (same (goal.at.returns c).After-copy_from_slice) (ap length (same (goal.at.returns c).After-copy_from_slice) ∙ init_long (goal.at.returns c).Start) ∙ init_is (goal.at.returns c).Start)
    ∙ sym (run_is f c.requires a.list.now)
