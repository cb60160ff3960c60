-- How large the answers of the operations can be, for every file, list, state and buffer: each place, and each length, cost, sum and exact estimate.
use Rattle.std.specs.Prelude.{◌≡◌, ℕ, suc, ◌+◌, ◌*◌, ◌≤◌, ◌<◌, Bool, leb, eqb, length, Option, None, Some, slice_get}
use Rattle.std.proofs.Math.Path.{refl}
use Rattle.std.proofs.Math.Nat.{mul-suc, mul-le-mul_left}
use Rattle.std.proofs.Common.{arith}
use mathlib.Core.List.{List, [], ◌∷◌, map}
use Rattle.std.proofs.Math.Dec.{ltb}
use Rattle.facts.specs.Read.{Read, accepted, refused, with_value, ◌>>=◌}
use Rattle.facts.specs.ReadLaws.{through, bind_assoc}
use Rattle.facts.specs.Write.{length_in}
use Rattle.facts.specs.Lists.{nil, cons, At, up_from}
use Rattle.facts.specs.ListLaws.{found, all_at, at_length, length_up_from, zip_length}
use Rattle.facts.specs.Bytes.{Bytes}
use Rattle.facts.specs.Partial.{Partial, holds}
use Rattle.facts.specs.State.{Inside, check_each, check_with, check_state}
use Rattle.facts.specs.StateLaws.{state_inside}
use Rattle.facts.specs.Run.{Move, next, blocked, moved, run_from, at_most}
use Rattle.facts.specs.RunLaws.{attempt_cost, not_blocked}
use Rattle.estimate.specs.Number.{Number, WithinCap}
use Rattle.estimate.specs.Additive.{estimate_file}
use Rattle.taskfile.specs.Task.{Action, Task, Walk, max_variables, max_bytes, max_written, max_list, max_cost, walk}
use Rattle.taskfile.specs.TaskFile.{read_task, check_task, action_of, ask_task, cost_task}
use Rattle.estimate.proofs.AdditiveLaws.{additive_within}
use Rattle.taskfile.proofs.TaskReadLaws.{task_wf, task_limits}
use Rattle.taskfile.proofs.TaskLaws.{accepted_passed, accepted_cost}
use Rattle.probefile.specs.Probe.{Step, Probe, step_move, probe_sum, WfStep, WfProbe}
use Rattle.probefile.specs.Probe.{max_list as maxProbeList, perform as performStep}
use Rattle.probefile.specs.ProbeFile.{read_probe, check_probe, write_probe, run_probe}
use Rattle.probefile.specs.ProbeLaws.{probe_wf}
use Rattle.probefile.specs.Probe.{max_bytes as maxProbeBytes}
use Rattle.probe_estimate.specs.Estimate.{step_achiever, probe_estimate, estimate_probe}
use Rattle.relaxation.specs.Relaxed.{RelaxedInside, relaxed_cost}
use Rattle.relaxation.specs.RelaxedLaws.{set_below}
use Rattle.relaxation.specs.SetLaws.{value_stands}
use Rattle.relaxation.specs.NarrowingLaws.{InSets}
use Rattle.relaxation.proofs.NarrowingLaws.{relaxed_had}
use Rattle.relaxation.specs.RelaxedTask.{good_set, check_relaxed, check_meets, relaxed_in, relaxed_task}
use Rattle.relaxation.specs.RelaxedTaskLaws.{small_sizes}
use Rattle.relaxation.proofs.RelaxedTaskLaws.{relaxed_inside}
use Rattle.relaxation.specs.Estimate.{least_cost, action_achiever, estimate}
use Rattle.relaxation.specs.EstimateTask.{estimate_task}
use Rattle.compilation.specs.Compile.{probe_of}
use Rattle.compilation.specs.CompileFile.{probe_file_of, compile_file}
use Rattle.compilation.specs.CompiledLaws.{task_accepted}
use Rattle.compilation.proofs.CompiledLaws.{compiled_wf}
use Rattle.compilation.proofs.CompiledLengthLaws.{compiled_length}
use Rattle.plans.specs.Carry.{contract}
use Rattle.carry.specs.CarryFile.{starts_at_most, contracted, answer_in}
use Rattle.carry.specs.SameSumLaws.{fits_inv}
use Rattle.carry.specs.StartLaws.{starts_kept}
use Rattle.cases.specs.StartRows.{starts_row}
use Rattle.cases.specs.PlaceLaws.{Within, value, place, Placed, then_within, made_within, placed_by, more_within, check_placed, task_places, probe_places}

-- ---- files

checked_range : {X : Type 0} {most : ℕ} {m : Read X} → Placed most m → Placed most (with_value {Y = Unit {0}} (λ x. tt) m)
checked_range (value u) = value tt
checked_range (place l) = place l

pub check_task_range : (f : List ℕ) → Placed (suc max_bytes) (check_task f)
unfolding check_task
check_task_range f = checked_range (task_places f)

pub check_probe_range : (f : List ℕ) → Placed (suc maxProbeBytes) (check_probe f)
unfolding check_probe
check_probe_range f = checked_range (probe_places f)

-- ---- a state, or a relaxed state, of at most so many variables

values_placed : (n : ℕ) (good : ℕ → ℕ → Bool) (v : ℕ) (sizes s : List ℕ) (most : ℕ) → v + length sizes ≤ most → Placed most (check_each n good v sizes s)
values_placed n good v [] s most l = value tt
values_placed n good v (d ∷ sizes) [] most l = value tt
values_placed n good v (d ∷ sizes) (x ∷ s) most l = then_within _ (check_placed (good d x) n v most (omega arith)) (λ u e g. values_placed n good (suc v) sizes s most (omega arith))

with_placed : (good : ℕ → ℕ → Bool) (sizes s : List ℕ) (most : ℕ) → length sizes ≤ most → Placed most (check_with good sizes s)
with_placed good sizes s most l = then_within _ (check_placed (eqb (length s) (length sizes)) 12 0 most (omega arith)) (λ u e g. values_placed 4 good 0 sizes s most (omega arith))

-- ---- costs

-- at most so many nodes are passed, at a cost of at most so much
abbrev pub Walked : ℕ → ℕ → Walk → Type 0
Walked long dear w = (w.passed ≤ long) × (w.cost ≤ dear)

action_placed : (actions : List Action) (a most : ℕ) → Within (At actions a) most (action_of actions a)
unfolding action_of
action_placed actions a most = go (slice_get actions a) refl
  where
    go : (o : Option Action) → slice_get actions a ≡ o → Within (At actions a) most (elim o as (λ o. Read Action) [ None ↦ refused 11 0 | Some x ↦ accepted x ])
    go None e = place {p = 0} (omega arith)
    go (Some x) e = value (found actions a e)

module _ (f : List ℕ) (bytes : Bytes f) (a : ℕ) (s : List ℕ) where
  ask_range : {A : Type 0} (P : A → Type 0) (checks : List ℕ → List ℕ → Read (Unit {0})) (answer : Action → List ℕ → A) → ((sizes : List ℕ) → length sizes ≤ max_variables → Placed (suc max_bytes) (checks sizes s))
      → ((t : Task) (x : Action) → read_task f ≡ accepted t → At t.actions a x → checks t.sizes s ≡ accepted tt → P (answer x s))
      → Within P (suc max_bytes) (ask_task checks answer f a s)
  unfolding ask_task
  ask_range P checks answer placed most =
      then_within _ (task_places f) (λ t h g.
      then_within _ (action_placed t.actions a (suc max_bytes)) (λ x e k.
      then_within _ (placed t.sizes (task_limits f h).variables) (λ u i g. value (most t x h k i))))

  pub cost_range : Within (Walked max_variables max_cost) (suc max_bytes) (cost_task f a s)
  unfolding check_state
  cost_range =
      ask_range (Walked max_variables max_cost) check_state walk (λ sizes l. with_placed (λ d x. ltb x d) sizes s (suc max_bytes) (omega arith)) (λ t x h k i.
      let inside = state_inside t.sizes s i in
      (accepted_passed f h k s inside, accepted_cost f h k s inside bytes))

-- a state in the sets is inside the domains
sets_inside : {sizes sets s : List ℕ} → RelaxedInside sizes sets → InSets sets s → Inside sizes s
sets_inside nil nil = tt
sets_inside (cons {a = size} {b = set} r z) (cons {b = d} h y) = (all_at (λ x. x < size) (set_below r) ((value_stands set d).1 h).1, sets_inside z y)

module _ (f : List ℕ) (bytes : Bytes f) (a : ℕ) (sets : List ℕ) where
  -- an action of the file, and a relaxed state of it
  abbrev Fits : Action → Type 0
  Fits x = (t : Task) × (read_task f ≡ accepted t) × At t.actions a x × RelaxedInside t.sizes sets

  relaxed_least : (x : Action) → Fits x → check_meets x.pre sets ≡ accepted tt → relaxed_cost x sets ≤ max_cost
  relaxed_least x (t, h, k, inside) meets =
      let had = relaxed_had ((task_wf f h).actions k) (small_sizes t.sizes (task_limits f h).sizes) sets inside meets in
      omega (arith, had.costs, accepted_cost f h k had.state (sets_inside inside had.in_sets) bytes)

  meets_placed : (x : Action) → Fits x → Placed (suc max_bytes) (check_meets x.pre sets)
  unfolding check_meets
  meets_placed x (t, h, k, inside) =
      values_placed 17 _ 0 (up_from 0 (length sets)) sets (suc max_bytes) (omega (arith, length_up_from 0 (length sets), zip_length inside, (task_limits f h).variables))

  pub relaxed_range : Within (λ c. c ≤ max_cost) (suc max_bytes) (relaxed_task f a sets)
  unfolding check_relaxed relaxed_in relaxed_task
  relaxed_range =
      then_within _ (ask_range f bytes a sets Fits check_relaxed (λ x sets. x) (λ sizes l. with_placed good_set sizes sets (suc max_bytes) (omega arith)) (λ t x h k i. (t, h, k, relaxed_inside t.sizes sets i)))
      (λ x e fits. then_within _ (meets_placed x fits) (λ u meets g. value (relaxed_least x fits meets)))

-- ---- estimates

module _ {X : Type 0} (sizes : X → List ℕ) (answer : X → List ℕ → Number) where
  estimate_range : {most : ℕ} (file : Read X) (s : List ℕ) → Placed most file → ((x : X) → file ≡ accepted x → length (sizes x) ≤ most) → ((x : X) → WithinCap (answer x s))
      → Within WithinCap most (estimate_file sizes answer file s)
  unfolding estimate_file check_state
  estimate_range {most} file s placed few capped = then_within _ placed (λ x h g. then_within _ (with_placed (λ d v. ltb v d) (sizes x) s most (few x h)) (λ u e g. value (capped x)))

pub estimate_task_range : (f s : List ℕ) → Within WithinCap (suc max_bytes) (estimate_task f s)
estimate_task_range f s =
    estimate_range (λ t. t.sizes) estimate (read_task f) s (task_places f) (λ t h. omega (arith, (task_limits f h).variables)) (λ t. additive_within t.sizes (map (action_achiever least_cost t.sizes) t.actions) t.goal s)

pub estimate_probe_range : (f : List ℕ) → Bytes f → (s : List ℕ) → Within WithinCap (suc maxProbeBytes) (estimate_probe f s)
estimate_probe_range f bytes s =
    estimate_range (λ y. y.sizes) probe_estimate (read_probe f) s (probe_places f) (λ y h. omega (arith, (probe_wf f bytes h).variables)) (λ y. additive_within y.sizes (map step_achiever y.steps) y.goal s)

-- ---- runs

moved_within : (m : Move) (i most : ℕ) → i ≤ most → Within (λ q. m ≡ next q.0 q.1) most (moved m i)
moved_within (next s c) i most l = value refl
moved_within blocked i most l = place l

-- Where each move from a state of this kind leads to another and costs at most `dear`, a list of at most `most` entries is refused at `most` at most, and has at most `limit` as its sum.
module _ (count : ℕ) (move : ℕ → List ℕ → Move) (goal : Partial) (P : List ℕ → Type 0) (dear : ℕ) (kept : (a : ℕ) (s e : List ℕ) (c : ℕ) → P s → move a s ≡ next e c → P e × (c ≤ dear)) where
  run_range : (most limit : ℕ) (list s : List ℕ) (i sum : ℕ) → P s → i + length list ≤ most → sum + dear * length list ≤ limit → Within (λ c. c ≤ limit) most (run_from count move goal i sum list s)
  unfolding run_from
  run_range most limit [] s i sum p l u = then_within _ (check_placed (holds goal s) 10 i most (omega arith)) (λ z e g. value (omega arith))
  run_range most limit (a ∷ list) s i sum p l u =
      then_within _ (check_placed (ltb a count) 11 i most (omega arith)) (λ z e g.
      then_within _ (moved_within (move a s) i most (omega arith)) (λ x e m.
      let k = kept a s x.0 x.1 p m in
      run_range most limit list x.0 (suc i) (sum + x.1) k.0 (omega arith) (omega (arith, mul-suc dear (length list), k.1))))

  pub list_range : (most limit : ℕ) (list s : List ℕ) → P s → dear * most ≤ limit → Within (λ c. c ≤ limit) most (◌>>=◌ (at_most most list) (λ u. run_from count move goal 0 0 list s))
  unfolding at_most
  list_range most limit list s p u =
      then_within _ (check_placed (leb (length list) most) 8 most most (omega arith)) (λ z e g.
      let few = fits_inv most list e in
      run_range most limit list s 0 0 p (omega arith) (omega (arith, mul-le-mul_left dear few)))

-- the most that a list of actions, and a list of steps, can cost
abbrev pub most_of_task : ℕ
most_of_task = 419424000

abbrev pub most_of_probe : ℕ
most_of_probe = 436200960

-- the most nodes that a list of actions can pass
abbrev pub most_passed : ℕ
most_passed = 6144

module _ {y : Probe} (wf : WfProbe y) where
  step_kept : (r : ℕ) (s e : List ℕ) (c : ℕ) → Unit {0} → step_move y.steps r s ≡ next e c → Unit {0} × (c ≤ 65535)
  unfolding step_move
  step_kept r s e c u m = go (slice_get y.steps r) refl m
    where
      go : (o : Option Step) → slice_get y.steps r ≡ o → elim o as (λ o. Move) [ None ↦ blocked | Some st ↦ performStep st s ] ≡ next e c → Unit {0} × (c ≤ 65535)
      go None q m = absurd (not_blocked m)
      go (Some st) q m = (tt, omega (arith, attempt_cost st.pre st.eff st.cost s m, (all_at (WfStep y.sizes) wf.steps (found y.steps r q)).cost))

  probe_sum_range : (list : List ℕ) → Within (λ c. c ≤ most_of_probe) maxProbeList (◌>>=◌ (at_most maxProbeList list) (λ u. probe_sum y list))
  unfolding probe_sum
  probe_sum_range list = list_range (length y.steps) (step_move y.steps) y.goal (λ s. Unit {0}) 65535 step_kept maxProbeList most_of_probe list y.init tt (omega arith)

pub run_probe_range : (f : List ℕ) → Bytes f → (list : List ℕ) → Within (λ sum. sum ≤ most_of_probe) (suc maxProbeBytes) (run_probe f list)
unfolding run_probe
run_probe_range f bytes list = then_within _ (probe_places f) (λ y h g. more_within (probe_sum_range (probe_wf f bytes h) list) (omega arith))

-- ---- what is written

-- a list that is at most so long has at most that length, and needs no more
length_range : {long most : ℕ} (room : ℕ) {result : Read (List ℕ)} → long ≤ most → Within (λ list. length list ≤ long) most result → Within (λ n. n ≤ long) most (length_in room result)
unfolding length_in
length_range {long} {most} room l w = then_within _ w (λ list h g. then_within _ (check_placed (leb (length list) room) 7 (length list) most (omega arith)) (λ u e z. value g))

pub compile_range : (f : List ℕ) (room : ℕ) → Within (λ n. n ≤ max_written) max_written (compile_file f room)
unfolding probe_file_of
compile_range f room = length_range room (omega arith) (made_within (λ (t : Task). write_probe (probe_of t)) (more_within (task_places f) (omega arith)) (λ t h g. compiled_length f h))

-- a list that is at most so long, and its sum
abbrev pub Carried : ℕ → ℕ → List ℕ × ℕ → Type 0
Carried long dear c = (length c.0 ≤ long) × (c.1 ≤ dear)

contracted_range : (f : List ℕ) → Bytes f → (list : List ℕ) → Within (Carried max_list most_of_probe) maxProbeList (contracted f list)
unfolding contracted contract at_most
contracted_range f bytes list =
    then_within _ (more_within (task_places f) (omega arith)) (λ t h g.
    rw (← bind_assoc {Z = List ℕ × ℕ} (at_most maxProbeList list) (λ u. probe_sum (probe_of t) list) (λ sum. ◌>>=◌ (starts_at_most t.actions max_list 0 list) (λ u. accepted (contract t list, sum))))
    (then_within _ (probe_sum_range (compiled_wf t (task_accepted f bytes h)) list) (λ sum e l.
    then_within _ (placed_by (starts_at_most t.actions max_list 0 list) (λ n p k. omega (arith, few t e, at_length ((starts_row t.actions max_list list n p).0 k).1.entry))) (λ u k g.
    value (starts_kept t.actions list max_list 0 k, l)))))
  where
    few : (t : Task) {sum : ℕ} → ◌>>=◌ (at_most maxProbeList list) (λ u. probe_sum (probe_of t) list) ≡ accepted sum → length list ≤ maxProbeList
    few t e = fits_inv maxProbeList list (through (at_most maxProbeList list) e).first

-- a list's length and its sum
abbrev pub Written : ℕ → ℕ → ℕ × ℕ → Type 0
Written long dear c = (c.0 ≤ long) × (c.1 ≤ dear)

pub answer_range : {long dear most : ℕ} (room : ℕ) {carried : Read (List ℕ × ℕ)} → long ≤ most → Within (Carried long dear) most carried → Within (Written long dear) most (answer_in room carried)
unfolding answer_in
answer_range room l w = then_within _ w (λ c h g. made_within (λ (n : ℕ). (n, c.1)) (length_range room l (value g.0)) (λ n e k. (k, g.1)))

pub contract_range : (f : List ℕ) → Bytes f → (list : List ℕ) (room : ℕ) → Within (Written max_list most_of_probe) maxProbeList (answer_in room (contracted f list))
contract_range f bytes list room = answer_range room (omega arith) (contracted_range f bytes list)
