-- Laws of contracting in place: the actions by what was noted, and the ways in which the operation can go.
use Rattle.std.specs.Prelude.{◌≡◌, refl, ℕ, zero, suc, ◌+◌, ◌-◌, ◌≤◌, ◌<◌, List, [], ◌∷◌, ltb, length, get_or, drop, Option, None, Some}
use Rattle.std.proofs.Common.{sym, ◌∙◌, add-one, arith, drop_of_length-le, drop-cons, lt-ltb, le-ltb}
use Rattle.std.proofs.Math.Path.{ap}
use Rattle.facts.specs.Read.{Read, accepted, refused, check, with_value, ◌>>=◌}
use Rattle.facts.specs.ReadLaws.{through, Made, made, not_made, bind_assoc}
use Rattle.facts.specs.Run.{at_most}
use Rattle.taskfile.specs.Task.{Action, Task, max_list, max_written, max_actions}
use Rattle.taskfile.specs.TaskFile.{read_task, check_task}
use Rattle.taskfile.proofs.TaskReadLaws.{task_limits}
use Rattle.probefile.specs.Probe.{probe_sum}
use Rattle.probefile.specs.Probe.{max_list as maxProbeList}
use Rattle.probefile.specs.ProbeFile.{run_probe}
use Rattle.compilation.specs.Compile.{probe_of}
use Rattle.compilation.specs.CompileFile.{compile_file}
use Rattle.compilation.proofs.ProgramLaws.{not_compiled}
use Rattle.plans.specs.Carry.{started_by, contract_of, contract}
use Rattle.plans.specs.Contract.{contract_start, contract_other}
use Rattle.facts.specs.WriteRowLaws.{Cut}
use Rattle.carry.specs.CarryFile.{starts_at_most, contracted}
use Rattle.carry.specs.StartLaws.{starts_other, starts_one, starts_over}
use Rattle.carry.specs.SameSumLaws.{WrittenFrom}
use Rattle.numbering.specs.InPlace.{Noted, NotedIn, contract_in, count_in, ProbePlanOf}
use Rattle.numbering.specs.NoteLaws.{noted_most}

-- ---- the actions by what was noted

module _ (action_of_lem : List ℕ) where
  module _ (r : ℕ) (list : List ℕ) where
    -- An entry that is no start.
    in_other : get_or action_of_lem r 0 ≡ 0 → contract_in action_of_lem (r ∷ list) ≡ contract_in action_of_lem list
    in_other h = rw (h, contract_in)

    -- The start of action a.
    in_start : {a : ℕ} → get_or action_of_lem r 0 ≡ suc a → contract_in action_of_lem (r ∷ list) ≡ a ∷ contract_in action_of_lem list
    in_start h = rw (h, contract_in)

    module _ (count i : ℕ) where
      -- An entry that is no start is not counted.
      count_other : get_or action_of_lem r 0 ≡ 0 → count_in action_of_lem count i (r ∷ list) ≡ count_in action_of_lem count (suc i) list
      count_other h = rw (h, count_in)

      -- A start is counted, if it is not past the limit.
      count_start : {a : ℕ} → get_or action_of_lem r 0 ≡ suc a → count_in action_of_lem count i (r ∷ list) ≡ ◌>>=◌ (check (ltb count max_list) 8 i) (λ u. count_in action_of_lem (suc count) (suc i) list)
      count_start h = rw (h, count_in)

  -- ---- the ways in which entry number i of a list can go

  module _ (list : List ℕ) (i : ℕ) (l : i < length list) {action : ℕ} (e : action ≡ get_or action_of_lem (get_or list i 0) 0) where
    abbrev entry : ℕ
    entry = get_or list i 0

    -- It is no start: contracting goes on.
    pub turn_other : action ≡ 0 → contract_in action_of_lem (drop i list) ≡ contract_in action_of_lem (drop (i + 1) list)
    turn_other h = rw (drop-cons list i 0 l, add-one i) (in_other entry (drop (suc i) list) (sym e ∙ h))

    -- Nor is it counted.
    pub count_on : (count : ℕ) → action ≡ 0 → count_in action_of_lem count i (drop i list) ≡ count_in action_of_lem count (i + 1) (drop (i + 1) list)
    count_on count h = rw (drop-cons list i 0 l, add-one i) (count_other entry (drop (suc i) list) count i (sym e ∙ h))

    module _ (n : action ≡ 0 → ⊥) where
      is : get_or action_of_lem entry 0 ≡ suc (action - 1)
      is = omega arith

      -- It is a start: its action is next.
      pub turn_start : Cut (contract_in action_of_lem (drop i list)) ((action - 1) ∷ []) (contract_in action_of_lem (drop (i + 1) list))
      turn_start = record { cut = rw (drop-cons list i 0 l, add-one i) (in_start entry (drop (suc i) list) is) }

      -- Within the limit it is counted.
      pub count_one : (count : ℕ) → count < max_list → count_in action_of_lem count i (drop i list) ≡ count_in action_of_lem (count + 1) (i + 1) (drop (i + 1) list)
      count_one count h = rw (drop-cons list i 0 l) (count_start entry (drop (suc i) list) count i is ∙ rw (lt-ltb count max_list h, add-one i, add-one count))

      -- Past the limit it is refused.
      pub count_over : (count : ℕ) → max_list ≤ count → count_in action_of_lem count i (drop i list) ≡ refused 8 i
      count_over count h = rw (drop-cons list i 0 l) (count_start entry (drop (suc i) list) count i is ∙ rw (le-ltb count max_list h))

  module _ (list : List ℕ) (i : ℕ) (l : length list ≤ i) where
    -- Past the last entry nothing is left.
    pub turn_none : contract_in action_of_lem (drop i list) ≡ []
    turn_none = rw (drop_of_length-le list l)

    -- And the count is the answer.
    pub count_end : (count : ℕ) → count_in action_of_lem count i (drop i list) ≡ accepted count
    count_end count = rw (drop_of_length-le list l)

  -- ---- what was noted of the actions of a task

  module _ {actions : List Action} (n : Noted actions action_of_lem) where
    -- At a number that is no start.
    noted_other : (r : ℕ) → started_by 0 0 actions r ≡ None → get_or action_of_lem r 0 ≡ 0
    noted_other r e = n.notes r ∙ rw e

    -- At the number of the start of action a.
    noted_start : (r : ℕ) {a : ℕ} → started_by 0 0 actions r ≡ Some a → get_or action_of_lem r 0 ≡ suc a
    noted_start r e = n.notes r ∙ rw e

    -- One entry more: it is a start or not.
    contract_entry : (r : ℕ) (list : List ℕ) → contract_in action_of_lem list ≡ contract_of actions list → (o : Option ℕ) → started_by 0 0 actions r ≡ o → contract_in action_of_lem (r ∷ list) ≡ contract_of actions (r ∷ list)
    contract_entry r list on None e = in_other r list (noted_other r e) ∙ on ∙ sym (contract_other actions r list e)
    contract_entry r list on (Some a) e = in_start r list (noted_start r e) ∙ ap (λ (z : List ℕ). a ∷ z) on ∙ sym (contract_start actions r list e)

    -- The actions by what was noted are the actions started.
    contract_noted : (list : List ℕ) → contract_in action_of_lem list ≡ contract_of actions list
    contract_noted [] = refl
    contract_noted (r ∷ list) = contract_entry r list (contract_noted list) (started_by 0 0 actions r) refl

    -- They are counted where the limit on starts is kept: `most` may follow the `count` before.
    abbrev Counted : List ℕ → Type 0
    Counted list = (count most i : ℕ) → count + most ≡ max_list → count_in action_of_lem count i list ≡ with_value (λ (u : Unit {0}). count + length (contract_of actions list)) (starts_at_most actions most i list)

    -- One entry more: it is a start or not.
    count_entry : (r : ℕ) (list : List ℕ) → Counted list → (o : Option ℕ) → started_by 0 0 actions r ≡ o → Counted (r ∷ list)
    count_entry r list on None e count most i h =
        count_other r list count i (noted_other r e) ∙ on count most (suc i) h ∙ rw (starts_other actions r list i most e, contract_other actions r list e)
    count_entry r list on (Some a) e count zero i h =
        count_start r list count i (noted_start r e) ∙ rw (le-ltb count max_list (omega arith), starts_over actions r list i e)
    count_entry r list on (Some a) e count (suc left) i h =
        let more : suc count + length (contract_of actions list) ≡ count + suc (length (contract_of actions list)) = omega arith in
        count_start r list count i (noted_start r e) ∙ rw (lt-ltb count max_list (omega arith), starts_one actions r list i left e, contract_start actions r list e, ← more) (on (suc count) left (suc i) (omega arith))

    -- Whatever the list.
    count_from : (list : List ℕ) → Counted list
    count_from [] count most i h = let same : count ≡ count + 0 = omega arith in ap accepted same
    count_from (r ∷ list) count most i h = count_entry r list (count_from list) (started_by 0 0 actions r) refl count most i h

    -- From its first entry on.
    count_noted : (list : List ℕ) → count_in action_of_lem 0 0 list ≡ with_value (λ (u : Unit {0}). length (contract_of actions list)) (starts_at_most actions max_list 0 list)
    count_noted list = let same : 0 + length (contract_of actions list) ≡ length (contract_of actions list) = omega arith in rw same at (count_from list 0 max_list 0 refl)

-- ---- the ways in which contracting can go

-- A file that its check refuses.
pub contract_no_file : (f list : List ℕ) {n p : ℕ} → check_task f ≡ refused n p → contracted f list ≡ refused n p
unfolding check_task contracted
contract_no_file f list h = rw (not_made (λ (t : Task). tt) (read_task f) h)

-- A refused task file.
pub contract_refused : (f list : List ℕ) {n p : ℕ} → compile_file f max_written ≡ refused n p → contracted f list ≡ refused n p
unfolding contracted
contract_refused f list h = rw (not_compiled f h)

module _ {f written : List ℕ} (w : WrittenFrom f written) (list : List ℕ) where
  -- what is answered once its sum is known
  abbrev answered : ℕ → Read (List ℕ × ℕ)
  answered sum = ◌>>=◌ (starts_at_most w.t.actions max_list 0 list) (λ u. accepted (contract w.t list, sum))

  -- A list that is refused in a run.
  pub contract_blocked : {n p : ℕ} → run_probe written list ≡ refused n p → contracted f list ≡ refused n p
  unfolding contracted run_probe
  contract_blocked {n} {p} r =
      rw w.task
      (sym (bind_assoc (at_most maxProbeList list) (λ u. probe_sum (probe_of w.t) list) answered) ∙ ap (λ (sum : Read ℕ). ◌>>=◌ sum answered) (rw w.probe at r))

  -- Else it is a plan.
  pub contract_ran : {sum : ℕ} → run_probe written list ≡ accepted sum → ProbePlanOf f list sum
  unfolding run_probe
  contract_ran r =
      let a = through (at_most maxProbeList list) (rw w.probe at r) in
      record { t = w.t; task = w.task; few = a.first; sums = a.then }

module _ {f list : List ℕ} {sum : ℕ} (q : ProbePlanOf f list sum) {action_of_lem : List ℕ} (n : NotedIn f action_of_lem) where
  abbrev noted : Noted q.t.actions action_of_lem
  noted = n.noted q.t q.task

  -- whether there are too many starts
  abbrev limit : Read (Unit {0})
  limit = starts_at_most q.t.actions max_list 0 list

  -- how many actions are started
  abbrev size : Unit {0} → ℕ
  size u = length (contract_of q.t.actions list)

  -- Each number noted is small.
  pub noted_small : (r : ℕ) → get_or action_of_lem r 0 ≤ max_actions
  noted_small r = omega (arith, noted_most noted r, (task_limits f q.task).actions)

  -- More than 256 actions.
  pub contract_many : {n p : ℕ} → count_in action_of_lem 0 0 list ≡ refused n p → contracted f list ≡ refused n p
  unfolding contracted
  contract_many h = rw (q.task, q.few, q.sums, not_made size limit (sym (count_noted action_of_lem noted list) ∙ h))

  module _ {needed : ℕ} (h : count_in action_of_lem 0 0 list ≡ accepted needed) where
    counted : Made size limit needed
    counted = made size limit (sym (count_noted action_of_lem noted list) ∙ h)

    -- Else the actions are carried, with the sum.
    pub contract_carried : contracted f list ≡ accepted (contract_in action_of_lem list, sum)
    unfolding contracted contract
    contract_carried = rw (q.task, q.few, q.sums, counted.answer, ← contract_noted action_of_lem noted list)

    -- So many are needed.
    pub contract_needed : needed ≡ length (contract_in action_of_lem list)
    contract_needed = sym counted.value ∙ sym (ap length (contract_noted action_of_lem noted list))
