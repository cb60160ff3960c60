-- From the index of an accepted file to the operations: what fails in place is what fails in the task or the probe file.
use Rattle.std.specs.Prelude.{ℕ, ◌+◌, ◌*◌, ◌≤◌, ◌<◌, ◌≡◌, List, take, drop}
use Rattle.std.proofs.Common.{sym, ap, arith, get_or-take}
use Rattle.std.proofs.Math.ListN.{length}
use Rattle.std.proofs.Math.Seq.{length-take-le}
use Rattle.facts.specs.Read.{accepted, refused, with_value}
use Rattle.facts.specs.ReadLaws.{not_made}
use Rattle.facts.specs.ListLaws.{look}
use Rattle.facts.specs.RunLaws.{list_long, list_fits}
use Rattle.taskfile.specs.Task.{Action, Task, max_list}
use Rattle.taskfile.specs.TaskFile.{read_task, check_task}
use Rattle.taskfile.specs.Blank.{file_of}
use Rattle.taskfile.specs.Index.{Ready}
use Rattle.taskfile.specs.AnswerLaws.{there}
use Rattle.taskfile.proofs.AnswerLaws.{starts}
use Rattle.taskfile.specs.PartsInPlaceLaws.{at_some, action_here}
use Rattle.probefile.specs.Probe.{Step, Probe, max_list as maxProbeList}
use Rattle.probefile.specs.InPlace.{probe_at, step_at, Located}
use Rattle.probefile.specs.IndexLaws.{not_read, accepted_probe, at_step, starts as probe-starts}
use Rattle.text.specs.Append.{bytes}
use Rattle.failure.specs.Failure.{halt_text, action_pre, action_eff, step_pre, step_eff, task_failure, probe_failure}
use Rattle.failure.specs.FailureLaws.{halt_same}
use Rattle.failure.specs.InPlace.{pre_at, eff_at, failure_in}

-- ---- tasks

module _ (f list : List ℕ) where
  pub task_refused : {n p : ℕ} → check_task f ≡ refused n p → task_failure f list ≡ refused n p
  unfolding check_task task_failure
  task_refused h = rw (not_made (λ (t : Task). tt) (read_task f) h)

  module _ {n count : ℕ} {row : List ℕ} (ready : Ready f n count row) where
    abbrev t : Task
    t = (there f ready).task

    pub task_long : max_list < length list → task_failure (file_of f) list ≡ refused 8 max_list
    unfolding task_failure
    task_long l = rw ((there f ready).reads, list_long max_list list l)

    -- Each action stands at its offset.
    action_same : (a : ℕ) → a < count → (action_pre t.actions a ≡ pre_at f (take count row) a) × (action_eff t.actions a ≡ eff_at f (take count row) a)
    action_same a l =
        let x = at_some t.actions a (omega (arith, (there f ready).actions)) in
        let same = action_here f (ready.located.lies t (there f ready).reads a x.0 x.1) in
        (rw (look x.1, action_pre, get_or-take count row a 0 l) (sym (ap (λ (x : Action). x.pre) same)), rw (look x.1, action_eff, get_or-take count row a 0 l) (sym (ap (λ (x : Action). x.eff) same)))

    pub task_fits : count ≤ length row → length list ≤ max_list → task_failure (file_of f) list ≡ failure_in f (bytes "action ") (take count row) (1 + 2 * n) list (take n (drop (1 + n) f))
    unfolding task_failure failure_in
    task_fits few l =
        let long : length (take count row) ≡ count = length-take-le count row few in
        rw ((there f ready).reads, list_fits max_list list l, long, (starts f ready).init, (starts f ready).goal, (there f ready).actions)
        (ap (with_value (halt_text (bytes "action ") t.goal)) (halt_same count (action_pre t.actions) (action_eff t.actions) (pre_at f (take count row)) (eff_at f (take count row)) action_same list t.init 0))

  -- ---- probe files

  pub probe_refused : {n p : ℕ} → probe_at f ≡ refused n p → probe_failure f list ≡ refused n p
  unfolding probe_failure
  probe_refused h = rw (not_read f h)

  module _ {n k : ℕ} (h : probe_at f ≡ accepted (n, k)) where
    abbrev p : Probe
    p = (accepted_probe f h).probe

    pub probe_long : maxProbeList < length list → probe_failure f list ≡ refused 8 maxProbeList
    unfolding probe_failure
    probe_long l = rw ((accepted_probe f h).reads, list_long maxProbeList list l)

    module _ (offsets : List ℕ) (loc : Located f offsets) where
      -- Each step stands at its offset.
      pub step_there : (r : ℕ) → r < k → (step_pre p.steps r ≡ pre_at f offsets r) × (step_eff p.steps r ≡ eff_at f offsets r)
      unfolding step_at
      step_there r l =
          let o = at_step f offsets (accepted_probe f h).reads loc r (omega (arith, (accepted_probe f h).steps)) in
          (rw (look o.1, step_pre) (sym (ap (λ (st : Step). st.pre) o.2)), rw (look o.1, step_eff) (sym (ap (λ (st : Step). st.eff) o.2)))

      step_same : (r : ℕ) → r < k → (step_pre p.steps r ≡ pre_at f (take k offsets) r) × (step_eff p.steps r ≡ eff_at f (take k offsets) r)
      step_same r l = rw (get_or-take k offsets r 0 l) (step_there r l)

      pub probe_fits : k ≤ length offsets → length list ≤ maxProbeList → probe_failure f list ≡ failure_in f (bytes "step ") (take k offsets) (1 + 2 * n) list (take n (drop (1 + n) f))
      unfolding probe_failure failure_in
      probe_fits few l =
          let long : length (take k offsets) ≡ k = length-take-le k offsets few in
          rw ((accepted_probe f h).reads, list_fits maxProbeList list l, long, (probe-starts f h).init, (probe-starts f h).goal, (accepted_probe f h).steps)
          (ap (with_value (halt_text (bytes "step ") p.goal)) (halt_same k (step_pre p.steps) (step_eff p.steps) (pre_at f (take k offsets)) (eff_at f (take k offsets)) step_same list p.init 0))
