-- Laws of what the operations answer on an accepted file, by its index.
use Rattle.std.specs.Prelude.{◌≡◌, refl, length, get_or, drop}
use Rattle.std.proofs.Math.Path.{sym, ap, ap₂}
use Rattle.std.proofs.Common.{◌∙◌, arith}
use Prim.Native.Nat.{ℕ, ◌+◌, ◌*◌, ◌<◌}
use mathlib.Core.List.{List, []}
use Rattle.std.proofs.Math.ListN.{take}
use Rattle.facts.specs.Read.{Read, accepted, refused, with_value, ◌>>=◌}
use Rattle.facts.specs.ReadLaws.{with_value_bind, agree}
use Rattle.facts.specs.Lists.{At}
use Rattle.facts.specs.ListLaws.{at_get_d}
use Rattle.facts.specs.Partial.{partial_at}
use Rattle.facts.specs.State.{check_state}
use Rattle.facts.specs.Run.{Move, at_most}
use Rattle.facts.specs.PartialReadLaws.{partial_read}
use Rattle.facts.specs.HeadLaws.{head_read}
use Rattle.taskfile.specs.Task.{Action, Task, Walk, max_list, walk, cost, task_sum, task_passed, both, task_run, max_variables, max_values}
use Rattle.taskfile.specs.TaskFile.{read_task, action_of, ask_task, cost_task, run_task, sum_task}
use Rattle.taskfile.proofs.TaskReadLaws.{task_limits}
use Rattle.taskfile.proofs.BlankLaws.{head_stands}
use Rattle.taskfile.specs.WalkInPlace.{move_at, passes_at, run_list}
use Rattle.taskfile.proofs.MoveInPlaceLaws.{sum_in_place, passed_in_place}
use Rattle.taskfile.specs.Blank.{file_of}
use Rattle.taskfile.specs.Index.{Ready}
use Rattle.taskfile.specs.AnswerLaws.{action_there, there, Starts}

-- a limit of the list before two runs is one before each
limit_each : (limit : Read (Unit {0})) (sum passed : Read ℕ) → ◌>>=◌ limit (λ u. both sum passed) ≡ both (◌>>=◌ limit (λ u. sum)) (◌>>=◌ limit (λ u. passed))
limit_each (accepted u) sum passed = refl
limit_each (refused n p) sum passed = refl

module _ (f : List ℕ) {n count : ℕ} {row : List ℕ} (ready : Ready f n count row) where
  abbrev t : Task
  t = (there f ready).task

  pub starts : Starts f ready
  starts =
      let l = head_stands f ready.some_byte (there f ready).reads in
      let r = head_read f max_variables max_values l.1 in
      let g = partial_read f t.sizes (1 + 2 * length t.sizes) r.goal in
      let n = (there f ready).variables in
      record {
        variables = omega (arith, r.wf.variables, n);
        actions = omega (arith, (task_limits _ (there f ready).reads).actions, (there f ready).actions);
        fits = omega (arith, g.next, g.fits, n);
        sizes = ap (λ (k : ℕ). take k (drop 1 f)) (sym n) ∙ sym r.sizes;
        init = ap (λ (k : ℕ). take k (drop (1 + k) f)) (sym n) ∙ sym r.init;
        goal = ap (λ (k : ℕ). partial_at f (1 + 2 * k)) (sym n) ∙ sym g.same;
      }

  -- the domain sizes
  pub sizes_there : {k : ℕ} → k ≡ n → take k (drop 1 f) ≡ t.sizes
  sizes_there e = ap (λ (j : ℕ). take j (drop 1 f)) e ∙ starts.sizes

  -- ---- what is asked about an action

  module _ {A : Type 0} (checked : List ℕ → List ℕ → Read (Unit {0})) (answer : Action → List ℕ → A) (a : ℕ) (s : List ℕ) where
    module _ (l : a < count) where
      abbrev none_such : Action
      none_such = record { pre = record { map = 0; values = [] }; eff = record { map = 0; values = [] }; incoming = 0; nodes = [] }

      abbrev x : Action
      x = get_or t.actions a none_such

      x_there : At t.actions a x
      x_there = at_get_d t.actions a none_such (omega (arith, (there f ready).actions))

      x_is : action_of t.actions a ≡ accepted x
      x_is = action_there x_there

      module _ {k : ℕ} (e : k ≡ n) where
        pub ask_state : {n p : ℕ} → checked (take k (drop 1 f)) s ≡ refused n p → ask_task checked answer (file_of f) a s ≡ refused n p
        unfolding ask_task
        ask_state h = rw ((there f ready).reads, x_is, ap (λ (ds : List ℕ). checked ds s) (sym (sizes_there e)) ∙ h)

        -- the answer is what it is for the action that is there
        pub ask_is : {u : Unit {0}} {c : A} → checked (take k (drop 1 f)) s ≡ accepted u
            → ((x : Action) → At t.actions a x → checked t.sizes s ≡ accepted u → c ≡ answer x s) → ask_task checked answer (file_of f) a s ≡ accepted c
        unfolding ask_task
        ask_is {u} h is =
            let ok : checked t.sizes s ≡ accepted u = ap (λ (ds : List ℕ). checked ds s) (sym (sizes_there e)) ∙ h in
            rw ((there f ready).reads, x_is, ok) (ap accepted (sym (is x x_there ok)))

  -- ---- runs

  -- the run of a list in place
  abbrev in_place : (ℕ → List ℕ → Move) → List ℕ → Read ℕ
  in_place move list = run_list count move (partial_at f (1 + 2 * n)) list (take n (drop (1 + n) f))

  module _ (list : List ℕ) where
    pub sum_is : sum_task (file_of f) list ≡ in_place (move_at f row) list
    unfolding sum_task run_list
    sum_is =
        rw (there f ready).reads
        (ap (λ (sum : Read ℕ). ◌>>=◌ (at_most max_list list) (λ u. sum)) (sym (sum_in_place f (there f ready).reads ready.located (sym (there f ready).actions) (1 + 2 * n) list (take n (drop (1 + n) f)) starts.init starts.goal)))

    -- the sum, and the nodes passed
    pub run_is : run_task (file_of f) list ≡ both (in_place (move_at f row) list) (in_place (passes_at f row) list)
    unfolding run_task task_run run_list
    run_is =
        let init = take n (drop (1 + n) f) in
        let all = sym (there f ready).actions in
        let within : Read ℕ → Read ℕ = λ r. ◌>>=◌ (at_most max_list list) (λ u. r) in
        rw (there f ready).reads
        (limit_each (at_most max_list list) (task_sum t list) (task_passed t list)
        ∙ ap₂ (λ (sum passed : Read ℕ). both (within sum) (within passed))
        (sym (sum_in_place f (there f ready).reads ready.located all (1 + 2 * n) list init starts.init starts.goal))
        (sym (passed_in_place f (there f ready).reads ready.located all (1 + 2 * n) list init starts.init starts.goal)))

-- What is made of an answer can be asked for by itself.
ask_made : {A B : Type 0} (g : A → B) (checked : List ℕ → List ℕ → Read (Unit {0})) (answer : Action → List ℕ → A) (f : List ℕ) (a : ℕ) (s : List ℕ)
    → with_value g (ask_task checked answer f a s) ≡ ask_task checked (λ x s. g (answer x s)) f a s
unfolding ask_task
ask_made g checked answer f a s =
    with_value_bind g (read_task f) _
    ∙ agree (read_task f) _ _ (λ t h. with_value_bind g (action_of t.actions a) _ ∙ agree (action_of t.actions a) _ _ (λ x e. with_value_bind g (checked t.sizes s) _))

-- So a cost is what it was without the nodes, and so are its refusals.
pub cost_alone : (f : List ℕ) (a : ℕ) (s : List ℕ) → with_value (λ (w : Walk). w.cost) (cost_task f a s) ≡ ask_task check_state cost f a s
cost_alone f a s = ask_made (λ (w : Walk). w.cost) check_state walk f a s
