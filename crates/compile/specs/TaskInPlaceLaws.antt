-- From the index of an accepted task file to the probe file of its task: the parts in place are the task's, and what is written from them is its probe.
use Rattle.std.specs.Prelude.{◌≡◌, refl, List, [], ◌∷◌, ◌++◌, map, get_or, take, drop}
use Rattle.std.proofs.Common.{sym, ap₂, subst, ◌∙◌, append_assoc, length-append}
use Rattle.std.proofs.Math.Path.{ap}
use Prim.Native.Nat.{ℕ, suc, ◌+◌, ◌*◌, ◌-◌, ◌%◌, ◌≤◌, ◌<◌}
use native.Mathlib.Omega.{arith}
use Rattle.std.proofs.Math.ListN.{length, length-replicate}
use borrow.Rule.Slice.PartMut.{put_mid}
use Rattle.facts.specs.Lists.{total, At, here, there}
use Rattle.facts.specs.Bytes.{bytes_of}
use Rattle.facts.specs.Partial.{partial_at, partial_bytes}
use Rattle.facts.specs.PartialLaws.{inside_length}
use Rattle.facts.specs.Write.{Wrote}
use Rattle.facts.specs.WriteLaws.{wrote_inside, wrote_room, wrote_then}
use Rattle.facts.specs.Fields.{write_each, write_head}
use Rattle.taskfile.specs.Task.{Action, Task}
use Rattle.taskfile.specs.Index.{Ready}
use Rattle.taskfile.specs.WalkInPlace.{node_count}
use Rattle.taskfile.specs.WalkInPlaceLaws.{count_is}
use Rattle.taskfile.proofs.TaskReadLaws.{task_wf}
use Rattle.taskfile.specs.AnswerLaws.{there as task-there}
use Rattle.taskfile.proofs.AnswerLaws.{starts}
use Rattle.probefile.specs.Probe.{Step}
use Rattle.probefile.specs.ProbeFile.{write_step, write_probe}
use Rattle.compilation.specs.Compile.{flat, variables, action_steps, steps_of, marker_size, probe_of}
use Rattle.compilation.specs.CompiledLaws.{all_sizes, sizes_length}
use Rattle.compilation.specs.CompiledLengthLaws.{step_bytes, probe_written, clear_length}
use Rattle.probe_writer.specs.HeadInPlace.{markers_in, head_in}
use Rattle.taskfile.specs.PartsInPlace.{actions_in}
use Rattle.taskfile.specs.PartsInPlaceLaws.{actions_in_place}

-- ---- the file of a task's probe

-- The sizes of the markers of actions whose offsets the row has from number a on.
markers_are : (f row : List ℕ) (a : ℕ) (xs : List Action) → ((k q : ℕ) (x : Action) → At xs k x → q ≡ a + k → node_count f (get_or row q 0) ≡ length x.nodes) → markers_in f row a (length xs) ≡ map marker_size xs
markers_are f row a [] h = refl
markers_are f row a (x ∷ xs) h =
    ap₂ (λ (d : ℕ) (ds : List ℕ). d ∷ ds) (ap (λ (m : ℕ). m + 2) (h 0 a x here (omega arith))) (markers_are f row (suc a) xs (λ k q y i e. h (suc k) q y (there i) (omega arith)))

-- its head
abbrev head : Task → List ℕ
head t = write_head (record { sizes = (probe_of t).sizes; init = (probe_of t).init; goal = (probe_of t).goal })

module _ (f : List ℕ) (n k : ℕ) (row : List ℕ) (t : Task) where
  -- The head in place is the probe's, if each part is: the number of variables is one byte.
  head_is : variables t ≡ n → take n (drop 1 f) ≡ t.sizes → take n (drop (1 + n) f) ≡ t.init → partial_at f (1 + 2 * n) ≡ t.goal
      → length t.actions ≡ k → markers_in f row 0 k ≡ map marker_size t.actions → n + suc k < 256 → head_in f n k row ≡ head t
  unfolding probe_of write_head
  head_is v s i g a m few =
      let count : n + suc k ≡ length (all_sizes t) % 256 = omega (arith, sizes_length t) in
      rw (count, s, i, g, m, ← a, ← v)

-- Head, step count and steps are the file.
file_is : (t : Task) {front : List ℕ} {steps : List Step} {count : ℕ} → front ≡ head t → steps ≡ steps_of t → count ≡ length steps
    → (front ++ bytes_of 2 count) ++ write_each write_step steps ≡ write_probe (probe_of t)
unfolding write_probe probe_of
file_is t {front} {steps} {count} h s c = append_assoc front (bytes_of 2 count) (write_each write_step steps) ∙ rw (h, c, s)

-- ---- the task of an accepted file with this index

module _ (f : List ℕ) {n k : ℕ} {row : List ℕ} (ready : Ready f n k row) where
  abbrev t : Task
  t = (task-there f ready).task

  -- the steps written from them
  abbrev steps : List ℕ → List Step
  steps sizes = flat (action_steps (length sizes)) 0 (actions_in f sizes row 0 k)

  -- They are the task's.
  pub steps_in_place : {sizes : List ℕ} → sizes ≡ t.sizes → steps sizes ≡ steps_of t
  unfolding steps_of
  steps_in_place e = rw (e, actions_in_place f ready)

  -- The sizes of the markers in place are the task's.
  markers_in_place : markers_in f row 0 k ≡ map marker_size t.actions
  markers_in_place =
      ap (markers_in f row 0) (sym (task-there f ready).actions)
      ∙ markers_are f row 0 t.actions (λ a q x h e.
      let same : q ≡ a = omega arith in
      rw same (count_is f (ready.located.lies t (task-there f ready).reads a x h)))

  -- The head in place is the probe's.
  head_in_place : head_in f n k row ≡ head t
  head_in_place =
      let s = starts f ready in
      let there = task-there f ready in
      head_is f n k row t there.variables s.sizes s.init s.goal there.actions markers_in_place (omega (arith, s.variables, s.actions))

  -- The length of the probe's file: that of head and step count, and that of the steps.
  pub file_length : {sizes : List ℕ} {own bytes : ℕ} → sizes ≡ t.sizes → own ≡ 3 + 2 * n + partial_bytes (partial_at f (1 + 2 * n)) + 3 * (1 + k)
      → bytes ≡ total step_bytes (steps sizes) → own + bytes ≡ length (write_probe (probe_of t))
  unfolding probe_of
  file_length e h b =
      let wf = task_wf _ (task-there f ready).reads in
      let init : length (probe_of t).init ≡ length t.init + suc (length t.actions) = simp (length-append, length-replicate {A = ℕ} (length t.actions) 0) in
      omega (
        arith,
        h,
        b,
        ap (total step_bytes) (steps_in_place e),
        probe_written (probe_of t),
        sizes_length t,
        init,
        clear_length t.goal (variables t) (suc (length t.actions)),
        inside_length t.sizes t.init wf.init,
        wf.goal.count,
        ap partial_bytes (starts f ready).goal,
        (task-there f ready).variables,
        (task-there f ready).actions,
      )

  module _ {sizes : List ℕ} (e : sizes ≡ t.sizes) {count : ℕ} (c : count ≡ length (steps sizes)) where
    -- head and step count, as they are written
    abbrev front : List ℕ
    front = head_in f n k row ++ bytes_of 2 count

    -- What is written, front and steps, is the probe's file.
    file_in_place : front ++ write_each write_step (steps sizes) ≡ write_probe (probe_of t)
    file_in_place = file_is t head_in_place (steps_in_place e) c

    -- Front and steps are as long as the file.
    file_parts : length front + length (write_each write_step (steps sizes)) ≡ length (write_probe (probe_of t))
    file_parts = sym (length-append front (write_each write_step (steps sizes))) ∙ ap length file_in_place

    -- Where there is room for the file, there is room for the front.
    pub front_room : {room : ℕ} → length (write_probe (probe_of t)) ≤ room → length front ≤ room
    front_room h = omega (arith, file_parts)

    module _ {before now : List ℕ} {at : ℕ} (h : length (write_probe (probe_of t)) ≤ length before) (w : Wrote front before now at) where
      -- The front ends within the buffer.
      pub front_inside : at ≤ length now
      front_inside = wrote_inside w (front_room h)

      -- Behind the front there is room for the steps.
      pub steps_room : length (write_each write_step (steps sizes)) ≤ length (take (length now - at) (drop at now))
      steps_room = wrote_room w (omega (arith, file_parts))

      -- Once the steps are written behind the front, the file is written.
      pub file_wrote : {last : List ℕ} {n : ℕ} → Wrote (write_each write_step (steps sizes)) (take (length now - at) (drop at now)) last n
          → Wrote (write_probe (probe_of t)) before (put_mid at (length now - at) now last) (at + n)
      file_wrote {last} {n} v = subst (λ (bytes : List ℕ). Wrote bytes before (put_mid at (length now - at) now last) (at + n)) file_in_place (wrote_then w v)
