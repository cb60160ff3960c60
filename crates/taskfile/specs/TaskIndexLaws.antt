-- Laws of the pass over a whole task file: the ways in which it can go, and that what it notes is where the task's actions and nodes stand.
use Rattle.std.proofs.Common.{inl, inr, ap₂, ◌∙◌, subst, subst₂, arith}
use Rattle.std.specs.Prelude.{◌≡◌, refl, get_or, take, drop}
use Rattle.std.proofs.Math.Path.{sym, ap}
use Prim.Native.Nat.{ℕ, ◌+◌, ◌≤◌, ◌<◌}
use mathlib.Core.List.{List, [], ◌∷◌}
use Rattle.std.proofs.Math.ListN.{length}
use borrow.Author.Tests.{le-leb, lt-leb}
use Rattle.facts.specs.Read.{Read, accepted, refused}
use Rattle.facts.specs.Lists.{At}
use Rattle.facts.specs.ListLaws.{at_none}
use Rattle.facts.specs.ReadLaws.{not_refused, made, not_made, value_of_lem, next_of_lem}
use Rattle.facts.specs.Fields.{next_of, value_of, Head, read_count, read_head, head_at, read_end}
use Rattle.facts.specs.FieldLaws.{count_read}
use Rattle.facts.specs.HeadLaws.{headed, headed_sizes, headed_fits, no_head}
use Rattle.taskfile.specs.Task.{Action, Task, max_nodes, max_variables, max_values, max_actions}
use Rattle.taskfile.specs.TaskFile.{read_actions, read_bytes, blank, read_task, check_task}
use Rattle.taskfile.specs.TaskReadLaws.{task_read}
use Rattle.taskfile.specs.BlankLaws.{others_read, stands, file_is}
use Rattle.taskfile.specs.Row.{row_long, own_from}
use Rattle.taskfile.specs.Blank.{blank_head, or_else, file_of}
use Rattle.taskfile.specs.InPlace.{Lies, Fronts, Listed, counts, task_at, Located}
use Rattle.taskfile.specs.Index.{Ready, index_answer, Noted}
use Rattle.taskfile.specs.IndexLaws.{actions_count, fronts_none}

-- ---- the bytes in which a task is found

some_bytes : (f : List ℕ) → 1 ≤ length (or_else f blank_head)
some_bytes [] = omega arith
some_bytes (byte ∷ rest) = omega arith

-- the blank task has no action
none : {t : Task} {a : ℕ} {x : Action} → blank ≡ t → At t.actions a x → ⊥
none {t} {a} {x} same i = at_none (subst (λ (t : Task). At t.actions a x) (sym same) i)

-- a task that has one is read of its bytes
read_of : (f : List ℕ) (t : Task) {a : ℕ} {x : Action} → read_task (file_of f) ≡ accepted t → At t.actions a x → read_bytes f ≡ accepted t
read_of f t {a} {x} r i = elim (stands f r) [
  | inl h ↦ h
  | inr q ↦ absurd (none q.0 i)
]

located_none : {f row : List ℕ} → ((t : Task) → read_task (file_of f) ≡ accepted t → blank ≡ t) → Located f row
located_none blank = record { lies = λ t r a x i. absurd (none (blank t r) i); first_is = λ t r a x i. absurd (none (blank t r) i) }

located_there : (f : List ℕ) {row : List ℕ} → Located f row → Located (or_else f blank_head) row
unfolding file_of read_task
located_there [] l = located_none (λ t r. cc r)
located_there (byte ∷ rest) l = l

-- an empty file
blank_counted : (f : List ℕ) → length f ≡ 0 → accepted (1, 0) ≡ task_at f
unfolding task_at read_task
blank_counted [] none = refl
blank_counted (byte ∷ rest) none = absurd (omega (arith, none))

located_blank : (f : List ℕ) {row : List ℕ} → length f ≡ 0 → Located f row
unfolding file_of read_task
located_blank [] none = located_none (λ t r. cc r)
located_blank (byte ∷ rest) none = absurd (omega (arith, none))

fronts_there : (f : List ℕ) {n k : ℕ} {row : List ℕ} → task_at f ≡ accepted (n, k) → Fronts f k row → Fronts (or_else f blank_head) k row
unfolding task_at read_task
fronts_there [] {row = row} h g = subst (λ (k : ℕ). Fronts blank_head k row) (next_of_lem h) fronts_none
fronts_there (byte ∷ rest) h g = g

module _ (f : List ℕ) where
  -- the check alone
  pub check_refused : {n p : ℕ} → task_at f ≡ refused n p → check_task f ≡ refused n p
  unfolding task_at check_task
  check_refused h = rw (not_made counts (read_task f) h)

  pub check_accepted : {n k : ℕ} → task_at f ≡ accepted (n, k) → check_task f ≡ accepted tt
  unfolding task_at check_task
  check_accepted h = rw (made counts (read_task f) h).answer

  -- ---- the index in a lent row

  -- what is refused has no index
  pub noted_none : {n p : ℕ} {row : List ℕ} → Noted f (refused n p) row
  noted_none = record { located = λ h. absurd (not_refused h); fronts = λ h. absurd (not_refused h) }

  -- what is accepted has this one
  pub noted_good : {n k : ℕ} {row : List ℕ} → Located f row → Fronts f k row → Noted f (accepted (n, k)) row
  noted_good {row = row} l g = record { located = λ h. l; fronts = λ h. subst (λ (k : ℕ). Fronts f k row) (next_of_lem h) g }

  pub row_short : {long : ℕ} → long < row_long → index_answer f long ≡ refused 7 row_long
  unfolding index_answer
  row_short {long} l = rw (lt-leb row_long long l)

  pub row_fits : {long : ℕ} → row_long ≤ long → index_answer f long ≡ task_at f
  unfolding index_answer
  row_fits {long} l = rw (le-leb row_long long l)

  -- a row that is as long as it has to be tells what the check tells
  module _ {answer : Read (ℕ × ℕ)} {n k : ℕ} (h : answer ≡ index_answer f row_long) (is : answer ≡ accepted (n, k)) {bytes : List ℕ} (b : bytes ≡ or_else f blank_head) where
    counted : task_at f ≡ accepted (n, k)
    unfolding index_answer
    counted = sym h ∙ is

    pub index_file : file_of bytes ≡ f
    unfolding task_at
    index_file = ap file_of b ∙ file_is f (made counts (read_task f) counted).answer

    pub index_ready : {row : List ℕ} → Noted f answer row → length row ≡ row_long → Ready bytes n k row
    index_ready {row} noted long = rw b (record {
      some_byte = some_bytes f;
      counts = ap task_at (sym (ap file_of b) ∙ index_file) ∙ counted;
      located = located_there f (noted.located is);
      fronts = fronts_there f counted (noted.fronts is);
      long = omega (arith, long);
    })

  pub index_refused : {n p : ℕ} → index_answer f row_long ≡ refused n p → check_task f ≡ refused n p
  unfolding index_answer
  index_refused h = check_refused h

  pub index_accepted : {n k : ℕ} → index_answer f row_long ≡ accepted (n, k) → check_task f ≡ accepted tt
  unfolding index_answer
  index_accepted h = check_accepted h

  -- ---- the ways in which a file can go

  -- an empty one has the blank task's counts, and no action to be noted
  pub task_blank : {row : List ℕ} → length f ≡ 0 → (accepted (1, 0) ≡ task_at f) × Noted f (accepted (1, 0)) row
  task_blank none = (blank_counted f none, noted_good (located_blank f none) fronts_none)

  pub task_no_head : 1 ≤ length f → {n p : ℕ} → head_at f max_variables max_values ≡ refused n p → task_at f ≡ refused n p
  unfolding task_at read_bytes
  task_no_head some h = rw (others_read f some, no_head f max_variables max_values h)

  module _ {n at : ℕ} (h : head_at f max_variables max_values ≡ accepted (n, at)) where
    abbrev head : Head
    head = (headed f max_variables max_values h).head

    abbrev head_is : read_head f max_variables max_values ≡ accepted (head, at)
    head_is = (headed f max_variables max_values h).is

    -- what has a head has some bytes
    read_as : read_task f ≡ read_bytes f
    read_as = others_read f (omega (arith, headed_fits f max_variables max_values h))

    pub task_no_count : {k p : ℕ} → value_of (read_count f 1 max_actions at) ≡ refused k p → task_at f ≡ refused k p
    unfolding task_at read_bytes
    task_no_count g = rw (read_as, head_is, not_made (λ (p : ℕ × ℕ). p.0) (read_count f 1 max_actions at) g)

    module _ {count : ℕ} (g : value_of (read_count f 1 max_actions at) ≡ accepted count) where
      count_is : read_count f 1 max_actions at ≡ accepted (count, at + 1)
      count_is =
          let m = made (λ (p : ℕ × ℕ). p.0) (read_count f 1 max_actions at) g in
          m.answer ∙ ap₂ (λ (c e : ℕ). accepted (c, e)) m.value (count_read f 1 max_actions at m.answer).next

      pub count_fits : (count ≤ max_actions) × (at + 1 ≤ length f)
      count_fits = let m = count_read f 1 max_actions at count_is in (m.most, m.fits)

      module _ {k : ℕ} (same : k ≡ n) where
        -- the domain sizes as they stand
        abbrev sizes : List ℕ
        sizes = take k (drop 1 f)

        sizes_are : head.sizes ≡ sizes
        sizes_are = headed_sizes f max_variables max_values h same

        pub task_no_actions : {m p : ℕ} → next_of (read_actions f sizes count max_nodes (at + 1)) ≡ refused m p → task_at f ≡ refused m p
        unfolding task_at read_bytes
        task_no_actions s = rw (read_as, head_is, count_is, sizes_are, not_made (λ (p : List Action × ℕ). p.1) (read_actions f sizes count max_nodes (at + 1)) s)

        module _ {end : ℕ} (s : next_of (read_actions f sizes count max_nodes (at + 1)) ≡ accepted end) where
          abbrev actions : List Action
          actions = (made (λ (p : List Action × ℕ). p.1) (read_actions f sizes count max_nodes (at + 1)) s).from.0

          actions_are : read_actions f sizes count max_nodes (at + 1) ≡ accepted (actions, end)
          actions_are = let m = made (λ (p : List Action × ℕ). p.1) (read_actions f sizes count max_nodes (at + 1)) s in m.answer ∙ ap (λ (e : ℕ). accepted (actions, e)) m.value

          pub task_trailing : end < length f → task_at f ≡ refused 2 end
          unfolding task_at read_bytes read_end
          task_trailing l = rw (read_as, head_is, count_is, sizes_are, actions_are, lt-leb (length f) end l)

          pub task_good : length f ≤ end → task_at f ≡ accepted (n, count)
          unfolding task_at read_bytes read_end
          task_good l =
              rw (read_as, head_is, count_is, sizes_are, actions_are, le-leb (length f) end l)
              (ap₂ (λ (i j : ℕ). accepted (i, j)) (ap length (sym sizes_are) ∙ (headed f max_variables max_values h).count) (actions_count f sizes count max_nodes (at + 1) actions_are))

        -- the actions from this offset on are those of the task that is read, with its domain sizes
        read_again : (t : Task) → read_bytes f ≡ accepted t → (end : ℕ) × (read_actions f sizes count max_nodes (at + 1) ≡ accepted (t.actions, end)) × (t.sizes ≡ sizes)
        read_again t r =
            let l = task_read f r in
            let head_same = value_of_lem (sym l.head_is ∙ head_is) in
            let at_same : l.at ≡ at = next_of_lem (sym l.head_is ∙ head_is) in
            let c : read_count f 1 max_actions at ≡ accepted (length t.actions, l.at + 1) = ap (read_count f 1 max_actions) (sym at_same) ∙ l.count_is in
            let count_same : length t.actions ≡ count = value_of_lem (sym c ∙ count_is) in
            let sizes_same : t.sizes ≡ sizes = ap (λ (h : Head). h.sizes) head_same ∙ sizes_are in (
              l.end,
              subst₂ (λ (i j : ℕ). read_actions f sizes i max_nodes (j + 1) ≡ accepted (t.actions, l.end)) count_same at_same
                  (subst (λ (ds : List ℕ). read_actions f ds (length t.actions) max_nodes (l.at + 1) ≡ accepted (t.actions, l.end)) sizes_same l.actions_are),
              sizes_same,
            )

        -- what was noted for the actions from this offset on was noted for the task's
        pub located : {row : List ℕ} → Listed f sizes count (at + 1) row → Located f row
        located {row} m = record {
          lies = λ t r a x i.
              let o = read_again t (read_of f t r i) in
              subst (λ (ds : List ℕ). Lies f ds x (get_or row a 0) (own_from row a) row) (sym o.2) (m.lies t.actions o.0 o.1 a x i);
          first_is = λ t r a x i. let o = read_again t (read_of f t r i) in m.first_is t.actions o.0 o.1 a x i;
        }
