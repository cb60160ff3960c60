-- Laws of expanding as the code does it: the actions of a list one after the other, and the ways in which the operation can go.
use Rattle.std.specs.Prelude.{◌≡◌, refl, Bool, true, false, ℕ, suc, ◌+◌, ◌*◌, ◌-◌, ◌≤◌, ◌<◌, List, [], length, get_or, take, drop, Result, Ok, Err}
use Rattle.facts.specs.declared.Refusal.{Refusal}
use Rattle.std.proofs.Common.{sym, ap, subst, ◌∙◌, add-one, arith, length-append, drop_of_length-le, drop-cons, length-take-le, ◌++◌}
use borrow.Rule.Slice.PartMut.{put_mid}
use Rattle.facts.specs.Lists.{total, At}
use Rattle.facts.specs.ListLaws.{look, at_length}
use Rattle.facts.specs.Read.{Read, accepted, refused}
use Rattle.facts.specs.ReadLaws.{through, not_made}
use Rattle.facts.specs.Partial.{Partial, holds, apply, partial_at, past_partial}
use Rattle.facts.specs.PartialLaws.{apply_inside}
use Rattle.facts.specs.State.{Inside}
use Rattle.facts.specs.Write.{over, Wrote}
use Rattle.facts.specs.WriteLaws.{over_front}
use Rattle.facts.specs.Run.{next as went, attempt, at_most}
use Rattle.facts.specs.RunLaws.{attempt_next, attempt_blocked, not_blocked, list_long}
use Rattle.taskfile.specs.Task.{Action, Task, Walk, max_list, Plan, WfAction, max_entries}
use Rattle.taskfile.specs.TaskFile.{read_task, check_task, sum_task}
use Rattle.taskfile.proofs.TaskReadLaws.{task_wf, task_limits}
use Rattle.taskfile.specs.TaskLaws.{task_plan}
use Rattle.taskfile.specs.Blank.{file_of}
use Rattle.taskfile.specs.Index.{Ready}
use Rattle.taskfile.specs.Row.{firsts_from, own_from}
use Rattle.taskfile.specs.WalkInPlace.{node_count, walk_at, perform_by, perform_at}
use Rattle.taskfile.specs.AnswerLaws.{there as task-there}
use Rattle.taskfile.proofs.AnswerLaws.{starts}
use Rattle.compilation.specs.Compile.{step_count}
use Rattle.taskfile.specs.PartsInPlace.{action_in, actions_in, Tested}
use Rattle.taskfile.specs.PartsInPlaceLaws.{reads, actions_in_place}
use Rattle.taskfile.proofs.PartsInPlaceLaws.{actions_stood}
use Rattle.probe_writer.specs.ExtentLaws.{weighs}
use Rattle.facts.specs.WriteRowLaws.{Cut, Going, going_more}
use Rattle.plans.specs.Carry.{action_list, expand_from, expand}
use Rattle.plans.specs.ListLaws.{total_take}
use Rattle.plans.proofs.LengthLaws.{expand_limit, expand_entries}
use Rattle.carry.specs.CarryFile.{expanded}
use Rattle.numbering.specs.InPlace.{Edges, Numbered, Writable, expansion, WroteIf, Prepared}
use Rattle.numbering.specs.NumberLaws.{actions_at, total_next, actions_are, steps_few, all_tested}
use Rattle.carry.specs.SameSumLaws.{expanded_plan, fits_inv}
use Rattle.carry.specs.LongList.{sum_of_expanded}
use Rattle.probefile.specs.Probe.{max_steps}

-- The state after what applied.
attempt_state : (pre eff : Partial) (cost : ℕ) (s : List ℕ) {e : List ℕ} {c : ℕ} → attempt pre eff cost s ≡ went e c → e ≡ apply eff s
attempt_state pre eff cost s {e} {c} h = go (holds pre s) refl
  where
    go : (b : Bool) → holds pre s ≡ b → e ≡ apply eff s
    go true g = cc (attempt_next pre eff cost s g, h)
    go false g = absurd (not_blocked (sym (attempt_blocked pre eff cost s g) ∙ h))

-- ---- the actions of a list, one after the other

-- The action of entry i of a list stands at an offset, with its own nodes, the variables that they test and the first edges of these, with the number `first` of its start and the number `next` after its end: its
-- entries come next in the state s.
pub record Entry (f sizes : List ℕ) (count : ℕ) (row list s : List ℕ) (i at : ℕ) (own own-edges : List ℕ) (first next : ℕ) : Type 0 where
  pub tested : Tested f own (node_count f at)
  pub well_formed : WfAction sizes (action_in f sizes at own)
  pub edges : Edges (action_in f sizes at own).nodes (1 + first) own-edges
  pub next_is : next ≡ first + step_count (action_in f sizes at own)
  pub few : next ≤ max_steps
  pub cut : Cut (expand_from (actions_in f sizes row 0 count) (drop i list) s) (action_list first (action_in f sizes at own) s)
      (expand_from (actions_in f sizes row 0 count) (drop (i + 1) list) (apply (partial_at f (past_partial f at)) s))

module _ {f sizes : List ℕ} {count : ℕ} {row first_step first_edge : List ℕ} (p : Prepared f sizes count row first_step first_edge) where
  abbrev actions_here : List Action
  actions_here = actions_in f sizes row 0 count

  -- There is room for all entries.
  pub list_room : (list s : List ℕ) → Inside sizes s → {room : ℕ} → max_entries * length list ≤ room → length (expand_from actions_here list s) ≤ room
  list_room list s inside h = omega (arith, expand_limit {sizes = sizes} {actions = actions_here} (λ a x h. p.well_formed h) p.variables list s inside)

  -- Each entry that is the number of an action has it.
  pub entry_there : {list : List ℕ} (s : List ℕ) {i at : ℕ} {own own-edges : List ℕ} {first next : ℕ} → i < length list → get_or list i 0 < count
      → at ≡ get_or row (get_or list i 0) 0 → own ≡ drop (own_from row (get_or list i 0)) row → own-edges ≡ drop (get_or row (firsts_from + get_or list i 0) 0) first_edge
      → first ≡ get_or first_step (get_or list i 0) 0 → next ≡ get_or first_step (get_or list i 0 + 1) 0 → Entry f sizes count row list s i at own own-edges first next
  entry_there {list} s {i} l known h o r n m =
      let a = get_or list i 0 in
      let element = actions_at f sizes row a count known in
      let after = m ∙ ap (λ (k : ℕ). get_or first_step k 0) (add-one a) ∙ p.numbered.numbers (suc a) (omega (arith, at_length element)) in
      rw (h, o, r, n ∙ p.numbered.numbers a (omega (arith, at_length element)), after)
      (record {
        tested = p.tested.own a known;
        well_formed = p.well_formed element;
        edges = p.numbered.edges element;
        next_is = total_next step_count element;
        few = omega (arith, p.few, total_next step_count element, total_take step_count element);
        cut = record { cut = rw (drop-cons list i 0 l, look element, expand_from, add-one i) };
      })

-- An action that applied set its effect.
applied_state : (f : List ℕ) (at : ℕ) (own s : List ℕ) (measure : Walk → ℕ) {after : List ℕ} {c : ℕ} → went after c ≡ perform_by measure f at own s → after ≡ apply (partial_at f (past_partial f at)) s
unfolding perform_by
applied_state f at own s measure {after} {c} h = attempt_state (partial_at f at) (partial_at f (past_partial f at)) (measure (walk_at f at own s)) s (sym h)

module _ {f sizes : List ℕ} {count : ℕ} {row list s : List ℕ} {i at : ℕ} {own own-edges : List ℕ} {first next : ℕ} (e : Entry f sizes count row list s i at own own-edges first next) where
  -- Its entries can be written.
  pub entry_writable : Inside sizes s → {room : ℕ} → length (action_list first (action_in f sizes at own) s) ≤ room → Writable sizes (action_in f sizes at own).nodes own-edges first next s room
  entry_writable inside fits = record { well_formed = e.well_formed.nodes; inside = inside; edges = e.edges; next_is = e.next_is; few = e.few; fits = fits }

  module _ {after : List ℕ} {c : ℕ} (h : went after c ≡ perform_at f at own s) where
    -- The state after it is inside the domains.
    pub entry_inside : Inside sizes s → Inside sizes after
    entry_inside inside = rw (applied_state f at own s (λ w. w.cost) h) (apply_inside (partial_at f (past_partial f at)) sizes s e.well_formed.eff.values inside)

    -- Once its entries are written, those of the later entries are left.
    pub entry_next : {whole before now last : List ℕ} {written k : ℕ} → Going whole (expand_from (actions_in f sizes row 0 count) (drop i list) s) before now written → length whole ≤ length before
        → Wrote (action_list first (action_in f sizes at own) s) (take (length now - written) (drop written now)) last k
        → Going whole (expand_from (actions_in f sizes row 0 count) (drop (i + 1) list) after) before (put_mid written (length now - written) now last) (written + k)
    entry_next going fits w = rw (applied_state f at own s (λ w. w.cost) h) (going_more going fits e.cut w)

-- No more is written than there is.
pub going_few : {whole rest before now : List ℕ} {at : ℕ} → Going whole rest before now at → at ≤ length whole
going_few {rest = rest} g = omega (arith, g.wrote.count, ap length g.left ∙ length-append g.done rest)

-- Past the last entry nothing is left.
pub entries_none : (xs : List Action) (list s : List ℕ) {i : ℕ} → length list ≤ i → expand_from xs (drop i list) s ≡ []
entries_none xs list s l = rw (drop_of_length-le list l)

-- ---- a list that runs on an accepted file

-- what is known of a list whose run answers the sum c
record RanPlan (t : Task) (list : List ℕ) (c : ℕ) : Type 0 where
  plan : Plan t list c
  few : length list ≤ max_list

module _ (f : List ℕ) {t : Task} (h : read_task f ≡ accepted t) (list : List ℕ) where
  -- A list that runs is a plan.
  ran_plan : {c : ℕ} → sum_task f list ≡ accepted c → RanPlan t list c
  unfolding sum_task
  ran_plan {c} r =
      let a = through (read_task f) r in
      let b = through (at_most max_list list) a.then in
      let same : a.got ≡ t = cc (a.first, h) in
      record { plan = (task_plan t list c).1 (rw same at b.then); few = fits_inv max_list list b.first }

  -- Its expansion.
  expansion_is : {c : ℕ} → RanPlan t list c → expansion f list ≡ expand t list
  unfolding expansion
  expansion_is r = rw (expanded_plan f h r.plan r.few, expansion)

  -- It has at most 26 steps for each action.
  pub expansion_few : {c : ℕ} → sum_task f list ≡ accepted c → length (expansion f list) ≤ max_entries * length list
  expansion_few r = rw (expansion_is (ran_plan r)) (expand_entries t (task_wf f h) (task_limits f h) list)

module _ (f : List ℕ) {variables count : ℕ} {row : List ℕ} (ready : Ready f variables count row) where
  -- the file's task
  abbrev t : Task
  t = (task-there f ready).task

  -- The initial values are inside the domains.
  pub init_inside : {sizes state : List ℕ} → sizes ≡ t.sizes → state ≡ t.init → Inside sizes state
  init_inside e s = rw (e, s) (task_wf _ (reads f ready)).init

  -- All is prepared to write expansions.
  pub prepared : {sizes first_step first_edge : List ℕ} → sizes ≡ t.sizes → Numbered (actions_in f sizes row 0 count) row first_step first_edge → Prepared f sizes count row first_step first_edge
  prepared {sizes} e n =
      let same = actions_are f ready e in
      record {
        long = omega (arith, ready.long, (starts f ready).actions);
        weighs = λ a l. weighs f (actions_stood f ready e a l) (ready.fronts.incoming a l);
        tested = all_tested f ready;
        variables = omega (arith, ap length e, (task_limits _ (reads f ready)).variables);
        well_formed = λ {a} {x} h. subst (λ (ds : List ℕ). WfAction ds x) (sym e) ((task_wf _ (reads f ready)).actions (subst (λ (xs : List Action). At xs a x) same h));
        numbered = n;
        few = omega (arith, ap (total step_count) same, steps_few f ready);
      }

  -- What is written from the initial state on is the expansion.
  entries_are : (list : List ℕ) {sizes state : List ℕ} {c : ℕ} → sum_task (file_of f) list ≡ accepted c → sizes ≡ t.sizes → state ≡ t.init → expand_from (actions_in f sizes row 0 count) list state ≡ expansion (file_of f) list
  unfolding expand
  entries_are list r e s = rw (e, s, actions_in_place f ready) (sym (expansion_is (file_of f) (reads f ready) list (ran_plan (file_of f) (reads f ready) list r)))

  pub wrote_expansion : (list before now : List ℕ) {sizes state : List ℕ} {ran : Read ℕ} (r : Result (ℕ × ℕ) Refusal) → sizes ≡ t.sizes → state ≡ t.init → ran ≡ sum_task (file_of f) list
      → WroteIf r ran (expand_from (actions_in f sizes row 0 count) list state) before now → WroteIf r (sum_task (file_of f) list) (expansion (file_of f) list) before now
  wrote_expansion list before now (Ok (n, sum)) e s same (h, w) = let runs = h ∙ same in (runs, subst (λ (es : List ℕ). Wrote es before now n) (entries_are list (sym runs) e s) w)
  wrote_expansion list before now (Err why) e s same h = h ∙ same

-- ---- the ways in which the operation can go

-- A refused file.
pub expand_no_file : (f list : List ℕ) {n p : ℕ} → check_task f ≡ refused n p → expanded f list ≡ refused n p
unfolding check_task expanded
expand_no_file f list h = rw (not_made (λ (t : Task). tt) (read_task f) h)

module _ (f : List ℕ) {t : Task} (h : read_task f ≡ accepted t) (list : List ℕ) where
  -- A list that is too long.
  pub expand_long : max_list < length list → expanded f list ≡ refused 8 max_list
  unfolding expanded
  expand_long l = rw (h, list_long max_list list l)

  -- A refused list.
  pub expand_no_list : {n p : ℕ} → sum_task f list ≡ refused n p → expanded f list ≡ refused n p
  expand_no_list r = not_made (λ (c : List ℕ × ℕ). c.1) (expanded f list) (sum_of_expanded f list ∙ r)

  -- A plan.
  pub expand_plan : {c : ℕ} → sum_task f list ≡ accepted c → expanded f list ≡ accepted (expansion f list, c)
  expand_plan {c} r = let ran = ran_plan f h list r in expanded_plan f h ran.plan ran.few ∙ ap (λ (l : List ℕ). accepted (l, c)) (sym (expansion_is f h list ran))

-- What was written stands at the front.
pub front_is : {entries before now : List ℕ} {n : ℕ} → Wrote entries before now n → take n now ≡ entries
front_is {entries} {before} w = rw (w.count, w.buffer) (over_front entries before)

-- Written from there to another buffer, it is at the front of that.
pub front_copied : {entries before now out last : List ℕ} {n : ℕ} → Wrote entries before now n → {k : ℕ} → Wrote (take n now) out last k → Wrote entries out last n
front_copied {out = out} {last = last} w v = record { count = w.count; buffer = subst (λ (es : List ℕ). last ≡ over es out) (front_is w) v.buffer }

-- The front of a buffer, copied to another one, is written there.
pub copied_front : (now : List ℕ) {out last : List ℕ} {n : ℕ} → n ≤ length now → last ≡ take n now ++ drop n out → Wrote (take n now) out last n
unfolding over
copied_front now {out} {last} {n} l e = let long = length-take-le n now l in record { count = sym long; buffer = e ∙ ap (λ (k : ℕ). take n now ++ drop k out) (sym long) }
