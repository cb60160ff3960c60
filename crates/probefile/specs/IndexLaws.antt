-- Laws of the pass that checks a probe file and notes where its steps start, and of a run by those offsets.
use Rattle.std.specs.Prelude.{◌≡◌, get_or, drop, Result, IsErrAnd}
use Rattle.std.proofs.lemmas.Result.{err_from_is_err_and}
use Rattle.facts.specs.declared.Refusal.{Refusal}
use Rattle.facts.specs.Refusal.{number, place}
use Rattle.std.proofs.Math.Path.{sym, ap, subst₂}
use Rattle.std.proofs.Common.{ap₂, ◌∙◌, subst, arith, ext_get_or, get_or-take}
use Prim.Native.Nat.{ℕ, ◌+◌, ◌*◌, ◌≤◌, ◌<◌}
use mathlib.Core.List.{List, [], map}
use Rattle.std.proofs.Math.ListN.{length, take, get_or-map}
use Rattle.std.proofs.lemmas.List.{length-map}
use Rattle.std.proofs.Math.Seq.{length-take-le}
use borrow.Author.Tests.{le-leb, lt-leb}
use Rattle.facts.specs.Read.{accepted, refused}
use Rattle.facts.specs.ReadLaws.{made, not_made, value_of_lem, next_of_lem}
use Rattle.facts.specs.Lists.{up_from, At}
use Rattle.facts.specs.ListLaws.{length_up_from, at_get_d, at_length}
use Rattle.facts.specs.Partial.{partial_at}
use Rattle.facts.specs.Run.{run_from}
use Rattle.facts.specs.RunLaws.{run_same, list_long, list_fits}
use Rattle.facts.specs.Fields.{next_of, value_of, Head, read_head, head_at, read_end}
use Rattle.facts.specs.EachLaws.{each_length, each_at}
use Rattle.facts.specs.PartialReadLaws.{partial_read}
use Rattle.facts.specs.HeadLaws.{head_read, headed, headed_sizes, no_head}
use Rattle.probefile.specs.Probe.{Step, Probe, max_steps, max_list, perform, step_move, probe_sum, max_variables, max_values}
use Rattle.probefile.specs.ProbeFile.{read_step, read_step_count, read_steps, read_probe, check_probe, run_probe}
use Rattle.probefile.specs.ProbeLaws.{probe_lines, count_most, move_at_lem}
use Rattle.probefile.specs.InPlace.{probe_at, CountedIn, step_at, move_at, Within, Marked, Located, CostBefore, Costed}
use Rattle.probefile.specs.InPlaceLaws.{step_read, steps_more}

accepted_same : {x y : ℕ} → accepted x ≡ accepted y → x ≡ y
accepted_same e = cc

module _ (f : List ℕ) where
  -- what has no variables and steps is refused
  pub not_read : {n p : ℕ} → probe_at f ≡ refused n p → read_probe f ≡ refused n p
  unfolding probe_at
  not_read h = not_made (λ (p : Probe). (length p.sizes, length p.steps)) (read_probe f) h

  -- what is refused has no steps to be found
  pub located_none : {n p : ℕ} (offsets : List ℕ) → probe_at f ≡ refused n p → Located f offsets
  located_none offsets h = record { lies = λ p r k st a. absurd (let e = not_read h in let z : ◌≡◌ {A = ℕ} 0 1 = cc in omega arith) }

  -- the check alone
  pub check_refused : {n p : ℕ} → probe_at f ≡ refused n p → check_probe f ≡ refused n p
  unfolding check_probe
  check_refused h = rw (not_read h)

  pub check_accepted : {n k : ℕ} → probe_at f ≡ accepted (n, k) → check_probe f ≡ accepted tt
  unfolding probe_at check_probe
  check_accepted h = rw (made (λ (p : Probe). (length p.sizes, length p.steps)) (read_probe f) h).answer

  -- ---- the ways in which a file can go

  pub probe_no_head : {n p : ℕ} → head_at f max_variables max_values ≡ refused n p → probe_at f ≡ refused n p
  unfolding probe_at read_probe
  probe_no_head h = rw (no_head f max_variables max_values h)

  module _ {n at : ℕ} (h : head_at f max_variables max_values ≡ accepted (n, at)) where
    abbrev head : Head
    head = (headed f max_variables max_values h).head

    abbrev head_is : read_head f max_variables max_values ≡ accepted (head, at)
    head_is = (headed f max_variables max_values h).is

    pub probe_no_count : {k p : ℕ} → value_of (read_step_count f at) ≡ refused k p → probe_at f ≡ refused k p
    unfolding probe_at read_probe
    probe_no_count g = rw (head_is, not_made (λ (p : ℕ × ℕ). p.0) (read_step_count f at) g)

    module _ {count : ℕ} (g : value_of (read_step_count f at) ≡ accepted count) where
      count_is : read_step_count f at ≡ accepted (count, at + 2)
      count_is =
          let m = made (λ (p : ℕ × ℕ). p.0) (read_step_count f at) g in
          m.answer ∙ ap₂ (λ (c e : ℕ). accepted (c, e)) m.value (count_most f at m.answer).1

      pub count_fits : (count ≤ max_steps) × (at + 2 ≤ length f)
      count_fits = let m = count_most f at count_is in (m.0, m.2)

      -- an accepted file has as many steps as it says
      pub counted : {variables steps : ℕ} → probe_at f ≡ accepted (variables, steps) → steps ≡ count
      unfolding probe_at read_steps
      counted a =
          let m = made (λ (p : Probe). (length p.sizes, length p.steps)) (read_probe f) a in
          let l = probe_lines f m.answer in
          let at_same : l.at₁ ≡ at = next_of_lem (sym l.head_is ∙ head_is) in
          let c : read_step_count f at ≡ accepted (l.count, l.at₂) = ap (read_step_count f) (sym at_same) ∙ l.count_is in
          let long : length m.from.steps ≡ l.count = sym (each_length (λ (r : ℕ). read_step f l.head.sizes) (up_from 0 l.count) l.at₂ l.steps_are) ∙ length_up_from 0 l.count in
          sym (ap (λ (p : ℕ × ℕ). p.1) m.value) ∙ long ∙ value_of_lem (sym c ∙ count_is)

      module _ {k : ℕ} (same : k ≡ n) where
        -- the domain sizes as they stand
        abbrev sizes : List ℕ
        sizes = take k (drop 1 f)

        sizes_are : head.sizes ≡ sizes
        sizes_are = headed_sizes f max_variables max_values h same

        pub probe_no_steps : {m p : ℕ} → next_of (read_steps f sizes count (at + 2)) ≡ refused m p → probe_at f ≡ refused m p
        unfolding probe_at read_probe
        probe_no_steps s = rw (head_is, count_is, sizes_are, not_made (λ (p : List Step × ℕ). p.1) (read_steps f sizes count (at + 2)) s)

        module _ {end : ℕ} (s : next_of (read_steps f sizes count (at + 2)) ≡ accepted end) where
          abbrev steps : List Step
          steps = (made (λ (p : List Step × ℕ). p.1) (read_steps f sizes count (at + 2)) s).from.0

          steps_are : read_steps f sizes count (at + 2) ≡ accepted (steps, end)
          steps_are = let m = made (λ (p : List Step × ℕ). p.1) (read_steps f sizes count (at + 2)) s in m.answer ∙ ap (λ (e : ℕ). accepted (steps, e)) m.value

          steps_count : length steps ≡ count
          unfolding read_steps
          steps_count = sym (each_length (λ (r : ℕ). read_step f sizes) (up_from 0 count) (at + 2) steps_are) ∙ length_up_from 0 count

          pub probe_trailing : end < length f → probe_at f ≡ refused 2 end
          unfolding probe_at read_probe read_end
          probe_trailing l = rw (head_is, count_is, sizes_are, steps_are, lt-leb (length f) end l)

          pub probe_good : length f ≤ end → probe_at f ≡ accepted (n, count)
          unfolding probe_at read_probe read_end
          probe_good l = rw (head_is, count_is, sizes_are, steps_are, le-leb (length f) end l) (ap₂ (λ (i j : ℕ). accepted (i, j)) (ap length (sym sizes_are) ∙ (headed f max_variables max_values h).count) steps_count)

          -- the offsets that were noted are those of the steps
          pub located : length f ≤ end → (offsets : List ℕ) → Marked f sizes count (at + 2) offsets → Located f offsets
          unfolding read_steps
          located whole offsets m = record {
            lies = λ p r k st a.
                let l = probe_lines f r in
                let head_same : l.head ≡ head = value_of_lem (sym l.head_is ∙ head_is) in
                let at_same : l.at₁ ≡ at = next_of_lem (sym l.head_is ∙ head_is) in
                let c : read_step_count f at ≡ accepted (l.count, l.at₂) = ap (read_step_count f) (sym at_same) ∙ l.count_is in
                let count_same : l.count ≡ count = value_of_lem (sym c ∙ count_is) in
                let next-same : l.at₂ ≡ at + 2 = next_of_lem (sym c ∙ count_is) in
                let sizes_same : p.sizes ≡ sizes = sym l.sizes ∙ ap (λ (h : Head). h.sizes) head_same ∙ sizes_are in
                let all : read_steps f sizes count (at + 2) ≡ accepted (p.steps, l.at₃) =
                subst₂ (λ (i j : ℕ). read_steps f sizes i j ≡ accepted (p.steps, l.at₃)) count_same next-same (subst (λ (ds : List ℕ). read_steps f ds l.count l.at₂ ≡ accepted (p.steps, l.at₃)) (l.sizes ∙ sizes_same) l.steps_are) in
                let length-is : length p.steps ≡ count = sym (each_length (λ (r : ℕ). read_step f sizes) (up_from 0 count) (at + 2) all) ∙ length_up_from 0 count in
                let few : k < count = omega (arith, at_length a, length-is) in
                let o = each_at (λ (r : ℕ). read_step f sizes) 0 count (at + 2) all a (m.marks s k few) in
                let past : next_of (read_steps f sizes (k + 1) (at + 2)) ≡ accepted o.0 = steps_more f sizes (at + 2) k (m.marks s k few) (ap next_of o.1) in (
                  o.0,
                  ap (λ (ds : List ℕ). read_step f ds (get_or offsets k 0)) sizes_same ∙ o.1,
                  λ l. accepted_same (sym past ∙ m.marks s (k + 1) (omega (arith, length-is))),
                  λ l.
                      let z : k + 1 ≡ count = omega (arith, length-is) in
                      let last : o.0 ≡ end = accepted_same (sym past ∙ ap (λ (j : ℕ). next_of (read_steps f sizes j (at + 2))) z ∙ s) in
                      omega (arith, whole, (step_read f sizes (get_or offsets k 0) o.1).ends),
                );
          }

-- ---- a run by the offsets

module _ (f offsets : List ℕ) {p : Probe} (r : read_probe f ≡ accepted p) (loc : Located f offsets) where
  abbrev count : ℕ
  count = length p.steps

  pub at_step : (k : ℕ) → k < count → (st : Step) × (At p.steps k st) × (step_at f (get_or offsets k 0) ≡ st) × (get_or offsets k 0 ≤ length f)
  at_step k l =
      let none : Step = record { pre = record { map = 0; values = [] }; eff = record { map = 0; values = [] }; cost = 0 } in
      let a = at_get_d p.steps k none l in
      let o = loc.lies p r k (get_or p.steps k none) a in
      let s = step_read f p.sizes (get_or offsets k 0) o.1 in
      (get_or p.steps k none, a, s.same, s.fits)

  -- each step's cost stands where the step ends
  cost_at : (k : ℕ) → k < count → (next : ℕ) × CostBefore f (get_or offsets k 0) next × (k + 1 < count → next ≡ get_or offsets (k + 1) 0) × (k + 1 ≡ count → next ≡ length f)
  cost_at k l =
      let none = step_at f 0 in
      let o = loc.lies p r k (get_or p.steps k none) (at_get_d p.steps k none l) in
      (o.0, (step_read f p.sizes (get_or offsets k 0) o.1).before, o.2, o.3)

  pub costs_in_place : count ≤ length offsets → Costed f (take count offsets)
  costs_in_place few =
      let len : length (take count offsets) ≡ count = length-take-le count offsets few in
      record {
        inner = λ k l.
            let low : k < count = omega (arith, len) in
            let next : k + 1 < count = omega (arith, len) in
            let o = cost_at k low in
            subst₂ (CostBefore f) (sym (get_or-take count offsets k 0 low)) (o.2 next ∙ sym (get_or-take count offsets (k + 1) 0 next)) o.1;
        last = λ k e.
            let low : k < count = omega (arith, len) in
            let o = cost_at k low in
            subst₂ (CostBefore f) (sym (get_or-take count offsets k 0 low)) (o.3 (e ∙ len)) o.1;
      }

  -- the steps as they stand are those of the probe that was read
  pub steps_in_place : count ≤ length offsets → map (step_at f) (take count offsets) ≡ p.steps
  steps_in_place few =
      let none = step_at f 0 in
      let len : length (take count offsets) ≡ count = length-take-le count offsets few in
      ext_get_or none (map (step_at f) (take count offsets)) p.steps (length-map (take count offsets) (step_at f) ∙ len)
      (λ k l.
      let low : k < count = omega (arith, length-map (take count offsets) (step_at f)) in
      get_or-map (step_at f) (take count offsets) k 0
      ∙ ap (step_at f) (get_or-take count offsets k 0 low)
      ∙ (step_read f p.sizes (get_or offsets k 0) (loc.lies p r k (get_or p.steps k none) (at_get_d p.steps k none low)).1).same)

  -- the state, the goal and the moves are those of the probe that was read
  pub run_in_place : (list init : List ℕ) (goal : ℕ) → count ≤ length offsets → init ≡ p.init → partial_at f goal ≡ p.goal
      → run_from (length (take count offsets)) (move_at f (take count offsets)) (partial_at f goal) 0 0 list init ≡ probe_sum p list
  unfolding probe_sum move_at
  run_in_place list init goal few i g =
      let len : length (take count offsets) ≡ count = length-take-le count offsets few in
      rw (len, i, g)
      (run_same count (λ k s. perform (step_at f (get_or (take count offsets) k 0)) s) (step_move p.steps) p.goal (λ s. Unit {0})
      (λ k s l u.
      let o = at_step k l in
      rw (get_or-take count offsets k 0 l, o.2) (sym (move_at_lem p.steps s o.1)))
      (λ k s e c l u h. tt) list p.init 0 0 tt)

-- ---- the run of a file

pub run_refused : (f list : List ℕ) {n p : ℕ} → probe_at f ≡ refused n p → run_probe f list ≡ refused n p
unfolding run_probe
run_refused f list h = rw (not_read f h)

module _ (f : List ℕ) {n k : ℕ} (h : probe_at f ≡ accepted (n, k)) where
  pub record Accepted : Type 0 where
    pub probe : Probe
    pub reads : read_probe f ≡ accepted probe
    pub variables : length probe.sizes ≡ n
    pub steps : length probe.steps ≡ k

  pub accepted_probe : Accepted
  unfolding probe_at
  accepted_probe =
      let m = made (λ (p : Probe). (length p.sizes, length p.steps)) (read_probe f) h in
      record { probe = m.from; reads = m.answer; variables = ap (λ (p : ℕ × ℕ). p.0) m.value; steps = ap (λ (p : ℕ × ℕ). p.1) m.value }

  abbrev p : Probe
  p = accepted_probe.probe

  -- what the head says, and where the initial values and the goal stand
  pub record Starts : Type 0 where
    pub variables : n ≤ max_variables
    pub fits : 1 + 2 * n ≤ length f
    pub steps : k ≤ max_steps
    pub init : take n (drop (1 + n) f) ≡ p.init
    pub goal : partial_at f (1 + 2 * n) ≡ p.goal

  pub starts : Starts
  unfolding read_steps
  starts =
      let l = probe_lines f accepted_probe.reads in
      let r = head_read f max_variables max_values l.head_is in
      let count : length l.head.sizes ≡ n = ap length l.sizes ∙ accepted_probe.variables in
      let g = partial_read f l.head.sizes (1 + 2 * length l.head.sizes) r.goal in
      record {
        variables = omega (arith, r.wf.variables);
        fits = omega (arith, g.next, g.fits);
        steps = omega (arith, accepted_probe.steps, each_length (λ (r : ℕ). read_step f l.head.sizes) (up_from 0 l.count) l.at₂ l.steps_are, length_up_from 0 l.count, (count_most f l.at₁ l.count_is).0);
        init = ap (λ (n : ℕ). take n (drop (1 + n) f)) (sym count) ∙ sym r.init ∙ l.init;
        goal = ap (λ (n : ℕ). partial_at f (1 + 2 * n)) (sym count) ∙ sym g.same ∙ l.goal;
      }

  pub run_long : (list : List ℕ) → max_list < length list → run_probe f list ≡ refused 8 max_list
  unfolding run_probe
  run_long list l = rw (accepted_probe.reads, list_long max_list list l)

  module _ (offsets : List ℕ) (loc : Located f offsets) (few : k ≤ length offsets) where
    pub run_within : Within f (take k offsets)
    run_within i l =
        let m : i < k = omega (arith, length-take-le k offsets few) in
        rw (get_or-take k offsets i 0 m) (at_step f offsets accepted_probe.reads loc i (omega (arith, accepted_probe.steps))).3

    pub run_fits : (list : List ℕ) → length list ≤ max_list
        → run_probe f list ≡ run_from (length (take k offsets)) (move_at f (take k offsets)) (partial_at f (1 + 2 * n)) 0 0 list (take n (drop (1 + n) f))
    unfolding run_probe
    run_fits list l =
        rw (accepted_probe.reads, list_fits max_list list l)
        (sym (run_in_place f offsets accepted_probe.reads loc list (take n (drop (1 + n) f)) (1 + 2 * n) (omega (arith, accepted_probe.steps)) starts.init starts.goal)
        ∙ ap (λ (j : ℕ). run_from (length (take j offsets)) (move_at f (take j offsets)) (partial_at f (1 + 2 * n)) 0 0 list (take n (drop (1 + n) f))) accepted_probe.steps)

-- a refusal that is handed on says why the file is refused
pub counted_none : (f : List ℕ) (r : Result (ℕ × ℕ × ℕ) Refusal) (why : Refusal) → IsErrAnd r (λ e. e ≡ why) → probe_at f ≡ refused (number why) (place why) → CountedIn f r
counted_none f r why h e =
    let p = err_from_is_err_and r h in
    subst (CountedIn f) (sym p.1) (subst (λ y. probe_at f ≡ refused (number y) (place y)) (sym p.2) e)
