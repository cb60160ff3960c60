-- From the index of an accepted probe file to its text: what is written from the steps in place is the probe's text, and no longer than the bench tool's buffer.
use Rattle.std.specs.Prelude.{ℕ, suc, ◌+◌, ◌*◌, ◌-◌, ◌≤◌, ◌<◌, ◌≡◌, refl, take, drop}
use Rattle.std.proofs.Common.{sym, ap₂, subst, ◌∙◌, arith}
use Rattle.std.proofs.Math.Path.{ap}
use mathlib.Core.List.{List, [], ◌∷◌, ◌++◌, map}
use Rattle.std.proofs.Math.ListN.{length, get_or, length-append}
use Rattle.facts.specs.Read.{accepted, refused}
use Rattle.facts.specs.ReadLaws.{made}
use Rattle.facts.specs.ListLaws.{at_get_d, at_length, all_at}
use Rattle.facts.specs.Bytes.{Bytes}
use Rattle.facts.specs.Partial.{Partial, partial_at, past_partial, Alike}
use Rattle.facts.specs.Fields.{word_at}
use Rattle.facts.specs.InPlaceLaws.{alike_partial, alike_past, alike_word}
use Rattle.facts.specs.PartialLaws.{inside_at}
use Rattle.facts.specs.HeadLaws.{head_read}
use Rattle.facts.specs.WellFormed.{WfPartial}
use Rattle.probefile.specs.Probe.{Step, Probe, max_variables, max_values, WfStep, WfProbe}
use Rattle.probefile.specs.ProbeFile.{read_probe}
use Rattle.probefile.specs.ProbeLaws.{probe_wf, probe_lines}
use Rattle.probefile.specs.InPlace.{probe_at, step_at, Located}
use Rattle.probefile.specs.IndexLaws.{not_read, accepted_probe, starts, steps_in_place}
use Rattle.compilation.specs.Compile.{flat}
use Rattle.compilation.specs.CompiledLengthLaws.{values_most}
use Rattle.text.specs.Append.{bytes}
use Rattle.text.specs.PrintLaws.{digits_most}
use Rattle.words.specs.Words.{partial_text}
use Rattle.words.specs.Show.{variable_text}
use Rattle.words.specs.Rows.{row_from}
use Rattle.words.specs.RowLaws.{list_row}
use Rattle.words.specs.DescribeLaws.{variables_row}
use Rattle.words.proofs.LengthLaws.{five, flat_each, partial_most_lem, variable_most}
use Rattle.describe_probe.specs.Show.{step_text, probe_text, shown, showing}

-- ---- the text in place

-- Texts of what g gives for each element.
flat_map : {A : Type 0} (text : ℕ → A → List ℕ) (g : ℕ → A) (k : ℕ) (xs : List ℕ) → flat (λ k x. text k (g x)) k xs ≡ flat text k (map g xs)
flat_map text g k [] = refl
flat_map text g k (x ∷ xs) = ap (λ (rest : List ℕ). text k (g x) ++ rest) (flat_map text g (suc k) xs)

-- A step by its parts.
pub step_text_lem : (f : List ℕ) (n k at : ℕ) {effect end cost : ℕ} → Alike f effect (past_partial f at) → Alike f end (past_partial f effect) → cost ≡ word_at f end
    → step_text n k (record { pre = partial_at f at; eff = partial_at f effect; cost = cost }) ≡ step_text n k (step_at f at)
unfolding step_at
step_text_lem f n k at a b e =
    ap₂ (λ (eff : Partial) (cost : ℕ). step_text n k (record { pre = partial_at f at; eff = eff; cost = cost })) (alike_partial f a) (e ∙ alike_word f b ∙ alike_word f (alike_past f a))

-- Texts of the steps at these offsets.
steps_row : (f : List ℕ) (text : ℕ → Step → List ℕ) (offsets : List ℕ) → row_from (λ k. text k (step_at f (get_or offsets k 0))) 0 (length offsets) ≡ flat text 0 (map (step_at f) offsets)
steps_row f text offsets = sym (list_row (λ k x. text k (step_at f x)) offsets offsets 0 (λ k j l e. let same : j ≡ k = omega arith in rw same)) ∙ flat_map text (step_at f) 0 offsets

module _ (f : List ℕ) where
  -- The file's refusal.
  pub shown_refused : {n p : ℕ} → probe_at f ≡ refused n p → shown f ≡ refused n p
  unfolding shown
  shown_refused h = rw (not_read f h)

  module _ {n k : ℕ} (h : probe_at f ≡ accepted (n, k)) where
    abbrev p : Probe
    p = (accepted_probe f h).probe

    -- Where the head's parts stand, as code counts their bytes.
    pub head_fits : 1 + n + n ≤ length f
    head_fits = omega (arith, (starts f h).fits)

    sizes_in_lem : take (1 + n - 1) (drop 1 f) ≡ p.sizes
    sizes_in_lem =
        let l = probe_lines f (accepted_probe f h).reads in
        let r = head_read f max_variables max_values l.head_is in
        let same : 1 + n - 1 ≡ length l.head.sizes = omega (arith, ap length l.sizes, (accepted_probe f h).variables) in
        ap (λ (j : ℕ). take j (drop 1 f)) same ∙ sym r.sizes ∙ l.sizes

    init_in_lem : take (1 + n + n - (1 + n)) (drop (1 + n) f) ≡ p.init
    init_in_lem = let same : 1 + n + n - (1 + n) ≡ n = omega arith in ap (λ (j : ℕ). take j (drop (1 + n) f)) same ∙ (starts f h).init

    goal_in_lem : partial_at f (1 + n + n) ≡ p.goal
    goal_in_lem = let same : 1 + n + n ≡ 1 + 2 * n = omega arith in ap (partial_at f) same ∙ (starts f h).goal

    -- What is written, one part after the other, is the probe's text.
    probe_text_lem : {sizes init : List ℕ} (offsets : List ℕ) → sizes ≡ p.sizes → init ≡ p.init → map (step_at f) offsets ≡ p.steps
        → row_from (λ v. variable_text v (get_or sizes v 0) (get_or init v 0)) 0 (length sizes)
        ++ (bytes "goal:" ++ (partial_text (length sizes) (partial_at f (1 + n + n)) ++ (bytes "\n" ++ row_from (λ k. step_text (length sizes) k (step_at f (get_or offsets k 0))) 0 (length offsets))))
        ≡ probe_text p
    unfolding probe_text
    probe_text_lem {sizes} {init} offsets s i m =
        let names : row_from (λ v. variable_text v (get_or sizes v 0) (get_or init v 0)) 0 (length sizes) ≡ flat (λ v size. variable_text v size (get_or p.init v 0)) 0 p.sizes = rw (s, i) (variables_row p.sizes p.init) in
        rw (names, goal_in_lem, steps_row f (step_text (length sizes)) offsets, m, s)

    pub shown_is : (offsets : List ℕ) → Located f offsets → k ≤ length offsets → shown f ≡ accepted (showing f n (take k offsets))
    unfolding shown showing
    shown_is offsets loc few =
        let same = (accepted_probe f h).steps in
        let steps : map (step_at f) (take k offsets) ≡ p.steps = ap (λ (j : ℕ). map (step_at f) (take j offsets)) (sym same) ∙ steps_in_place f offsets (accepted_probe f h).reads loc (omega (arith, same)) in
        rw (accepted_probe f h).reads (ap accepted (sym (probe_text_lem (take k offsets) sizes_in_lem init_in_lem steps)))

-- ---- how long the text is

-- the most bytes of a probe file in words
abbrev pub most_probe_text : ℕ
most_probe_text = 524288

module _ {p : Probe} (ok : WfProbe p) where
  state_most : {x : Partial} → WfPartial p.sizes x → length (partial_text (length p.sizes) x) ≤ 5 + 6 * max_variables
  state_most w = omega (arith, ok.variables, values_most w, partial_most_lem {most = max_values} (omega arith) (omega (arith, ok.variables)) ok.sizes w)

  -- A step.
  step_most : (k : ℕ) (st : Step) → k < 1000 → WfStep p.sizes st → length (step_text (length p.sizes) k st) ≤ 743
  step_most k st l w = simp length-append (omega (arith, digits_most 2 k l, state_most w.pre, state_most w.eff, five st.cost w.cost))

  probe_most : length (probe_text p) ≤ most_probe_text
  unfolding probe_text
  probe_most =
      let names = flat_each (λ v size. variable_text v size (get_or p.init v 0)) 40 0 p.sizes (λ j q size o e.
      let values = all_at (λ d. (2 ≤ d) × (d ≤ max_values)) ok.sizes o in
      let below : q < length p.sizes = omega (arith, at_length o) in
      let value : get_or p.init q 0 < 100 = omega (arith, inside_at p.sizes p.init q ok.init below, all_at (λ d. (2 ≤ d) × (d ≤ max_values)) ok.sizes (at_get_d p.sizes q 0 below)) in
      variable_most q size (get_or p.init q 0) (omega (arith, at_length o, ok.variables)) (omega (arith, values)) value) in
      let steps = flat_each (step_text (length p.sizes)) 743 0 p.steps (λ j q st o e. step_most q st (omega (arith, at_length o, ok.step_count)) (all_at (WfStep p.sizes) ok.steps o)) in
      simp length-append (omega (arith, names, steps, state_most ok.goal, ok.variables, ok.step_count))

-- for every file
pub shown_most : (f : List ℕ) → Bytes f → {text : List ℕ} → shown f ≡ accepted text → length text ≤ most_probe_text
unfolding shown
shown_most f b h = let m = made probe_text (read_probe f) h in subst (λ (xs : List ℕ). length xs ≤ most_probe_text) m.value (probe_most (probe_wf f b m.answer))
