-- Laws of packing: what each C function returns, unpacked, is the answer of its operation, for every file, list, state and buffer: number, place, length, sum and estimate
-- fit their bits. So no two different answers are packed alike (`apart`), a refusal's number is not 0, and success's is. Demand 1: nothing handed in ever makes the tool
-- "wrap a sum. No refusal .. returns more than its number and place." Document 01: "Success .. returns its length"; "A run returns its sum."
use Rattle.std.specs.Prelude.{◌≡◌, refl, ℕ, zero, suc, ◌≤◌, ◌<◌, List}
use Rattle.std.proofs.Common.{sym, ap, ap₂, ◌∙◌, inl, inr, arith}
use Rattle.facts.specs.Read.{Read, accepted, refused}
use Rattle.facts.specs.Bytes.{Bytes}
use Rattle.estimate.specs.Number.{Number, exact, over, never, WithinCap}
use Rattle.taskfile.specs.Task.{Walk}
use Rattle.cases.specs.Numbers.{OfLists, OfCosts}
use Rattle.cases.proofs.Numbers.{numbers_of_checks, numbers_of_lists, numbers_of_costs, numbers_of_estimates, numbers_of_compiling, numbers_of_carrying}
use Rattle.cases.specs.PlaceLaws.{Within, value, place}
use Rattle.cases.specs.Ranges.{Walked, Written, check_task_range, check_probe_range, cost_range, relaxed_range, run_probe_range, estimate_task_range, estimate_probe_range, compile_range, contract_range}
use Rattle.cases.proofs.Ranges.{run_task_range, expand_range}
use Rattle.packing.specs.SheetRange.{sheet_range, numbers_of_sheets}
use Rattle.carry.specs.CarryFile.{answer_in}
use Rattle.dearest.specs.Dearest.{dearest_of}
use Rattle.packing.specs.DearestRange.{numbers_of_dearest, dearest_range}
use Rattle.packing.specs.Packing.{packed, packed_refusal, packed_check, packed_sum, packed_walk, packed_length, packed_list, packed_estimate, refusal_of, length_of, nodes_of, sum_of, place_of, unpacked, unpacked_check, unpacked_sum, unpacked_walk, unpacked_length, unpacked_list, unpacked_number, unpacked_estimate}
use Rattle.packing.specs.PackingLaws.{Results, Numbered}

-- ---- the theorem

-- Answers that come back are not packed alike unless they are the same.
pub apart : {X : Type 0} (pack : Read X → ℕ) (unpack : ℕ → Read X) {r q : Read X} → unpack (pack r) ≡ r → unpack (pack q) ≡ q → pack r ≡ pack q → r ≡ q
apart pack unpack back other e = sym back ∙ ap unpack e ∙ other

-- ---- parts

module _ (number upper lower : ℕ) where
  pub refusal_of_lem : refusal_of (packed number upper lower) ≡ number
  refusal_of_lem = omega arith

  pub length_of_lem : upper < 16777216 → length_of (packed number upper lower) ≡ upper
  length_of_lem l = omega arith

  pub sum_of_lem : lower < 4294967296 → sum_of (packed number upper lower) ≡ lower
  sum_of_lem l = omega arith

-- "A refusal returns number and place alone, with no sum or length."
pub refusal_alone : (n p : ℕ) → length_of (packed_refusal n p) ≡ 0
refusal_alone n p = length_of_lem n 0 p (omega arith)

-- ---- answers

module _ {X : Type 0} (part : ℕ → X) where
  value_back : {w : ℕ} {x : X} → refusal_of w ≡ 0 → part w ≡ x → unpacked part w ≡ accepted x
  value_back e g = rw (e, unpacked) (ap accepted g)

  number_place : (w : ℕ) {n p : ℕ} → refusal_of w ≡ suc n → place_of w ≡ p → unpacked part w ≡ refused (suc n) p
  number_place w {n} e g = rw (e, unpacked) (ap (refused (suc n)) g)

  refusal_back : (n p : ℕ) → 1 ≤ n → p < 4294967296 → unpacked part (packed_refusal n p) ≡ refused n p
  refusal_back zero p l q = absurd (omega arith)
  refusal_back (suc n) p l q = number_place (packed_refusal (suc n) p) (refusal_of_lem (suc n) 0 p) (sum_of_lem (suc n) 0 p q)

  -- what is accepted comes back, and refusals are packed as such
  back : {good : X → Type 0} {most : ℕ} {r : Read X} (pack : Read X → ℕ) → ((x : X) → good x → unpacked part (pack (accepted x)) ≡ accepted x)
      → ((n p : ℕ) → pack (refused n p) ≡ packed_refusal n p) → most < 4294967296 → Within good most r → Numbered r → unpacked part (pack r) ≡ r
  back pack of_value of-refusal l (value {x = x} g) named = of_value x g
  back pack of_value of-refusal l (place {n = n} {p = p} q) named = ap (unpacked part) (of-refusal n p) ∙ refusal_back n p (named n p refl) (omega arith)

-- A length that fits comes back, and so does a refusal beside lengths.
pub length_comes : (n : ℕ) → n < 16777216 → unpacked_length (packed_length (accepted n)) ≡ accepted n
length_comes n l = value_back length_of (refusal_of_lem 0 n 0) (length_of_lem 0 n 0 l)

pub refusal_comes : (n p : ℕ) → 1 ≤ n → p < 4294967296 → unpacked_length (packed_length (refused n p)) ≡ refused n p
refusal_comes n p l q = refusal_back length_of n p l q

module _ {most : ℕ} (small : most < 4294967296) where
  check_back : {good : Unit {0} → Type 0} {r : Read (Unit {0})} → Within good most r → Numbered r → unpacked_check (packed_check r) ≡ r
  check_back w named = back (λ w. tt) packed_check (λ u g. refl) (λ n p. refl) small w named

  sum_back : {dear : ℕ} {r : Read ℕ} → dear < 4294967296 → Within (λ sum. sum ≤ dear) most r → Numbered r → unpacked_sum (packed_sum r) ≡ r
  sum_back d w named = back sum_of packed_sum (λ sum g. value_back sum_of (refusal_of_lem 0 0 sum) (sum_of_lem 0 0 sum (omega arith))) (λ n p. refl) small w named

  walk_back : {long dear : ℕ} {r : Read Walk} → long < 16777216 → dear < 4294967296 → Within (Walked long dear) most r → Numbered r → unpacked_walk (packed_walk r) ≡ r
  walk_back l d w named =
      let parts : ℕ → Walk = λ w. record { cost = sum_of w; passed = nodes_of w } in
      back parts packed_walk (λ w g.
      let n = w.passed in
      let sum = w.cost in
      value_back parts (refusal_of_lem 0 n sum) (ap₂ (λ (n sum : ℕ). record { cost = sum; passed = n }) (length_of_lem 0 n sum (omega (arith, g.0))) (sum_of_lem 0 n sum (omega (arith, g.1))))) (λ n p. refl) small w named

  length_back : {long : ℕ} {r : Read ℕ} → long < 16777216 → Within (λ n. n ≤ long) most r → Numbered r → unpacked_length (packed_length r) ≡ r
  length_back d w named = back length_of packed_length (λ n g. length_comes n (omega arith)) (λ n p. refl) small w named

  list_back : {long dear : ℕ} {r : Read (ℕ × ℕ)} → long < 16777216 → dear < 4294967296 → Within (Written long dear) most r → Numbered r → unpacked_list (packed_list r) ≡ r
  list_back l d w named =
      back (λ w. (length_of w, sum_of w)) packed_list (λ c g.
      let n = c.0 in
      let sum = c.1 in
      value_back (λ w. (length_of w, sum_of w)) (refusal_of_lem 0 n sum) (ap₂ (λ (n sum : ℕ). (n, sum)) (length_of_lem 0 n sum (omega (arith, g.0))) (sum_of_lem 0 n sum (omega (arith, g.1))))) (λ n p. refl) small w named

  number_back : (e : Number) → WithinCap e → unpacked_estimate (packed_estimate (accepted e)) ≡ accepted e
  number_back (exact n) h = value_back unpacked_number (refusal_of_lem 0 0 n) (rw (length_of_lem 0 0 n (omega arith), unpacked_number) (ap exact (sum_of_lem 0 0 n (omega arith))))
  number_back over h = refl
  number_back never h = refl

  estimate_back : {r : Read Number} → Within WithinCap most r → Numbered r → unpacked_estimate (packed_estimate r) ≡ r
  estimate_back w named = back unpacked_number packed_estimate number_back (λ n p. refl) small w named

-- ---- operations

-- a list's number is not 0, nor a cost's
of_lists : {n : ℕ} → OfLists n → 1 ≤ n
of_lists (inl u) = u.0
of_lists (inr u) = omega (arith, u.0)

of_costs : {n : ℕ} → OfCosts n → 1 ≤ n
of_costs (inl u) = u.0
of_costs (inr u) = omega (arith, u.0)

pub results : (f : List ℕ) → Bytes f → Results f
results f bytes = record {
  check_task_lem = check_back (omega arith) (check_task_range f) (λ n p h. ((numbers_of_checks f n p).0 h).0);
  check_probe_lem = check_back (omega arith) (check_probe_range f) (λ n p h. ((numbers_of_checks f n p).1 h).0);
  cost = λ a s. walk_back (omega arith) (omega arith) (omega arith) (cost_range f bytes a s) (λ n p h. of_costs ((numbers_of_costs f a s n p).0 h));
  relaxed_cost_lem = λ a sets. sum_back (omega arith) (omega arith) (relaxed_range f bytes a sets) (λ n p h. elim ((numbers_of_costs f a sets n p).1 h) [ inl u ↦ of_costs u | inr e ↦ omega arith ]);
  run_task_lem = λ list. walk_back (omega arith) (omega arith) (omega arith) (run_task_range f bytes list) (λ n p h. of_lists ((numbers_of_lists f list n p).0 h));
  run_probe_lem = λ list. sum_back (omega arith) (omega arith) (run_probe_range f bytes list) (λ n p h. elim ((numbers_of_lists f list n p).1 h) [ inl u ↦ u.0 | inr u ↦ omega (arith, u.0) ]);
  estimate_task_lem = λ s. estimate_back (omega arith) (estimate_task_range f s) (λ n p h. elim ((numbers_of_estimates f s n p).0 h) [ inl u ↦ u.0 | inr e ↦ omega arith ]);
  estimate_probe_lem = λ s. estimate_back (omega arith) (estimate_probe_range f bytes s) (λ n p h. elim ((numbers_of_estimates f s n p).1 h) [ inl u ↦ u.0 | inr e ↦ omega arith ]);
  compile = λ room. length_back (omega arith) (omega arith) (compile_range f room) (λ n p h. elim (numbers_of_compiling f room n p h) [ inl u ↦ u.0 | inr e ↦ omega arith ]);
  expand = λ list room. list_back (omega arith) (omega arith) (omega arith) (expand_range f bytes list room) (λ n p h. elim ((numbers_of_carrying f list room n p).0 h) [ inl u ↦ of_lists u | inr e ↦ omega arith ]);
  contract = λ list room. list_back (omega arith) (omega arith) (omega arith) (contract_range f bytes list room) (λ n p h. elim ((numbers_of_carrying f list room n p).1 h) [ inl u ↦ of_lists u | inr e ↦ omega arith ]);
  sheet = λ list room. list_back (omega arith) (omega arith) (omega arith) (sheet_range f bytes list room) (λ n p h. elim (numbers_of_sheets f list room n p h) [ inl u ↦ of_lists u | inr e ↦ omega arith ]);
}

-- The same of a dearest state.
pub dearest_result : (f : List ℕ) → Bytes f → (a room : ℕ) → unpacked_list (packed_list (answer_in room (dearest_of f a))) ≡ answer_in room (dearest_of f a)
dearest_result f bytes a room = list_back (omega arith) (omega arith) (omega arith) (dearest_range f a bytes room) (λ n p h. elim (numbers_of_dearest f a room n p h) [ inl u ↦ of_costs u | inr e ↦ omega arith ])
