-- Rows 8 to 11 of document 01's table, for a list run on a task or on a probe file: the law of each row. The conditions are in specs/ListRows.antt.
use Rattle.std.specs.Prelude.{◌≡◌, refl, ◌↔◌, ℕ, suc, ◌+◌, ◌≤◌, ◌<◌, leb, ltb, length, take}
use Rattle.std.proofs.Common.{sym, ap, ◌∙◌, subst}
use native.Mathlib.Omega.{arith}
use mathlib.Core.List.{List, [], ◌∷◌}
use borrow.Author.Tests.{ltb-true, ltb-false, leb-true, leb-false, lt-ltb, le-ltb}
use Rattle.facts.specs.Read.{accepted, refused, check}
use Rattle.facts.specs.ReadLaws.{checked}
use Rattle.facts.specs.Lists.{At, here, there}
use Rattle.facts.specs.Partial.{holds}
use Rattle.facts.specs.Run.{Move, next, blocked, moved, run_from, at_most}
use Rattle.facts.specs.RunLaws.{list_long, list_fits}
use Rattle.cases.specs.SiteLaws.{first, after, stops, not_accepted, failed, unmade}
use Rattle.cases.specs.ListRows.{System, Leads, stays, goes, Comes, Missing, Blocked, Unmet, RunFault, missing, does_not_apply, unmet, ListFault, long, runs, sum_from, list_sum}

-- ---- runs

module _ (y : System) where
  move_refused : (m : Move) (i : ℕ) {n p : ℕ} → moved m i ≡ refused n p → (m ≡ blocked) × (n ≡ 9) × (p ≡ i)
  move_refused (next s c) i h = absurd (not_accepted h)
  move_refused blocked i h = (refl, cc, cc)

  move_accepted : (m : Move) (i : ℕ) {q : List ℕ × ℕ} → moved m i ≡ accepted q → m ≡ next q.0 q.1
  move_accepted (next s c) i {q} h = let e : ◌≡◌ {A = List ℕ × ℕ} (s, c) q = cc in rw (← e)
  move_accepted blocked i h = absurd (not_accepted (sym h))

  -- one entry more before a place
  one_more : {a c p b : ℕ} {list s s' e : List ℕ} → a < y.count → y.move a s ≡ next s' c → Comes y list s' p b e → Comes y (a ∷ list) s (suc p) b e
  one_more l m r = record { entry = there r.entry; before = goes l m r.before }

  later : {a c n p : ℕ} {list s s' : List ℕ} → a < y.count → y.move a s ≡ next s' c → RunFault y list s' n p → RunFault y (a ∷ list) s n (suc p)
  later l m (missing q r) = missing q (r.0, r.1, one_more l m r.2, r.3)
  later l m (does_not_apply q r) = does_not_apply q (r.0, r.1, one_more l m r.2, r.3, r.4)
  later l m (unmet q r) = unmet q (r.0, goes l m r.1, r.2, ap suc r.3)

  run_found : (list s : List ℕ) (i sum : ℕ) {n p : ℕ} → sum_from y i sum list s ≡ refused n p → (q : ℕ) × (p ≡ i + q) × RunFault y list s n q
  unfolding run_from
  run_found [] s i sum h =
      let q = failed (holds y.goal s) 10 i (unmade (check (holds y.goal s) 10 i) _ h) in
      (0, omega (arith, q.2), unmet q.1 (s, stays, q.0, refl))
  run_found (a ∷ list) s i sum h = elim (stops (check (ltb a y.count) 11 i) h) [
    | first g ↦
        let q = failed (ltb a y.count) 11 i g in
        (0, omega (arith, q.2), missing q.1 (a, s, record { entry = here; before = stays }, ltb-false a y.count q.0))
    | after u b h ↦
        let l = ltb-true a y.count (checked (ltb a y.count) 11 i b) in
        elim (stops (moved (y.move a s) i) h) [
          | first g ↦
              let q = move_refused (y.move a s) i g in
              (0, omega (arith, q.2), does_not_apply q.1 (a, s, record { entry = here; before = stays }, l, q.0))
          | after x c h ↦
              let r = run_found list x.0 (suc i) (sum + x.1) h in
              (suc r.0, omega (arith, r.1), later l (move_accepted (y.move a s) i c) r.2)
        ]
  ]

  -- past the entries before an index
  comes_to : {list s e : List ℕ} {q a : ℕ} (i sum : ℕ) → At list q a → Leads y (take q list) s e → (k paid : ℕ) × (rest : List ℕ) × (k ≡ i + q) × (sum_from y i sum list s ≡ sum_from y k paid (a ∷ rest) e)
  unfolding run_from
  comes_to i sum (here {xs = xs}) stays = (i, sum, xs, omega arith, refl)
  comes_to i sum (there {y = b} h) (goes {c = c} l m r) =
      let o = comes_to (suc i) (sum + c) h r in
      (o.0, o.1, o.2, omega (arith, o.3), rw (lt-ltb b y.count l, m) o.4)

  -- past all entries
  comes_through : {list s e : List ℕ} (i sum : ℕ) → Leads y list s e → (k paid : ℕ) × (k ≡ i + length list) × (sum_from y i sum list s ≡ sum_from y k paid [] e)
  unfolding run_from
  comes_through i sum stays = (i, sum, omega arith, refl)
  comes_through i sum (goes {a = a} {c = c} l m r) =
      let o = comes_through (suc i) (sum + c) r in
      (o.0, o.1, omega (arith, o.2), rw (lt-ltb a y.count l, m) o.3)

  run_answers : {list s : List ℕ} {n p : ℕ} → RunFault y list s n p → sum_from y 0 0 list s ≡ refused n p
  unfolding run_from
  run_answers (missing e r) =
      let o = comes_to 0 0 r.2.entry r.2.before in
      o.4 ∙ rw (le-ltb r.0 y.count r.3, e) (ap (refused 11) (omega (arith, o.3)))
  run_answers (does_not_apply e r) =
      let o = comes_to 0 0 r.2.entry r.2.before in
      o.4 ∙ rw (lt-ltb r.0 y.count r.3, r.4, e) (ap (refused 9) (omega (arith, o.3)))
  run_answers (unmet e r) =
      let o = comes_through 0 0 r.1 in
      o.3 ∙ rw (r.2, e) (ap (refused 10) (omega (arith, o.2, r.3)))

  -- ---- lists of at most so many entries

  list_found : (most : ℕ) (list : List ℕ) {n p : ℕ} → list_sum y most list ≡ refused n p → ListFault most y list n p
  unfolding at_most
  list_found most list {n} {p} h = elim (stops (check (leb (length list) most) 8 most) h) [
    | first g ↦
        let q = failed (leb (length list) most) 8 most g in
        long q.1 (leb-false (length list) most q.0) q.2
    | after u a h ↦
        let r = run_found list y.init 0 0 h in
        let place : r.0 ≡ p = omega (arith, r.1) in
        runs (leb-true (length list) most (checked (leb (length list) most) 8 most a)) (subst (RunFault y list y.init n) place r.2)
  ]

  list_answers : (most : ℕ) (list : List ℕ) {n p : ℕ} → ListFault most y list n p → list_sum y most list ≡ refused n p
  list_answers most list (long e l q) = rw (list_long most list l, e, q)
  list_answers most list (runs l r) = rw (list_fits most list l) (run_answers r)

  pub list_row : (most : ℕ) (list : List ℕ) (n p : ℕ) → (list_sum y most list ≡ refused n p) ↔ ListFault most y list n p
  list_row most list n p = (list_found most list, list_answers most list)

-- ---- what is refused, by its number

module _ {most : ℕ} {y : System} {list : List ℕ} where
  pub list_numbers : {n p : ℕ} → ListFault most y list n p → (8 ≤ n) × (n ≤ 11)
  list_numbers (long e l q) = (omega arith, omega arith)
  list_numbers (runs l (missing e r)) = (omega arith, omega arith)
  list_numbers (runs l (does_not_apply e r)) = (omega arith, omega arith)
  list_numbers (runs l (unmet e r)) = (omega arith, omega arith)

  by_number : {n p : ℕ} → ListFault most y list n p → (n ≡ 8 → (most < length list) × (p ≡ most)) × (n ≡ 9 → (length list ≤ most) × Blocked y list y.init p)
      × (n ≡ 10 → (length list ≤ most) × Unmet y list y.init p) × (n ≡ 11 → (length list ≤ most) × Missing y list y.init p)
  by_number (long e l q) = (λ z. (l, q), λ z. absurd (omega arith), λ z. absurd (omega arith), λ z. absurd (omega arith))
  by_number (runs l (does_not_apply e r)) = (λ z. absurd (omega arith), λ z. (l, r), λ z. absurd (omega arith), λ z. absurd (omega arith))
  by_number (runs l (unmet e r)) = (λ z. absurd (omega arith), λ z. absurd (omega arith), λ z. (l, r), λ z. absurd (omega arith))
  by_number (runs l (missing e r)) = (λ z. absurd (omega arith), λ z. absurd (omega arith), λ z. absurd (omega arith), λ z. (l, r))

  pub long_row : (p : ℕ) → ListFault most y list 8 p ↔ ((most < length list) × (p ≡ most))
  long_row p = (λ d. (by_number d).0 refl, λ c. long refl c.0 c.1)

  pub blocked_row : (p : ℕ) → ListFault most y list 9 p ↔ ((length list ≤ most) × Blocked y list y.init p)
  blocked_row p = (λ d. (by_number d).1 refl, λ c. runs c.0 (does_not_apply refl c.1))

  pub unmet_row : (p : ℕ) → ListFault most y list 10 p ↔ ((length list ≤ most) × Unmet y list y.init p)
  unmet_row p = (λ d. (by_number d).2 refl, λ c. runs c.0 (unmet refl c.1))

  pub missing_row : (p : ℕ) → ListFault most y list 11 p ↔ ((length list ≤ most) × Missing y list y.init p)
  missing_row p = (λ d. (by_number d).3 refl, λ c. runs c.0 (missing refl c.1))
