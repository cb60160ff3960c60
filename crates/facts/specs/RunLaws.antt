-- Laws of running: a list is a plan exactly if its run answers its sum, and the ways in which a turn of a run can go.
use Rattle.std.specs.Prelude.{◌≡◌, refl, ◌↔◌, ℕ, suc, ◌+◌, ◌≤◌, ◌<◌, Bool, true, false, ltb, length, get_or, drop}
use Rattle.std.proofs.Common.{sym, ◌∙◌, arith, drop_of_length-le, drop-cons, le-leb, lt-ltb, le-ltb, ltb-true}
use Rattle.std.proofs.Math.Path.{subst}
use Rattle.std.proofs.Math.Numerals.{add-one}
use mathlib.Core.List.{List, [], ◌∷◌}
use Rattle.std.proofs.lemmas.Bool.{lt-leb}
use Rattle.facts.specs.Read.{accepted, refused, check, ◌>>=◌}
use Rattle.facts.specs.ReadLaws.{through, checked, agree, not_refused, value_of_lem, next_of_lem}
use Rattle.facts.specs.Partial.{Partial, holds, apply}
use Rattle.facts.specs.PartialLaws.{length_apply}
use Rattle.facts.specs.Run.{Move, next, blocked, attempt, moved, run_from, at_most, Reaches, ends, steps}

-- ---- a step that applies, and one that does not

pub attempt_next : (pre eff : Partial) (cost : ℕ) (s : List ℕ) → holds pre s ≡ true → attempt pre eff cost s ≡ next (apply eff s) cost
attempt_next pre eff cost s h = rw (h, attempt)

pub attempt_blocked : (pre eff : Partial) (cost : ℕ) (s : List ℕ) → holds pre s ≡ false → attempt pre eff cost s ≡ blocked
attempt_blocked pre eff cost s h = rw (h, attempt)

pub not_blocked : {s : List ℕ} {c : ℕ} → blocked ≡ next s c → ⊥
not_blocked e = let z : ◌≡◌ {A = ℕ} 0 1 = cc in omega arith

pub attempt_length : (pre eff : Partial) (cost : ℕ) (s : List ℕ) {e : List ℕ} {c : ℕ} → attempt pre eff cost s ≡ next e c → length e ≡ length s
attempt_length pre eff cost s {e} {c} h = go (holds pre s) refl
  where
    go : (b : Bool) → holds pre s ≡ b → length e ≡ length s
    go true g = let same : apply eff s ≡ e = cc (attempt_next pre eff cost s g) in rw (← same) (length_apply eff s)
    go false g = absurd (not_blocked (sym (attempt_blocked pre eff cost s g) ∙ h))

-- what applies costs what it was said to cost
pub attempt_cost : (pre eff : Partial) (cost : ℕ) (s : List ℕ) {e : List ℕ} {c : ℕ} → attempt pre eff cost s ≡ next e c → c ≡ cost
attempt_cost pre eff cost s {e} {c} h = go (holds pre s) refl
  where
    go : (b : Bool) → holds pre s ≡ b → c ≡ cost
    go true g = cc (attempt_next pre eff cost s g)
    go false g = absurd (not_blocked (sym (attempt_blocked pre eff cost s g) ∙ h))

moved_next : (m : Move) (i : ℕ) {s : List ℕ} {c : ℕ} → moved m i ≡ accepted (s, c) → m ≡ next s c
moved_next (next s c) i h = cc (value_of_lem h, next_of_lem h)
moved_next blocked i h = absurd (not_refused h)

module _ (count : ℕ) (move : ℕ → List ℕ → Move) (goal : Partial) where
  -- ---- the ways in which a turn can go: entry number i of a list

  module _ (list s : List ℕ) (i sum : ℕ) (l : i < length list) where
    abbrev entry : ℕ
    entry = get_or list i 0

    turn : run_from count move goal i sum (drop i list) s ≡ ◌>>=◌ (check (ltb entry count) 11 i) (λ u. ◌>>=◌ (moved (move entry s) i) (λ p. run_from count move goal (i + 1) (sum + p.1) (drop (i + 1) list) p.0))
    unfolding run_from
    turn = rw (drop-cons list i 0 l, add-one i)

    pub run_missing : count ≤ entry → run_from count move goal i sum (drop i list) s ≡ refused 11 i
    run_missing h = turn ∙ rw (le-ltb entry count h)

    pub run_blocked : entry < count → move entry s ≡ blocked → run_from count move goal i sum (drop i list) s ≡ refused 9 i
    run_blocked h e = turn ∙ rw (lt-ltb entry count h, e)

    pub run_next : {s' : List ℕ} {c : ℕ} → entry < count → move entry s ≡ next s' c → run_from count move goal i sum (drop i list) s ≡ run_from count move goal (i + 1) (sum + c) (drop (i + 1) list) s'
    run_next h e = turn ∙ rw (lt-ltb entry count h, e)

  module _ (list s : List ℕ) (i sum : ℕ) (l : length list ≤ i) where
    pub run_unmet : holds goal s ≡ false → run_from count move goal i sum (drop i list) s ≡ refused 10 i
    unfolding run_from
    run_unmet h = rw (drop_of_length-le list l, h)

    pub run_met : holds goal s ≡ true → run_from count move goal i sum (drop i list) s ≡ accepted sum
    unfolding run_from
    run_met h = rw (drop_of_length-le list l, h)

  -- ---- plans, where only numbers below `count` are steps

  module _ (known : (a : ℕ) (s e : List ℕ) (c : ℕ) → move a s ≡ next e c → a < count) where
    sum_of_lem : (list s : List ℕ) (i sum c : ℕ) → Reaches move goal sum list s c → run_from count move goal i sum list s ≡ accepted c
    unfolding run_from
    sum_of_lem [] s i sum c (ends g) = rw g
    sum_of_lem (a ∷ list) s i sum c (steps {paid = paid} {s' = s'} m r) = rw (lt-ltb a count (known a s s' paid m), m) (sum_of_lem list s' (suc i) (sum + paid) c r)

    reaches_of : (list s : List ℕ) (i sum c : ℕ) → run_from count move goal i sum list s ≡ accepted c → Reaches move goal sum list s c
    unfolding run_from
    reaches_of [] s i sum c h =
        let o = through (check (holds goal s) 10 i) h in
        let e : sum ≡ c = cc o.then in
        subst (λ (k : ℕ). Reaches move goal sum [] s k) e (ends (checked (holds goal s) 10 i o.first))
    reaches_of (a ∷ list) s i sum c h =
        let o = through (check (ltb a count) 11 i) h in
        let q = through (moved (move a s) i) o.then in
        steps (moved_next (move a s) i q.first) (reaches_of list q.got.0 (suc i) (sum + q.got.1) c q.then)

    pub plan_answers : (list s : List ℕ) (c : ℕ) → Reaches move goal 0 list s c ↔ (run_from count move goal 0 0 list s ≡ accepted c)
    plan_answers list s c = (λ p. sum_of_lem list s 0 0 c p, λ h. reaches_of list s 0 0 c h)

-- ---- moves that agree on the steps that there are run alike

pub run_same : (count : ℕ) (move other : ℕ → List ℕ → Move) (goal : Partial) (P : List ℕ → Type 0) → ((a : ℕ) (s : List ℕ) → a < count → P s → move a s ≡ other a s)
    → ((a : ℕ) (s e : List ℕ) (c : ℕ) → a < count → P s → move a s ≡ next e c → P e)
    → (list s : List ℕ) (i sum : ℕ) → P s → run_from count move goal i sum list s ≡ run_from count other goal i sum list s
unfolding run_from
run_same count move other goal P same kept [] s i sum p = refl
run_same count move other goal P same kept (a ∷ list) s i sum p =
    agree (check (ltb a count) 11 i) _ _ (λ u h.
    let l = ltb-true a count (checked (ltb a count) 11 i h) in
    rw (← same a s l p)
    (agree (moved (move a s) i) _ _ (λ q r. run_same count move other goal P same kept list q.0 (suc i) (sum + q.1) (kept a s q.0 q.1 l p (moved_next (move a s) i r)))))

-- ---- the limit of a list

pub list_long : (most : ℕ) (list : List ℕ) → most < length list → at_most most list ≡ refused 8 most
unfolding at_most
list_long most list h = rw (lt-leb (length list) most h)

pub list_fits : (most : ℕ) (list : List ℕ) → length list ≤ most → at_most most list ≡ accepted tt
unfolding at_most
list_fits most list h = rw (le-leb (length list) most h)
