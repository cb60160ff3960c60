-- Laws of relaxed costs: the states of the narrowed sets are those of the sets that meet the precondition; so the relaxed cost is found by one pass, is at most the
-- cost in each such state, and is the cost in one.
use Rattle.std.specs.Prelude.{◌≡◌, refl, ◌↔◌, true, length, get_or}
use Rattle.std.proofs.Common.{sym, ap₂, ◌∙◌, arith}
use Rattle.std.proofs.Math.Path.{ap}
use mathlib.Core.List.{List, [], ◌∷◌, ◌++◌, map}
use Prim.Native.Nat.{ℕ, zero, suc, ◌+◌, ◌%◌, ◌≤◌, ◌<◌}
use Rattle.facts.specs.Read.{accepted}
use Rattle.facts.specs.Lists.{Zip, nil, cons, All, At, here, there, up_from}
use Rattle.facts.specs.ListLaws.{at_none, length_up_from}
use Rattle.facts.specs.Partial.{Partial, agrees, above, holds}
use Rattle.facts.specs.PartialLaws.{Has, Below}
use Rattle.facts.specs.StateLaws.{values_good}
use Rattle.value.specs.Value.{first_value, value_of, bit_of}
use Rattle.taskfile.specs.Task.{Action, max_values, cost, WfAction}
use Rattle.relaxation.specs.Least.{prefixed}
use Rattle.relaxation.specs.Relaxed.{values_in, RelaxedInside, states_in, states_meeting, relaxed_cost}
use Rattle.relaxation.specs.RelaxedTask.{allows, check_meets}
use Rattle.relaxation.specs.Narrowing.{kept_set, narrowed_from, narrowed}
use Rattle.relaxation.specs.PassingLaws.{In, further, passing_same, passing_prefixed, in_passing, least_most}
use Rattle.relaxation.specs.SetLaws.{value_stands}
use Rattle.relaxation.specs.KeptLaws.{agreeing, kept_values, kept_inside}

-- ---- the states in some sets: one value for each variable, each in its set

abbrev pub InSets : List ℕ → List ℕ → Type 0
InSets sets s = Zip (λ set d. (d < max_values) × (bit_of set d ≡ 1)) sets s

-- in the first of two lists, or in the second
append_in : (xs ys : List (List ℕ)) {k : ℕ} {s : List ℕ} {P : Type 0} → (In xs s → P) → (In ys s → P) → At (xs ++ ys) k s → P
append_in [] ys {k} f g a = g (k, a)
append_in (x ∷ xs) ys f g here = f (0, here)
append_in (x ∷ xs) ys f g (there a) = append_in xs ys (λ o. f (further o)) g a

in_front : {xs : List (List ℕ)} (ys : List (List ℕ)) {k : ℕ} {s : List ℕ} → At xs k s → In (xs ++ ys) s
in_front ys here = (0, here)
in_front ys (there a) = further (in_front ys a)

in_back : (xs : List (List ℕ)) {ys : List (List ℕ)} {s : List ℕ} → In ys s → In (xs ++ ys) s
in_back [] o = o
in_back (x ∷ xs) o = further (in_back xs o)

-- a value, and a state behind it
abbrev Behind : List ℕ → List (List ℕ) → List ℕ → Type 0
Behind values more s = (d : ℕ) × (r : List ℕ) × (s ≡ d ∷ r) × In values d × In more r

map_behind : (d : ℕ) (values : List ℕ) (more : List (List ℕ)) {k : ℕ} {s : List ℕ} → At (map (λ (s : List ℕ). d ∷ s) more) k s → Behind (d ∷ values) more s
map_behind d values [] a = absurd (at_none a)
map_behind d values (r ∷ more) here = (d, r, refl, (0, here), (0, here))
map_behind d values (r ∷ more) (there a) = let o = map_behind d values more a in (o.0, o.1, o.2, o.3, further o.4)

pub behind : (values : List ℕ) (more : List (List ℕ)) {k : ℕ} {s : List ℕ} → At (prefixed values more) k s → Behind values more s
behind [] more a = absurd (at_none a)
behind (d ∷ values) more a =
    append_in (map (λ (s : List ℕ). d ∷ s) more) (prefixed values more)
    (λ o. map_behind d values more o.1)
    (λ o. let p = behind values more o.1 in (p.0, p.1, p.2, further p.3, p.4))
    a

map_in : (d : ℕ) {more : List (List ℕ)} {k : ℕ} {r : List ℕ} → At more k r → In (map (λ (s : List ℕ). d ∷ s) more) (d ∷ r)
map_in d here = (0, here)
map_in d (there a) = further (map_in d a)

pub prefixed_in : {values : List ℕ} {k d : ℕ} {more : List (List ℕ)} {r : List ℕ} → At values k d → In more r → In (prefixed values more) (d ∷ r)
prefixed_in {more = more} (here {x = d} {xs = values}) o = in_front (prefixed values more) (map_in d o.1).1
prefixed_in {more = more} (there {y = c} a) o = in_back (map (λ (s : List ℕ). c ∷ s) more) (prefixed_in a o)

no_values : {k : ℕ} {s : List ℕ} → At ([] ∷ []) k s → s ≡ []
no_values here = refl
no_values (there a) = absurd (at_none a)

pub listed_in : (sets : List ℕ) {k : ℕ} {s : List ℕ} → At (states_in sets) k s → InSets sets s
listed_in [] a = rw (no_values a) nil
listed_in (set ∷ sets) a =
    let o = behind (values_in set) (states_in sets) a in
    rw o.2 (cons ((value_stands set o.0).0 o.3) (listed_in sets o.4.1))

in_listed : {sets s : List ℕ} → InSets sets s → In (states_in sets) s
in_listed nil = (0, here)
in_listed (cons {a = set} {b = d} h z) = prefixed_in ((value_stands set d).1 h).1 (in_listed z)

-- The states over which a least is taken are those with one value for each variable, each in its set.
pub states_listed : (sets s : List ℕ) → In (states_in sets) s ↔ InSets sets s
states_listed sets s = (λ o. listed_in sets o.1, in_listed)

-- ---- the narrowed sets

pub length_narrowed : (v : ℕ) (p : Partial) (sets : List ℕ) → length (narrowed_from v p sets) ≡ length sets
length_narrowed v p [] = refl
length_narrowed v p (set ∷ sets) = ap suc (length_narrowed (suc v) p sets)

-- by the facts of the variables from 1 on
narrowed_above : (v : ℕ) (p : Partial) (sets : List ℕ) → narrowed_from (suc v) p sets ≡ narrowed_from v (above p) sets
narrowed_above v p [] = refl
narrowed_above v p (set ∷ sets) = ap (λ (l : List ℕ). kept_set set (value_of p (suc v)) ∷ l) (narrowed_above (suc v) p sets)

-- the set of a variable
pub narrowed_at : (v : ℕ) (p : Partial) (sets : List ℕ) (k q : ℕ) → k < length sets → q ≡ v + k → get_or (narrowed_from v p sets) k 0 ≡ kept_set (get_or sets k 0) (value_of p q)
narrowed_at v p [] k q l e = absurd (omega arith)
narrowed_at v p (set ∷ sets) zero q l e = let z : v ≡ q = omega arith in ap (λ (n : ℕ). kept_set set (value_of p n)) z
narrowed_at v p (set ∷ sets) (suc k) q l e = narrowed_at (suc v) p sets k q (omega arith) (omega arith)

-- a value agrees with the first variable's, if it has one
first_agrees : (b : ℕ) (values : List ℕ) (x : ℕ) → Has b values → agrees b values x ≡ agreeing (first_value b values) x
first_agrees zero values x h = refl
first_agrees (suc b) [] x h = absurd h
first_agrees (suc b) (d ∷ values) x h = refl

-- The states of the narrowed sets are those of the sets that meet the precondition.
pub narrowed_states : (p : Partial) (sets : List ℕ) → Below (length sets) p → states_meeting p sets ≡ states_in (narrowed p sets)
narrowed_states p [] below = refl
narrowed_states p (set ∷ sets) below =
    let b = p.map % 2 in
    passing_prefixed (holds p) (agrees b p.values) (holds (above p)) (λ d s. refl) (values_in set) (states_in sets)
    ∙ ap₂ prefixed
    (passing_same (agrees b p.values) (agreeing (first_value b p.values)) (λ x. first_agrees b p.values x below.0) (values_in set) ∙ kept_values set (first_value b p.values))
    (narrowed_states (above p) sets below.1 ∙ ap states_in (sym (narrowed_above 0 p sets)))

-- ---- where no set lacks a value of the precondition

inside_from : (v : ℕ) (p : Partial) {sizes sets : List ℕ} → RelaxedInside sizes sets → Zip (λ v set. allows set (value_of p v) ≡ true) (up_from v (length sets)) sets
    → RelaxedInside sizes (narrowed_from v p sets)
inside_from v p nil has = nil
inside_from v p (cons {a = size} {b = set} r z) (cons h has) = cons (kept_inside size set (value_of p v) h r) (inside_from (suc v) p z has)

-- the narrowed sets are a relaxed state
pub meets_inside : (p : Partial) {sizes sets : List ℕ} {u : Unit {0}} → check_meets p sets ≡ accepted u → RelaxedInside sizes sets → RelaxedInside sizes (narrowed p sets)
unfolding check_meets
meets_inside p {sets = sets} h inside =
    inside_from 0 p inside (values_good 17 (λ v set. allows set (value_of p v)) 0 (up_from 0 (length sets)) sets h (sym (length_up_from 0 (length sets))))

-- ---- the relaxed cost of an action

module _ {sizes : List ℕ} {x : Action} (wf : WfAction sizes x) (small : All (λ d. d ≤ max_values) sizes) (sets : List ℕ) (inside : RelaxedInside sizes sets) where
  -- It is at most the cost in every state of the sets in which the action applies.
  pub relaxed_most : (s : List ℕ) → InSets sets s → holds x.pre s ≡ true → relaxed_cost x sets ≤ cost x s
  unfolding relaxed_cost
  relaxed_most s i h = least_most (cost x) (in_passing (holds x.pre) (in_listed i).1 h).1

  module _ {u : Unit {0}} (meets : check_meets x.pre sets ≡ accepted u) where
    -- It is the cost in one.
    pub record Had : Type 0 where
      pub state : List ℕ
      pub in_sets : InSets sets state
      pub applies : holds x.pre state ≡ true
      pub costs : cost x state ≡ relaxed_cost x sets
