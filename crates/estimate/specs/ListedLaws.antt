-- Laws of the list that has one number for every fact, of the facts of a partial state, and of the sum of their numbers. That variable v can
-- have the value d, so that there is such a fact, is `d < get_or sizes v 0`.
use Rattle.std.specs.Prelude.{◌≡◌, refl, true, false, ℕ, zero, suc, ◌+◌, ◌%◌, ◌^◌, ◌≤◌, ◌<◌, List, [], ◌∷◌, ◌++◌, map, length, get_or, take, drop}
use Rattle.std.proofs.Common.{sym, ap, ap₂, ◌∙◌, arith, length-append, length-take, length-drop, take-append-drop, get_or-take, get_or-drop, ext_get_or, take_at, drop_at, eqb-true}
use Rattle.std.proofs.lemmas.Bool.{false≢true}
use Rattle.std.proofs.lemmas.List.{length-map}
use Rattle.std.proofs.Math.ListN.{get_or-eq_default}
use Rattle.facts.specs.Lists.{up_from, All}
use Rattle.facts.specs.ListLaws.{length_up_from}
use Rattle.facts.specs.Partial.{Partial, above}
use Rattle.facts.specs.WellFormed.{Fits, Values, WfPartial}
use Rattle.estimate.specs.Number.{Number, never}
use Rattle.estimate.specs.Additive.{fact_count, listed_from, listed, fact_number, has_value, has}

-- ---- the list

-- the numbers of one variable
row_at : (of : ℕ → Number) (k n d : ℕ) → d < n → get_or (map of (up_from k n)) d never ≡ of (k + d)
row_at of k zero d l = absurd (omega arith)
row_at of k (suc n) zero l = ap of (omega arith)
row_at of k (suc n) (suc d) l = row_at of (suc k) n d (omega arith) ∙ ap of (omega arith)

row_length : (of : ℕ → Number) (n : ℕ) → length (map of (up_from 0 n)) ≡ n
row_length of n = length-map (up_from 0 n) of ∙ length_up_from 0 n

listed_from_length : (of : ℕ → ℕ → Number) (u : ℕ) (sizes : List ℕ) → length (listed_from of u sizes) ≡ fact_count sizes
listed_from_length of u [] = refl
listed_from_length of u (n ∷ sizes) =
    length-append (map (of u) (up_from 0 n)) (listed_from of (suc u) sizes) ∙ ap₂ ◌+◌ (row_length (of u) n) (listed_from_length of (suc u) sizes)

-- it has a number for every fact
pub listed_length : (sizes : List ℕ) (of : ℕ → ℕ → Number) → length (listed sizes of) ≡ fact_count sizes
listed_length sizes of = listed_from_length of 0 sizes

-- where the fact stands in the list that variable v has the value d: behind the values of the variables before
abbrev pub fact_place : List ℕ → ℕ → ℕ → ℕ
fact_place sizes v d = fact_count (take v sizes) + d

pub fact_placed : (sizes : List ℕ) (numbers : List Number) (v d : ℕ) → d < get_or sizes v 0 → fact_number sizes numbers v d ≡ get_or numbers (fact_place sizes v d) never
fact_placed [] numbers v d l = absurd (omega arith)
fact_placed (n ∷ sizes) numbers zero d l = get_or-take n numbers d never l ∙ ap (λ (k : ℕ). get_or numbers k never) (omega arith)
fact_placed (n ∷ sizes) numbers (suc v) d l =
    fact_placed sizes (drop n numbers) v d l ∙ get_or-drop n numbers (fact_place sizes v d) never ∙ ap (λ (k : ℕ). get_or numbers k never) (omega arith)

-- where there is no such fact the number is never
pub fact_none : (sizes : List ℕ) (numbers : List Number) (v d : ℕ) → get_or sizes v 0 ≤ d → fact_number sizes numbers v d ≡ never
fact_none [] numbers v d l = refl
fact_none (n ∷ sizes) numbers zero d l = get_or-eq_default (take n numbers) never (omega (arith, length-take n numbers))
fact_none (n ∷ sizes) numbers (suc v) d l = fact_none sizes (drop n numbers) v d l

fact_from : (of : ℕ → ℕ → Number) (u : ℕ) (sizes : List ℕ) (v d : ℕ) → d < get_or sizes v 0 → fact_number sizes (listed_from of u sizes) v d ≡ of (u + v) d
fact_from of u [] v d l = absurd (omega arith)
fact_from of u (n ∷ sizes) zero d l =
    rw (take_at (map (of u) (up_from 0 n)) (listed_from of (suc u) sizes) n (row_length (of u) n)) (row_at (of u) 0 n d l ∙ ap₂ of (omega arith) (omega arith))
fact_from of u (n ∷ sizes) (suc v) d l =
    rw (drop_at (map (of u) (up_from 0 n)) (listed_from of (suc u) sizes) n (row_length (of u) n)) (fact_from of (suc u) sizes v d l ∙ ap₂ of (omega arith) refl)

-- what is listed for a fact is its number
pub fact_listed : (sizes : List ℕ) (of : ℕ → ℕ → Number) (v d : ℕ) → d < get_or sizes v 0 → fact_number sizes (listed sizes of) v d ≡ of v d
fact_listed sizes of v d l = fact_from of 0 sizes v d l ∙ ap₂ of (omega arith) refl

-- two lists with the same number for each fact are the same
pub facts_same : (sizes : List ℕ) (xs ys : List Number) → length xs ≡ fact_count sizes → length ys ≡ fact_count sizes
    → ((v d : ℕ) → d < get_or sizes v 0 → fact_number sizes xs v d ≡ fact_number sizes ys v d) → xs ≡ ys
facts_same [] [] [] p q same = refl
facts_same [] [] (y ∷ ys) p q same = absurd (omega arith)
facts_same [] (x ∷ xs) ys p q same = absurd (omega arith)
facts_same (n ∷ sizes) xs ys p q same =
    sym (take-append-drop n xs)
    ∙ ap₂ ◌++◌
    (ext_get_or never (take n xs) (take n ys) (omega (arith, length-take n xs, length-take n ys)) (λ d l. same 0 d (omega (arith, length-take n xs))))
    (facts_same sizes (drop n xs) (drop n ys) (omega (arith, length-drop n xs)) (omega (arith, length-drop n ys)) (λ v d l. same (suc v) d l))
    ∙ take-append-drop n ys

-- a list is what is listed, if that is the number of each fact
pub listed_is : (sizes : List ℕ) (of : ℕ → ℕ → Number) (numbers : List Number) → length numbers ≡ fact_count sizes
    → ((v d : ℕ) → d < get_or sizes v 0 → of v d ≡ fact_number sizes numbers v d) → listed sizes of ≡ numbers
listed_is sizes of numbers e h = facts_same sizes (listed sizes of) numbers (listed_length sizes of) e (λ v d l. fact_listed sizes of v d l ∙ h v d l)

-- what holds of all that is given holds of each number listed
module _ (P : Number → Type 0) (of : ℕ → ℕ → Number) (h : (v d : ℕ) → P (of v d)) where
  all_row : (v : ℕ) (values : List ℕ) (more : List Number) → All P more → All P (map (of v) values ++ more)
  all_row v [] more k = k
  all_row v (d ∷ values) more k = (h v d, all_row v values more k)

  all_from : (u : ℕ) (sizes : List ℕ) → All P (listed_from of u sizes)
  all_from u [] = tt
  all_from u (n ∷ sizes) = all_row u (up_from 0 n) (listed_from of (suc u) sizes) (all_from (suc u) sizes)

  pub all_listed : (sizes : List ℕ) → All P (listed sizes of)
  all_listed sizes = all_from 0 sizes

-- ---- the facts of a partial state

has_value_lem : (b : ℕ) (values : List ℕ) (n d : ℕ) → Fits b values n → has_value b values d ≡ true → d < n
has_value_lem zero values n d h e = absurd (false≢true e)
has_value_lem (suc b) [] n d h e = absurd h
has_value_lem (suc b) (x ∷ values) n d h e = omega (arith, eqb-true x d e)

-- a map with no bit has no fact
has_none : (p : Partial) → p.map ≡ 0 → (v d : ℕ) → has p v d ≡ false
has_none p h zero d = let z : p.map % 2 ≡ 0 = omega arith in rw z
has_none p h (suc v) d = has_none (above p) (omega arith) v d

has_inside : (sizes : List ℕ) (p : Partial) → p.map < 2 ^ length sizes → Values p sizes → (v d : ℕ) → has p v d ≡ true → d < get_or sizes v 0
has_inside [] p m h v d e = absurd (false≢true (sym (has_none p (omega arith) v d) ∙ e))
has_inside (n ∷ sizes) p m h zero d e = has_value_lem (p.map % 2) p.values n d h.0 e
has_inside (n ∷ sizes) p m h (suc v) d e = let low : p.map < 2 ^ suc (length sizes) = m in has_inside sizes (above p) (omega arith) h.1 v d e

-- the facts of a well-formed partial state are facts of the file
pub has_fact : {sizes : List ℕ} {p : Partial} → WfPartial sizes p → (v d : ℕ) → has p v d ≡ true → d < get_or sizes v 0
has_fact {sizes} {p} w v d e = has_inside sizes p w.map_below w.values v d e
