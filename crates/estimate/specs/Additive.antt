-- The additive heuristic, document 01's estimate: rounds over any actions. Document 01, "Relaxed cost and estimate".
use Rattle.std.specs.Prelude.{◌≡◌, ℕ, zero, suc, ◌%◌, ◌<◌, Bool, true, false, List, [], ◌∷◌, ◌++◌, map, eqb, length, get_or, take, drop}
use Rattle.facts.specs.Read.{Read, accepted, ◌>>=◌}
use Rattle.facts.specs.Lists.{up_from, total}
use Rattle.facts.specs.Partial.{Partial, above}
use Rattle.facts.specs.State.{check_state}
use Rattle.facts.specs.WellFormed.{WfPartial}
use Rattle.estimate.specs.Number.{Number, exact, never, sum, lesser}
use Rattle.estimate.specs.Facts.{start_number}
use Rattle.estimate.specs.Rounds.{round_of, settled}

-- ---- "one number for every fact of the file": a list, variable by variable and value by value, by the variables' domain sizes

-- how many facts there are
abbrev pub fact_count : List ℕ → ℕ
fact_count sizes = total (λ n. n) sizes

-- the list that has `of v d` for the fact that variable v has the value d; the first variable has the number v
abbrev pub listed_from : (ℕ → ℕ → Number) → ℕ → List ℕ → List Number
listed_from of v [] = []
listed_from of v (n ∷ sizes) = map (of v) (up_from 0 n) ++ listed_from of (suc v) sizes

abbrev pub listed : List ℕ → (ℕ → ℕ → Number) → List Number
listed sizes of = listed_from of 0 sizes

-- the number in the list for the fact that variable v has the value d; never, where that is no fact of the file
abbrev pub fact_number : List ℕ → List Number → ℕ → ℕ → Number
fact_number [] numbers v d = never
fact_number (n ∷ sizes) numbers zero d = get_or (take n numbers) d never
fact_number (n ∷ sizes) numbers (suc v) d = fact_number sizes (drop n numbers) v d

-- ---- the facts of a partial state

-- whether variable 0 has the value d, by its bit and the values
abbrev pub has_value : ℕ → List ℕ → ℕ → Bool
has_value zero values d = false
has_value (suc b) [] d = false
has_value (suc b) (x ∷ values) d = eqb x d

-- whether p has the fact that variable v has the value d
abbrev pub has : Partial → ℕ → ℕ → Bool
has p zero d = has_value (p.map % 2) p.values d
has p (suc v) d = has (above p) v d

-- the number of variable v's fact, by its bit and the values, and the sum of the others
abbrev pub with_number : (ℕ → ℕ → Number) → ℕ → ℕ → List ℕ → Number → Number
with_number of v zero values others = others
with_number of v (suc b) [] others = others
with_number of v (suc b) (x ∷ values) others = sum (of v x) others

-- the sum of the numbers of p's facts: of k variables, of which the first has the number v
abbrev pub sum_from : (ℕ → ℕ → Number) → ℕ → ℕ → Partial → Number
sum_from of v zero p = exact 0
sum_from of v (suc k) p = with_number of v (p.map % 2) p.values (sum_from of (suc v) k (above p))

-- ---- what is offered to facts

-- an effect, and the number that is offered to each of its facts
pub record Offer : Type 0 where
  pub effect : Partial
  pub number : Number

-- what an offer is to the fact that variable v has the value d: never, where the effect does not have it
abbrev pub offered_by : Offer → ℕ → ℕ → Number
offered_by o v d = elim (has o.effect v d) [ true ↦ o.number | false ↦ never ]

-- the least that is offered to it, "over each action whose effect has it"
abbrev pub offered : List Offer → ℕ → ℕ → Number
offered [] v d = never
offered (o ∷ offers) v d = lesser (offered_by o v d) (offered offers v d)

-- What the heuristic knows of an action or a step: precondition, effect, and what it costs at least by the old numbers. The field calls it an
-- achiever of its effect's facts.
pub record Achiever : Type 0 where
  pub pre : Partial
  pub eff : Partial
  pub cost : (ℕ → ℕ → Number) → Number

-- its offer, for n variables: "the sum of the old numbers of its precondition facts plus" what it costs at least
abbrev pub offer_of : ℕ → (ℕ → ℕ → Number) → Achiever → Offer
offer_of n of a = record { effect = a.eff; number = sum (sum_from of 0 n a.pre) (a.cost of) }

-- the offers of several
abbrev pub offers_by : ℕ → (ℕ → ℕ → Number) → List Achiever → List Offer
offers_by n of achievers = map (offer_of n of) achievers

-- its precondition and its cost are about facts of the file alone: `d < get_or sizes v 0` says that variable v can have the value d
pub record WfAchiever (sizes : List ℕ) (a : Achiever) : Type 0 where
  pub pre : WfPartial sizes a.pre
  pub cost : (of new : ℕ → ℕ → Number) → ((v d : ℕ) → d < get_or sizes v 0 → of v d ≡ new v d) → a.cost of ≡ a.cost new

-- ---- rounds

-- what all achievers offer to every fact; each offer is worked out once
abbrev pub offers_of : List ℕ → List Achiever → List Number → List Number
offers_of sizes achievers numbers = let offers = offers_by (length sizes) (fact_number sizes numbers) achievers in listed sizes (offered offers)

-- "A round gives each fact the lesser of its old number and" what is offered to it
unfoldable pub additive_round : List ℕ → List Achiever → List Number → List Number
additive_round sizes achievers numbers = round_of (offers_of sizes achievers) numbers

-- "0 where the state has it, else never"
abbrev pub start_numbers : List ℕ → List ℕ → List Number
start_numbers sizes s = listed sizes (start_number s)

-- "Rounds go on until one changes nothing."
unfoldable pub last_numbers : List ℕ → List Achiever → List ℕ → List Number
last_numbers sizes achievers s = settled (additive_round sizes achievers) (start_numbers sizes s)

-- "The answer is the goal facts' sum: exact, over or never; 0 for an empty goal."
unfoldable pub additive : List ℕ → List Achiever → Partial → List ℕ → Number
additive sizes achievers goal s = let numbers = last_numbers sizes achievers s in sum_from (fact_number sizes numbers) 0 (length sizes) goal

-- ---- the operation

-- of a file as it was read, from a state: the refusals of the file, then 12 and 4 for the state
unfoldable pub estimate_file : {File : Type 0} → (File → List ℕ) → (File → List ℕ → Number) → Read File → List ℕ → Read Number
estimate_file sizes estimate read s = do
  file ← read
  _ ← check_state (sizes file) s
  accepted (estimate file s)
