-- Laws of what the actions of a plan say on its sheet.
use Rattle.std.specs.Prelude.{ℕ, suc, ◌+◌, ◌<◌, ◌≡◌, refl, List, [], ◌∷◌, map, length}
use Rattle.std.proofs.Common.{sym, ap, subst, arith}
use Rattle.facts.specs.Lists.{total, up_from}
use Rattle.facts.specs.Partial.{Partial}
use Rattle.facts.specs.Run.{Move, next, Reaches, ends, steps}
use Rattle.line_writer.specs.Lines.{Entry, entries_from}
use Rattle.line_writer.specs.EntryLaws.{entry_of}
use Rattle.sheet.specs.Sheet.{costs_from}
use Rattle.sheet.specs.CostLaws.{costs_more}

-- the running sum of the last action, or what was paid before where there is none
abbrev pub last_sum : ℕ → List Entry → ℕ
last_sum paid [] = paid
last_sum paid (e ∷ es) = last_sum e.sum es

-- What the actions of a list say that leads from `paid` to the sum c: their indexes count up from i, their numbers are the list, their costs add up to what the sum grew by, and the last running sum is the sum.
pub record Tells (i paid : ℕ) (list : List ℕ) (c : ℕ) (es : List Entry) : Type 0 where
  pub indexes : map (λ (e : Entry). e.index) es ≡ up_from i (length list)
  pub actions : map (λ (e : Entry). e.action) es ≡ list
  pub costs : paid + total (λ (e : Entry). e.cost) es ≡ c
  pub last : last_sum paid es ≡ c

tells_more : {i paid a k c : ℕ} {list : List ℕ} {es : List Entry} → Tells (suc i) (paid + k) list c es → Tells i paid (a ∷ list) c (entry_of i a k (paid + k) ∷ es)
tells_more {i} {paid} {a} {k} t = record {
  indexes = ap (λ (xs : List ℕ). i ∷ xs) t.indexes;
  actions = ap (λ (xs : List ℕ). a ∷ xs) t.actions;
  costs = omega (arith, t.costs);
  last = t.last;
}

-- What the entries of a list cost one by one: each applies in the state to which those before it lead from s, and costs there what stands beside it.
pub data Spends (move : ℕ → List ℕ → Move) : List ℕ → List ℕ → List ℕ → Type 0 where
  nothing : {s : List ℕ} → Spends move [] s []
  spent : {a c : ℕ} {list s s' costs : List ℕ} → move a s ≡ next s' c → Spends move list s' costs → Spends move (a ∷ list) s (c ∷ costs)

-- where only numbers below `count` are actions
module _ (count : ℕ) (move : ℕ → List ℕ → Move) (goal : Partial) (known : (a : ℕ) (s e : List ℕ) (c : ℕ) → move a s ≡ next e c → a < count) where
  pub tells : (i paid : ℕ) (list s : List ℕ) (c : ℕ) → Reaches move goal paid list s c → Tells i paid list c (entries_from i paid list (costs_from count move list s))
  tells i paid [] s c (ends g) = record { indexes = refl; actions = refl; costs = omega arith; last = refl }
  tells i paid (a ∷ list) s c (steps {paid = k} {s' = s'} m r) =
      subst (λ (cs : List ℕ). Tells i paid (a ∷ list) c (entries_from i paid (a ∷ list) cs)) (sym (costs_more count move a list s (known a s s' k m) m)) (tells_more (tells (suc i) (paid + k) list s' c r))

  pub spends : (paid : ℕ) (list s : List ℕ) (c : ℕ) → Reaches move goal paid list s c → Spends move list s (costs_from count move list s)
  spends paid [] s c (ends g) = nothing
  spends paid (a ∷ list) s c (steps {paid = k} {s' = s'} m r) = subst (Spends move (a ∷ list) s) (sym (costs_more count move a list s (known a s s' k m) m)) (spent m (spends (paid + k) list s' c r))
