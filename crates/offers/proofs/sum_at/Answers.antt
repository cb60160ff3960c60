-- `offers::sum_at` meets its contract: no facts where the file ends inside the map, and else those of the map.
use Prim.Native.Nat.{ℕ}
use mathlib.Core.Path.{◌≡◌, sym, ap, ◌∙◌, subst}
use native.Mathlib.Omega.{arith}
use Rattle.facts.specs.Read.{accepted}
use Rattle.facts.specs.Partial.{beyond}
use Rattle.facts.specs.Fields.{read_number}
use Rattle.facts.specs.FieldLaws.{number_read, number_short}
use Rattle.facts.specs.InPlaceLaws.{standing_read, empty_read, past_here, past_cut}
use Rattle.estimate.specs.Additive.{sum_from}
use Rattle.estimate.specs.OfferLaws.{sum_empty}
use Rattle.estimate.specs.Ranks.{rank_number, SumEnds}
use Rattle.offers.proofs.sum_at.Goals as goal
use Rattle.offers.proofs.sum_at.Goals.{In-Ok}

map_is : (c : goal.In-Ok) → read_number c.args.file.now 8 c.args.at ≡ accepted c.in-Ok.map
map_is c = sym c.in-Ok.ensures

pub overflow_add-at : goal.overflow_add-at
overflow_add-at c = omega (arith, (number_read _ 8 _ (map_is c)).fits)

pub inside-requires : goal.inside-requires
inside-requires c = (number_read _ 8 _ (map_is c)).fits

pub returns-then-inside-clause-rank_value : goal.returns-then-inside-clause-rank_value
returns-then-inside-clause-rank_value c =
    let a = c.args in
    let s = c.sum_inside.result in
    c.sum_inside.ensures.by_index a.n (c.inside.ensures c.if-inside.true).1 ∙ ap (sum_from (rank_number a.ranks.now) 0 a.n) (sym (standing_read _ _ (map_is (goal.at.returns-then-inside-clause-rank_value c).In-Ok)))

pub returns-then-inside-clause-sum_ends : goal.returns-then-inside-clause-sum_ends
returns-then-inside-clause-sum_ends c =
    let a = c.args in
    let s = c.sum_inside.result in
    subst (λ (past : ℕ). SumEnds a.file.now past s.rank s.end) (sym (past_here a.file.now a.at (map_is (goal.at.returns-then-inside-clause-sum_ends c).In-Ok))) c.sum_inside.ensures.sum_ends

pub values_sum-requires : goal.values_sum-requires
values_sum-requires c = (number_read _ 8 _ (map_is (goal.at.values_sum-requires c).In-Ok)).fits

pub returns-in_default-clause-rank_value : goal.returns-in_default-clause-rank_value
returns-in_default-clause-rank_value c =
    let a = c.args in
    let cut = sym c.in_default.ensures in
    sym (sum_empty (rank_number a.ranks.now) a.n (empty_read a.file.now a.at cut))

pub returns-in_default-clause-sum_ends : goal.returns-in_default-clause-sum_ends
returns-in_default-clause-sum_ends c =
    let a = c.args in
    let cut = sym c.in_default.ensures in
    record { there = λ l. beyond (omega arith) (omega (arith, number_short a.file.now 8 a.at cut, past_cut a.file.now a.at cut)); near = omega arith }

pub returns-clause-rank_value : goal.returns-clause-rank_value
returns-clause-rank_value c =
    let a = c.args in
    let s = c.values_sum.result in
    c.values_sum.ensures.rank_value ∙ ap (sum_from (rank_number a.ranks.now) 0 a.n) (sym (standing_read _ _ (map_is (goal.at.returns-clause-rank_value c).In-Ok)))

pub returns-clause-sum_ends : goal.returns-clause-sum_ends
returns-clause-sum_ends c =
    let a = c.args in
    let s = c.values_sum.result in
    subst (λ (past : ℕ). SumEnds a.file.now past s.rank s.end) (sym (past_here a.file.now a.at (map_is (goal.at.returns-clause-sum_ends c).In-Ok))) c.values_sum.ensures.sum_ends
