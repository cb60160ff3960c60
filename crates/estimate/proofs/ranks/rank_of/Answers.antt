-- `estimate::ranks::rank_of` meets its contract: where there is no room for the fact, its number is never.
use Prim.Native.Nat.{◌+◌, ◌*◌}
use mathlib.Core.Path.{◌≡◌, sym, ap, ◌∙◌}
use lib.ListN.{get_or}
use Rattle.std.specs.Option.{unwrap_or}
use Rattle.std.proofs.lemmas.Option.{unwrap_or-slice_get}
use Rattle.facts.specs.AnswerLaws.{copied_at}
use Rattle.estimate.specs.Number.{ranked}
use Rattle.estimate.specs.Facts.{most_values}
use Rattle.estimate.specs.RanksLaws.{rank_here, rank_variable, rank_value}
use Rattle.estimate.proofs.ranks.rank_of.Goals as goal

pub returns-then-v-ge-MAX_VARIABLES : goal.returns-then-v-ge-MAX_VARIABLES
returns-then-v-ge-MAX_VARIABLES c = sym (rank_variable _ _ _ c.if-v-ge-MAX_VARIABLES.true)

pub returns-then-d-ge-MAX_VALUES : goal.returns-then-d-ge-MAX_VALUES
returns-then-d-ge-MAX_VALUES c = sym (rank_value _ _ _ c.if-d-ge-MAX_VALUES.true)

pub returns : goal.returns
returns c =
    let a = c.args in
    let i = a.v * most_values + a.d in
    let read : c.unwrap_or.result ≡ get_or a.ranks.now i 4294967297 = c.unwrap_or.ensures ∙ ap (λ o. unwrap_or o 4294967297) (c.copied.ensures ∙ copied_at a.ranks.now i c.get.result c.get.ensures.lookup.0 c.get.ensures.lookup.1) ∙ unwrap_or-slice_get a.ranks.now i 4294967297 in
    ap ranked read ∙ sym (rank_here a.ranks.now a.v a.d c.if-v-ge-MAX_VARIABLES.false c.if-d-ge-MAX_VALUES.false)
