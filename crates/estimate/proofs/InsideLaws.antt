-- Laws of partial states that lie inside the file and have room among the ranks: they still do without their lowest standing bit, and sums of ranks below never's.
use Rattle.std.specs.Prelude.{◌≡◌, refl, ℕ, ◌<◌, List, length, get_or}
use Rattle.std.proofs.Common.{sym, ◌∙◌}
use Rattle.facts.specs.Bits.{Lowest}
use Rattle.estimate.specs.Number.{Number, never}
use Rattle.estimate.specs.NumberLaws.{sum_never_second}
use Rattle.estimate.specs.OfferLaws.{Summing, summing_never}
use Rattle.estimate.proofs.OfferLaws.{summing_more}

-- the next fact's number is never, and so is the whole
pub summing_fact_never : {of : ℕ → ℕ → Number} {f : List ℕ} {n m at : ℕ} {whole total : Number} → Summing of f n m at whole total → {z a : ℕ} → Lowest m z a → {x : Number} → z < n → at < length f
    → x ≡ of z (get_or f at 0) → x ≡ never → x ≡ whole
summing_fact_never {total = total} g e l h q none =
    let sum_is_lem = sum_never_second total none in none ∙ sum_is_lem ∙ summing_never (summing_more g e l h q refl) (sym sum_is_lem)
