-- Laws of the sentence for a list that is too long.
use Rattle.std.specs.Prelude.{ℕ, ◌≡◌}
use Rattle.std.proofs.Common.{eq-eqb, ne_eqb}
use Rattle.probefile.specs.Probe.{max_list}
use Rattle.report.specs.declared.Subject.TheVariants.{Contracted}
use Rattle.report.specs.Report.{around, limit_text, long_text}

-- a probe list over its limit, and one that comes from too many actions
pub limit_all : (p : ℕ) → p ≡ max_list → limit_text p ≡ long_text Contracted p
limit_all p e = rw (eq-eqb p max_list e, long_text)

pub limit_not : (p : ℕ) → (p ≡ max_list → ⊥) → around "The list comes from more than 256 actions: entry " p ", counted from 0, starts the first that is too many.\n" ≡ long_text Contracted p
limit_not p e = rw (ne_eqb p max_list e, long_text)
