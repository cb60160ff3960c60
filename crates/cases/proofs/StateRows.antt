-- Rows 4 and 12 of document 01's table, for a relaxed state: what its check refuses.
use Rattle.std.specs.Prelude.{◌≡◌, refl, ℕ, ◌^◌, Bool, true, false, ◌&&◌, ltb}
use Rattle.std.proofs.Common.{inl, inr, arith, ltb-false}
use Rattle.relaxation.specs.RelaxedTask.{good_set, check_relaxed}
use Rattle.relaxation.specs.RelaxedTaskLaws.{set_empty, set_stray}
use Rattle.cases.specs.StateRows.{NoSet, Refuses, with_row}

-- ---- a check by a test

no_set : (size set : ℕ) → good_set size set ≡ false → NoSet size set
no_set size set h = go (ltb 0 set) refl h
  where
    go : (b : Bool) → ltb 0 set ≡ b → (b && ltb set (2 ^ size)) ≡ false → NoSet size set
    go true e h = inr (ltb-false set (2 ^ size) h)
    go false e h = let none = ltb-false 0 set e in inl (omega arith)

-- a relaxed state
pub relaxed_check : Refuses check_relaxed NoSet
unfolding check_relaxed
relaxed_check = with_row good_set (λ size set. (no_set size set, λ b. elim b [ inl e ↦ set_empty size set e | inr l ↦ set_stray size set l ]))
