-- Laws of sentences by number.
use Rattle.std.specs.Prelude.{ℕ, ◌≤◌, ◌<◌, ◌≡◌, refl, length, Option, None, Some}
use Rattle.std.proofs.Common.{sym, arith}
use Rattle.std.proofs.Math.Path.{ap}
use mathlib.Core.List.{List, []}
use Rattle.std.proofs.Math.ListN.{get_or-eq_default}
use Rattle.facts.specs.Read.{accepted}
use Rattle.facts.specs.Write.{length_in, written_in, over}
use Rattle.facts.specs.Refusal.{refusal_with}
use Rattle.facts.specs.RefusalLaws.{with_inv}
use Rattle.facts.specs.declared.Refusal.{Refusal}
use Rattle.text.specs.Append.{largest}
use Rattle.facts.specs.WriteLaws.{wrote_in}
use Rattle.report.specs.declared.Subject.{Subject}
use Rattle.report.specs.declared.Subject.TheVariants.{Contracted}
use Rattle.report.specs.Report.{explanation}
use Rattle.explain.specs.LengthLaws.{explanation_most}
use Rattle.sentence.specs.Sentence.{subjects, subject_of, sentence}

module _ (n p : ℕ) where
  -- The sentence for a refusal is its explanation.
  pub said : {why : Refusal} → Some why ≡ refusal_with n p → {s t : Subject} → s ≡ t → accepted (sentence t n p) ≡ accepted (explanation s why)
  unfolding sentence
  said {why} h {t = t} e = ap accepted (rw (← h, sentence) (ap (λ (s : Subject). explanation s why) (sym e)))

  -- Nothing is written for a number that no refusal has.
  pub unsaid : None ≡ refusal_with n p → (s : Subject) (out : List ℕ) → (accepted 0 ≡ length_in (length out) (accepted (sentence s n p))) × (out ≡ written_in out (accepted (sentence s n p)))
  unfolding sentence over
  unsaid h s out = wrote_in {list = []} (rw (← h, sentence)) (omega arith) (record { count = refl; buffer = refl })

-- A sentence is short.
pub sentence_most : (s : Subject) (n p : ℕ) → p ≤ largest → length (sentence s n p) ≤ 256
unfolding sentence
sentence_most s n p l = go (refusal_with n p) refl
  where
    go : (o : Option Refusal) → refusal_with n p ≡ o → length {A = ℕ} (elim o [ None ↦ [] | Some why ↦ explanation s why ]) ≤ 256
    go None e = omega arith
    go (Some why) e = explanation_most s why (omega (arith, (with_inv n p e).0))

-- A number that no other subject has.
pub contracted : (about : ℕ) → 3 < about → Contracted ≡ subject_of about
unfolding subject_of
contracted about l = sym (get_or-eq_default subjects Contracted {n = about} (omega arith))
