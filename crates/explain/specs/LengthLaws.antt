-- How long a sentence is: at most 256 bytes.
use Rattle.std.specs.Prelude.{ℕ, ◌≤◌, Bool, true, false, eqb, length}
use Rattle.std.proofs.Common.{arith, length-append}
use Rattle.facts.specs.Refusal.{place}
use Rattle.facts.specs.declared.Refusal.{Refusal}
use Rattle.facts.specs.declared.Refusal.TheVariants.{Ends, Trailing, Range, Outside, Stray, Diagram, Short, Long, Blocked, Unmet, Missing, Width, Lacking}
use Rattle.probefile.specs.Probe.{max_list}
use Rattle.text.specs.Text.{decimal}
use Rattle.text.specs.Append.{largest}
use Rattle.text.specs.PrintLaws.{digits_most}
use Rattle.report.specs.declared.Subject.{Subject}
use Rattle.report.specs.declared.Subject.TheVariants.{File, State, Sets, List as OfList, Contracted}
use Rattle.report.specs.Report.{around, limit_text, outside_text, long_text, missing_text, explanation}

digits : (n : ℕ) → n ≤ largest → length (decimal n) ≤ 20
digits n l = digits_most 19 n (omega arith)

long_most : (s : Subject) (p : ℕ) → p ≤ largest → length (long_text s p) ≤ 256
long_most File p l = simp length-append (omega (arith, digits p l))
long_most State p l = simp length-append (omega (arith, digits p l))
long_most Sets p l = simp length-append (omega (arith, digits p l))
long_most OfList p l = simp length-append (omega (arith, digits p l))
long_most Contracted p l = go (eqb p max_list)
  where
    go : (t : Bool) → length {A = ℕ} (elim t [ true ↦ limit_text p | false ↦ around "The list comes from more than 256 actions: entry " p ", counted from 0, starts the first that is too many.\n" ]) ≤ 256
    go true = simp length-append (omega (arith, digits p l))
    go false = simp length-append (omega (arith, digits p l))

outside_most : (s : Subject) (p : ℕ) → p ≤ largest → length (outside_text s p) ≤ 256
outside_most File p l = simp length-append (omega (arith, digits p l))
outside_most State p l = simp length-append (omega (arith, digits p l))
outside_most Sets p l = simp length-append (omega (arith, digits p l))
outside_most OfList p l = simp length-append (omega (arith, digits p l))
outside_most Contracted p l = simp length-append (omega (arith, digits p l))

missing_most : (s : Subject) (p : ℕ) → p ≤ largest → length (missing_text s p) ≤ 256
missing_most File p l = simp length-append (omega (arith, digits p l))
missing_most State p l = omega arith
missing_most Sets p l = omega arith
missing_most OfList p l = simp length-append (omega (arith, digits p l))
missing_most Contracted p l = simp length-append (omega (arith, digits p l))

pub explanation_most : (s : Subject) (why : Refusal) → place why ≤ largest → length (explanation s why) ≤ 256
explanation_most s (Ends p) l = simp length-append (omega (arith, digits p l))
explanation_most s (Trailing p) l = simp length-append (omega (arith, digits p l))
explanation_most s (Range p) l = simp length-append (omega (arith, digits p l))
explanation_most s (Outside p) l = outside_most s p l
explanation_most s (Stray p) l = simp length-append (omega (arith, digits p l))
explanation_most s (Diagram p) l = simp length-append (omega (arith, digits p l))
explanation_most s (Short p) l = simp length-append (omega (arith, digits p l))
explanation_most s (Long p) l = long_most s p l
explanation_most s (Blocked p) l = simp length-append (omega (arith, digits p l))
explanation_most s (Unmet p) l = simp length-append (omega (arith, digits p l))
explanation_most s (Missing p) l = missing_most s p l
explanation_most s (Width p) l = omega arith
explanation_most s (Lacking p) l = simp length-append (omega (arith, digits p l))
