-- The sentence for a refusal by its number and place, as a C function hands it in.
use Rattle.std.specs.Prelude.{ℕ, List, [], ◌∷◌, get_or, None, Some}
use Rattle.facts.specs.Refusal.{refusal_with}
use Rattle.report.specs.declared.Subject.{Subject}
use Rattle.report.specs.declared.Subject.TheVariants.{File, State, Sets, List as OfList, Contracted}
use Rattle.report.specs.Report.{explanation}

-- what a refusal may be about, from 0 on
abbrev pub subjects : List Subject
subjects = File ∷ State ∷ Sets ∷ OfList ∷ []

-- what the refusal is about, by number: any other is a probe list to be contracted
unfoldable pub subject_of : ℕ → Subject
subject_of about = get_or subjects about Contracted

-- the sentence for the refusal of a number at a place; nothing for a number that no refusal has
unfoldable pub sentence : Subject → ℕ → ℕ → List ℕ
sentence s number p = elim (refusal_with number p) [ None ↦ [] | Some why ↦ explanation s why ]
