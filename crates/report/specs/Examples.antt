-- Answers in words, computed: each refusal, with its sentence for each subject, each kind of estimate, and each fault of a text or an argument.
use Rattle.std.specs.Prelude.{◌≡◌, refl, ℕ, List, [], ◌∷◌, map}
use Prim.Native.String.{String}
use Rattle.facts.specs.declared.Refusal.{Refusal}
use Rattle.facts.specs.declared.Refusal.TheVariants.{Ends, Trailing, Range, Outside, Stray, Diagram, Short, Long, Blocked, Unmet, Missing, Width, Lacking}
use Rattle.estimate.specs.declared.Est.TheVariants.{Never, Over, Exact}
use Rattle.text.specs.Text.{decimal}
use Rattle.text.specs.Append.{bytes}
use Rattle.report.specs.declared.Subject.{Subject}
use Rattle.report.specs.declared.Subject.TheVariants.{File, State, Sets, List as OfList, Contracted}
use Rattle.report.specs.declared.Fault.{Fault}
use Rattle.report.specs.declared.Fault.TheVariants.{Stray as StrayEntry, Large, Long as LongText, NotOne, Above}
use Rattle.report.specs.Report.{refusal_text, count_text, estimate_text, fault_text, explanation}

-- what is said, and the words
abbrev Said : {A : Type 0} → (A → List ℕ) → List (A × String) → Type 0
Said said table = map (λ c. said c.0) table ≡ map (λ c. bytes c.1) table

-- "refused 2 at 40", by document 01's examples, and 17
refusals : Said refusal_text (
    (Ends 0, "refused 1 at 0\n")
    ∷ (Trailing 40, "refused 2 at 40\n")
    ∷ (Range 0, "refused 3 at 0\n")
    ∷ (Outside 2, "refused 4 at 2\n")
    ∷ (Stray 3, "refused 5 at 3\n")
    ∷ (Diagram 33, "refused 6 at 33\n")
    ∷ (Short 106, "refused 7 at 106\n")
    ∷ (Long 256, "refused 8 at 256\n")
    ∷ (Blocked 1, "refused 9 at 1\n")
    ∷ (Unmet 0, "refused 10 at 0\n")
    ∷ (Missing 0, "refused 11 at 0\n")
    ∷ (Width 0, "refused 12 at 0\n")
    ∷ (Lacking 2, "refused 17 at 2\n")
    ∷ [])
unfolding decimal
refusals = refl

summed : count_text (bytes "sum") 8 ≡ bytes "sum 8\n"
unfolding decimal
summed = refl

estimates : Said estimate_text (
    (Exact 0, "estimate 0\n")
    ∷ (Exact 4294967295, "estimate 4294967295\n")
    ∷ (Over, "estimate over\n")
    ∷ (Never, "estimate never\n")
    ∷ [])
unfolding decimal
estimates = refl

-- of a text and of an argument, by name
faults : Said (λ (c : String × Fault). fault_text (bytes c.0) c.1) (
    (("plan.txt", StrayEntry (record { line = 3; entry = 7 })), "plan.txt:3: entry 7, counted from 0, is no number\n")
    ∷ (("standard input", Large (record { line = 1; entry = 0 }) 65535), "standard input:1: entry 0, counted from 0, is above 65535\n")
    ∷ (("plan.txt", LongText 131071), "plan.txt: the text has more than 131071 bytes\n")
    ∷ (("ACTION", NotOne), "ACTION is not one number\n")
    ∷ (("ACTION", Above 4294967295), "ACTION is above 4294967295\n")
    ∷ [])
unfolding decimal
faults = refl

-- sentences that do not depend on the subject
any_subject : (subject : Subject) → Said (explanation subject) (
    (Ends 0, "The file ends before or inside the field that begins at byte 0.\n")
    ∷ (Trailing 40, "The last field ends before byte 40, and the file goes on.\n")
    ∷ (Range 0, "The count or domain size at byte 0 is outside its range, or there are more than 64 nodes with it.\n")
    ∷ (Stray 3, "The map at byte 3 has a bit for a variable that there is not.\n")
    ∷ (Diagram 33, "The node variable or target at byte 33 is against the rules: a node tests a variable of the task, and an edge leads to a later node that tests a later variable, or to the end.\n")
    ∷ (Short 106, "The result needs room for 106.\n")
    ∷ (Blocked 1, "Entry 1 of the list, counted from 0, does not apply in the state that the entries before it lead to.\n")
    ∷ (Unmet 2, "After all 2 entries of the list the goal does not hold.\n")
    ∷ (Width 0, "There has to be one number for each variable.\n")
    ∷ (Lacking 2, "The set of variable 2 lacks the value that the action needs there to apply.\n")
    ∷ [])
unfolding decimal
any_subject subject = refl

-- sentences that do: 4, 8 and 11
each_subject : Said (λ (c : Subject × Refusal). explanation c.0 c.1) (
    ((File, Outside 2), "The value at byte 2 is outside the domain of its variable.\n")
    ∷ ((State, Outside 2), "Variable 2 has a value outside its domain.\n")
    ∷ ((Sets, Outside 2), "The set of variable 2 is empty, or has a bit for a value that there is not.\n")
    ∷ ((OfList, Outside 2), "The value at byte 2 is outside the domain of its variable.\n")
    ∷ ((Contracted, Outside 2), "The value at byte 2 is outside the domain of its variable.\n")
    ∷ ((File, Long 256), "The list has more than 256 entries, its limit.\n")
    ∷ ((State, Long 256), "The list has more than 256 entries, its limit.\n")
    ∷ ((Sets, Long 256), "The list has more than 256 entries, its limit.\n")
    ∷ ((OfList, Long 256), "The list has more than 256 entries, its limit.\n")
    ∷ ((Contracted, Long 6656), "The list has more than 6656 entries, its limit.\n")
    ∷ ((Contracted, Long 768), "The list comes from more than 256 actions: entry 768, counted from 0, starts the first that is too many.\n")
    ∷ ((File, Missing 1), "Entry 1 of the list, counted from 0, is the number of no action or step.\n")
    ∷ ((State, Missing 0), "There is no action of this number.\n")
    ∷ ((Sets, Missing 0), "There is no action of this number.\n")
    ∷ ((OfList, Missing 1), "Entry 1 of the list, counted from 0, is the number of no action or step.\n")
    ∷ ((Contracted, Missing 1), "Entry 1 of the list, counted from 0, is the number of no action or step.\n")
    ∷ [])
unfolding decimal
each_subject = refl
