-- Answers in words.
use Rattle.std.specs.Prelude.{ℕ, true, false, List, [], ◌∷◌, ◌++◌, eqb}
use Prim.Native.String.{String}
use Rattle.facts.specs.Refusal.{number, place}
use Rattle.facts.specs.declared.Refusal.{Refusal}
use Rattle.facts.specs.declared.Refusal.TheVariants.{Ends, Trailing, Range, Outside, Stray, Diagram, Short, Long, Blocked, Unmet, Missing, Width, Lacking}
use Rattle.estimate.specs.declared.Est.{Est}
use Rattle.estimate.specs.declared.Est.TheVariants.{Never, Over, Exact}
use Rattle.probefile.specs.Probe.{max_list}
use Rattle.text.specs.declared.Place.{Place}
use Rattle.text.specs.Text.{decimal}
use Rattle.text.specs.Append.{bytes}
use Rattle.report.specs.declared.Subject.{Subject}
use Rattle.report.specs.declared.Subject.TheVariants.{File, State, Sets, List as OfList, Contracted}
use Rattle.report.specs.declared.Fault.{Fault}
use Rattle.report.specs.declared.Fault.TheVariants.{Stray as StrayEntry, Large, Long as LongText, NotOne, Above}

-- text, a number, and text
abbrev pub around : String → ℕ → String → List ℕ
around before n after = bytes before ++ (decimal n ++ bytes after)

-- a refusal: the document's number, and the place
abbrev pub refusal_text : Refusal → List ℕ
refusal_text why = around "refused " (number why) " at " ++ around "" (place why) "\n"

-- a number after its name
abbrev pub count_text : List ℕ → ℕ → List ℕ
count_text name n = name ++ around " " n "\n"

-- values, each after a space
abbrev pub values_text : List ℕ → List ℕ
values_text [] = []
values_text (d ∷ s) = around " " d "" ++ values_text s

-- what an action costs at most, and the state that is given for it
abbrev pub dearest_text : ℕ → List ℕ → List ℕ
dearest_text cost state = count_text (bytes "cost") cost ++ (bytes "state" ++ (values_text state ++ bytes "\n"))

-- an estimate
abbrev pub estimate_text : Est → List ℕ
estimate_text Never = bytes "estimate never\n"
estimate_text Over = bytes "estimate over\n"
estimate_text (Exact n) = around "estimate " n "\n"

-- the line and the entry of a text, up to what is wrong with it
abbrev pub place_text : Place → List ℕ
place_text at = around ":" at.line ": entry " ++ around "" at.entry ", counted from 0, is "

-- what is wrong with a text or an argument, after its name
abbrev pub why_text : Fault → List ℕ
why_text (StrayEntry at) = place_text at ++ bytes "no number\n"
why_text (Large at most) = place_text at ++ around "above " most "\n"
why_text (LongText most) = around ": the text has more than " most " bytes\n"
why_text NotOne = bytes " is not one number\n"
why_text (Above most) = around " is above " most "\n"

-- the same with the name
abbrev pub fault_text : List ℕ → Fault → List ℕ
fault_text name why = name ++ why_text why

-- ---- what a refusal means

-- a value in a file
abbrev pub value_text : ℕ → List ℕ
value_text p = around "The value at byte " p " is outside the domain of its variable.\n"

-- refusal 4: in a state the place is a variable
abbrev pub outside_text : Subject → ℕ → List ℕ
outside_text File p = value_text p
outside_text State p = around "Variable " p " has a value outside its domain.\n"
outside_text Sets p = around "The set of variable " p " is empty, or has a bit for a value that there is not.\n"
outside_text OfList p = value_text p
outside_text Contracted p = value_text p

-- refusal 8: the place is the limit, or where the first action starts that is too many
abbrev pub limit_text : ℕ → List ℕ
limit_text p = around "The list has more than " p " entries, its limit.\n"

abbrev pub long_text : Subject → ℕ → List ℕ
long_text File p = limit_text p
long_text State p = limit_text p
long_text Sets p = limit_text p
long_text OfList p = limit_text p
long_text Contracted p = elim (eqb p max_list) [
  | true ↦ limit_text p
  | false ↦ around "The list comes from more than 256 actions: entry " p ", counted from 0, starts the first that is too many.\n"
]

-- refusal 11: of an action number, or of an entry of a list
abbrev pub entry_text : ℕ → List ℕ
entry_text p = around "Entry " p " of the list, counted from 0, is the number of no action or step.\n"

abbrev pub missing_text : Subject → ℕ → List ℕ
missing_text File p = entry_text p
missing_text State p = bytes "There is no action of this number.\n"
missing_text Sets p = bytes "There is no action of this number.\n"
missing_text OfList p = entry_text p
missing_text Contracted p = entry_text p

-- the sentence for a refusal
abbrev pub explanation : Subject → Refusal → List ℕ
explanation subject (Ends p) = around "The file ends before or inside the field that begins at byte " p ".\n"
explanation subject (Trailing p) = around "The last field ends before byte " p ", and the file goes on.\n"
explanation subject (Range p) = around "The count or domain size at byte " p " is outside its range, or there are more than 64 nodes with it.\n"
explanation subject (Outside p) = outside_text subject p
explanation subject (Stray p) = around "The map at byte " p " has a bit for a variable that there is not.\n"
explanation subject (Diagram p) = around "The node variable or target at byte " p " is against the rules: a node tests a variable of the task, and an edge leads to a later node that tests a later variable, or to the end.\n"
explanation subject (Short p) = around "The result needs room for " p ".\n"
explanation subject (Long p) = long_text subject p
explanation subject (Blocked p) = around "Entry " p " of the list, counted from 0, does not apply in the state that the entries before it lead to.\n"
explanation subject (Unmet p) = around "After all " p " entries of the list the goal does not hold.\n"
explanation subject (Missing p) = missing_text subject p
explanation subject (Width p) = bytes "There has to be one number for each variable.\n"
explanation subject (Lacking p) = around "The set of variable " p " lacks the value that the action needs there to apply.\n"
