-- The arguments of a command, and what is wrong with them in words.
use Rattle.std.specs.Prelude.{ℕ, Result, Ok, Err, Bool, true, false, not, List, ◌++◌, eqb, ltb}
use Rattle.text.specs.Append.{bytes}
use Rattle.arguments.specs.declared.Name.{Name}
use Rattle.arguments.specs.declared.Name.TheVariants.{File, Task, Probe, Action, State, Sets, Plan, List as ListName, Sum}
use Rattle.arguments.specs.declared.Shape.{Shape}
use Rattle.arguments.specs.declared.Wrong.{Wrong}
use Rattle.arguments.specs.declared.Wrong.TheVariants.{Option, Missing, Long, Many, Twice}

-- ---- how many there have to be

-- the name of argument number k, from 0 on
abbrev pub name_at : Shape → ℕ → Name
name_at s k = elim (eqb k 0) [ true ↦ s.first | false ↦ elim (eqb k 1) [ true ↦ s.second | false ↦ s.third ] ]

-- whether so many arguments are as many as there have to be; if not, which is missing, or that there are too many
abbrev pub fit_of : Shape → ℕ → Result (Unit {0}) Wrong
fit_of s n = elim (ltb n s.least) [ true ↦ Err (Missing (name_at s n)) | false ↦ elim (ltb s.most n) [ true ↦ Err Many | false ↦ Ok tt ] ]

-- ---- in words

-- the name of an argument
abbrev pub name_text : Name → List ℕ
name_text File = bytes "FILE"
name_text Task = bytes "TASK"
name_text Probe = bytes "PROBE"
name_text Action = bytes "ACTION"
name_text State = bytes "STATE"
name_text Sets = bytes "SETS"
name_text Plan = bytes "PLAN"
name_text ListName = bytes "LIST"
name_text Sum = bytes "SUM"

-- what is wrong, with the word that is
abbrev pub what_text : List ℕ → Wrong → List ℕ
what_text word Option = bytes "there is no option " ++ word
what_text word (Missing name) = name_text name ++ bytes " is missing"
what_text word (Long name) = name_text name ++ bytes " is too long"
what_text word Many = word ++ bytes " is one argument too many"
what_text word (Twice name other) = name_text name ++ (bytes " and " ++ (name_text other ++ bytes " are both standard input"))

-- the line that says so, and where help is; `command` is the command's word
abbrev pub wrong_text : List ℕ → List ℕ → Wrong → List ℕ
wrong_text command word why = bytes "jafrelin: " ++ (what_text word why ++ (bytes "; see jafrelin " ++ (command ++ bytes " --help\n")))

-- ---- a file of the other kind

-- a kind of file: of probe files, or of task files
abbrev pub kind_text : Bool → List ℕ
kind_text true = bytes "probe"
kind_text false = bytes "task"

-- what can be done with a file of that kind, by a command that takes either kind, or only the other
abbrev pub advice_text : Bool → Bool → List ℕ
advice_text true probe = bytes "; to take it as one, say --kind " ++ kind_text probe
advice_text false probe = bytes ", and what is asked for takes a " ++ (kind_text (not probe) ++ bytes " file")

-- the line about a file that is refused as one kind and accepted as the other
abbrev pub hint_text : List ℕ → Bool → Bool → List ℕ
hint_text name either probe = name ++ (bytes " is accepted as a " ++ (kind_text probe ++ (bytes " file" ++ (advice_text either probe ++ bytes "\n"))))
