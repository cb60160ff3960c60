-- Command lines of `cost TASK ACTION STATE`, where the state may be left out, what is said of wrong ones, and words by number.
use Rattle.std.specs.Prelude.{◌≡◌, refl, true, false, Ok, Err, ℕ, List, []}
use Rattle.text.specs.Append.{bytes}
use Rattle.arguments.specs.declared.Name.TheVariants.{Task, Action, State}
use Rattle.arguments.specs.declared.Shape.{Shape}
use Rattle.arguments.specs.declared.Wrong.TheVariants.{Option, Missing, Long, Many, Twice}
use Rattle.arguments.specs.Arguments.{fit_of, wrong_text, hint_text}
use Rattle.arguments.specs.Table.{number_in}

abbrev cost : Shape
cost = record { first = Task; second = Action; third = State; least = 2; most = 3 }

-- how many there are
of_none : fit_of cost 0 ≡ Err (Missing Task)
of_none = refl

of_one : fit_of cost 1 ≡ Err (Missing Action)
of_one = refl

of_two : fit_of cost 2 ≡ Ok tt
of_two = refl

of_three : fit_of cost 3 ≡ Ok tt
of_three = refl

of_four : fit_of cost 4 ≡ Err Many
of_four = refl

-- what is said
missing : wrong_text (bytes "cost") [] (Missing Action) ≡ bytes "jafrelin: ACTION is missing; see jafrelin cost --help\n"
missing = refl

long : wrong_text (bytes "cost") [] (Long Task) ≡ bytes "jafrelin: TASK is too long; see jafrelin cost --help\n"
long = refl

many : wrong_text (bytes "cost") (bytes "more") Many ≡ bytes "jafrelin: more is one argument too many; see jafrelin cost --help\n"
many = refl

option : wrong_text (bytes "cost") (bytes "--quick") Option ≡ bytes "jafrelin: there is no option --quick; see jafrelin cost --help\n"
option = refl

twice : wrong_text (bytes "cost") [] (Twice Task State) ≡ bytes "jafrelin: TASK and STATE are both standard input; see jafrelin cost --help\n"
twice = refl

-- a probe file handed to a command that takes either kind, and to one that takes task files alone; a task file handed to one that takes probe files alone
either : hint_text (bytes "p") true true ≡ bytes "p is accepted as a probe file; to take it as one, say --kind probe\n"
either = refl

tasks : hint_text (bytes "p") false true ≡ bytes "p is accepted as a probe file, and what is asked for takes a task file\n"
tasks = refl

probes : hint_text (bytes "p") false false ≡ bytes "p is accepted as a task file, and what is asked for takes a probe file\n"
probes = refl

-- words of a table by number: the first, the last, and two that are not in it
abbrev table : List ℕ
table = bytes "check cost steps "

the_first : number_in table (bytes "check") ≡ 0
unfolding number_in
the_first = refl

the_last : number_in table (bytes "steps") ≡ 2
unfolding number_in
the_last = refl

a_front : number_in table (bytes "cos") ≡ 3
unfolding number_in
a_front = refl

no_word : number_in table [] ≡ 3
unfolding number_in
no_word = refl
