-- What the walk goes by, as the code has it.
use Rattle.taskfile.specs.Task.{Action}
use Rattle.taskfile.specs.PartsInPlace.{action_in}
use Rattle.dearest.specs.InPlace.{Tabled}
use Rattle.task_dearest.specs.declared.state.Course.{Course}

-- the action
abbrev pub action_of : Course → Action
action_of c = action_in c.file.now c.sizes.now c.at c.nodes.now

-- it is one of an accepted file, and the table is whole
abbrev pub Ready : Course → Type 0
Ready c = Tabled c.file.now c.sizes.now c.at c.nodes.now c.count c.table.now
