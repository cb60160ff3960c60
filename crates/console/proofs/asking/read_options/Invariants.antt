-- `console::asking::read_options`: the options end among the words that there may be.
use Rattle.std.proofs.Common.{◌≤◌}
use Rattle.console.proofs.asking.read_options.Given as goal

abbrev pub invariant-loop-i : goal.invariant-loop-i
invariant-loop-i l = l.given.end ≤ 99
