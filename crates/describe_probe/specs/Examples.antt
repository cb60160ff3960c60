-- The probe file of document 01's task P in words.
use Rattle.std.specs.Prelude.{◌≡◌, refl}
use Rattle.probefile.specs.Examples.{P_probe}
use Rattle.text.specs.Text.{decimal}
use Rattle.text.specs.Append.{bytes}
use Rattle.words.specs.Words.{partial_text}
use Rattle.describe_probe.specs.Show.{probe_text}

in_words : probe_text P_probe ≡ bytes "variable 0: 2 values, starts at 0\nvariable 1: 2 values, starts at 0\nvariable 2: 3 values, starts at 0\ngoal: 0=1 1=0 2=0\nstep 0\n  precondition: 1=0 2=0\n  effect: 1=1 2=1\n  cost: 3\nstep 1\n  precondition: 0=0 2=1\n  effect: 2=2\n  cost: 5\nstep 2\n  precondition: 0=1 2=1\n  effect: 2=2\n  cost: 0\nstep 3\n  precondition: 2=2\n  effect: 0=1 1=0 2=0\n  cost: 0\n"
unfolding probe_text partial_text decimal
in_words = refl
