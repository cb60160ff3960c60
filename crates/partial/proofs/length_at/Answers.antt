-- `partial::length_at` meets its contract: the standing bits of the map are the values behind it. Assumes nothing.
use mathlib.Core.Path.{◌≡◌, sym, ap, ◌∙◌}
use lib.Count.{ones-le}
use Rattle.facts.specs.Read.{accepted}
use Rattle.facts.specs.Answers.{answer}
use Rattle.facts.specs.Fields.{read_number}
use Rattle.facts.specs.InPlaceLaws.{bytes_here, bytes_cut}
use native.Mathlib.Omega.{arith}
use Rattle.partial.proofs.length_at.Goals as goal
use Rattle.partial.proofs.length_at.Goals.{In-Ok}

map_is : (c : goal.In-Ok) → read_number c.args.file.now 8 c.args.at ≡ accepted c.in-Ok.map
map_is c = sym c.read_map.ensures ∙ ap answer c.in-Ok.is

pub returns-in-Ok : goal.returns-in-Ok
returns-in-Ok c = (c.partial_length.ensures ∙ sym (bytes_here _ _ (map_is (goal.at.returns-in-Ok c).In-Ok)), omega (arith, c.partial_length.ensures, ones-le 64 c.in-Ok.map (omega arith)))

pub returns-in-Err : goal.returns-in-Err
returns-in-Err c = (sym (bytes_cut _ _ (sym c.read_map.ensures ∙ ap answer c.in-Err.is)), omega arith)
