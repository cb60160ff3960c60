use Rattle.std.proofs.Common.{◌≡◌, length, drop}
use Rattle.numbering.specs.InPlace.{note_from}
use Rattle.numbering.proofs.note_actions.Given as goal

abbrev pub invariant-loop-a : goal.invariant-loop-a
invariant-loop-a l = (length l.action_of ≡ length l.initial.action_of) × (note_from l.a (drop l.a l.first_step) l.action_of ≡ note_from 0 l.first_step l.initial.action_of)
