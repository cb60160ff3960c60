-- How long texts about tasks can be. That they are no longer: proofs/LengthLaws.antt.
use Rattle.std.specs.Prelude.{ℕ}

-- the most bytes of a text about a task
abbrev pub most_text : ℕ
most_text = 65536
