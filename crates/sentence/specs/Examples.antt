-- Sentences, computed: 4 at 2 of a file and of a state, and no refusal.
use Rattle.std.specs.Prelude.{◌≡◌, refl, []}
use Rattle.facts.specs.Refusal.{refusal_with}
use Rattle.text.specs.Text.{decimal}
use Rattle.text.specs.Append.{bytes}
use Rattle.sentence.specs.Sentence.{subject_of, sentence}

of_file : sentence (subject_of 0) 4 2 ≡ bytes "The value at byte 2 is outside the domain of its variable.\n"
unfolding sentence refusal_with subject_of decimal
of_file = refl

of_state : sentence (subject_of 1) 4 2 ≡ bytes "Variable 2 has a value outside its domain.\n"
unfolding sentence refusal_with subject_of decimal
of_state = refl

of_none : sentence (subject_of 0) 0 2 ≡ []
unfolding sentence refusal_with
of_none = refl
