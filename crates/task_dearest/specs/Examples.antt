-- The dearest state of xy² + z + 2 in buffers: just as long, a byte short, two bytes more.
use Rattle.std.specs.Prelude.{◌≡◌, refl, [], ◌∷◌}
use Rattle.facts.specs.Read.{accepted, refused}
use Rattle.facts.specs.Write.{over, fitting, length_in, written_in}
use Rattle.taskfile.specs.Examples.{xy²+z+2_bytes}
use Rattle.carry.specs.CarryFile.{answer_in, buffer_in}
use Rattle.dearest.specs.Dearest.{dearest_of}
use Rattle.dearest.specs.Examples.{dearing}

-- what an example opens
answering : Unit {0}
unfolding dearing over fitting length_in written_in answer_in
answering = tt

just_long : answer_in 3 (dearest_of xy²+z+2_bytes 0) ≡ accepted (3, 7)
unfolding answering
just_long = refl

byte_short : answer_in 2 (dearest_of xy²+z+2_bytes 0) ≡ refused 7 3
unfolding answering
byte_short = refl

short_stays : buffer_in (9 ∷ 9 ∷ []) (dearest_of xy²+z+2_bytes 0) ≡ 9 ∷ 9 ∷ []
unfolding answering
short_stays = refl

two_more : buffer_in (9 ∷ 9 ∷ 9 ∷ 9 ∷ 9 ∷ []) (dearest_of xy²+z+2_bytes 0) ≡ 1 ∷ 2 ∷ 1 ∷ 9 ∷ 9 ∷ []
unfolding answering
two_more = refl

-- 11 comes before 7
missing_first : answer_in 0 (dearest_of xy²+z+2_bytes 1) ≡ refused 11 0
unfolding answering
missing_first = refl
