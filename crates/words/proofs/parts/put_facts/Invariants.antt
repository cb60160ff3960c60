use Prim.Native.Nat.{◌+◌, ◌≤◌}
use lib.ListN.{length}
use Rattle.facts.specs.Partial.{standing_at}
use Rattle.words.specs.Words.{bit_text, facts_text}
use Rattle.words.specs.WordLaws.{BitsLeft}
use Rattle.words.proofs.parts.put_facts.Given as goal

abbrev pub invariant-loop-v : goal.invariant-loop-v
invariant-loop-v l = (l.value ≤ l.place + l.v) × BitsLeft l.file bit_text (facts_text (length l.sizes) 0 (standing_at l.file l.map l.place)) l.initial.out l.out (length l.sizes) l.v l.rest l.value
