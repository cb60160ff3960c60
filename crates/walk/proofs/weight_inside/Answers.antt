-- `walk::weight_inside` meets its contract: the second byte counts 256 times.
use Prim.Native.Nat.{◌+◌, ◌*◌}
use mathlib.Core.Path.{◌≡◌, sym, ◌∙◌}
use native.Mathlib.Omega.{arith}
use lib.ListN.{get_or}
use Rattle.facts.specs.BytesLaws.{number_two}
use Rattle.facts.specs.InPlaceLaws.{word_is}
use Rattle.walk.proofs.weight_inside.Goals as goal

pub returns : goal.returns
returns c =
    let a = c.args in
    let f = a.file.now in
    let bytes = c.type_inv.file in
    let is : get_or f a.at 0 + 256 * get_or f (a.at + 1) 0 ≡ c.from.result = omega (arith, c.from.ensures, c.from_le_bytes.ensures) in
    (sym (word_is f a.at c.requires (number_two f a.at c.requires ∙ is)), omega (arith, is, (bytes a.at).fits, (bytes (a.at + 1)).fits))
