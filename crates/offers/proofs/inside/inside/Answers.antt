-- `offers::inside::inside` meets its contract: no bit stands from the number of variables on that have room. Assumes nothing.
use mathlib.Core.Path.{sym, ◌∙◌}
use native.Mathlib.Omega.{arith}
use borrow.Author.Tests.{leb-true, leb-false}
use Rattle.estimate.specs.InsideLaws.{inside_of}
use Prim.Native.Nat.{◌-◌}
use lib.ListN.{length}
use Rattle.offers.proofs.inside.inside.Goals as goal

pub returns : goal.returns
returns c long = inside_of c.args.n c.with_room.ensures (leb-false _ _ (sym c.stray.ensures ∙ c.if-stray.false)) (omega arith) (omega (arith, c.requires, leb-true 64 (length c.args.file.now - c.args.from) long))
