-- `facts::write::put_map` meets its contract: a copy of the library's bytes.
use Rattle.std.proofs.Common.{refl, ◌++◌, ◌∙◌, ap, drop, List, ℕ}
use Rattle.facts.specs.Bytes.{bytes_of}
use Rattle.facts.specs.BytesLaws.{library_bytes}
use Rattle.facts.specs.WriteLaws.{wrote_copy}
use Rattle.facts.proofs.write.put_map.Goals as goal

pub returns : goal.returns
returns c =
    let e = c.copy_from_slice.ensures.after ∙ c.to_le_bytes.ensures ∙ library_bytes c.args.map in
    wrote_copy (bytes_of 8 c.args.map) c.args.out.now refl (ap (λ (x : List ℕ). x ++ drop 8 c.args.out.now) e)
