-- `probe_writer::head_bytes::put_zeros` meets its contract: the front is filled.
use Rattle.std.proofs.Common.{sym, ap, ◌∙◌, ◌++◌, List, ℕ, drop, replicate, length-take-le}
use Rattle.std.proofs.lemmas.List.{length-replicate}
use Rattle.facts.specs.Write.{over}
use Rattle.probe_writer.proofs.head_bytes.put_zeros.Goals as goal

pub returns : goal.returns
unfolding over
returns c =
    let out = c.args.out.now in
    let n = c.args.count in
    let long = length-replicate {A = ℕ} n 0 in
    record {
      count = sym long;
      buffer =
          ap (λ (x : List ℕ). x ++ drop n out) (c.fill.ensures.after (λ y e. e) ∙ ap (λ (k : ℕ). replicate k 0) (length-take-le n out c.requires))
          ∙ ap (λ (k : ℕ). replicate n 0 ++ drop k out) (sym long);
    }
