-- Demand 1's sentence "No refusal changes a byte of a lent buffer or returns more than its number and place", over every operation that is lent one. A refusal is
-- `refused n p`, a number and a place and nothing else; the contracts say of each operation what it answers and what its buffer is afterwards.
use Rattle.std.specs.Prelude.{◌≡◌, ℕ, List, length}
use Rattle.std.proofs.Common.{sym, ap, ◌∙◌}
use Rattle.facts.specs.Read.{Read, refused, with_value}
use Rattle.facts.specs.Write.{length_in, written_in}
use Rattle.facts.specs.WriteLaws.{unwritten}
use Rattle.compilation.specs.CompileFile.{probe_file_of, compile_file, compiled_buffer}
use Rattle.carry.specs.CarryFile.{expanded, contracted, list_of, answer_in, buffer_in}
use Rattle.carry.specs.SameSumLaws.{answer_length}

-- An operation, by its answer and its buffer afterwards, both by the buffer that it is lent, leaves that as it was wherever it refuses.
abbrev pub Untouched : {X : Type 0} → (List ℕ → Read X) → (List ℕ → List ℕ) → Type 0
Untouched answer buffer = (out : List ℕ) (n p : ℕ) → answer out ≡ refused n p → buffer out ≡ out

-- "No refusal changes a byte of a lent buffer or returns more than its number and place."
pub record RefusalsWriteNothing : Type 0 where
  pub compiling : (f : List ℕ) → Untouched (λ out. compile_file f (length out)) (compiled_buffer f)
  pub expanding : (f list : List ℕ) → Untouched (λ out. answer_in (length out) (expanded f list)) (λ out. buffer_in out (expanded f list))
  pub contracting : (f list : List ℕ) → Untouched (λ out. answer_in (length out) (contracted f list)) (λ out. buffer_in out (contracted f list))
  -- whatever is written at a sum or a cost: the sheet of a plan, the dearest state of an action
  pub at_a_sum : (result : Read (List ℕ × ℕ)) → Untouched (λ out. answer_in (length out) result) (λ out. buffer_in out result)
  -- whatever the text: a file in words, its drawings, the trace of a list, why it is no plan, a sentence for a refusal
  pub texts : (text : Read (List ℕ)) → Untouched (λ out. length_in (length out) text) (λ out. written_in out text)

-- ---- the proofs

carry_writes_none : (carried : Read (List ℕ × ℕ)) → Untouched (λ out. answer_in (length out) carried) (λ out. buffer_in out carried)
carry_writes_none carried out n p h = unwritten (list_of carried) out (sym (answer_length (length out) carried) ∙ ap (with_value (λ (c : ℕ × ℕ). c.0)) h)

-- Demand 1: of every file, list and text, and every buffer.
pub refusals_write_nothing : RefusalsWriteNothing
refusals_write_nothing = record {
  compiling = λ f out n p h. unwritten (probe_file_of f) out h;
  expanding = λ f list. carry_writes_none (expanded f list);
  contracting = λ f list. carry_writes_none (contracted f list);
  at_a_sum = carry_writes_none;
  texts = λ text out n p h. unwritten text out h;
}
