-- A probe file in words.
use Rattle.std.specs.Prelude.{ℕ, ◌+◌, ◌-◌, List, ◌++◌, length, get_or, take, drop}
use Rattle.facts.specs.Read.{Read, with_value}
use Rattle.facts.specs.Partial.{partial_at}
use Rattle.probefile.specs.Probe.{Step, Probe}
use Rattle.probefile.specs.ProbeFile.{read_probe}
use Rattle.probefile.specs.InPlace.{step_at}
use Rattle.compilation.specs.Compile.{flat}
use Rattle.text.specs.Text.{decimal}
use Rattle.text.specs.Append.{bytes}
use Rattle.words.specs.Words.{partial_text}
use Rattle.words.specs.Show.{variable_text, states_text}
use Rattle.words.specs.Rows.{row_from}

-- step k of a probe file with n variables
abbrev pub step_text : ℕ → ℕ → Step → List ℕ
step_text n k st = states_text (bytes "step ") n k st.pre st.eff ++ (bytes "\n  cost: " ++ (decimal st.cost ++ bytes "\n"))

-- variables, goal and steps
unfoldable pub probe_text : Probe → List ℕ
probe_text p = flat (λ v size. variable_text v size (get_or p.init v 0)) 0 p.sizes ++ (bytes "goal:" ++ (partial_text (length p.sizes) p.goal ++ (bytes "\n" ++ flat (step_text (length p.sizes)) 0 p.steps)))

-- the file f
module _ (f : List ℕ) where
  -- the operation: the probe file in words, or the file's refusal
  unfoldable pub shown : Read (List ℕ)
  shown = with_value probe_text (read_probe f)

  -- the same text in place, for so many variables and steps at these offsets
  unfoldable pub showing : ℕ → List ℕ → List ℕ
  showing n offsets =
      let sizes = take (1 + n - 1) (drop 1 f) in
      let init = take (1 + n + n - (1 + n)) (drop (1 + n) f) in
      row_from (λ v. variable_text v (get_or sizes v 0) (get_or init v 0)) 0 (length sizes)
      ++ (bytes "goal:" ++ (partial_text (length sizes) (partial_at f (1 + n + n)) ++ (bytes "\n" ++ row_from (λ k. step_text (length sizes) k (step_at f (get_or offsets k 0))) 0 (length offsets))))
