-- Laws of the numbers of a list, and of the steps in place.
use Rattle.std.specs.Prelude.{ℕ, suc, ◌+◌, ◌≤◌, ◌<◌, ◌≡◌, refl, List, ◌∷◌, length, get_or, drop, Bool, true, false, Option, None, Some, Result, Ok, Err, is_err}
use Rattle.std.proofs.Common.{sym, ap, ◌∙◌, add-one, drop_of_length-le, drop-cons}
use Rattle.facts.specs.Read.{Read, accepted, refused}
use Rattle.taskfile.specs.Index.{Ready}
use Rattle.taskfile.specs.AnswerLaws.{there}
use Rattle.words.specs.DescribeLaws.{actions_text}
use Rattle.steps.specs.Steps.{Named, action_names, names_of, check_steps}
use Rattle.steps.specs.declared.find.Name.{Name}
use Rattle.steps.specs.Seek.{seek, sought_answer, names_in}
use Rattle.steps.specs.SeekLaws.{look_found, look_past}

true_not_false : ◌≡◌ {A = Bool} true false → ⊥
true_not_false e = cc

-- the steps of a task
module _ (names : List Named) where
  -- the entries before index i are steps
  pub record Checking (list : List ℕ) (whole : Read (Unit {0})) (i : ℕ) : Type 0 where
    pub left : check_steps names i (drop i list) ≡ whole

  -- At first none is looked at.
  pub checking_start : (list : List ℕ) → Checking list (check_steps names 0 list) 0
  checking_start list = record { left = refl }

  module _ {list : List ℕ} {whole : Read (Unit {0})} {i : ℕ} (g : Checking list whole i) where
    -- what is answered from index i on, by the step that the entry there is
    abbrev answer : Option Named → Read (Unit {0})
    answer x = elim x [ None ↦ refused 11 i | Some x ↦ check_steps names (suc i) (drop (suc i) list) ]

    -- the entry at index i, and those after it
    cut : i < length list → check_steps names i (get_or list i 0 ∷ drop (suc i) list) ≡ whole
    cut l = ap (check_steps names i) (sym (drop-cons list i 0 l)) ∙ g.left

    -- The entry at index i is a step.
    pub checking_on : (r : Result (Name × ℕ) ℕ) → i < length list → sought_answer r ≡ seek names (get_or list i 0) → is_err r ≡ false → Checking list whole (i + 1)
    checking_on (Ok step) l h e = record { left = ap (λ (j : ℕ). check_steps names j (drop j list)) (add-one i) ∙ sym (ap answer (look_found names (get_or list i 0) (sym h))) ∙ cut l }
    checking_on (Err k) l h e = absurd (true_not_false e)

    -- It is none.
    pub checking_stops : (r : Result (Name × ℕ) ℕ) → i < length list → sought_answer r ≡ seek names (get_or list i 0) → is_err r ≡ true → refused 11 i ≡ whole
    checking_stops (Ok step) l h e = absurd (true_not_false (sym e))
    checking_stops (Err k) l h e = sym (ap answer (look_past names (get_or list i 0) (sym h))) ∙ cut l

    -- At last all are steps.
    pub checking_end : length list ≤ i → accepted tt ≡ whole
    checking_end l = ap (check_steps names i) (sym (drop_of_length-le list {i = i} l)) ∙ g.left

-- ---- the steps of a file

-- The steps in place are the task's.
pub names_are : (f : List ℕ) {n count : ℕ} {row sizes : List ℕ} (ready : Ready f n count row) → sizes ≡ (there f ready).task.sizes → names_in f sizes count row ≡ names_of (there f ready).task
unfolding names_in names_of
names_are f ready e = actions_text f ready action_names e
