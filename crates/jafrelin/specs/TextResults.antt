-- Results of the C functions for texts: unpacked, they are the answers of their operations, for every file, list, number and buffer, as `results` says it of the others.
use Rattle.std.specs.Prelude.{ℕ, suc, ◌+◌, ◌≤◌, ◌≡◌, refl, Bool, true, false, List, [], ◌∷◌, leb, length, Option, None, Some, slice_get}
use Rattle.std.proofs.Common.{subst, arith}
use Rattle.facts.specs.Read.{Read, accepted, refused, check, with_value, ◌>>=◌}
use Rattle.facts.specs.Write.{length_in}
use Rattle.facts.specs.Bytes.{Bytes}
use Rattle.facts.specs.Run.{at_most}
use Rattle.taskfile.specs.Task.{Action}
use Rattle.taskfile.specs.TaskFile.{read_task, action_of}
use Rattle.probefile.specs.Probe.{max_list}
use Rattle.carry.specs.SameSumLaws.{fits_inv}
use Rattle.words.specs.DescribeFile.{shown, drawn, drawn_action}
use Rattle.words.proofs.LengthLaws.{accepted_same, shown_most, drawn_most, drawn_action_most}
use Rattle.steps.specs.Steps.{Named, names_of, check_steps}
use Rattle.trace.specs.TraceFile.{traced}
use Rattle.trace.specs.LengthLaws.{most_trace, traced_most}
use Rattle.sentence.specs.Sentence.{subject_of, sentence}
use Rattle.sentence.specs.SentenceLaws.{sentence_most}
use Rattle.cases.proofs.Numbers.{numbers_of_files}
use Rattle.cases.specs.PlaceLaws.{Placed, value, place, task_places}
use Rattle.packing.specs.Packing.{packed_length, unpacked_length, refusal_of, place_of}
use Rattle.packing.proofs.PackingLaws.{length_comes, refusal_comes}

-- ---- the theorem

-- what the C functions for texts return for the file f
pub record TextResults (f : List ℕ) : Type 0 where
  pub show : (room : ℕ) → unpacked_length (packed_length (length_in room (shown f))) ≡ length_in room (shown f)
  pub draw : (room : ℕ) → unpacked_length (packed_length (length_in room (drawn f))) ≡ length_in room (drawn f)
  pub draw_action : (a room : ℕ) → unpacked_length (packed_length (length_in room (drawn_action f a))) ≡ length_in room (drawn_action f a)
  pub trace : (states : Bool) (list : List ℕ) (room : ℕ) → unpacked_length (packed_length (length_in room (traced states f list))) ≡ length_in room (traced states f list)

-- ---- refusals that have a number, at a place of at most so many bytes

data Fair {X : Type 0} : Read X → Type 0 where
  given : {x : X} → Fair (accepted x)
  turned : {n p : ℕ} → 1 ≤ n → p ≤ most_trace → Fair (refused n p)

then_fair : {X Y : Type 0} {m : Read X} (k : X → Read Y) → Fair m → ((x : X) → m ≡ accepted x → Fair (k x)) → Fair (◌>>=◌ m k)
then_fair k (given {x = x}) on = on x refl
then_fair k (turned l q) on = turned l q

with_fair : {X Y : Type 0} {m : Read X} (g : X → Y) → Fair m → Fair (with_value g m)
with_fair g given = given
with_fair g (turned l q) = turned l q

-- A text that is at most so long comes back, and so does its refusal.
text_back : (room : ℕ) {r : Read (List ℕ)} → Fair r → ((text : List ℕ) → r ≡ accepted text → length text ≤ most_trace) → unpacked_length (packed_length (length_in room r)) ≡ length_in room r
unfolding length_in
text_back room (given {x = text}) most = go (leb (length text) room)
  where
    go : (b : Bool) → unpacked_length (packed_length (◌>>=◌ (check b 7 (length text)) (λ u. accepted (length text)))) ≡ ◌>>=◌ (check b 7 (length text)) (λ u. accepted (length text))
    go true = length_comes (length text) (omega (arith, most text refl))
    go false = refusal_comes 7 (length text) (omega arith) (omega (arith, most text refl))
text_back room (turned {n = n} {p = p} l q) most = refusal_comes n p l (omega arith)

-- ---- the operations

-- What is refused by places and numbers that are known.
fair_by : {X : Type 0} {most : ℕ} {r : Read X} → Placed most r → most ≤ most_trace → ((n p : ℕ) → r ≡ refused n p → 1 ≤ n) → Fair r
fair_by (value g) l named = given
fair_by (place {n = n} {p = p} q) l named = turned {n = n} {p = p} (named n p refl) (omega arith)

file_fair : (f : List ℕ) → Fair (read_task f)
file_fair f = fair_by (task_places f) (omega arith) (λ n p h. ((numbers_of_files f n p).0 h).0)

action_fair : (actions : List Action) (a : ℕ) → Fair (action_of actions a)
unfolding action_of
action_fair actions a = go (slice_get actions a)
  where
    go : (o : Option Action) → Fair {X = Action} (elim o [ None ↦ refused 11 0 | Some x ↦ accepted x ])
    go None = turned {n = 11} {p = 0} (omega arith) (omega arith)
    go (Some x) = given

-- a list within its limit, and its numbers
list_fair : (list : List ℕ) → Fair (at_most max_list list)
unfolding at_most
list_fair list = go (leb (length list) max_list)
  where
    go : (b : Bool) → Fair (check b 8 max_list)
    go true = given
    go false = turned {n = 8} {p = max_list} (omega arith) (omega arith)

steps_fair : (names : List Named) (i : ℕ) (list : List ℕ) → i + length list ≤ most_trace → Fair (check_steps names i list)
steps_fair names i [] l = given
steps_fair names i (k ∷ list) l = go (slice_get names k) (steps_fair names (suc i) list (omega arith))
  where
    go : (o : Option Named) → Fair (check_steps names (suc i) list) → Fair {X = Unit {0}} (elim o [ None ↦ refused 11 i | Some x ↦ check_steps names (suc i) list ])
    go None on = turned {n = 11} {p = i} (omega arith) (omega arith)
    go (Some x) on = on

module _ (f : List ℕ) where
  shown_fair : Fair (shown f)
  unfolding shown
  shown_fair = with_fair _ (file_fair f)

  drawn_fair : Fair (drawn f)
  unfolding drawn
  drawn_fair = with_fair _ (file_fair f)

  action_drawn_fair : (a : ℕ) → Fair (drawn_action f a)
  unfolding drawn_action
  action_drawn_fair a = then_fair _ (file_fair f) (λ t e. then_fair _ (action_fair t.actions a) (λ x o. given))

  traced_fair : (states : Bool) (list : List ℕ) → Fair (traced states f list)
  unfolding traced
  traced_fair states list = then_fair _ (file_fair f) (λ t e. then_fair _ (list_fair list) (λ u h. then_fair _ (steps_fair (names_of t) 0 list (omega (arith, fits_inv max_list list h))) (λ v o. given)))

pub text_results : (f : List ℕ) → Bytes f → TextResults f
text_results f bytes = record {
  show = λ room. text_back room (shown_fair f) (λ text h. omega (arith, shown_most f bytes h));
  draw = λ room. text_back room (drawn_fair f) (λ text h. omega (arith, drawn_most f bytes h));
  draw_action = λ a room. text_back room (action_drawn_fair f a) (λ text h. omega (arith, drawn_action_most f bytes a h));
  trace = λ states list room. text_back room (traced_fair f states list) (λ text h. traced_most states f list bytes h);
}

-- The same of a sentence.
pub explain_result : (subject w room : ℕ)
    → unpacked_length (packed_length (length_in room (accepted (sentence (subject_of subject) (refusal_of w) (place_of w))))) ≡ length_in room (accepted (sentence (subject_of subject) (refusal_of w) (place_of w)))
explain_result subject w room =
    text_back room given (λ text h. subst (λ (xs : List ℕ). length xs ≤ most_trace) (accepted_same h) (omega (arith, sentence_most (subject_of subject) (refusal_of w) (place_of w) (omega arith))))
