-- Laws of the head of a probe file in place.
use Rattle.std.specs.Prelude.{◌≡◌, refl, ℕ, zero, suc, ◌+◌, ◌*◌, ◌-◌, ◌^◌, ◌≤◌, ◌<◌, List, [], ◌∷◌, ◌++◌, length, get_or, take, drop, replicate}
use Rattle.std.proofs.Common.{ap, subst, subst₂, ◌∙◌, arith, add-one, append-nil, append_assoc, length-append, length-drop, pow_mono, length-take-le}
use Rattle.std.proofs.lemmas.List.{length-replicate}
use Rattle.std.proofs.Math.Seq.{append_snoc}
use Rattle.facts.specs.Bytes.{bytes_of}
use Rattle.facts.specs.Partial.{Partial, write_partial}
use Rattle.facts.specs.Write.{Wrote}
use Rattle.taskfile.specs.Task.{max_actions, max_markers}
use Rattle.taskfile.specs.WalkInPlace.{node_count}
use Rattle.compilation.specs.Extend.{extend, clear}
use Rattle.step_writer.specs.InPlace.{widened}
use Rattle.probe_writer.specs.HeadInPlace.{markers_in, sizes_in, init_in, goal_in, head_in}
use Rattle.facts.specs.WriteRowLaws.{Cut, Going, going_start}

-- ---- the domain sizes

module _ (f row : List ℕ) where
  -- As many markers as actions.
  pub markers_long : (a count : ℕ) → length (markers_in f row a count) ≡ count
  markers_long a zero = refl
  markers_long a (suc count) = ap suc (markers_long (suc a) count)

  module _ (actions : ℕ) where
    -- At first all are left.
    pub markers_start : (out : List ℕ) → Going (markers_in f row 0 actions) (markers_in f row 0 (actions - 0)) out out 0
    markers_start out = let e : actions - 0 ≡ actions = omega arith in rw e (going_start (markers_in f row 0 actions) out)

    -- Then the one of action a, and those from the next on.
    pub markers_cut : (a : ℕ) {count : ℕ} → count ≡ node_count f (get_or row a 0) → a < actions → Cut (markers_in f row a (actions - a)) ((count + 2) ∷ []) (markers_in f row (a + 1) (actions - (a + 1)))
    markers_cut a c h = let e : actions - a ≡ suc (actions - (a + 1)) = omega arith in record { cut = rw (e, c, add-one a) }

    -- At last none.
    pub markers_none : (a : ℕ) → actions - a ≡ 0 → markers_in f row a (actions - a) ≡ []
    markers_none a h = rw h

-- A byte, the task's sizes, the semaphore's, and one for each action.
pub sizes_long : (f : List ℕ) (n actions : ℕ) (row : List ℕ) → 1 + n ≤ length f → length (sizes_in f n actions row) ≡ 2 + n + actions
sizes_long f n actions row h =
    omega (
      arith,
      length-append (take n (drop 1 f)) (2 ∷ markers_in f row 0 actions),
      length-take-le n (drop 1 f) (rw (length-drop 1 f) (omega arith)),
      markers_long f row 0 actions,
    )

-- The number of variables, the task's sizes, the semaphore's and the markers' are written.
pub wrote_sizes : {before now : List ℕ} {k : ℕ} (f : List ℕ) (n actions : ℕ) (row : List ℕ) {own : ℕ} → own ≡ n
    → Wrote (((((n + (1 + actions)) ∷ []) ++ take own (drop 1 f)) ++ (2 ∷ [])) ++ markers_in f row 0 actions) before now k → Wrote (sizes_in f n actions row) before now k
wrote_sizes {before} {now} {k} f n actions row {own} e w =
    let s : n + (1 + actions) ≡ n + suc actions = omega arith in
    rw (s, e, append_snoc (take n (drop 1 f)) 2 (markers_in f row 0 actions)) at w

-- ---- rows of zeros

-- The first of a row of zeros.
zeros_front : (k m : ℕ) → k ≤ m → take {A = ℕ} k (replicate m 0) ≡ replicate k 0
zeros_front zero m h = refl
zeros_front (suc k) zero h = absurd (omega arith)
zeros_front (suc k) (suc m) h = ap (λ (l : List ℕ). 0 ∷ l) (zeros_front k m (omega arith))

-- As many zeros as there are further variables.
further_zeros : (actions : ℕ) → actions ≤ max_actions → take {A = ℕ} (1 + actions) (replicate max_markers 0) ≡ replicate (suc actions) 0
further_zeros actions h = let e : 1 + actions ≡ suc actions = omega arith in ap (λ (k : ℕ). take {A = ℕ} k (replicate max_markers 0)) e ∙ zeros_front (suc actions) max_markers (omega arith)

-- A byte for each variable.
pub init_long : (f : List ℕ) (n actions : ℕ) → 1 + 2 * n ≤ length f → length (init_in f n actions) ≡ n + (1 + actions)
init_long f n actions h =
    omega (
      arith,
      length-append (take n (drop (1 + n) f)) (replicate (suc actions) 0),
      length-take-le n (drop (1 + n) f) (rw (length-drop (1 + n) f) (omega arith)),
      length-replicate {A = ℕ} (suc actions) 0,
    )

-- The task's initial values, and a zero for each further variable, are written.
pub wrote_init : {before now : List ℕ} {k : ℕ} (f : List ℕ) (n actions : ℕ) {own : ℕ} → own ≡ n
    → Wrote (take own (drop (1 + n) f) ++ replicate (1 + actions) 0) before now k → Wrote (init_in f n actions) before now k
wrote_init {before} {now} {k} f n actions {own} e w =
    let further : 1 + actions ≡ suc actions = omega arith in
    subst₂ (λ (m : ℕ) (i : ℕ). Wrote (take m (drop (1 + n) f) ++ replicate i 0) before now k) e further w

-- ---- the goal

-- A row of facts at 0, as bits and values.
clear_is : (p : Partial) (n k bits : ℕ) → bits + 2 ^ n ≡ 2 ^ (n + k) → widened p bits (replicate k 0) ≡ clear p n k
clear_is p n zero bits e =
    let same : n + 0 ≡ n = omega arith in
    let m : p.map + bits ≡ p.map = omega (arith, e, ap (λ (x : ℕ). 2 ^ x) same) in
    rw (m, append-nil)
clear_is p n (suc k) bits e =
    let s : n + suc k ≡ suc n + k = omega arith in
    let g : bits + 2 ^ n ≡ 2 ^ (suc n + k) = e ∙ ap (λ (x : ℕ). 2 ^ x) s in
    let more : 2 ^ suc n ≤ 2 ^ (suc n + k) = pow_mono {i = suc n} {j = suc n + k} (omega arith) in
    let above : bits - 2 ^ n + 2 ^ suc n ≡ 2 ^ (suc n + k) = omega (arith, g, more) in
    let m : p.map + bits ≡ p.map + 2 ^ n + (bits - 2 ^ n) = omega (arith, g, more) in
    rw (m, ← append_snoc p.values 0 (replicate k 0)) (clear_is (extend p n 0) (suc n) k (bits - 2 ^ n) above)

-- The goal with semaphore and markers at 0.
pub goal_is : (p : Partial) (n actions bits : ℕ) → actions ≤ max_actions → bits + 2 ^ n ≡ 2 ^ (n + (1 + actions))
    → widened p bits (take (1 + actions) (replicate max_markers 0)) ≡ clear p n (suc actions)
goal_is p n actions bits h e =
    let s : 1 + actions ≡ suc actions = omega arith in
    ap (widened p bits) (further_zeros actions h) ∙ clear_is p n (suc actions) bits (e ∙ ap (λ (k : ℕ). 2 ^ (n + k)) s)

-- A map of the task's variables with the bits of the row has at most 64.
pub row_fits : (map n k bits : ℕ) → map < 2 ^ n → n + k < 64 → bits + 2 ^ n ≡ 2 ^ (n + k) → map + bits < 18446744073709551616
row_fits map n k bits h l e = omega (arith, h, e, pow_mono {i = n + k} {j = 63} (omega arith))

-- The goal is written, with semaphore and markers at 0.
pub wrote_goal : {before now : List ℕ} {k : ℕ} (p : Partial) (n actions bits : ℕ) → actions ≤ max_actions → bits + 2 ^ n ≡ 2 ^ (n + (1 + actions))
    → Wrote (write_partial (widened p bits (take (1 + actions) (replicate max_markers 0)))) before now k → Wrote (write_partial (clear p n (suc actions))) before now k
wrote_goal {before} {now} {k} p n actions bits h e w = subst (λ (q : Partial). Wrote (write_partial q) before now k) (goal_is p n actions bits h e) w

-- ---- all of it

-- The lengths of head and step count.
pub head_long : (f : List ℕ) (n actions : ℕ) (row : List ℕ) (steps : ℕ)
    → length (head_in f n actions row ++ bytes_of 2 steps) ≡ length (sizes_in f n actions row) + length (init_in f n actions) + length (write_partial (goal_in f n actions)) + 2
head_long f n actions row steps =
    let init = init_in f n actions in
    let goal = write_partial (goal_in f n actions) in
    omega (arith, length-append (head_in f n actions row) (bytes_of 2 steps), length-append (sizes_in f n actions row) (init ++ goal), length-append init goal)

-- Sizes, initial values, goal and step count are written.
pub wrote_head : {before now : List ℕ} {k : ℕ} (f : List ℕ) (n actions : ℕ) (row : List ℕ) (steps : ℕ)
    → Wrote (((sizes_in f n actions row ++ init_in f n actions) ++ write_partial (goal_in f n actions)) ++ bytes_of 2 steps) before now k
    → Wrote (head_in f n actions row ++ bytes_of 2 steps) before now k
wrote_head {before} {now} {k} f n actions row steps w =
    subst (λ (head : List ℕ). Wrote (head ++ bytes_of 2 steps) before now k) (append_assoc (sizes_in f n actions row) (init_in f n actions) (write_partial (goal_in f n actions))) w
