-- Laws of what the code writes: partial states with further facts, and the steps of an action.
use Rattle.std.specs.Prelude.{◌≡◌, refl, ℕ, suc, ◌+◌, ◌-◌, ◌^◌, ◌≤◌, ◌<◌, length, get_or, drop}
use Rattle.std.proofs.Common.{sym, ap, subst, subst₂, ◌∙◌, arith, length-append, length-drop, drop_of_length-le, pow_mono, length-take-le, get_or-take, get_or-drop}
use mathlib.Core.List.{List, [], ◌∷◌, ◌++◌, append-nil, append_assoc}
use Rattle.std.specs.Int.Count.{ones}
use Rattle.std.proofs.Math.ListN.{take}
use Rattle.std.specs.Prelude.{Result, Ok, Err}
use Rattle.std.specs.Result.{IsOk}
use Rattle.facts.specs.declared.Refusal.{Refusal}
use Rattle.facts.specs.Answers.{answer}
use Rattle.facts.specs.Read.{accepted}
use Rattle.facts.specs.ReadLaws.{not_refused}
use Rattle.facts.specs.Write.{over, fitting, Wrote}
use Rattle.facts.specs.WriteLaws.{fitting_all}
use Rattle.facts.specs.Bytes.{bytes_of, number_at}
use Rattle.facts.specs.BytesLaws.{number_two}
use Rattle.facts.specs.InPlaceLaws.{past_is, word_is}
use Rattle.facts.specs.Partial.{Partial, write_partial, partial_at, standing_at, partial_bytes, empty, past_partial}
use Rattle.facts.specs.PartialLaws.{length_written, partial_here}
use Rattle.facts.specs.Fields.{read_number, word_at, write_operator}
use Rattle.facts.specs.FieldLaws.{number_read}
use Rattle.taskfile.specs.TaskFile.{edge_bytes}
use Rattle.taskfile.specs.WalkInPlace.{incoming_place}
use Rattle.probefile.specs.Probe.{max_variables}
use Rattle.probefile.specs.ProbeFile.{write_step}
use Rattle.compilation.specs.Extend.{extend}
use Rattle.compilation.specs.Compile.{marker, edge_step}
use Rattle.taskfile.specs.PartsInPlace.{edge_in}
use Rattle.step_writer.specs.InPlace.{widened, start_in, end_in}

-- An answer that is accepted is a value.
pub ok_accepted : {X : Type 0} (r : Result X Refusal) {x : X} → answer r ≡ accepted x → IsOk r
ok_accepted (Ok x) h = refl
ok_accepted (Err why) h = absurd (not_refused h)

-- What fits is written whole.
pub wrote_fit : {bytes before now : List ℕ} {n : ℕ} → length bytes ≤ length before → Wrote (fitting bytes before) before now n → Wrote bytes before now n
wrote_fit {bytes} {before} {now} {n} h w = rw (fitting_all bytes before h) at w

-- So many bytes were written as they are, whatever the writer answers.
pub wrote_counted : {bytes before now : List ℕ} {n k : ℕ} → k ≡ length bytes → Wrote bytes before now n → Wrote bytes before now k
wrote_counted h w = record { count = h; buffer = w.buffer }

-- Just the front of a buffer was lent that has room for what is written.
pub wrote_front : {bytes before last : List ℕ} {k n : ℕ} → k ≡ length bytes → k ≤ length before → Wrote bytes (take k before) last n → Wrote bytes before (last ++ drop k before) n
unfolding over
wrote_front {bytes} {before} {last} {k} e h w =
    let none : drop (length bytes) (take k before) ≡ [] = drop_of_length-le (take k before) {i = length bytes} (omega (arith, e, length-take-le k before h)) in
    let all : last ≡ bytes = w.buffer ∙ ap (λ (xs : List ℕ). bytes ++ xs) none ∙ append-nil bytes in
    record { count = w.count; buffer = rw (all, e) }

-- Two further facts, as bits and values.
pub extend_two : (p : Partial) (v w x y : ℕ) → widened p (2 ^ v + 2 ^ w) (x ∷ y ∷ []) ≡ extend (extend p v x) w y
extend_two p v w x y =
    let m : p.map + (2 ^ v + 2 ^ w) ≡ p.map + 2 ^ v + 2 ^ w = omega arith in
    rw (m, append_assoc p.values (x ∷ []) (y ∷ []))

-- A bit of a probe file's map.
pub power_small : {v : ℕ} → v < max_variables → 2 ^ v ≤ 72057594037927936
power_small {v} h = pow_mono {i = v} {j = 56} (omega arith)

-- A map of a task's variables with two bits of a probe file's more has at most 64.
pub map_fits : (map n bits : ℕ) → map < 2 ^ n → n < max_variables → bits < 288230376151711744 → map + bits < 18446744073709551616
map_fits map n bits h l b = omega (arith, power_small {v = n} l)

-- A partial state that ends within the file has a value for each standing bit.
pub standing_long : (f : List ℕ) (at : ℕ) → at + partial_bytes (partial_at f at) ≤ length f → partial_bytes (partial_at f at) ≡ 8 + length (partial_at f at).values
unfolding standing_at
standing_long f at h =
    let e = partial_here f at (omega (arith, h)) in
    let fits : at + (8 + ones (number_at 8 f at)) ≤ length f = subst (λ (p : Partial). at + partial_bytes p ≤ length f) e h in
    subst (λ (p : Partial). partial_bytes p ≡ 8 + length p.values) (sym e) (ap (λ (k : ℕ). 8 + k) (sym (length-take-le (ones (number_at 8 f at)) (drop (at + 8) f) (simp length-drop (omega (arith, fits))))))

-- How long it is with further facts.
pub extended_long : (f : List ℕ) (at bits : ℕ) {end : ℕ} (further : List ℕ) → end ≡ past_partial f at → end ≤ length f
    → end - at + length further ≡ length (write_partial (widened (partial_at f at) bits further))
extended_long f at bits further e h =
    let p = partial_at f at in
    let past = past_is f at {n = partial_bytes p} refl in
    omega (arith, e, past, standing_long f at (omega (arith, e, h, past)), length_written (widened p bits further), length-append p.values further)

module _ {before now : List ℕ} {n : ℕ} where
  -- One fact is written.
  pub wrote_one : (v x : ℕ) {m : ℕ} → m ≡ 2 ^ v → 9 ≤ length before → Wrote (fitting (write_partial (record { map = m; values = x ∷ [] })) before) before now n
      → Wrote (write_partial (extend empty v x)) before now n
  wrote_one v x {m} e room w = let g : m ≡ 0 + 2 ^ v = omega (arith, e) in wrote_fit (omega (arith, length_written (extend empty v x))) (rw g at w)

  -- Two facts are written.
  pub wrote_two : (v w x y : ℕ) {m : ℕ} → m ≡ 2 ^ v + 2 ^ w → 10 ≤ length before → Wrote (fitting (write_partial (record { map = m; values = x ∷ y ∷ [] })) before) before now n
      → Wrote (write_partial (extend (extend empty v x) w y)) before now n
  wrote_two v w x y {m} e room h = let g : m ≡ 0 + 2 ^ v + 2 ^ w = omega (arith, e) in wrote_fit (omega (arith, length_written (extend (extend empty v x) w y))) (rw g at h)

  -- The partial state at an offset is written, with further facts.
  pub wrote_extended : (f : List ℕ) (at bits : ℕ) {map k : ℕ} (further : List ℕ) → read_number f 8 at ≡ accepted map → k ≡ ones map
      → length (write_partial (widened (partial_at f at) bits further)) ≤ length before
      → Wrote (fitting (write_partial (record { map = map + bits; values = take k (drop (at + 8) f) ++ further })) before) before now n
      → Wrote (write_partial (widened (partial_at f at) bits further)) before now n
  unfolding standing_at
  wrote_extended f at bits {map} {k} further h e room w =
      let r = number_read f 8 at h in
      let p : partial_at f at ≡ record { map = map; values = take k (drop (at + 8) f) } = partial_here f at r.fits ∙ rw (r.value, e) in
      wrote_fit room (subst (λ (q : Partial). Wrote (fitting (write_partial (widened q bits further)) before) before now n) (sym p) w)

  -- Precondition, effect and cost are written.
  pub wrote_step : (pre eff : Partial) (cost : ℕ) → Wrote ((write_partial pre ++ write_partial eff) ++ bytes_of 2 cost) before now n
      → Wrote (write_step (record { pre = pre; eff = eff; cost = cost })) before now n
  unfolding write_step write_operator
  wrote_step pre eff cost w = rw (← append_assoc (write_partial pre) (write_partial eff) (bytes_of 2 cost)) w

-- The marker of an action, as the code adds it up.
marker_is : (n a : ℕ) → n + (1 + a) ≡ marker n a
marker_is n a = omega arith

-- The bytes of an edge by themselves: its target and its weight.
module _ (f : List ℕ) (at k : ℕ) (three : k ≡ edge_bytes) where
  abbrev edge : List ℕ
  edge = take k (drop at f)

  byte_in : (i j : ℕ) → i < edge_bytes → at + i ≡ j → get_or edge i 0 ≡ get_or f j 0
  byte_in i j h e = get_or-take k (drop at f) i 0 (omega arith) ∙ get_or-drop at f i 0 ∙ ap (λ (o : ℕ). get_or f o 0) e

  pub edge_target : get_or edge 0 0 ≡ get_or f at 0
  edge_target = byte_in 0 at (omega arith) (omega arith)

  pub edge_weight : at + edge_bytes ≤ length f → word_at edge 1 ≡ word_at f (at + 1)
  edge_weight h =
      let long : length edge ≡ k = length-take-le k (drop at f) (simp length-drop (omega arith)) in
      let low = byte_in 1 (at + 1) (omega arith) refl in
      let high = byte_in 2 (at + 1 + 1) (omega arith) (omega arith) in
      word_is edge 1 (omega (arith, long)) (omega (arith, number_two edge 1 (omega (arith, long)), number_two f (at + 1) (omega arith), low, high)) ∙ sym (word_is f (at + 1) (omega arith) refl)

-- An edge's step is written from the bytes of its edge.
pub wrote_edge : {before now : List ℕ} {k m : ℕ} (f : List ℕ) (at n a i v d : ℕ) {t w : ℕ} → m ≡ n + (1 + a) → t ≡ get_or f at 0 → w ≡ word_at f (at + 1)
    → Wrote ((write_partial (extend (extend empty v d) m i) ++ write_partial (extend empty m t)) ++ bytes_of 2 w) before now k → Wrote (write_step (edge_step n a i v d (edge_in f at))) before now k
wrote_edge {before} {now} {k} {m} f at n a i v d {t} {w} q e g h =
    let own : Wrote ((write_partial (extend (extend empty v d) (marker n a) i) ++ write_partial (extend empty (marker n a) t)) ++ bytes_of 2 w) before now k =
    subst (λ (x : ℕ). Wrote ((write_partial (extend (extend empty v d) x i) ++ write_partial (extend empty x t)) ++ bytes_of 2 w) before now k) (q ∙ marker_is n a) h in
    wrote_step (extend (extend empty v d) (marker n a) i) (extend empty (marker n a) (get_or f at 0)) (word_at f (at + 1))
    (subst₂ (λ (x y : ℕ). Wrote ((write_partial (extend (extend empty v d) (marker n a) i) ++ write_partial (extend empty (marker n a) x)) ++ bytes_of 2 y) before now k) e g own)

-- An action's start is written from the bytes of the action.
pub wrote_start : {before now : List ℕ} {k m : ℕ} (f : List ℕ) (at n a : ℕ) {i w : ℕ} → m ≡ n + (1 + a) → i ≡ incoming_place f at → w ≡ word_at f i
    → Wrote ((write_partial (extend (extend (partial_at f at) n 0) (n + (1 + a)) 0) ++ write_partial (extend (extend empty n 1) m 1)) ++ bytes_of 2 w) before now k
    → Wrote (write_step (start_in f n a at)) before now k
wrote_start {before} {now} {k} {m} f at n a {i} {w} q e g h =
    let own : Wrote ((write_partial (extend (extend (partial_at f at) n 0) (marker n a) 0) ++ write_partial (extend (extend empty n 1) (marker n a) 1)) ++ bytes_of 2 w) before now k =
    subst₂ (λ (x y : ℕ). Wrote ((write_partial (extend (extend (partial_at f at) n 0) x 0) ++ write_partial (extend (extend empty n 1) y 1)) ++ bytes_of 2 w) before now k)
    (marker_is n a) (q ∙ marker_is n a) h in
    wrote_step (extend (extend (partial_at f at) n 0) (marker n a) 0) (extend (extend empty n 1) (marker n a) 1) (word_at f (incoming_place f at))
    (subst (λ (y : ℕ). Wrote ((write_partial (extend (extend (partial_at f at) n 0) (marker n a) 0) ++ write_partial (extend (extend empty n 1) (marker n a) 1)) ++ bytes_of 2 y) before now k)
    (g ∙ ap (word_at f) e) own)

-- An action's end is written from the bytes of its effect.
pub wrote_end : {before now : List ℕ} {k m : ℕ} (f : List ℕ) (effect n a count : ℕ) → m ≡ n + (1 + a)
    → Wrote ((write_partial (extend empty m (1 + count)) ++ write_partial (extend (extend (partial_at f effect) n 0) (n + (1 + a)) 0)) ++ bytes_of 2 0) before now k
    → Wrote (write_step (end_in f n a effect count)) before now k
wrote_end {before} {now} {k} {m} f effect n a count q h =
    let c : 1 + count ≡ suc count = omega arith in
    let own : Wrote ((write_partial (extend empty (marker n a) (1 + count)) ++ write_partial (extend (extend (partial_at f effect) n 0) (marker n a) 0)) ++ bytes_of 2 0) before now k =
    subst₂ (λ (x y : ℕ). Wrote ((write_partial (extend empty x (1 + count)) ++ write_partial (extend (extend (partial_at f effect) n 0) y 0)) ++ bytes_of 2 0) before now k)
    (q ∙ marker_is n a) (marker_is n a) h in
    wrote_step (extend empty (marker n a) (suc count)) (extend (extend (partial_at f effect) n 0) (marker n a) 0) 0
    (subst (λ (y : ℕ). Wrote ((write_partial (extend empty (marker n a) y) ++ write_partial (extend (extend (partial_at f effect) n 0) (marker n a) 0)) ++ bytes_of 2 0) before now k) c own)

-- Two further facts at 0.
pub cleared_is : (p : Partial) (n m : ℕ) {bits : ℕ} → bits ≡ 2 ^ n + 2 ^ m → widened p bits (0 ∷ 0 ∷ []) ≡ extend (extend p n 0) m 0
cleared_is p n m e = ap (λ (b : ℕ). widened p b (0 ∷ 0 ∷ [])) e ∙ extend_two p n m 0 0

pub wrote_cleared : {before now : List ℕ} {k : ℕ} (p : Partial) (n m : ℕ) {bits : ℕ} → bits ≡ 2 ^ n + 2 ^ m → Wrote (write_partial (widened p bits (0 ∷ 0 ∷ []))) before now k
    → Wrote (write_partial (extend (extend p n 0) m 0)) before now k
wrote_cleared {before} {now} {k} p n m e w = subst (λ (q : Partial). Wrote (write_partial q) before now k) (cleared_is p n m e) w

-- The map of the partial state at an offset, and how many bits stand in it.
pub map_here : (f : List ℕ) (at : ℕ) {map : ℕ} → read_number f 8 at ≡ accepted map → (partial_at f at).map ≡ map
unfolding standing_at
map_here f at h = let r = number_read f 8 at h in ap (λ (p : Partial). p.map) (partial_here f at r.fits) ∙ r.value

pub map_ones : (f : List ℕ) (at : ℕ) {map : ℕ} → read_number f 8 at ≡ accepted map → ones (partial_at f at).map ≡ ones map
map_ones f at h = ap ones (map_here f at h)
