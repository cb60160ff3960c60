-- What is written is read back: the part that task files and probe files have in common.
use Rattle.std.specs.Prelude.{◌≡◌, ℕ, ◌+◌, ◌^◌, ◌≤◌, ◌<◌, Bool, true, ◌&&◌, List, [], ◌∷◌, ◌++◌}
use Rattle.std.proofs.Math.Path.{refl}
use Rattle.std.proofs.Common.{sym, ap, ◌∙◌, subst, lt_of_lt_of_le, arith, append-nil, append_assoc, pow_mono, le-leb, lt-ltb}
use Rattle.std.proofs.Math.Bool.{and-eq-true_iff}
use Rattle.std.proofs.Math.Dec.{leb, ltb}
use Rattle.std.proofs.Math.ListN.{length, length-append}
use Rattle.std.proofs.Math.Seq.{take_at, drop_at}
use Rattle.facts.specs.Read.{Read, accepted}
use Rattle.facts.specs.ReadLaws.{onward}
use Rattle.facts.specs.Lists.{All, Zip, nil, cons}
use Rattle.facts.specs.ListLaws.{zip_map, all_zip}
use Rattle.facts.specs.Bytes.{little, number_at, bytes_of}
use Rattle.facts.specs.BytesLaws.{little_bytes}
use Rattle.facts.specs.Partial.{Partial, write_partial}
use Rattle.facts.specs.PartialLaws.{wf_below}
use Rattle.facts.specs.WellFormed.{WfPartial, WfHead}
use Rattle.facts.specs.Fields.{Operator, read_operator, write_operator, each, Head, field, read_count, read_value, read_map, read_weight, read_values, read_partial, read_sizes, read_head, write_each, write_head}
use Rattle.facts.specs.FieldLaws.{Under, number_reads, field_good}
use Rattle.facts.specs.PartialReadLaws.{inside_zip, values_zip}

-- ---- bytes that stand in a file at an offset

pub record Lies (f : List ℕ) (at : ℕ) (bytes : List ℕ) : Type 0 where
  pub before : List ℕ
  pub after : List ℕ
  pub file : f ≡ before ++ (bytes ++ after)
  pub place : length before ≡ at

pub lies_whole : (f : List ℕ) → Lies f 0 f
lies_whole f = record { before = []; after = []; file = sym (append-nil f); place = refl }

module _ {f : List ℕ} where
  pub lies_left : {at : ℕ} (x y : List ℕ) → Lies f at (x ++ y) → Lies f at x
  lies_left x y l = record { before = l.before; after = y ++ l.after; file = l.file ∙ rw append_assoc; place = l.place }

  pub lies_right : {at : ℕ} (x y : List ℕ) → Lies f at (x ++ y) → Lies f (at + length x) y
  lies_right x y l = record {
    before = l.before ++ x;
    after = l.after;
    file = l.file ∙ simp append_assoc;
    place = length-append l.before x ∙ ap (λ (n : ℕ). n + length x) l.place;
  }

  lies_fits : {at : ℕ} (x : List ℕ) → Lies f at x → at + length x ≤ length f
  lies_fits x l = omega (arith, ap length l.file, length-append l.before (x ++ l.after), length-append x l.after, l.place)

  lies_number : {at : ℕ} (k : ℕ) (bs : List ℕ) → length bs ≡ k → Lies f at bs → number_at k f at ≡ little bs
  unfolding number_at
  lies_number {at} k bs h l = rw (l.file, drop_at l.before (bs ++ l.after) at l.place, take_at bs l.after k h)

-- ---- what was written for x is read as x, wherever it lies in the file f

module _ (f : List ℕ) where
  abbrev pub Reads : {X : Type 0} → (ℕ → Read (X × ℕ)) → List ℕ → X → Type 0
  Reads read bytes x = (at : ℕ) → Lies f at bytes → read at ≡ accepted (x, at + length bytes)

  pub field_reads : (k n : ℕ) (good : ℕ → Bool) (wrong : ℕ) (bs : List ℕ) → length bs ≡ k → little bs ≡ n → good n ≡ true → (at : ℕ) → Lies f at bs → field f k good wrong at ≡ accepted (n, at + k)
  field_reads k n good wrong bs len v g at l =
      field_good f k good wrong at (number_reads f k at (omega (arith, lies_fits bs l)) ∙ ap accepted (lies_number k bs len l ∙ v)) g

  -- a byte
  abbrev one : ℕ → List ℕ
  one x = x ∷ []

  ones_each : (xs : List ℕ) → write_each one xs ≡ xs
  ones_each [] = refl
  ones_each (x ∷ xs) = ap (λ (z : List ℕ). x ∷ z) (ones_each xs)

  pub each_reads : {A X : Type 0} (read : A → ℕ → Read (X × ℕ)) (write : X → List ℕ) {items : List A} {xs : List X}
      → Zip (λ a x. Reads (read a) (write x) x) items xs → Reads (each read items) (write_each write xs) xs
  each_reads read write nil at l = ap (λ (e : ℕ). accepted ([], e)) (omega arith)
  each_reads read write (cons {b = x} {ys = xs} r z) at l =
      onward _ (r at (lies_left (write x) (write_each write xs) l))
      (onward _ (each_reads read write z (at + length (write x)) (lies_right (write x) (write_each write xs) l))
      (ap (λ (e : ℕ). accepted (x ∷ xs, e)) (omega (arith, length-append (write x) (write_each write xs)))))

  bytes_reads : {A : Type 0} (read : A → ℕ → Read (ℕ × ℕ)) {items : List A} {xs : List ℕ} → Zip (λ a x. Reads (read a) (one x) x) items xs → Reads (each read items) xs xs
  bytes_reads read {items} {xs} z = subst (λ (bs : List ℕ). Reads (each read items) bs xs) (ones_each xs) (each_reads read one z)

  value_reads : (d x : ℕ) → x < d → Reads (read_value f d) (one x) x
  unfolding read_value
  value_reads d x h at l = field_reads 1 x (λ x. ltb x d) 4 (one x) refl (omega arith) (lt-ltb x d h) at l

  pub values_reads : {ds xs : List ℕ} → Zip Under ds xs → Reads (read_values f ds) xs xs
  unfolding read_values
  values_reads z = bytes_reads (read_value f) (zip_map (λ d x. Reads (read_value f d) (one x) x) value_reads z)

  in_range : (low high n : ℕ) → low ≤ n → n ≤ high → (leb low n && leb n high) ≡ true
  in_range low high n l h = (and-eq-true_iff (leb low n) (leb n high)).1 (le-leb low n l, le-leb n high h)

  pub count_reads : (low high n : ℕ) → low ≤ n → n ≤ high → high < 256 → Reads (read_count f low high) (bytes_of 1 n) n
  unfolding read_count
  count_reads low high n l h m at p = field_reads 1 n (λ n. leb low n && leb n high) 3 (bytes_of 1 n) refl (little_bytes 1 n (omega arith)) (in_range low high n l h) at p

  sizes_reads : (largest : ℕ) (xs : List ℕ) → largest < 256 → All (λ d. (2 ≤ d) × (d ≤ largest)) xs → Reads (read_sizes f largest (length xs)) xs xs
  unfolding read_sizes read_count
  sizes_reads largest xs m h =
      bytes_reads (λ (v : ℕ). read_count f 2 largest)
      (zip_map (λ (v d : ℕ). Reads (read_count f 2 largest) (one d) d)
      (λ v d r at l. field_reads 1 d (λ n. leb 2 n && leb n largest) 3 (one d) refl (omega arith) (in_range 2 largest d r.0 r.1) at l)
      (all_zip (λ d. (2 ≤ d) × (d ≤ largest)) 0 xs h))

  pub weight_reads : (w : ℕ) → w ≤ 65535 → Reads (read_weight f) (bytes_of 2 w) w
  unfolding read_weight
  weight_reads w h at l = field_reads 2 w (λ w. true) 3 (bytes_of 2 w) refl (little_bytes 2 w (omega arith)) refl at l

  map_reads : (n map : ℕ) → n ≤ 64 → map < 2 ^ n → Reads (read_map f n) (bytes_of 8 map) map
  unfolding read_map
  map_reads n map h b at l =
      field_reads 8 map (λ map. ltb map (2 ^ n)) 5 (bytes_of 8 map) refl (little_bytes 8 map (lt_of_lt_of_le b (pow_mono h))) (lt-ltb map (2 ^ n) b) at l

  pub partial_reads : (sizes : List ℕ) (p : Partial) → length sizes ≤ 64 → WfPartial sizes p → Reads (read_partial f sizes) (write_partial p) p
  unfolding read_partial write_partial
  partial_reads sizes p h w at l =
      onward _ (map_reads (length sizes) p.map h w.map_below at (lies_left (bytes_of 8 p.map) p.values l))
      (onward _ (values_reads (values_zip sizes p (wf_below w) w.values) (at + 8) (lies_right (bytes_of 8 p.map) p.values l))
      (ap (λ (e : ℕ). accepted (p, e)) (omega arith)))

  pub operator_reads : (sizes : List ℕ) (o : Operator) → length sizes ≤ 64 → WfPartial sizes o.pre → WfPartial sizes o.eff → o.weight ≤ 65535 → Reads (read_operator f sizes) (write_operator o) o
  unfolding read_operator write_operator
  operator_reads sizes o h p e w at l =
      let pre = write_partial o.pre in
      let eff = write_partial o.eff in
      let weight = bytes_of 2 o.weight in
      let l₂ = lies_right pre (eff ++ weight) l in
      onward _ (partial_reads sizes o.pre h p at (lies_left pre (eff ++ weight) l))
      (onward _ (partial_reads sizes o.eff h e (at + length pre) (lies_left eff weight l₂))
      (onward _ (weight_reads o.weight w (at + length pre + length eff) (lies_right eff weight l₂))
      (ap (λ (e : ℕ). accepted (o, e)) (omega (arith, length-append pre (eff ++ weight), length-append eff weight)))))

-- ---- the head of a file

pub head_reads : (f : List ℕ) (most largest : ℕ) (h : Head) → most ≤ 64 → largest < 256 → WfHead most largest h → Lies f 0 (write_head h) → read_head f most largest ≡ accepted (h, length (write_head h))
unfolding write_head read_head
head_reads f most largest h small few w l =
    let n = length h.sizes in
    let goal = write_partial h.goal in
    let l₁ = lies_right (bytes_of 1 n) (h.sizes ++ (h.init ++ goal)) l in
    let l₂ = lies_right h.sizes (h.init ++ goal) l₁ in
    let l₃ = lies_right h.init goal l₂ in
    onward _ (count_reads f 1 most n w.some_variable w.variables (omega arith) 0 (lies_left (bytes_of 1 n) (h.sizes ++ (h.init ++ goal)) l))
    (onward _ (sizes_reads f largest h.sizes few w.sizes 1 (lies_left h.sizes (h.init ++ goal) l₁))
    (onward _ (values_reads f (inside_zip h.sizes h.init w.init) (1 + n) (lies_left h.init goal l₂))
    (onward _ (partial_reads f h.sizes h.goal (omega (arith, w.variables)) w.goal (1 + n + length h.init) l₃)
    (ap (λ (e : ℕ). accepted (h, e)) (omega (arith, length-append h.sizes (h.init ++ goal), length-append h.init goal))))))
