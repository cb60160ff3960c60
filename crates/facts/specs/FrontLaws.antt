-- Laws of the front of a file: what is read among its first bytes is what they say, whatever follows; and how far each part reaches.
use Rattle.std.specs.Prelude.{◌≡◌, refl, ℕ, zero, suc, ◌+◌, ◌*◌, ◌^◌, ◌≤◌, ◌<◌, Bool, true, ◌&&◌, take, drop}
use Rattle.std.proofs.Common.{ap, ◌∙◌, arith, take-take}
use Rattle.std.proofs.Math.Nat.{lt_of_not-le}
use Rattle.std.proofs.Math.Decide.{dec_le}
use mathlib.Core.List.{List, [], ◌∷◌}
use Rattle.std.specs.Int.Count.{ones-le}
use Rattle.std.proofs.Math.Dec.{leb, ltb}
use Rattle.std.proofs.Math.ListN.{length, length-take}
use borrow.Author.Tests.{le-leb, lt-leb}
use Rattle.facts.specs.Read.{Read, accepted, ◌>>=◌}
use Rattle.facts.specs.ReadLaws.{agree, through, next_of_lem}
use Rattle.facts.specs.Lists.{up_from}
use Rattle.facts.specs.ListLaws.{length_up_from}
use Rattle.facts.specs.Bytes.{number_at, little}
use Rattle.facts.specs.Partial.{Partial}
use Rattle.facts.specs.Fields.{Head, Operator, standing, each, read_number, field, read_count, read_value, read_map, read_weight, read_values, read_partial, read_operator, read_sizes, read_head, read_end}
use Rattle.facts.specs.FieldLaws.{number_ends, number_reads, count_read, value_read, map_read, values_read}
use Rattle.facts.specs.PartialReadLaws.{standing_ones, partial_read}
use Rattle.facts.specs.OperatorLaws.{operator_read}
use Rattle.facts.specs.HeadLaws.{sizes_read, head_read}

-- ---- how far the parts reach, in a file with at most n variables

-- the most bytes of a partial state, of an operator and of a head
abbrev pub partial_reach : ℕ → ℕ
partial_reach n = 8 + n

abbrev pub operator_reach : ℕ → ℕ
operator_reach n = 2 * partial_reach n + 2

abbrev pub head_reach : ℕ → ℕ
head_reach n = 1 + 2 * n + partial_reach n

module _ (f : List ℕ) where
  pub partial_reach_lem : (sizes : List ℕ) (n at : ℕ) {p : Partial} {e : ℕ} → length sizes ≤ n → read_partial f sizes at ≡ accepted (p, e) → e ≤ at + partial_reach n
  partial_reach_lem sizes n at {p} few h = let r = partial_read f sizes at h in omega (arith, r.next, ones-le (length sizes) p.map r.wf.map_below)

  pub operator_reach_lem : (sizes : List ℕ) (n at : ℕ) {o : Operator} {e : ℕ} → length sizes ≤ n → read_operator f sizes at ≡ accepted (o, e) → e ≤ at + operator_reach n
  operator_reach_lem sizes n at {o} few h =
      let r = operator_read f sizes at h in
      omega (arith, r.pre.next, ones-le (length sizes) o.pre.map r.pre.wf.map_below, r.eff.next, ones-le (length sizes) o.eff.map r.eff.wf.map_below, r.weight.next)

  pub head_reach_lem : (n most : ℕ) {h : Head} {e : ℕ} → read_head f n most ≡ accepted (h, e) → e ≤ head_reach n
  head_reach_lem n most {h} g =
      let r = head_read f n most g in
      omega (arith, r.wf.variables, partial_reach_lem h.sizes n (1 + 2 * length h.sizes) r.wf.variables r.goal)

-- two readings that go on alike after the same answer
pub then_same : {X Y : Type 0} {m n : Read X} (k l : X → Read Y) → m ≡ n → ((x : X) → n ≡ accepted x → k x ≡ l x) → ◌>>=◌ m k ≡ ◌>>=◌ n l
then_same {n = n} k l e h = ap (λ r. ◌>>=◌ r k) e ∙ agree n k l h

-- items of at most w bytes each
pub each_most : {A X : Type 0} (read : A → ℕ → Read (X × ℕ)) (w : ℕ) → ((a : A) (x : X) (at e : ℕ) → read a at ≡ accepted (x, e) → e ≤ at + w)
    → (items : List A) (at : ℕ) {xs : List X} {e : ℕ} → each read items at ≡ accepted (xs, e) → e ≤ at + w * length items
each_most read w h [] at g = omega (arith, next_of_lem g)
each_most read w h (a ∷ items) at g =
    let o = through (read a at) g in
    let p = through (each read items o.got.1) o.then in
    omega (arith, h a o.got.0 at o.got.1 o.first, each_most read w h items o.got.1 p.first, next_of_lem p.then)

-- ---- two files f and g with the same numbers among their first b bytes: what is read there is the same

module _ (f g : List ℕ) (b : ℕ) (same : (k at : ℕ) → at + k ≤ b → read_number g k at ≡ read_number f k at) where
  pub field_same : (k : ℕ) (good : ℕ → Bool) (wrong at : ℕ) → at + k ≤ b → field g k good wrong at ≡ field f k good wrong at
  unfolding field
  field_same k good wrong at h = rw (same k at h)

  -- items of at most w bytes each
  pub each_same : {A X : Type 0} (read other : A → ℕ → Read (X × ℕ)) (w : ℕ) → ((a : A) (at : ℕ) → at + w ≤ b → other a at ≡ read a at) → ((a : A) (x : X) (at e : ℕ) → read a at ≡ accepted (x, e) → e ≤ at + w)
      → (items : List A) (at : ℕ) → at + w * length items ≤ b → each other items at ≡ each read items at
  each_same read other w s h [] at l = refl
  each_same read other w s h (a ∷ items) at l =
      then_same _ _ (s a at (omega arith)) (λ p e. then_same _ _ (each_same read other w s h items p.1 (omega (arith, h a p.0 at p.1 e))) (λ q e. refl))

  pub count_same : (low high at : ℕ) → at + 1 ≤ b → read_count g low high at ≡ read_count f low high at
  unfolding read_count
  count_same low high at l = field_same 1 (λ n. leb low n && leb n high) 3 at l

  pub weight_same : (at : ℕ) → at + 2 ≤ b → read_weight g at ≡ read_weight f at
  unfolding read_weight
  weight_same at l = field_same 2 (λ w. true) 3 at l

  values_same : (ds : List ℕ) (at : ℕ) → at + length ds ≤ b → read_values g ds at ≡ read_values f ds at
  unfolding read_values read_value
  values_same ds at l = each_same (read_value f) (read_value g) 1 (λ d at l. field_same 1 (λ x. ltb x d) 4 at l) (λ d x at e h. omega (arith, (value_read f d at h).next)) ds at (omega arith)

  pub partial_same : (sizes : List ℕ) (at : ℕ) → at + (8 + length sizes) ≤ b → read_partial g sizes at ≡ read_partial f sizes at
  unfolding read_partial read_map
  partial_same sizes at l =
      then_same _ _ (field_same 8 (λ map. ltb map (2 ^ length sizes)) 5 at (omega arith)) (λ p h.
      let m = map_read f (length sizes) at h in
      then_same _ _ (values_same (standing p.0 sizes) p.1 (omega (arith, m.next, standing_ones sizes p.0 m.below, ones-le (length sizes) p.0 m.below))) (λ q e. refl))

  sizes_same : (most n at : ℕ) → at + n ≤ b → read_sizes g most n at ≡ read_sizes f most n at
  unfolding read_sizes
  sizes_same most n at l =
      each_same (λ (v : ℕ). read_count f 2 most) (λ v. read_count g 2 most) 1 (λ v at l. count_same 2 most at l) (λ v d at e h. omega (arith, (count_read f 2 most at h).next)) (up_from 0 n) at
      (omega (arith, length_up_from 0 n))

  pub head_same : (n most : ℕ) → head_reach n ≤ b → read_head g n most ≡ read_head f n most
  unfolding read_head
  head_same n most l =
      then_same _ _ (count_same 1 n 0 (omega arith)) (λ p h.
      let c = count_read f 1 n 0 h in
      then_same _ _ (sizes_same most p.0 p.1 (omega (arith, c.next, c.most))) (λ q h.
      let s = sizes_read f most p.0 p.1 h in
      then_same _ _ (values_same q.0 q.1 (omega (arith, c.next, c.most, s.next, s.count))) (λ i h.
      then_same _ _ (partial_same q.0 i.1 (omega (arith, c.next, c.most, s.next, s.count, (values_read f q.0 q.1 h).next))) (λ o h. refl))))

  pub operator_same : (sizes : List ℕ) (n at : ℕ) → length sizes ≤ n → at + operator_reach n ≤ b → read_operator g sizes at ≡ read_operator f sizes at
  unfolding read_operator
  operator_same sizes n at few l =
      then_same _ _ (partial_same sizes at (omega arith)) (λ p h.
      let a = partial_reach_lem f sizes n at few h in
      then_same _ _ (partial_same sizes p.1 (omega arith)) (λ q h.
      let c = partial_reach_lem f sizes n p.1 few h in
      then_same _ _ (weight_same q.1 (omega arith)) (λ w h. refl)))

-- ---- a file and its first b bytes

take_front : (k at b : ℕ) (f : List ℕ) → at + k ≤ b → take k (drop at (take b f)) ≡ take k (drop at f)
take_front k zero b f l = take-take k b f (omega arith)
take_front k (suc at) zero f l = absurd (omega arith)
take_front k (suc at) (suc b) [] l = refl
take_front k (suc at) (suc b) (x ∷ f) l = take_front k at b f (omega arith)

module _ (f : List ℕ) (b : ℕ) where
  pub number_front : (k at : ℕ) → at + k ≤ b → read_number (take b f) k at ≡ read_number f k at
  unfolding number_at
  number_front k at l =
      elim (dec_le (at + k) (length f)) [
        | yes h ↦ rw (number_reads (take b f) k at (omega (arith, length-take b f)), number_reads f k at h) (ap (λ (xs : List ℕ). accepted (little xs)) (take_front k at b f l))
        | no h ↦ let h = lt_of_not-le h in rw (number_ends (take b f) k at (omega (arith, length-take b f)), number_ends f k at h)
      ]

  pub end_front : (at : ℕ) → at < b → read_end (take b f) at ≡ read_end f at
  unfolding read_end
  end_front at l =
      elim (dec_le (length f) at) [
        | yes h ↦ rw (le-leb (length (take b f)) at (omega (arith, length-take b f)), le-leb (length f) at h)
        | no h ↦ let h = lt_of_not-le h in rw (lt-leb (length (take b f)) at (omega (arith, length-take b f)), lt-leb (length f) at h)
      ]
