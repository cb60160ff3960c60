-- Laws of the head of a file: what an accepted one is, and where its parts stand.
use Rattle.std.specs.Prelude.{◌≡◌, drop}
use Rattle.std.proofs.Math.Path.{sym, ap, ap₂}
use Rattle.std.proofs.Common.{◌∙◌, arith}
use Prim.Native.Nat.{ℕ, zero, suc, ◌+◌, ◌*◌, ◌-◌, ◌≤◌}
use mathlib.Core.List.{List}
use Rattle.std.proofs.Math.ListN.{length, take}
use Rattle.facts.specs.Read.{accepted, refused}
use Rattle.facts.specs.ReadLaws.{Made, made, not_made, through, value_of_lem, next_of_lem, carried}
use Rattle.facts.specs.Lists.{up_from, All}
use Rattle.facts.specs.ListLaws.{length_up_from, zip_length, zip_all}
use Rattle.facts.specs.Bytes.{number_at}
use Rattle.facts.specs.WellFormed.{WfHead}
use Rattle.facts.specs.Partial.{Partial}
use Rattle.facts.specs.Fields.{each, next_of, value_of, Head, read_count, read_values, read_partial, read_sizes, read_head, head_at}
use Rattle.facts.specs.EachLaws.{each_zip, each_next}
use Rattle.facts.specs.FieldLaws.{one_more, count_read, values_read}
use Rattle.facts.specs.PartialReadLaws.{zip_inside, partial_read}

module _ (f : List ℕ) where
  pub record HeadRead (most largest : ℕ) (h : Head) (e : ℕ) : Type 0 where
    pub wf : WfHead most largest h
    pub count : length h.sizes ≡ number_at 1 f 0
    pub sizes : h.sizes ≡ take (length h.sizes) (drop 1 f)
    pub init : h.init ≡ take (length h.sizes) (drop (1 + length h.sizes) f)
    pub goal : read_partial f h.sizes (1 + 2 * length h.sizes) ≡ accepted (h.goal, e)

  sizes_bytes : (largest n k at : ℕ) {xs : List ℕ} {e : ℕ} → each (λ v. read_count f 2 largest) (up_from k n) at ≡ accepted (xs, e) → xs ≡ take n (drop at f)
  sizes_bytes largest zero k at g = sym (value_of_lem g)
  sizes_bytes largest (suc n) k at g =
      let p = through (read_count f 2 largest at) g in
      let q = through (each (λ v. read_count f 2 largest) (up_from (suc k) n) p.got.1) p.then in
      let one = count_read f 2 largest at p.first in
      sym (value_of_lem q.then)
      ∙ one_more f n at p.got.1 p.got.0 q.got.0 (omega (arith, one.fits)) (sym one.value) (omega (arith, one.next)) (sizes_bytes largest n (suc k) p.got.1 q.first)

  pub record SizesRead (largest n at : ℕ) (xs : List ℕ) (e : ℕ) : Type 0 where
    pub ranges : All (λ d. (2 ≤ d) × (d ≤ largest)) xs
    pub count : length xs ≡ n
    pub bytes : xs ≡ take n (drop at f)
    pub next : e ≡ at + n
    pub fits : at ≤ length f → e ≤ length f

  sizes_fit : (largest n k at : ℕ) {xs : List ℕ} {e : ℕ} → each (λ v. read_count f 2 largest) (up_from k n) at ≡ accepted (xs, e) → at ≤ length f → e ≤ length f
  sizes_fit largest zero k at g l = omega (arith, next_of_lem g)
  sizes_fit largest (suc n) k at g l =
      let p = through (read_count f 2 largest at) g in
      let q = through (each (λ v. read_count f 2 largest) (up_from (suc k) n) p.got.1) p.then in
      let one = count_read f 2 largest at p.first in
      rw (← next_of_lem q.then) (sizes_fit largest n (suc k) p.got.1 q.first (omega (arith, one.next, one.fits)))

  pub sizes_read : (largest n at : ℕ) {xs : List ℕ} {e : ℕ} → read_sizes f largest n at ≡ accepted (xs, e) → SizesRead largest n at xs e
  unfolding read_sizes
  sizes_read largest n at {xs} g =
      let z = each_zip (λ (v : ℕ). read_count f 2 largest) (λ v d. (2 ≤ d) × (d ≤ largest)) (λ v d at e h. ((count_read f 2 largest at h).least, (count_read f 2 largest at h).most)) (up_from 0 n) at g in
      record {
        ranges = zip_all (λ d. (2 ≤ d) × (d ≤ largest)) (λ v d r. r) z;
        count = sym (zip_length z) ∙ length_up_from 0 n;
        bytes = sizes_bytes largest n 0 at g;
        next = omega (arith, each_next (λ (v : ℕ). read_count f 2 largest) 1 (λ v d at e h. (count_read f 2 largest at h).next) (up_from 0 n) at g, length_up_from 0 n);
        fits = sizes_fit largest n 0 at g;
      }

  pub head_read : (most largest : ℕ) {h : Head} {e : ℕ} → read_head f most largest ≡ accepted (h, e) → HeadRead most largest h e
  unfolding read_head
  head_read most largest h =
      let a = through (read_count f 1 most 0) h in
      let n = a.got.0 in
      let b = through (read_sizes f largest n a.got.1) a.then in
      let sizes = b.got.0 in
      let c = through (read_values f sizes b.got.1) b.then in
      let d = through (read_partial f sizes c.got.1) c.then in
      let count = count_read f 1 most 0 a.first in
      let s = sizes_read largest n a.got.1 b.first in
      let i = values_read f sizes b.got.1 c.first in
      let at₁ : a.got.1 ≡ 1 = count.next in
      let at₂ : b.got.1 ≡ 1 + length sizes = omega (arith, s.next, s.count) in
      let at₃ : c.got.1 ≡ 1 + 2 * length sizes = omega (arith, i.next) in
      carried d.then (HeadRead most largest) (record {
        wf = record {
          some_variable = omega (arith, count.least, s.count);
          variables = omega (arith, count.most, s.count);
          sizes = s.ranges;
          init = zip_inside i.under;
          goal = (partial_read f sizes c.got.1 d.first).wf;
        };
        count = s.count ∙ sym count.value;
        sizes = s.bytes ∙ ap₂ (λ (k at : ℕ). take k (drop at f)) (sym s.count) at₁;
        init = i.bytes ∙ ap (λ (at : ℕ). take (length sizes) (drop at f)) at₂;
        goal = ap (read_partial f sizes) (sym at₃) ∙ d.first;
      })

  -- ---- the ways in which the head can go, by what a reader knows that goes past the fields

  module _ (most largest : ℕ) where
    pub head_no_count : {n p : ℕ} → value_of (read_count f 1 most 0) ≡ refused n p → head_at f most largest ≡ refused n p
    unfolding head_at read_head
    head_no_count h = rw (not_made (λ (p : ℕ × ℕ). p.0) (read_count f 1 most 0) h)

    module _ {n : ℕ} (h : value_of (read_count f 1 most 0) ≡ accepted n) where
      count_is : read_count f 1 most 0 ≡ accepted (n, 1)
      count_is =
          let m = made (λ (p : ℕ × ℕ). p.0) (read_count f 1 most 0) h in
          m.answer ∙ ap₂ (λ (n at : ℕ). accepted (n, at)) m.value (count_read f 1 most 0 m.answer).next

      pub head_no_sizes : {k p : ℕ} → next_of (read_sizes f largest n 1) ≡ refused k p → head_at f most largest ≡ refused k p
      unfolding head_at read_head
      head_no_sizes g = rw (count_is, not_made (λ (p : List ℕ × ℕ). p.1) (read_sizes f largest n 1) g)

      module _ {at : ℕ} (g : next_of (read_sizes f largest n 1) ≡ accepted at) where
        -- the domain sizes as they stand
        abbrev sizes : List ℕ
        sizes = take (at - 1) (drop 1 f)

        sizes_made : Made (λ (p : List ℕ × ℕ). p.1) (read_sizes f largest n 1) at
        sizes_made = made (λ (p : List ℕ × ℕ). p.1) (read_sizes f largest n 1) g

        sizes_are : SizesRead largest n 1 sizes_made.from.0 sizes_made.from.1
        sizes_are = sizes_read largest n 1 sizes_made.answer

        pub head_sizes : (at ≡ 1 + n) × (at ≤ length f)
        head_sizes =
            let fits = sizes_are.fits (omega (arith, (count_read f 1 most 0 count_is).fits)) in
            (omega (arith, sizes_made.value, sizes_are.next), omega (arith, sizes_made.value))

        sizes_is : read_sizes f largest n 1 ≡ accepted (sizes, at)
        sizes_is =
            let k : n ≡ at - 1 = omega (arith, head_sizes.0) in
            sizes_made.answer ∙ ap₂ (λ (xs : List ℕ) (at : ℕ). accepted (xs, at)) (sizes_are.bytes ∙ ap (λ (k : ℕ). take k (drop 1 f)) k) sizes_made.value

        sizes_count : length sizes ≡ n
        sizes_count = (sizes_read largest n 1 sizes_is).count

        pub head_no_values : {k p : ℕ} → next_of (read_values f sizes at) ≡ refused k p → head_at f most largest ≡ refused k p
        unfolding head_at read_head
        head_no_values e = rw (count_is, sizes_is, not_made (λ (p : List ℕ × ℕ). p.1) (read_values f sizes at) e)

        module _ {goal : ℕ} (e : next_of (read_values f sizes at) ≡ accepted goal) where
          init_made : Made (λ (p : List ℕ × ℕ). p.1) (read_values f sizes at) goal
          init_made = made (λ (p : List ℕ × ℕ). p.1) (read_values f sizes at) e

          abbrev init : List ℕ
          init = init_made.from.0

          init_is : read_values f sizes at ≡ accepted (init, goal)
          init_is = init_made.answer ∙ ap (λ (at : ℕ). accepted (init, at)) init_made.value

          pub head_no_goal : {k p : ℕ} → next_of (read_partial f sizes goal) ≡ refused k p → head_at f most largest ≡ refused k p
          unfolding head_at read_head
          head_no_goal r = rw (count_is, sizes_is, init_is, not_made (λ (p : Partial × ℕ). p.1) (read_partial f sizes goal) r)

          pub head_good : {end : ℕ} → next_of (read_partial f sizes goal) ≡ accepted end → head_at f most largest ≡ accepted (n, end)
          unfolding head_at read_head
          head_good r =
              let m = made (λ (p : Partial × ℕ). p.1) (read_partial f sizes goal) r in
              rw (count_is, sizes_is, init_is, m.answer) (ap₂ (λ (n at : ℕ). accepted (n, at)) sizes_count m.value)

-- ---- a head that a reader went past

module _ (f : List ℕ) (most largest : ℕ) {n at : ℕ} (h : head_at f most largest ≡ accepted (n, at)) where
  -- the head that is there, with n variables
  pub record Headed : Type 0 where
    pub head : Head
    pub is : read_head f most largest ≡ accepted (head, at)
    pub count : length head.sizes ≡ n

  pub headed : Headed
  unfolding head_at
  headed =
      let m = made (λ (p : Head × ℕ). (length p.0.sizes, p.1)) (read_head f most largest) h in
      record {
        head = m.from.0;
        is = m.answer ∙ ap (λ (e : ℕ). accepted (m.from.0, e)) (ap (λ (p : ℕ × ℕ). p.1) m.value);
        count = ap (λ (p : ℕ × ℕ). p.0) m.value;
      }

  pub headed_read : HeadRead f most largest headed.head at
  headed_read = head_read f most largest headed.is

  -- the domain sizes and the initial values lie in the file
  pub headed_fits : (n ≤ most) × (1 + 2 * n ≤ at) × (at ≤ length f)
  headed_fits =
      let g = partial_read f headed.head.sizes (1 + 2 * length headed.head.sizes) headed_read.goal in
      (omega (arith, headed.count, headed_read.wf.variables), omega (arith, headed.count, g.next), g.fits)

  -- the domain sizes as they stand
  pub headed_sizes : {k : ℕ} → k ≡ n → headed.head.sizes ≡ take k (drop 1 f)
  headed_sizes same = headed_read.sizes ∙ ap (λ (j : ℕ). take j (drop 1 f)) (headed.count ∙ sym same)

pub no_head : (f : List ℕ) (most largest : ℕ) {n p : ℕ} → head_at f most largest ≡ refused n p → read_head f most largest ≡ refused n p
unfolding head_at
no_head f most largest h = not_made (λ (p : Head × ℕ). (length p.0.sizes, p.1)) (read_head f most largest) h
